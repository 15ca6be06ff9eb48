-- `tetra::three`: the coordinates laid out so far. Assumes nothing.
use mathlib.Core.Path.{◌≡◌}
use mathlib.Core.List.{◌++◌}
use native.Mathlib.Omega.{arith}
use borrow.Author.Rules.{rules}
use lib.ListN.{length}
use lib.IntN.{ℤ, pos}
use Rattle.tetra.proofs.Rows.{laid_all}
use Rattle.tetra.proofs.Decoding.{three-length}
use Rattle.tetra.proofs.three.Goals as goal

pub returns : goal.returns
returns c =
    let l = c.loop-j in
    let a = c.args in
    let la : length a.a ≡ 8 = search rules in
    let lb : length a.b ≡ 8 = search rules in
    let lc : length a.c ≡ 8 = search rules in
    laid_all ℤ (pos 0) (a.a ++ (a.b ++ a.c)) 24 l.out l.j l.invariant (omega arith)
    (three-length a.a a.b a.c la lb lc)
