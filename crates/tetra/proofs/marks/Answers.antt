-- `tetra::marks`: the marks set so far. Assumes nothing.
use mathlib.Core.Path.{◌≡◌, ap, sym, ◌∙◌}
use Prim.Native.Nat.{ℕ, ◌+◌, ◌*◌}
use native.Mathlib.Omega.{arith}
use borrow.Author.Rules.{rules}
use mir.Syntax.{w32}
use mir.Val.{SFits}
use mir.Facts.{to_z-of_z}
use lib.ListN.{length, get_or, take, drop}
use lib.IntN.{pos}
use Rattle.rank.specs.Answers.{mark_of, marks_of}
use Rattle.tetra.proofs.Rows.{laid_more, laid_all, marks-at, marks-length}
use Rattle.tetra.proofs.marks.Goals as goal

pub loop-j-preserved : goal.loop-j-preserved
loop-j-preserved c =
    let l = c.loop-j in
    let t = c.args.t in
    let s = c.args.s in
    let e : length t ≡ 24 = search rules in
    let f : SFits w32 (get_or t (8 * s + l.j) (pos 0)) = record { sfits = c.mark-arg-1.given } in
    laid_more ℕ 0 (marks_of (take 8 (drop (8 * s) t))) 8 l.rho l.j _ l.invariant (omega arith)
    (c.mark.ensures.0 ∙ ap mark_of (to_z-of_z f) ∙ sym (marks-at t e s c.requires l.j (omega arith)))

pub returns : goal.returns
returns c =
    let l = c.loop-j in
    let t = c.args.t in
    let s = c.args.s in
    let e : length t ≡ 24 = search rules in
    laid_all ℕ 0 (marks_of (take 8 (drop (8 * s) t))) 8 l.rho l.j l.invariant (omega arith) (marks-length t e s c.requires)
