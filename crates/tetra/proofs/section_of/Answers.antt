-- `tetra::section_of`: the coordinates laid out so far. Assumes nothing.
use mathlib.Core.Path.{◌≡◌, ap, sym, ◌∙◌}
use Prim.Native.Nat.{ℕ, ◌+◌, ◌*◌, ◌/◌, ◌^◌}
use native.Mathlib.Omega.{arith}
use borrow.Author.Rules.{rules}
use mir.Syntax.{w32}
use mir.Val.{SFits}
use mir.Facts.{to_z-of_z}
use lib.ListN.{length, get_or}
use lib.IntN.{ℤ, pos}
use lib.Bits.{and_mask}
use Rattle.rank.specs.Coord.{val_of}
use Rattle.rank.specs.Section.{point_at}
use Rattle.rank.specs.Laws.Section.{point-length}
use Rattle.rank.specs.Laws.Vector.{below_at_lem}
use Rattle.tetra.specs.Laws.Point.{point_at_lem}
use Rattle.tetra.proofs.Rows.{laid_more, laid_all}
use Rattle.tetra.proofs.section_of.Goals as goal

pub value-requires : goal.value-requires
value-requires c =
    let j = c.loop-j.j in (
      omega (arith, and_mask (c.args.c / 2 ^ j) 1, c.requires.0),
      below_at_lem 8 c.args.rho c.requires.1 j (omega arith),
    )

pub loop-j-preserved : goal.loop-j-preserved
loop-j-preserved c =
    let l = c.loop-j in
    let a = c.args in
    let f : SFits w32 c.value.result = search rules in
    laid_more ℤ (pos 0) (point_at a.p a.c a.rho) 8 l.out l.j _ l.invariant (omega arith)
    (to_z-of_z f ∙ c.value.ensures ∙ ap (λ (b : ℕ). val_of (a.p + 2 * b) (get_or a.rho l.j 0)) (and_mask (a.c / 2 ^ l.j) 1)
    ∙ sym (point_at_lem a.p a.c a.rho l.j (omega arith)))

pub returns : goal.returns
returns c =
    let l = c.loop-j in
    let a = c.args in
    let e : length a.rho ≡ 8 = search rules in
    laid_all ℤ (pos 0) (point_at a.p a.c a.rho) 8 l.out l.j l.invariant (omega arith)
    (point-length a.p a.c a.rho ∙ e)
