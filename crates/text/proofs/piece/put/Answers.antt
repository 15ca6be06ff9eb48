-- `piece::put` meets its contract: nothing where there is no room, and else the whole piece. Assumes nothing.
use borrow.Author.Tests.{leb-true}
use mathlib.Core.Path.{◌≡◌, sym, ◌∙◌}
use mathlib.Core.Bool.{false}
use Prim.Native.Nat.{◌+◌, ◌≤◌}
use lib.Dec.{leb}
use lib.ListN.{length}
use Rattle.text.specs.Placed.{placed, place_behind}
use Rattle.text.specs.Laws.Placed.{placed-fits, behind-fits}
use Rattle.text.proofs.piece.put.Goals as goal

pub returns-then-not-has_room : goal.returns-then-not-has_room
unfolding placed place_behind
returns-then-not-has_room c =
    let a = c.args in
    let e : leb (a.at + length a.text.now) (length a.out.now) ≡ false = sym c.has_room.ensures ∙ c.if-not-has_room.true in
    record { value = rw e; out_after = rw e }

pub returns : goal.returns
returns c =
    let a = c.args in
    let q = c.copy.ensures in
    let h : a.at + length a.text.now ≤ length a.out.now = leb-true _ _ (sym c.has_room.ensures ∙ c.if-not-has_room.false) in
    record { value = q.0 ∙ sym (behind-fits _ _ _ h); out_after = q.1 ∙ sym (placed-fits _ _ _ h) }
