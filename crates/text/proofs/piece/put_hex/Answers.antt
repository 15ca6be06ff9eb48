-- `piece::put_hex` meets its contract: nothing where there is no room, and else all digits. Assumes nothing.
use borrow.Author.Tests.{leb-true}
use mathlib.Core.Path.{◌≡◌, sym, ◌∙◌}
use mathlib.Core.Bool.{false}
use Prim.Native.Nat.{◌+◌, ◌≤◌}
use lib.Dec.{leb}
use lib.ListN.{length}
use Rattle.text.specs.Placed.{placed, place_behind}
use Rattle.text.specs.Text.{hex}
use Rattle.text.specs.Laws.Text.{hex-length}
use Rattle.text.specs.Laws.Placed.{placed-fits, behind-fits}
use Rattle.text.proofs.piece.put_hex.Goals as goal

pub returns-then-not-has_room : goal.returns-then-not-has_room
unfolding placed place_behind
returns-then-not-has_room c =
    let a = c.args in
    let e : leb (a.at + a.k) (length a.out.now) ≡ false = sym c.has_room.ensures ∙ c.if-not-has_room.true in
    record { value = rw (hex-length a.k a.n, e); out_after = rw (hex-length a.k a.n, e) }

pub returns : goal.returns
returns c =
    let q = c.hex_digits.ensures in
    let a = c.args in
    let n = hex-length a.k a.n in
    let r : a.at + a.k ≤ length a.out.now = leb-true _ _ (sym c.has_room.ensures ∙ c.if-not-has_room.false) in
    let h : a.at + length (hex a.k a.n) ≤ length a.out.now = rw n r in
    record { value = q.0 ∙ sym (behind-fits _ _ _ h ∙ rw n); out_after = q.1 ∙ sym (placed-fits _ _ _ h) }
