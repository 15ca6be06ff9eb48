-- `count::count_by` meets its contract. Assumes nothing.
use native.Mathlib.Omega.{arith}
use mathlib.Core.Path.{◌≡◌, sym, ap, ◌∙◌}
use mathlib.Core.Bool.{true, false}
use Prim.Native.Nat.{ℕ, ◌*◌, ◌^◌, ◌<◌}
use lib.IntN.{ℤ, pos, nat_abs, ◌-ℤ◌}
use lib.Signed.{lt_z}
use mir.Syntax.{w32}
use mir.Val.{SFits, to_z}
use mir.Facts.{to_z-of_z, to_z_pos}
use Rattle.text.specs.Laws.Rows.{minus_mag}
use Rattle.page.specs.Counts.{nearest}
use Rattle.page.proofs.Counting.{product, count_below, count_above}
use Rattle.page.proofs.count.count_by.Goals as goal
use Rattle.page.proofs.count.count_by.Goals.{After-magnitude, After-nearest-n}

size : (c : After-magnitude) → c.magnitude.result ≡ nat_abs c.args.y
size c = c.magnitude.ensures.0 ∙ ap nat_abs (to_z-of_z c.ranges.y)

-- what is divided
small : (c : After-magnitude) → c.magnitude.result * c.args.a < 2 ^ 28
small c = product c.magnitude.result c.args.a (rw (size c) c.requires.0) c.requires.1

-- the magnitude in counts fits an i32
fits : (c : After-nearest-n) → c.magnitude.result * c.args.a < 2 ^ 28 → c.nearest-n.result < 2 ^ 31
fits c h = omega (arith, c.nearest-n.ensures.1, h)

-- the magnitude in counts
rounded : (c : After-nearest-n) → c.magnitude.result * c.args.a < 2 ^ 28 → c.magnitude.result ≡ nat_abs c.args.y
    → to_z w32 c.nearest-n.result ≡ pos (nearest (nat_abs c.args.y * c.args.a) c.args.d)
rounded c h e =
    to_z_pos w32 (fits c h)
    ∙ ap pos (c.nearest-n.ensures.0 ∙ ap (λ (m : ℕ). nearest (m * c.args.a) c.args.d) e)

pub returns-then-y-lt0 : goal.returns-then-y-lt0
returns-then-y-lt0 c =
    let h : lt_z c.args.y (pos 0) ≡ true = rw (to_z-of_z c.ranges.y) at c.if-y-lt0.true in
    let r = c.nearest-n.result in
    let m = goal.at.returns-then-y-lt0 c in
    let e : to_z w32 r ≡ pos r = to_z_pos w32 (fits m.After-nearest-n (small m.After-magnitude)) in
    let f : SFits w32 (pos 0 -ℤ to_z w32 r) = rw e (record { sfits = omega (arith, minus_mag r r (omega arith), fits m.After-nearest-n (small m.After-magnitude)) }) in
    to_z-of_z f ∙ ap (λ (z : ℤ). pos 0 -ℤ z) (rounded m.After-nearest-n (small m.After-magnitude) (size m.After-magnitude))
    ∙ sym (count_below c.args.a c.args.d c.args.y c.requires.2 h)

pub returns : goal.returns
returns c =
    let h : lt_z c.args.y (pos 0) ≡ false = rw (to_z-of_z c.ranges.y) at c.if-y-lt0.false in
    let m = goal.at.returns c in
    rounded m.After-nearest-n (small m.After-magnitude) (size m.After-magnitude) ∙ sym (count_above c.args.a c.args.d c.args.y h)
