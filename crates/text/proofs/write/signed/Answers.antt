-- `write::signed` meets its contract. Assumes nothing.
use Rattle.std.proofs.Common.{◌≡◌, sym, ap, ◌∙◌, arith, ◌∷◌, nat_abs, ℕ, ◌+◌, ◌^◌, ◌<◌, ◌≤◌, length, length-set, add-one}
use mir.Facts.{to_z-of_z}
use Rattle.text.specs.Text.{decimal}
use Rattle.text.specs.Laws.Text.{decimal-fits}
use Rattle.text.proofs.Signs.{signed_below, signed_above}
use Rattle.text.proofs.write.signed.Goals as goal

-- the magnitude has at most ten digits
ten : (m : ℕ) → m < 2 ^ 32 → length (decimal m) ≤ 10
ten m h = decimal-fits 9 m (omega arith)

-- ---- below zero: the sign and the magnitude
pub digits-requires : goal.digits-requires
digits-requires c = simp length-set (omega (arith, c.requires, ten c.magnitude-m.result c.magnitude-m.ensures.1))

pub returns-then-z-lt0 : goal.returns-then-z-lt0
returns-then-z-lt0 c =
    let q = c.digits.ensures in
    let m = c.magnitude-m.result in
    let s = c.magnitude-m.ensures.0 ∙ ap nat_abs (to_z-of_z c.ranges.z) in
    let b = signed_below c.args.z (rw (to_z-of_z c.ranges.z) at c.if-z-lt0.true) ∙ ap (λ (n : ℕ). 45 ∷ decimal n) (sym s) in
    let e : c.args.at + 1 + length (decimal m) ≡ c.args.at + length (45 ∷ decimal m) = omega arith in
    rw b (q.0 ∙ e, omega (arith, q.0, ten m c.magnitude-m.ensures.1), rw add-one at q.1)

-- ---- not below zero: the magnitude alone
pub digits-requires-2 : goal.digits-requires-2
digits-requires-2 c = omega (arith, c.requires, ten c.magnitude-m.result c.magnitude-m.ensures.1)

pub returns : goal.returns
returns c =
    let q = c.digits-2.ensures in
    let s = c.magnitude-m.ensures.0 ∙ ap nat_abs (to_z-of_z c.ranges.z) in
    let b = signed_above c.args.z (rw (to_z-of_z c.ranges.z) at c.if-z-lt0.false) ∙ ap decimal (sym s) in
    rw b (q.0, omega (arith, q.0, ten c.magnitude-m.result c.magnitude-m.ensures.1), q.1)
