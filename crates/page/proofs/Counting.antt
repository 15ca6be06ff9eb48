-- Signs of coordinates and of counts. Assumes nothing.
use mathlib.Core.Path.{◌≡◌, sym, ◌∙◌}
use mathlib.Core.Bool.{true, false}
use Prim.Native.Nat.{ℕ, suc, ◌*◌, ◌^◌, ◌<◌, ◌≤◌}
use native.Mathlib.Omega.{arith}
use native.Mathlib.Nat.{mul-le-mul}
use borrow.Author.Tests.{ltb-true}
use lib.IntN.{ℤ, pos, negsuc, neg_ℤ, ◌-ℤ◌, nat_abs, +ℤ_idl}
use lib.Signed.{lt_z}
use mir.Syntax.{w32}
use mir.Val.{SFits}
use Rattle.page.specs.Counts.{nearest, count_by}
use Rattle.page.specs.Laws.Count.{count_pos, count-neg}

-- a coordinate's magnitude times a
pub product : (m a : ℕ) → m ≤ 10 → a < 2 ^ 24 → m * a < 2 ^ 28
product m a h k = omega (arith, mul-le-mul {n₁ = m} {m₁ = a} {n₂ = 10} {m₂ = 2 ^ 24} h (omega arith))

-- a coordinate fits an i32
pub small-fits : (y : ℤ) → nat_abs y ≤ 10 → SFits w32 y
small-fits (pos n) h = record { sfits = omega arith }
small-fits (negsuc n) h = record { sfits = omega arith }

-- below zero
pub count_below : (a d : ℕ) (y : ℤ) → 0 < d → lt_z y (pos 0) ≡ true → count_by a d y ≡ pos 0 -ℤ pos (nearest (nat_abs y * a) d)
count_below a d (pos n) D e = absurd (omega (arith, ltb-true n 0 e))
count_below a d (negsuc n) D e = count-neg a d n D ∙ sym (+ℤ_idl (neg_ℤ (pos (nearest (suc n * a) d))))

-- not below zero
pub count_above : (a d : ℕ) (y : ℤ) → lt_z y (pos 0) ≡ false → count_by a d y ≡ pos (nearest (nat_abs y * a) d)
count_above a d (pos n) e = count_pos a d n
count_above a d (negsuc n) e = let z : ◌≡◌ {A = ℕ} 0 1 = cc in absurd (omega arith)
