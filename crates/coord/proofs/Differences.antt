-- The difference a - b of two numbers as a whole number: below zero where a < b. Assumes nothing.
use mathlib.Core.Path.{◌≡◌, ap, sym, ◌∙◌}
use mathlib.Core.Bool.{Bool, cond}
use Prim.Native.Nat.{ℕ, suc, ◌+◌, ◌-◌, ◌<◌, ◌≤◌}
use native.Mathlib.Omega.{arith}
use borrow.Author.Tests.{lt-ltb, le-ltb}
use lib.IntN.{ℤ, pos, negsuc, sub_ℕ, ◌+ℤ◌}
use Rattle.laws.specs.Laws.Whole.{sub_by}

pub sub-below : (a b : ℕ) → a < b → sub_ℕ a b ≡ negsuc (b - suc a)
sub-below a b h = ap (λ (t : Bool). cond t (negsuc (b - suc a)) (pos (a - b))) (lt-ltb a b h)

pub sub-above : (a b : ℕ) → b ≤ a → sub_ℕ a b ≡ pos (a - b)
sub-above a b h = ap (λ (t : Bool). cond t (negsuc (b - suc a)) (pos (a - b))) (le-ltb a b h)

-- two differences that are one number
sub_same : (a b c d : ℕ) → a + d ≡ c + b → sub_ℕ a b ≡ sub_ℕ c d
sub_same a b c d e =
    sub_by (λ (z : ℤ). z ≡ sub_ℕ c d) a b (λ h. sym (sub-below c d (omega arith) ∙ ap negsuc (omega arith)))
    (λ h. sym (sub-above c d (omega arith) ∙ ap pos (omega arith)))

-- n more, and n + 1 less
pub sub_up : (a b n : ℕ) → sub_ℕ a b +ℤ pos n ≡ sub_ℕ (a + n) b
sub_up a b n =
    sub_by (λ (z : ℤ). z +ℤ pos n ≡ sub_ℕ (a + n) b) a b (λ h. sub_same n (suc (b - suc a)) (a + n) b (omega arith))
    (λ h. sym (sub-above (a + n) b (omega arith) ∙ ap pos (omega arith)))

pub sub_down : (a b n : ℕ) → n < a → sub_ℕ a b +ℤ negsuc n ≡ sub_ℕ (a - suc n) b
sub_down a b n l =
    sub_by (λ (z : ℤ). z +ℤ negsuc n ≡ sub_ℕ (a - suc n) b) a b
    (λ h. sym (sub-below (a - suc n) b (omega arith) ∙ ap negsuc (omega arith)))
    (λ h. sub_same (a - b) (suc n) (a - suc n) b (omega arith))
