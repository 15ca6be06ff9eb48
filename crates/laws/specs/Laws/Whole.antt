-- Whole numbers with a sign: quotient and remainder from the floor, magnitudes. Assumes nothing.
use Rattle.std.specs.Prelude.{◌≡◌, refl, Bool, true, false, cond, ℕ, suc, ◌+◌, ◌-◌, ◌*◌, ◌/◌, ◌%◌, ◌<◌, ◌≤◌, T, ltb, ℤ, pos, negsuc, ◌+ℤ◌}
use Rattle.std.proofs.Common.{ap, ◌∙◌, arith, ltb-true, ltb-false, eqb→eq}
use Rattle.std.proofs.Math.Dec.{eqb_refl}
use Rattle.std.proofs.Math.IntN.{sub_ℕ}
use Rattle.laws.specs.Words.{mod_z, eq_z}

-- ---- remainders
pub bit-small : (x : ℕ) → x % 2 < 2
bit-small x = omega arith

-- a bit below a number, and both taken back
pub low_bit : (b n : ℕ) → b < 2 → (b + 2 * n) % 2 ≡ b
low_bit b n h = omega arith

pub high_bits : (b n : ℕ) → b < 2 → (b + 2 * n) / 2 ≡ n
high_bits b n h = omega arith

pub mod2-lt : (y : ℤ) → mod_z y 2 < 2
mod2-lt (pos n) = omega arith
mod2-lt (negsuc n) = omega arith

pub mod4-lt : (y : ℤ) → mod_z y 4 < 4
mod4-lt (pos n) = omega arith
mod4-lt (negsuc n) = omega arith

-- what holds of both kinds of difference holds of a - b
pub sub_by : (P : ℤ → Type 0) (a b : ℕ) → (a < b → P (negsuc (b - suc a))) → (b ≤ a → P (pos (a - b))) → P (sub_ℕ a b)
sub_by P a b f g = go (ltb a b) refl
  where
    go : (t : Bool) → ltb a b ≡ t → P (cond t (negsuc (b - suc a)) (pos (a - b)))
    go true e = f (ltb-true a b e)
    go false e = g (ltb-false a b e)

-- ---- whether two are one
pub eq_z→eq : (a b : ℤ) → T (eq_z a b) → a ≡ b
eq_z→eq (pos a) (pos b) t = ap pos (eqb→eq a b t)
eq_z→eq (pos a) (negsuc b) t = absurd t
eq_z→eq (negsuc a) (pos b) t = absurd t
eq_z→eq (negsuc a) (negsuc b) t = ap negsuc (eqb→eq a b t)

pub eq_z-refl : (a : ℤ) → T (eq_z a a)
eq_z-refl (pos a) = eqb_refl a
eq_z-refl (negsuc a) = eqb_refl a
