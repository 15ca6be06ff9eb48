-- The parity of a sum of whole numbers. Assumes nothing.
use Rattle.std.specs.Prelude.{◌≡◌, ℕ, suc, ◌+◌, ◌%◌, ℤ, pos, negsuc, ◌+ℤ◌}
use Rattle.std.proofs.Common.{◌∙◌, arith}
use Rattle.std.proofs.Math.IntN.{sub_ℕ}
use Rattle.laws.specs.Words.{mod_z}
use Rattle.laws.specs.Laws.Whole.{sub_by}

mod-sub : (a b : ℕ) → mod_z (sub_ℕ a b) 2 ≡ (a + b) % 2
mod-sub a b = sub_by (λ (z : ℤ). mod_z z 2 ≡ (a + b) % 2) a b (λ h. omega arith) (λ h. omega arith)

-- the parity of a sum
pub parity-add : (a b : ℤ) → mod_z (a +ℤ b) 2 ≡ (mod_z a 2 + mod_z b 2) % 2
parity-add (pos a) (pos b) = omega arith
parity-add (pos a) (negsuc b) = mod-sub a (suc b) ∙ omega arith
parity-add (negsuc a) (pos b) = mod-sub b (suc a) ∙ omega arith
parity-add (negsuc a) (negsuc b) = omega arith
