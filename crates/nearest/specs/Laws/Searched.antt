-- What is searched: every setting runs at most the eight shrinks there are, and the parities are below 2. Assumes nothing.
use Rattle.std.specs.Prelude.{◌≡◌, refl, Bool, true, false, cond, ℕ, zero, suc, ◌≤◌, ◌<◌, ltb}
use Rattle.std.proofs.Common.{sym, subst, zero-lt-suc, le_refl, arith, ltb-true}
use mathlib.Core.List.Memᴰ
use mathlib.Core.List.{Memᴰ}
use Rattle.search.specs.Parity.{both_parities, even_parities}
use Rattle.search.specs.Block.{rule_of}
use Rattle.nearest.specs.Laws.Forms.{RuleOk}

pub rule_ok : (n : ℕ) → RuleOk (rule_of n)
rule_ok n = record { ends = go (ltb n 7) refl; mids = up (ltb n 8) refl }
  where
    go : (b : Bool) → ltb n 7 ≡ b → cond b n 7 ≤ 8
    go true e = omega (arith, ltb-true n 7 e)
    go false e = omega arith

    up : (b : Bool) → ltb n 8 ≡ b → cond b n 8 ≤ 8
    up true e = omega (arith, ltb-true n 8 e)
    up false e = omega arith

-- ---- the full coder searches both parities
pub both-lt : (q : ℕ) → Memᴰ q both_parities → q < 2
both-lt q (Memᴰ.head e) = subst (λ (n : ℕ). n < 2) (sym e) (zero-lt-suc 1)
both-lt q (Memᴰ.tail (Memᴰ.head e)) = subst (λ (n : ℕ). n < 2) (sym e) (le_refl 2)
both-lt q (Memᴰ.tail (Memᴰ.tail m)) = absurd (Memᴰ.not-nil m)

pub in_both : (q : ℕ) → q < 2 → Memᴰ q both_parities
in_both zero h = Memᴰ.head refl
in_both (suc zero) h = Memᴰ.tail (Memᴰ.head refl)
in_both (suc (suc q)) h = absurd (omega arith)

-- ---- the even profile searches parity 0
pub only_zero : (q : ℕ) → Memᴰ q even_parities → q ≡ 0
only_zero q (Memᴰ.head e) = e
only_zero q (Memᴰ.tail m) = absurd (Memᴰ.not-nil m)

pub even-lt : (q : ℕ) → Memᴰ q even_parities → q < 2
even-lt q m = subst (λ (k : ℕ). k < 2) (sym (only_zero q m)) (zero-lt-suc 1)
