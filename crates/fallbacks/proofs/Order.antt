-- A point that is not the greater by its number is not after the other, and two points that are each not after the other are one. Assumes
-- nothing.
use Rattle.std.specs.Prelude.{◌≡◌, List, ℕ, ◌+◌, ◌*◌, ◌^◌, ◌≤◌, ◌<◌, T, length, ℤ}
use Rattle.std.proofs.Common.{sym, ap, ◌∙◌, subst, inl, inr, arith}
use Rattle.laws.specs.Words.{norm}
use Rattle.laws.specs.Laws.Order.{Compared, less, same, more, trichotomy}
use Rattle.fallbacks.specs.Region.{NotAfter}
use Rattle.fallbacks.specs.Laws.Order.{all_fit, digits, digits-below, digits-first, grade, grade_is, not_greater_both}

pub grade_order : (y z : List ℤ) → length y ≡ 8 → length z ≡ 8 → T (all_fit y) → T (all_fit z) → grade y ≤ grade z → NotAfter y z
grade_order y z a b s t h = go (trichotomy (norm y) (norm z))
  where
    top : digits z < 64 ^ 8
    top = subst (λ (n : ℕ). digits z < 64 ^ n) b (digits-below z t)

    cut : (n d e g k : ℕ) → g ≡ n * 64 ^ 8 + d → k ≡ n * 64 ^ 8 + e → g ≤ k → d ≤ e
    cut n d e g k p q h = omega arith

    clash : (n m d e g k : ℕ) → g ≡ n * 64 ^ 8 + d → k ≡ m * 64 ^ 8 + e → g ≤ k → e < 64 ^ 8 → m < n → ⊥
    clash n m d e g k p q h l o = omega arith

    go : Compared (norm y) (norm z) → NotAfter y z
    go (less l) = inl l
    go (same q) =
        inr (
          q,
          digits-first y z (a ∙ sym b) s t
              (cut (norm y) (digits y) (digits z) (grade y) (grade z) (grade_is y)
              (grade_is z ∙ ap (λ (n : ℕ). n * 64 ^ 8 + digits z) (sym q)) h),
        )
    go (more l) = absurd (clash (norm y) (norm z) (digits y) (digits z) (grade y) (grade z) (grade_is y) (grade_is z) h top l)

pub after_both : (y z : List ℤ) → length y ≡ length z → NotAfter y z → NotAfter z y → y ≡ z
after_both y z e (inl a) (inl b) = absurd (omega arith)
after_both y z e (inl a) (inr b) = absurd (omega (arith, b.0))
after_both y z e (inr a) (inl b) = absurd (omega (arith, a.0))
after_both y z e (inr a) (inr b) = not_greater_both y z e a.1 b.1
