-- The rank mark of a member o + 4k, which is counted as o + 4 kk from -4194304 on: half its magnitude, and none from 8 on. Assumes nothing.
use mathlib.Core.Path.{◌≡◌, ap, sym, ◌∙◌}
use mathlib.Core.Bool.{cond}
use Prim.Native.Nat.{ℕ, ◌+◌, ◌*◌, ◌-◌, ◌/◌, ◌<◌, ◌≤◌}
use native.Mathlib.Omega.{arith}
use lib.Dec.{ltb}
use lib.IntN.{ℤ, sub_ℕ}
use Rattle.laws.specs.Laws.Whole.{sub_by}
use Rattle.rank.specs.Laws.RankOrder.{rank_by, rank_is_lem}
use Rattle.rank.specs.Answers.{reach, no_rank, mark_of}
use Rattle.search.specs.Record.{member}
use Rattle.coord.specs.Inner.{unbiased}
use Rattle.coord.proofs.Numbers.{member_is}

-- the mark of a rank
abbrev pub marked : ℕ → ℕ
marked r = cond (ltb r reach) r no_rank

mark_by : (y : ℤ) (r : ℕ) → rank_by y ≡ r → mark_of y ≡ marked r
unfolding mark_of
mark_by y r e = ap marked (rank_is_lem y ∙ e)

mark-at : (o kk r : ℕ) → o < 4 → rank_by (sub_ℕ (o + 4 * kk) 4194304) ≡ r → mark_of (member o (unbiased kk)) ≡ marked r
mark-at o kk r h e = ap mark_of (sym (member_is o kk h)) ∙ mark_by (sub_ℕ (o + 4 * kk) 4194304) r e

-- no member above zero,
pub mark_low : (o kk : ℕ) → o < 4 → o + 4 * kk ≤ 4194304 → mark_of (member o (unbiased kk)) ≡ marked ((4194304 - (o + 4 * kk)) / 2)
mark_low o kk h l =
    mark-at o kk ((4194304 - (o + 4 * kk)) / 2) h (go (o + 4 * kk) l)
  where
    go : (a : ℕ) → a ≤ 4194304 → rank_by (sub_ℕ a 4194304) ≡ (4194304 - a) / 2
    go a l = sub_by (λ (z : ℤ). rank_by z ≡ (4194304 - a) / 2) a 4194304 (λ h. omega arith) (λ h. omega arith)

-- and one above it
pub mark_high : (o kk : ℕ) → o < 4 → 4194304 < o + 4 * kk → mark_of (member o (unbiased kk)) ≡ marked ((o + 4 * kk - 4194305) / 2)
mark_high o kk h l =
    mark-at o kk ((o + 4 * kk - 4194305) / 2) h (go (o + 4 * kk) l)
  where
    go : (a : ℕ) → 4194304 < a → rank_by (sub_ℕ a 4194304) ≡ (a - 4194305) / 2
    go a l = sub_by (λ (z : ℤ). rank_by z ≡ (a - 4194305) / 2) a 4194304 (λ h. omega arith) (λ h. omega arith)
