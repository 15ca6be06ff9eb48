-- What a chain over a rank vector answers, as the definitions of Vector say it. Assumes nothing.
use Rattle.std.proofs.Common.{◌≡◌, refl, ap, sym, ◌∙◌, ℕ, suc, ◌+◌, ◌*◌, ◌/◌, ◌^◌, ◌<◌, ◌≤◌, true, List, [], ◌∷◌, ◌&&◌, ltb, get_or, length, arith}
use Rattle.std.specs.Prelude.{T}
use Rattle.std.specs.List.{list_all, fold, sum_by}
use Rattle.std.proofs.lemmas.List.{get_or_default, reverse-append}
use Rattle.std.proofs.lemmas.List.Sums.{fold_push}
use Rattle.laws.specs.Laws.Tests.{true_is}
use lib.Bits.{bit_or, bit_and, and_mask, or_shifted}
use lib.Pow.{shl_exact, pow_mono, pow-add}
use native.Mathlib.Nat.{lt_of_lt_of_le, mul-suc}
use Rattle.std.specs.Prelude.{reverse, ◌%◌, Bool, Option, Some}
use Rattle.std.specs.declared.cmp.Ordering.{Ordering}
use Rattle.std.specs.declared.cmp.Ordering.TheVariants.{Less, Equal, Greater}
use Rattle.std.specs.Ordering.{nat_cmp, is_le, is_some_and, partial_ordering_then}
use Rattle.std.specs.Cmp.{nat_cmp_is}
use Rattle.std.specs.Cmp.Lexicographic.{slice_partial_cmp}
use Prim.Native.Nat.{compare}
use Rattle.laws.specs.Words.{pick3, lex_le}
use Rattle.laws.specs.Laws.Order.{Compared, less, same, more, trichotomy, pick3_less, pick3_same, pick3-more}
use Rattle.rank.specs.Answers.{packed_of}
use Rattle.rank.specs.Vector.{ranks_below, sq, cost, k_zero, within}
use Rattle.rank.specs.Laws.Vector.{rank_first, rank_rest, below_at_lem, sq_mono}

pub all_is : (b : ℕ) (v : List ℕ) → list_all (λ (r : ℕ). ltb r b) v ≡ ranks_below b v
unfolding ranks_below
all_is b [] = refl
all_is b (r ∷ v) = ap (λ t. ltb r b && t) (all_is b v)

-- a rank that a chain comes to is below what all ranks are below
pub met_below : (b : ℕ) (v : List ℕ) → ranks_below b v ≡ true → (x k : ℕ) → k < length v → x ≡ get_or v k x → x < b
met_below b v e x k h q = omega (arith, get_or_default v k x 0 h, below_at_lem b v (true_is (ranks_below b v) e) k h)

-- ---- sums
from : (f : ℕ → ℕ) (a : ℕ) (v : List ℕ) → fold (λ (s r : ℕ). s + f r) a v ≡ a + sum_by f v
from f a [] = omega arith
from f a (r ∷ v) = from f (a + f r) v ∙ omega (arith, from f (0 + f r) v)

pub k_is : (v : List ℕ) → sum_by (λ (r : ℕ). (r + 1) / 2) v ≡ k_zero v
k_is [] = refl
k_is (r ∷ v) = from (λ (r : ℕ). (r + 1) / 2) (0 + (r + 1) / 2) v ∙ omega (arith, k_is v)

pub cost_is : (v : List ℕ) → sum_by sq v ≡ cost v
cost_is [] = refl
cost_is (r ∷ v) = from sq (0 + sq r) v ∙ omega (arith, cost_is v)

k_small : (v : List ℕ) → T (ranks_below 8 v) → k_zero v ≤ 4 * length v
k_small [] t = omega arith
k_small (r ∷ v) t = omega (arith, rank_first 8 r v t, k_small v (rank_rest 8 r v t))

pub k_fits : (v : List ℕ) → ranks_below 8 v ≡ true → length v ≡ 8 → sum_by (λ (r : ℕ). (r + 1) / 2) v < 2 ^ 32
k_fits v e h = omega (arith, k_is v, k_small v (true_is (ranks_below 8 v) e))

cost_small : (v : List ℕ) → T (ranks_below 16 v) → cost v ≤ 961 * length v
cost_small [] t = omega arith
cost_small (r ∷ v) t = omega (arith, sq_mono r 15 (omega (arith, rank_first 16 r v t)), cost_small v (rank_rest 16 r v t))

pub cost_fits : (v : List ℕ) → ranks_below 16 v ≡ true → length v ≡ 8 → sum_by sq v < 2 ^ 32
cost_fits v e h = omega (arith, cost_is v, cost_small v (true_is (ranks_below 16 v) e))

-- ---- packing, from the last rank on
abbrev pub step : ℕ → ℕ → ℕ
step w r = bit_or (w * 2 ^ 4 % 2 ^ 32) (bit_and r 15)

pow4 : (n : ℕ) → 2 ^ (4 * suc n) ≡ 2 ^ (4 * n) * 16
pow4 n = rw mul-suc (pow-add 2 (4 * n) 4)

packed_lt : (v : List ℕ) → packed_of v < 2 ^ (4 * length v)
unfolding packed_of
packed_lt [] = omega arith
packed_lt (r ∷ v) = omega (arith, packed_lt v, pow4 (length v))

one_more : (w r : ℕ) → w < 2 ^ 28 → step w r ≡ r % 16 + 16 * w
one_more w r h =
    ap (λ (m : ℕ). bit_or (w * 2 ^ 4 % 2 ^ 32) m) (and_mask r 4)
    ∙ ap (λ (m : ℕ). bit_or m (r % 2 ^ 4)) (shl_exact 28 4 32 h (omega arith))
    ∙ or_shifted w 4 (r % 2 ^ 4) (omega arith) ∙ omega arith

pub packed_is : (v : List ℕ) → length v ≤ 8 → fold step 0 (reverse v) ≡ packed_of v
unfolding packed_of
packed_is [] h = refl
packed_is (r ∷ v) h =
    ap (fold step 0) (reverse-append (r ∷ []) v) ∙ fold_push step 0 (reverse v) r ∙ ap (λ (w : ℕ). step w r) (packed_is v (omega arith))
    ∙ one_more (packed_of v) r (lt_of_lt_of_le (packed_lt v) (pow_mono {i = 4 * length v} {j = 28} (omega arith)))

-- ---- compared: by cost, then by ranks
compared : (x y : ℕ) (p : Option Ordering) (b : Bool) → is_some_and is_le p ≡ b
    → is_some_and is_le (partial_ordering_then (Some (nat_cmp x y)) p) ≡ pick3 (compare x y) b
compared x y p b e = go (trichotomy x y)
  where
    go : Compared x y → is_some_and is_le (partial_ordering_then (Some (nat_cmp x y)) p) ≡ pick3 (compare x y) b
    go (less h) = rw (sym (nat_cmp_is x y Less h), pick3_less x y b h)
    go (same h) = rw (sym (nat_cmp_is x y Equal h), pick3_same x y b h) e
    go (more h) = rw (sym (nat_cmp_is x y Greater h), pick3-more x y b h)

lex_is : (v w : List ℕ) → is_some_and is_le (slice_partial_cmp (λ (x y : ℕ). Some (nat_cmp x y)) v w) ≡ lex_le v w
lex_is [] [] = refl
lex_is [] (y ∷ w) = refl
lex_is (x ∷ v) [] = refl
lex_is (x ∷ v) (y ∷ w) = compared x y (slice_partial_cmp (λ (x y : ℕ). Some (nat_cmp x y)) v w) (lex_le v w) (lex_is v w)

pub within_is : (c C : ℕ) (v cut : List ℕ) → c ≡ cost v
    → is_some_and is_le (partial_ordering_then (Some (nat_cmp c C)) (slice_partial_cmp (λ (x y : ℕ). Some (nat_cmp x y)) v cut)) ≡ within C cut v
within_is c C v cut e =
    compared c C (slice_partial_cmp (λ (x y : ℕ). Some (nat_cmp x y)) v cut) (lex_le v cut) (lex_is v cut)
    ∙ ap (λ (n : ℕ). pick3 (compare n C) (lex_le v cut)) e
