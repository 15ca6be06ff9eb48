-- A member's ranks as document 01 has them: a list of eight, within the bound of its class, whose class is that of the whole numbers k.
use Rattle.std.specs.Prelude.{◌≡◌, ◌≢◌, ◌⊎◌, true, ◌&&◌, List, [], ◌∷◌, ltb, eqb, get_or, length}
use Rattle.std.proofs.Math.Path.{refl}
use Rattle.std.proofs.Common.{sym, ap, ◌∙◌, subst, inl, inr, arith, ltb→lt, leb→le, eqb→eq}
use Prim.Native.Nat.{ℕ, suc, ◌+◌, ◌*◌, ◌%◌, ◌≤◌, ◌<◌, compare}
use Rattle.std.proofs.Math.Decide.{ℕ_discrete}
use Rattle.std.proofs.Math.Dec.{T, leb}
use Rattle.laws.specs.Laws.Tests.{true_is, or_cases, and_left, and_right}
use Rattle.laws.specs.Words.{pick3, lex_le}
use Rattle.laws.specs.Laws.Order.{pick3-lt, pick3-eq}
use Rattle.laws.specs.Words.{weight}
use Rattle.rank.specs.Coord.{k_of}
use Rattle.rank.specs.Vector.{sq, cost, class, unpack, ranks_below, within, bound_cost, bound_cut, middle_cost, middle_cut, in_class, in_middle}
use Rattle.rank.specs.Laws.Vector.{rank_first, rank_rest, unpack-at, unpack-below}
use Rattle.search.specs.declared.Closed.{Closed}
use Rattle.search.specs.Bound.{holds, lex_of, lex_num}
use Rattle.search.specs.Tables.{tables, class_of}
use Rattle.search.specs.Laws.Tables.{mixed_is}
use Rattle.search.specs.Entries.{rank_at, section_at}
use Rattle.nearest.specs.Laws.Forms.{sum_to, odd_k}
use Rattle.nearest.specs.Laws.Sums.{sum_same}
use Rattle.nearest.specs.Laws.Packed.{cost-sum, class_bound, cut_size, cut_below, key_class}
use Rattle.nearest.specs.Laws.Keys.{member_is}
use Rattle.nearest.specs.Laws.Shape.{o_at, o_lt}
use Rattle.members.specs.Laws.Candidates.{Member}

-- ---- digits below 16 read as one number are in the order of the lists
digits-lex : (v w : List ℕ) → length v ≡ length w → T (ranks_below 16 v) → T (ranks_below 16 w) → (a b : ℕ) → lex_num a v ≤ lex_num b w
    → (a < b) ⊎ ((a ≡ b) × T (lex_le v w))
unfolding lex_num
digits-lex [] [] e s t a b h = go (ℕ_discrete a b)
  where
    less : a ≤ b → a ≢ b → a < b
    less h d = omega arith

    go : Dec (a ≡ b) → (a < b) ⊎ ((a ≡ b) × T (lex_le [] []))
    go (yes q) = inr (q, tt)
    go (no d) = inl (less h d)
digits-lex [] (y ∷ w) e s t a b h = absurd (omega arith)
digits-lex (x ∷ v) [] e s t a b h = absurd (omega arith)
digits-lex (x ∷ v) (y ∷ w) e s t a b h =
    go (rank_first 16 x v s) (rank_first 16 y w t) (digits-lex v w (down e) (rank_rest 16 x v s) (rank_rest 16 y w t) (a * 16 + x) (b * 16 + y) h)
  where
    down : suc (length v) ≡ suc (length w) → length v ≡ length w
    down e = omega arith

    at : x < 16 → y < 16 → a * 16 + x < b * 16 + y → Dec (a ≡ b) → (a < b) ⊎ ((a ≡ b) × T (pick3 (compare x y) (lex_le v w)))
    at i j l (yes q) = inr (q, pick3-lt x y (lex_le v w) (low q l))
      where
        low : a ≡ b → a * 16 + x < b * 16 + y → x < y
        low q l = omega arith
    at i j l (no d) = inl (high d l)
      where
        high : a ≢ b → a * 16 + x < b * 16 + y → a < b
        high d l = omega arith

    go : x < 16 → y < 16 → (a * 16 + x < b * 16 + y) ⊎ ((a * 16 + x ≡ b * 16 + y) × T (lex_le v w)) → (a < b)
        ⊎ ((a ≡ b) × T (pick3 (compare x y) (lex_le v w)))
    go i j (inl l) = at i j l (ℕ_discrete a b)
    go i j (inr q) = let z = q.0 in inr (omega arith, pick3-eq x y (lex_le v w) (omega arith) q.1)

-- ---- the search's bounds are those of document 01
module _ (key : ℕ) where
  abbrev total : ℕ
  total = sum_to (λ j. sq (rank_at key j)) 8

  cost_is : cost (unpack 8 key) ≡ total
  cost_is = cost-sum (unpack 8 key) ∙ sum_same (λ j. sq (get_or (unpack 8 key) j 0)) (λ j. sq (rank_at key j)) 8 (λ j l. ap sq (unpack-at 8 key j l))

  holds-within : (C : ℕ) (cut : List ℕ) → length cut ≡ 8 → T (ranks_below 16 cut) → T (ranks_below 16 (unpack 8 key))
      → holds (record { cost = C; cut = lex_num 0 cut }) total key ≡ true → T (within C cut (unpack 8 key))
  unfolding lex_of
  holds-within C cut e s k h = go (or_cases (ltb total C) (eqb total C && leb (lex_of key) (lex_num 0 cut)) (true_is _ h))
    where
      lex : (0 < 0) ⊎ ((◌≡◌ {A = ℕ} 0 0) × T (lex_le (unpack 8 key) cut)) → T (lex_le (unpack 8 key) cut)
      lex (inl l) = absurd (omega arith)
      lex (inr q) = q.1

      go : T (ltb total C) ⊎ T (eqb total C && leb (lex_of key) (lex_num 0 cut)) → T (within C cut (unpack 8 key))
      go (inl l) = pick3-lt (cost (unpack 8 key)) C (lex_le (unpack 8 key) cut) (subst (λ (n : ℕ). n < C) (sym cost_is) (ltb→lt total C l))
      go (inr q) =
          pick3-eq (cost (unpack 8 key)) C (lex_le (unpack 8 key) cut)
          (cost_is ∙ eqb→eq total C (and_left (eqb total C) (leb (lex_of key) (lex_num 0 cut)) q))
          (lex (digits-lex (unpack 8 key) cut (sym e) k s 0 0
          (leb→le (lex_of key) (lex_num 0 cut) (and_right (eqb total C) (leb (lex_of key) (lex_num 0 cut)) q))))

  low_digits : T (ranks_below 16 (unpack 8 key))
  low_digits = unpack-below 8 key

  pub class_in : (r : ℕ) → r < 2 → holds (class_of tables r) total key ≡ true → T (in_class r (unpack 8 key))
  class_in r l h = holds-within (bound_cost r) (bound_cut r) (cut_size r) (cut_below r) low_digits
      (subst (λ (b : Closed). holds b total key ≡ true) (class_bound r l) h)

  pub middle_in : holds tables.mixed total key ≡ true → T (in_middle (unpack 8 key))
  unfolding ranks_below
  middle_in h = holds-within middle_cost middle_cut refl tt low_digits (subst (λ (b : Closed). holds b total key ≡ true) mixed_is h)

-- ---- the class of the ranks is that of the whole numbers k, where the byte has an even number of set bits
pub member-class : (p c r : ℕ) (b : Closed) (key : ℕ) → p < 2 → c < 256 → weight 8 c % 2 ≡ 0 → T (ranks_below 8 (unpack 8 key))
    → Member p c r b key → class (unpack 8 key) ≡ r
member-class p c r b key P0 C0 even low M =
    sym (key_class p c key P0 C0 even low)
    ∙ ap (λ (n : ℕ). n % 2)
    (sum_same (λ j. odd_k (k_of (section_at p c key j))) (λ j. odd_k (M.sec.k j)) 8
    (λ j h. ap odd_k (ap k_of (M.sec.at j h) ∙ sym (member_is (o_at p c j) (M.sec.k j) (o_lt p c j P0)).1)))
    ∙ M.sec.class
