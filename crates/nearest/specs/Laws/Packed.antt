-- Eight coordinates and their ranks, packed: where the ranks meet a bound of document 01 the packed row meets the search's; bits and the sum of k
-- of coordinates in a row. Assumes nothing.
use Rattle.std.specs.Prelude.{◌≡◌, refl, ◌⊎◌, true, ◌&&◌, ℕ, zero, suc, ◌+◌, ◌*◌, ◌/◌, ◌%◌, ◌^◌, ◌≤◌, ◌<◌, ltb, eqb, get_or, length, ℤ, pos}
use Rattle.std.proofs.Math.Path.{sym, ap₂}
use Rattle.std.proofs.Common.{ap, ◌∙◌, subst, inl, inr, suc-le-suc, zero-lt-suc, not-suc-le-zero, le_of_suc-le-suc, mod-eq_of_lt, arith, one-add, lt→ltb, le→leb, lit≤, shr-shr, pow-add}
use mathlib.Core.List.{List, [], ◌∷◌}
use Rattle.std.proofs.Math.Nat.{add-mod-mod}
use Rattle.std.proofs.Math.Dec.{T, leb}
use Rattle.std.proofs.lemmas.List.{length-map}
use Rattle.laws.specs.Laws.Tests.{is_true, or_left, or_right, and_in, eq→eqb}
use Rattle.laws.specs.Words.{lex_le}
use Rattle.laws.specs.Laws.Order.{pick3_out}
use Rattle.laws.specs.Words.{mod_z, div_z}
use Rattle.laws.specs.Laws.Whole.{mod2-lt, high_bits}
use Rattle.laws.proofs.Whole.{parity-add}
use Rattle.laws.specs.Words.{weight}
use Rattle.rank.specs.Coord.{bit_of, k_of, rank_of, val_of}
use Rattle.rank.specs.Vector.{ranks_below, sq, cost, class, k_zero, pack, unpack, within, bound_cost, bound_cut}
use Rattle.rank.specs.Laws.Vector.{rank_first, rank_rest, unpack-at, unpack-pack, below_up}
use Rattle.rank.specs.Section.{uniform, point_at, bits_of, ranks_of, k_sum}
use Rattle.rank.specs.Laws.Section.{point-uniform, point-bits, point-ranks, point-length, point-back, k_sum_lem}
use Rattle.tetra.specs.Laws.Point.{point_at_lem, even_times, drop-even}
use Rattle.search.specs.declared.Closed.{Closed}
use Rattle.search.specs.Record.{bit_at}
use Rattle.search.specs.Bound.{lex_num, lex_of, holds}
use Rattle.search.specs.Tables.{tables, class_of}
use Rattle.search.specs.Laws.Tables.{class0_is, class1_is}
use Rattle.search.specs.Entries.{rank_at, section_at}
use Rattle.nearest.specs.Laws.Forms.{sum_to, par_k, RowOf}
use Rattle.nearest.specs.Laws.Sums.{sum_same, sum_front}
use Rattle.nearest.specs.Laws.Keys.{four_more}

-- ---- lists read as numbers: of digits below 16 and one length, the order of lists is that of numbers
lex_le_lem : (v w : List ℕ) (a b : ℕ) → length v ≡ length w → T (ranks_below 16 v) → T (ranks_below 16 w)
    → (a < b) ⊎ ((a ≡ b) × T (lex_le v w)) → lex_num a v ≤ lex_num b w
unfolding lex_num
lex_le_lem [] [] a b e s t (inl h) = omega arith
lex_le_lem [] [] a b e s t (inr h) = omega (arith, h.0)
lex_le_lem [] (y ∷ w) a b e s t h = absurd (omega arith)
lex_le_lem (x ∷ v) [] a b e s t h = absurd (omega arith)
lex_le_lem (x ∷ v) (y ∷ w) a b e s t h =
    lex_le_lem v w (a * 16 + x) (b * 16 + y) (omega arith) (rank_rest 16 x v s) (rank_rest 16 y w t) (next h)
  where
    next : (a < b) ⊎ ((a ≡ b) × T (lex_le (x ∷ v) (y ∷ w))) → (a * 16 + x < b * 16 + y) ⊎ ((a * 16 + x ≡ b * 16 + y) × T (lex_le v w))
    next (inl l) = inl (omega (arith, rank_first 16 x v s))
    next (inr l) = same (pick3_out x y (lex_le v w) l.1)
      where
        same : (x < y) ⊎ ((x ≡ y) × T (lex_le v w)) → (a * 16 + x < b * 16 + y) ⊎ ((a * 16 + x ≡ b * 16 + y) × T (lex_le v w))
        same (inl m) = inl (omega (arith, l.0))
        same (inr m) = inr (omega (arith, l.0, m.0), m.1)

-- ---- eight ranks that meet a bound, packed
pub cost-sum : (v : List ℕ) → cost v ≡ sum_to (λ j. sq (get_or v j 0)) (length v)
unfolding sum_to
cost-sum [] = refl
cost-sum (r ∷ v) = ap (λ (n : ℕ). sq r + n) (cost-sum v) ∙ sum_front (λ j. sq (get_or (r ∷ v) j 0)) (length v)

pack-lt : (v : List ℕ) → T (ranks_below 16 v) → pack v < 2 ^ (4 * length v)
pack-lt [] s = lit≤ tt
pack-lt (r ∷ v) s =
    step r (pack v) (2 ^ (4 * length v)) (2 ^ (4 * suc (length v))) (four_more (length v)) (rank_first 16 r v s) (pack-lt v (rank_rest 16 r v s))
  where
    step : (r w a b : ℕ) → b ≡ 16 * a → r < 16 → w < a → r + 16 * w < b
    step r w a b q h l = omega arith

module _ (v : List ℕ) (e : length v ≡ 8) (s : T (ranks_below 16 v)) where
  unpacked : unpack 8 (pack v) ≡ v
  unpacked = ap (λ (n : ℕ). unpack n (pack v)) (sym e) ∙ unpack-pack v s

  packed_at : (j : ℕ) → j < 8 → rank_at (pack v) j ≡ get_or v j 0
  packed_at j h = sym (unpack-at 8 (pack v) j h) ∙ ap (λ (l : List ℕ). get_or l j 0) unpacked

  packed_cost : sum_to (λ j. sq (rank_at (pack v) j)) 8 ≡ cost v
  packed_cost =
      sum_same (λ j. sq (rank_at (pack v) j)) (λ j. sq (get_or v j 0)) 8 (λ j h. ap sq (packed_at j h))
      ∙ ap (sum_to (λ j. sq (get_or v j 0))) (sym e) ∙ sym (cost-sum v)

  pub packed_lt : pack v < 2 ^ 32
  packed_lt = subst (λ (n : ℕ). pack v < 2 ^ (4 * n)) e (pack-lt v s)

  pub packed_holds : (b : Closed) (C : ℕ) (cut : List ℕ) → b ≡ record { cost = C; cut = lex_num 0 cut } → length cut ≡ 8 → T (ranks_below 16 cut)
      → T (within C cut v) → holds b (sum_to (λ j. sq (rank_at (pack v) j)) 8) (pack v) ≡ true
  unfolding lex_of
  packed_holds b C cut q l t w =
      ap₂ (λ (d : Closed) (n : ℕ). holds d n (pack v)) q packed_cost
      ∙ is_true (holds (record { cost = C; cut = lex_num 0 cut }) (cost v) (pack v)) (go (pick3_out (cost v) C (lex_le v cut) w))
    where
      go : (cost v < C) ⊎ ((cost v ≡ C) × T (lex_le v cut)) → T (holds (record { cost = C; cut = lex_num 0 cut }) (cost v) (pack v))
      go (inl h) = or_left (ltb (cost v) C) (eqb (cost v) C && leb (lex_of (pack v)) (lex_num 0 cut)) (lt→ltb (cost v) C h)
      go (inr h) =
          or_right (ltb (cost v) C) (eqb (cost v) C && leb (lex_of (pack v)) (lex_num 0 cut))
          (and_in (eqb (cost v) C) (leb (lex_of (pack v)) (lex_num 0 cut)) (eq→eqb (cost v) C h.0)
          (le→leb (lex_of (pack v)) (lex_num 0 cut)
          (subst (λ (u : List ℕ). lex_num 0 u ≤ lex_num 0 cut) (sym unpacked) (lex_le_lem v cut 0 0 (e ∙ sym l) s t (inr (refl, h.1))))))

-- the bounds of the tables are those of document 01
pub class_bound : (r : ℕ) → r < 2 → class_of tables r ≡ record { cost = bound_cost r; cut = lex_num 0 (bound_cut r) }
class_bound zero h = class0_is
class_bound (suc zero) h = class1_is
class_bound (suc (suc r)) h = absurd (omega arith)

pub cut_size : (r : ℕ) → length (bound_cut r) ≡ 8
cut_size zero = refl
cut_size (suc r) = refl

pub cut_below : (r : ℕ) → T (ranks_below 16 (bound_cut r))
unfolding ranks_below
cut_below zero = tt
cut_below (suc r) = tt

-- ---- bits
-- bit j of the bits of a row is that of its coordinate j
pub bits_at : (t : List ℤ) (j : ℕ) → j < length t → bit_at (bits_of t) j ≡ bit_of (get_or t j (pos 0))
unfolding bits_of
bits_at [] j h = absurd (not-suc-le-zero h)
bits_at (y ∷ t) zero h = low (bit_of y) (bits_of t) (mod2-lt (div_z y 2))
  where
    low : (b c : ℕ) → b < 2 → (b + 2 * c) / 1 % 2 ≡ b
    low b c h = omega arith
bits_at (y ∷ t) (suc j) h =
    ap (λ (x : ℕ). x % 2)
    (ap (λ (n : ℕ). (bit_of y + 2 * bits_of t) / 2 ^ n) (sym (one-add j)) ∙ sym (shr-shr (bit_of y + 2 * bits_of t) 1 j)
    ∙ ap (λ (x : ℕ). x / 2 ^ j) (high_bits (bit_of y) (bits_of t) (mod2-lt (div_z y 2))))
    ∙ bits_at t j (le_of_suc-le-suc h)

-- and they fix the number
pub bits_from : (t : List ℤ) (w : ℕ) → w < 2 ^ length t → ((j : ℕ) → j < length t → bit_of (get_or t j (pos 0)) ≡ bit_at w j) → bits_of t ≡ w
unfolding bits_of
bits_from [] w h e = omega arith
bits_from (y ∷ t) w h e =
    join (bit_of y) (bits_of t) w (e 0 (zero-lt-suc (length t)))
    (bits_from t (w / 2) (half (2 ^ length t) (2 ^ suc (length t)) (double (length t)) h)
    (λ j l. e (suc j) (suc-le-suc l) ∙ ap (λ (x : ℕ). x % 2) (ap (λ (n : ℕ). w / 2 ^ n) (sym (one-add j)) ∙ sym (shr-shr w 1 j))))
  where
    double : (n : ℕ) → 2 ^ suc n ≡ 2 * 2 ^ n
    double n = ap (λ (m : ℕ). 2 ^ m) (sym (one-add n)) ∙ pow-add 2 1 n

    half : (a b : ℕ) → b ≡ 2 * a → w < b → w / 2 < a
    half a b q l = omega arith

    join : (b c w : ℕ) → b ≡ w / 1 % 2 → c ≡ w / 2 → b + 2 * c ≡ w
    join b c w p q = omega arith

-- ---- the parity of the sum of k
pub k_sum_is : (t : List ℤ) → mod_z (k_sum t) 2 ≡ sum_to (λ j. mod_z (k_of (get_or t j (pos 0))) 2) (length t) % 2
unfolding k_sum sum_to
k_sum_is [] = refl
k_sum_is (y ∷ t) =
    parity-add (k_of y) (k_sum t) ∙ ap (λ (n : ℕ). (mod_z (k_of y) 2 + n) % 2) (k_sum_is t)
    ∙ add-mod-mod (mod_z (k_of y) 2) (sum_to (λ j. mod_z (k_of (get_or t j (pos 0))) 2) (length t)) 2
    ∙ ap (λ (n : ℕ). n % 2) (sum_front (λ j. mod_z (k_of (get_or (y ∷ t) j (pos 0))) 2) (length t))

-- ---- eight coordinates of one parity, with the bits of byte c of even weight, and ranks below 8
module _ (p c : ℕ) (t : List ℤ) (e : length t ≡ 8) (u : T (uniform p t)) (q : bits_of t ≡ c) (s : T (ranks_below 8 (ranks_of t)))
    (x : ℕ → ℤ) (a : (j : ℕ) → j < 8 → x j ≡ get_or t j (pos 0)) where
  size : length (ranks_of t) ≡ 8
  size = length-map t rank_of ∙ e

  small : T (ranks_below 16 (ranks_of t))
  small = below_up 8 16 (omega arith) (ranks_of t) s

  -- their packed ranks are a row of a bound that the ranks meet
  pub row_of : (b : Closed) (C : ℕ) (cut : List ℕ) → b ≡ record { cost = C; cut = lex_num 0 cut } → length cut ≡ 8 → T (ranks_below 16 cut)
      → T (within C cut (ranks_of t)) → RowOf p c b x
  row_of b C cut d l n w =
      record {
        key = pack (ranks_of t);
        key-lt = packed_lt (ranks_of t) size small;
        at = λ j h.
            a j h ∙ ap (λ (v : List ℤ). get_or v j (pos 0)) (sym (point-back p t u s))
            ∙ point_at_lem p (bits_of t) (ranks_of t) j (subst (λ (m : ℕ). j < m) (sym size) h)
            ∙ ap₂ (λ (m r : ℕ). val_of (p + 2 * bit_at m j) r) q (sym (packed_at (ranks_of t) size small j h));
        within = packed_holds (ranks_of t) size small b C cut d l n w;
      }

  -- and their class is the parity of the sum of k
  pub class_of_lem : weight 8 c % 2 ≡ 0 → par_k (λ j. k_of (x j)) 8 ≡ class (ranks_of t)
  class_of_lem even =
      ap (λ (n : ℕ). n % 2)
      (sum_same (λ j. mod_z (k_of (x j)) 2) (λ j. mod_z (k_of (get_or t j (pos 0))) 2) 8 (λ j h. ap (λ (z : ℤ). mod_z (k_of z) 2) (a j h))
      ∙ ap (sum_to (λ j. mod_z (k_of (get_or t j (pos 0))) 2)) (sym e))
      ∙ sym (k_sum_is t) ∙ k_sum_lem p t u s
      ∙ ap₂ (λ (m b : ℕ). (k_zero (ranks_of t) + p * weight m b) % 2) e q
      ∙ drop-even (k_zero (ranks_of t)) (p * weight 8 c) (even_times p (weight 8 c) even)

-- ---- so the class of a packed row is the parity of the sum of k of its section
pub key_class : (p c key : ℕ) → p < 2 → c < 256 → weight 8 c % 2 ≡ 0 → T (ranks_below 8 (unpack 8 key))
    → par_k (λ j. k_of (section_at p c key j)) 8 ≡ class (unpack 8 key)
key_class p c key P0 C0 even low =
    let v = unpack 8 key in
    let ranks = point-ranks p P0 c v low in
    class_of_lem p c (point_at p c v) (point-length p c v) (point-uniform p P0 c v low) (point-bits p P0 c v low ∙ mod-eq_of_lt C0)
    (subst (λ (w : List ℕ). T (ranks_below 8 w)) (sym ranks) low) (section_at p c key)
    (λ j h. ap (val_of (p + 2 * bit_at c j)) (sym (unpack-at 8 key j h)) ∙ sym (point_at_lem p c v j h)) even
    ∙ ap class ranks
