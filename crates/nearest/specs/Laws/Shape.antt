-- The shape of a candidate, which is eight whole numbers k: its cost is the sum of the weights of its ranks, and its packed row holds its ranks.
-- Whole numbers only, so for any targets.
use Rattle.std.specs.Prelude.{◌≡◌, ◌≢◌, ◌⊎◌, Bool, not, ◌&&◌, ◌||◌, List, T, leb, eqb, get_or, ℤ, pos, nat_abs, ◌+ℤ◌, ◌-ℤ◌, Float}
use Rattle.std.proofs.Math.Path.{refl, sym, ap, ap₂, subst}
use Rattle.std.proofs.Common.{◌∙◌, inl, inr, le_refl, le_trans, le_of_eq, le_of_lt, lt_of_le_of_lt, mul-le-mul, mod-lt, zero-lt-suc, eq-eqb, ne_eqb, lt-ltb, le-ltb, ltb→lt, nltb→le, leb→le, eqb→eq}
use Rattle.std.proofs.Math.Bool.{true, false, cond}
use Prim.Native.Nat.{ℕ, zero, suc, ◌+◌, ◌-◌, ◌*◌, ◌/◌, ◌%◌, ◌^◌, ◌≤◌, ◌<◌, zero-le}
use native.Mathlib.Omega.{arith}
use Rattle.std.proofs.Math.Decide.{ℕ_discrete}
use Rattle.std.proofs.Math.Dec.{ltb, nleb→lt, lit≤}
use Rattle.std.specs.Int.Bits.{bit_or, bit_and, or_lt}
use Rattle.std.proofs.lemmas.Nat.{and_le_l}
use Rattle.std.specs.Float.{nan, binary64}
use Rattle.std.specs.Float.Ieee.{add}
use Rattle.laws.specs.Laws.Lists.{tab_at}
use Rattle.laws.specs.Laws.Tests.{upto, below, cond_same}
use Rattle.laws.specs.Words.{pos_part, neg_part}
use Rattle.rank.specs.Coord.{val_of}
use Rattle.rank.specs.Vector.{sq}
use Rattle.search.specs.declared.Coord.{Coord}
use Rattle.search.specs.declared.Closed.{Closed}
use Rattle.search.specs.Record.{coord_at, no_coord, coord_of, row, shrinks, five, slot_k, bit_at, member, sq_to}
use Rattle.search.specs.Bound.{holds, lex_of}
use Rattle.search.specs.Base.{slot_of, now_to, key_set}
use Rattle.search.specs.Solve.{key_moved}
use Rattle.search.specs.Entries.{rank_at, dist_to, section_at}
use Rattle.nearest.specs.Laws.Keys.{mark_k, rank_lt, rank_back, nib_put, nib_set, nib_moved}
use Rattle.nearest.specs.Laws.Forms.{sum_to}
use Rattle.nearest.specs.Laws.Sums.{sum_set}
use Rattle.nearest.specs.Laws.Ints.{add_parts, abs-parts, member-parts, one_part}

abbrev pub o_at : ℕ → ℕ → ℕ → ℕ
o_at p c j = p + 2 * bit_at c j

pub o_lt : (p c j : ℕ) → p < 2 → o_at p c j < 4
o_lt p c j h = let a = mod-lt (c / 2 ^ j) (zero-lt-suc 1) in omega arith

-- a term is no more than the sum
term-le : (f : ℕ → ℕ) (n j : ℕ) → j < n → f j ≤ sum_to f n
unfolding sum_to
term-le f zero j h = absurd (omega arith)
term-le f (suc n) j h = go (λ l. term-le f n j l) (ℕ_discrete n j)
  where
    go : (j < n → f j ≤ sum_to f n) → Dec (n ≡ j) → f j ≤ sum_to f n + f n
    go r (yes e) = let a : f n ≡ f j = ap f e in omega arith
    go r (no d) = let l : j < n = omega arith in let a = r l in omega arith

holds-le : (b : Closed) (cost key : ℕ) → holds b cost key ≡ true → cost ≤ b.cost
holds-le b cost key h = go (ltb cost b.cost) (eqb cost b.cost) (ltb→lt cost b.cost) (eqb→eq cost b.cost) (subst T (sym h) tt)
  where
    go : (x y : Bool) → (T x → cost < b.cost) → (T y → cost ≡ b.cost) → T (x || (y && (leb (lex_of key) b.cut))) → cost ≤ b.cost
    go true y k l t = le_of_lt (k tt)
    go false true k l t = le_of_eq (l tt)
    go false false k l t = absurd t

-- (2 r + 1) ^ 2 at most 96 leaves r at most 4
weight-le : (r : ℕ) → sq r ≤ 96 → r ≤ 4
weight-le r l = go (leb r 4) (leb→le r 4) (nleb→lt r 4)
  where
    go : (t : Bool) → (T t → r ≤ 4) → (T (not t) → 4 < r) → r ≤ 4
    go true a b = a tt
    go false a b = absurd (no (2 * r + 1) (big (b tt)) l)
      where
        big : 4 < r → 11 ≤ 2 * r + 1
        big m = omega arith

        no : (x : ℕ) → 11 ≤ x → x * x ≤ 96 → ⊥
        no x m k = let y : 11 * 11 ≤ x * x = mul-le-mul m m in omega arith

-- so every rank is, where a bound of at most 96 holds
pub ranks-le : (r : ℕ → ℕ) (b : Closed) → b.cost ≤ 96 → (cost key : ℕ) → cost ≡ sum_to (λ j. sq (r j)) 8 → holds b cost key ≡ true
    → (j : ℕ) → j < 8 → r j ≤ 4
ranks-le r b B0 cost key e h j l =
    weight-le (r j) (le_trans (term-le (λ j. sq (r j)) 8 j l) (le_trans (le_of_eq (sym e)) (le_trans (holds-le b cost key h) B0)))

zeros : T (upto 8 (λ i. eqb (rank_at 0 i) 0))
zeros = tt

nib_zero : (i : ℕ) → i < 8 → rank_at 0 i ≡ 0
nib_zero i h = eqb→eq _ _ (below 8 (λ i. eqb (rank_at 0 i) 0) zeros i h)

-- ---- five slots
pub five_at : {A : Type 0} (f : ℕ → A) (n : ℕ) (d : A) → n < 5 → get_or (five f) n d ≡ f n
five_at f zero d h = refl
five_at f (suc zero) d h = refl
five_at f (suc (suc zero)) d h = refl
five_at f (suc (suc (suc zero))) d h = refl
five_at f (suc (suc (suc (suc zero)))) d h = refl
five_at f (suc (suc (suc (suc (suc n))))) d h = absurd (omega arith)

-- two terms changed
pub sum-two : (f g : ℕ → ℕ) (i l n : ℕ) → i < n → l < n → i ≢ l → ((j : ℕ) → j < n → j ≢ i → j ≢ l → f j ≡ g j) → sum_to f n + (g i + g l)
    ≡ sum_to g n + (f i + f l)
sum-two f g i l n hi hl d h =
    let a = sum_set mid g i n hi (λ j k m. off j m) in
    let b = sum_set f mid l n hl (λ j k m. at j k m (ℕ_discrete j i)) in
    go (sum_to f n) (sum_to mid n) (sum_to g n) (f i) (g i) (mid i) (f l) (g l) (mid l) mid_i mid_l a b
  where
    mid : ℕ → ℕ
    mid j = cond (eqb j i) (f i) (g j)

    off : (j : ℕ) → j ≢ i → mid j ≡ g j
    off j m = ap (λ (t : Bool). cond t (f i) (g j)) (ne_eqb j i m)

    mid_i : mid i ≡ f i
    mid_i = ap (λ (t : Bool). cond t (f i) (g i)) (eq-eqb i i refl)

    mid_l : mid l ≡ g l
    mid_l = off l (λ (q : l ≡ i). d (sym q))

    at : (j : ℕ) → j < n → j ≢ l → Dec (j ≡ i) → f j ≡ mid j
    at j k m (yes q) = ap f q ∙ sym mid_i ∙ ap mid (sym q)
    at j k m (no e) = h j k e m ∙ sym (off j e)

    go : (sf sm sg fi gi mi fl gl ml : ℕ) → mi ≡ fi → ml ≡ gl → sm + gi ≡ sg + mi → sf + ml ≡ sm + fl → sf + (gi + gl) ≡ sg + (fi + fl)
    go sf sm sg fi gi mi fl gl ml x y a b = omega arith

pub pair-le : (g : ℕ → ℕ) (i l n : ℕ) → i < n → l < n → i ≢ l → g i + g l ≤ sum_to g n
pair-le g i l n hi hl d =
    go (sum_to f n) (sum_to g n) (g i + g l) (f i) (f l) at_i at_l
    (sum-two f g i l n hi hl d (λ j k x y.
    ap (λ (t : Bool). cond t 0 (cond (eqb j l) 0 (g j))) (ne_eqb j i x) ∙ ap (λ (t : Bool). cond t 0 (g j)) (ne_eqb j l y)))
  where
    f : ℕ → ℕ
    f j = cond (eqb j i) 0 (cond (eqb j l) 0 (g j))

    at_i : f i ≡ 0
    at_i = ap (λ (t : Bool). cond t 0 (cond (eqb i l) 0 (g i))) (eq-eqb i i refl)

    at_l : f l ≡ 0
    at_l = ap (λ (t : Bool). cond t 0 (cond (eqb l l) 0 (g l))) (ne_eqb l i (λ (q : l ≡ i). d (sym q)))
        ∙ ap (λ (t : Bool). cond t 0 (g l)) (eq-eqb l l refl)

    go : (sf sg p a b : ℕ) → a ≡ 0 → b ≡ 0 → sf + p ≡ sg + (a + b) → p ≤ sg
    go sf sg p a b x y h = omega arith

moved-lt : (key x j y l : ℕ) → key < 2 ^ 32 → key_moved key j x l y < 2 ^ 32
unfolding key_moved
moved-lt key x j y l h =
    let m = 4294967295 - bit_or (15 * 2 ^ (4 * j) % 4294967296) (15 * 2 ^ (4 * l) % 4294967296) in
    or_lt 32 (bit_or (bit_and key m) (x * 2 ^ (4 * j) % 4294967296)) (y * 2 ^ (4 * l) % 4294967296)
    (or_lt 32 (bit_and key m) (x * 2 ^ (4 * j) % 4294967296) (lt_of_le_of_lt (and_le_l key m) h) (mod-lt (x * 2 ^ (4 * j)) (zero-lt-suc 4294967295)))
    (mod-lt (y * 2 ^ (4 * l)) (zero-lt-suc 4294967295))

set-lt : (key x j : ℕ) → key < 2 ^ 32 → key_set key j x < 2 ^ 32
unfolding key_set
set-lt key x j h = or_lt 32 (bit_and key (4294967295 - 15 * 2 ^ (4 * j) % 4294967296)) (x * 2 ^ (4 * j) % 4294967296)
    (lt_of_le_of_lt (and_le_l key (4294967295 - 15 * 2 ^ (4 * j) % 4294967296)) h) (mod-lt (x * 2 ^ (4 * j)) (zero-lt-suc 4294967295))

-- ---- sizes
pub member-abs : (o : ℕ) (k : ℤ) → nat_abs (member o k) ≤ o + 4 * nat_abs k
member-abs o k = go (pos_part (member o k)) (neg_part (member o k)) o (pos_part k) (neg_part k) (nat_abs k) (nat_abs (member o k)) (abs-parts k)
    (abs-parts (member o k)) (member-parts o k) (one_part (member o k))
  where
    go : (p n o a b m v : ℕ) → m ≡ a + b → v ≡ p + n → p + 4 * b ≡ o + 4 * a + n → (p ≡ 0) ⊎ (n ≡ 0) → v ≤ o + 4 * m
    go p n o a b m v x y z (inl q) = omega arith
    go p n o a b m v x y z (inr q) = omega arith

off-abs : (f : ℕ) → f < 5 → nat_abs (pos f -ℤ pos 2) ≤ 2
off-abs zero h = le_refl 2
off-abs (suc zero) h = omega arith
off-abs (suc (suc zero)) h = omega arith
off-abs (suc (suc (suc zero))) h = omega arith
off-abs (suc (suc (suc (suc zero)))) h = le_refl 2
off-abs (suc (suc (suc (suc (suc n))))) h = absurd (omega arith)

pub slot-abs : (k : ℤ) (f : ℕ) → f < 5 → nat_abs (slot_k k f) ≤ nat_abs k + 2
slot-abs k f l =
    let z = pos f -ℤ pos 2 in
    go (pos_part (k +ℤ z)) (neg_part (k +ℤ z)) (pos_part k) (neg_part k) (pos_part z) (neg_part z) (nat_abs k) (nat_abs z) (nat_abs (k +ℤ z))
    (off-abs f l) (abs-parts k) (abs-parts z) (abs-parts (k +ℤ z)) (add_parts k z) (one_part (k +ℤ z))
  where
    go : (p n a b c d m o v : ℕ) → o ≤ 2 → m ≡ a + b → o ≡ c + d → v ≡ p + n → p + (b + d) ≡ a + c + n → (p ≡ 0) ⊎ (n ≡ 0) → v ≤ m + 2
    go p n a b c d m o v l x y z w (inl q) = omega arith
    go p n a b c d m o v l x y z w (inr q) = omega arith

-- ---- the ranks and the weights of a row of records
pub record Slots (p c : ℕ) (e : List Coord) : Type 0 where
  pub rank_is : (j f : ℕ) → j < 8 → f < 5 → get_or (coord_at e j).rank f 0 ≡ mark_k (o_at p c j) (slot_k (coord_at e j).k0 f)
  pub w_is : (j f : ℕ) → j < 8 → f < 5 → get_or (coord_at e j).w f 0 ≡ sq (mark_k (o_at p c j) (slot_k (coord_at e j).k0 f))

pub record Shape (p c : ℕ) (k : ℕ → ℤ) (cost key : ℕ) : Type 0 where
  pub cost_is : cost ≡ sum_to (λ j. sq (mark_k (o_at p c j) (k j))) 8
  pub key-lt : key < 2 ^ 32
  pub key_is : (j : ℕ) → j < 8 → rank_at key j ≡ mark_k (o_at p c j) (k j)

pub shape-eq : (p c : ℕ) {k : ℕ → ℤ} {cost cost' key key' : ℕ} → Shape p c k cost key → cost' ≡ cost → key' ≡ key → Shape p c k cost' key'
shape-eq p c {k} {cost} {cost'} {key} {key'} C a b = subst (λ (z : ℕ). Shape p c k z key') (sym a) (subst (λ (z : ℕ). Shape p c k cost z) (sym b) C)

-- a record from its target, shrink and offset
coord_rank : (t h : Float) (o f : ℕ) → f < 5 → get_or (coord_of t h o).rank f 0 ≡ mark_k o (slot_k (coord_of t h o).k0 f)
unfolding coord_of
coord_rank t h o f l = five_at (λ f. mark_k o (slot_k (coord_of t h o).k0 f)) f 0 l

coord_w : (t h : Float) (o f : ℕ) → f < 5 → get_or (coord_of t h o).w f 0 ≡ sq (mark_k o (slot_k (coord_of t h o).k0 f))
unfolding coord_of
coord_w t h o f l = five_at (λ f. sq (mark_k o (slot_k (coord_of t h o).k0 f))) f 0 l

coord_d : (t h : Float) (o f : ℕ) → f < 5 → get_or (coord_of t h o).d f nan ≡ sq_to (member o (slot_k (coord_of t h o).k0 f)) t
unfolding coord_of
coord_d t h o f l = five_at (λ f. sq_to (member o (slot_k (coord_of t h o).k0 f)) t) f nan l

-- the rows of a section
pub row_at : (ts : List Float) (p c s j : ℕ) → j < 8 → coord_at (row ts p c s) j ≡ coord_of (get_or ts j nan) (get_or shrinks s nan) (o_at p c j)
unfolding row
row_at ts p c s j h = tab_at Coord no_coord (λ j. coord_of (get_or ts j nan) (get_or shrinks s nan) (p + 2 * bit_at c j)) 8 j h

pub row-slots : (ts : List Float) (p c s : ℕ) → Slots p c (row ts p c s)
row-slots ts p c s = record {
  rank_is = λ j f h l. subst (λ (x : Coord). get_or x.rank f 0 ≡ mark_k (o_at p c j) (slot_k x.k0 f)) (sym (row_at ts p c s j h))
      (coord_rank (get_or ts j nan) (get_or shrinks s nan) (o_at p c j) f l);
  w_is = λ j f h l. subst (λ (x : Coord). get_or x.w f 0 ≡ sq (mark_k (o_at p c j) (slot_k x.k0 f))) (sym (row_at ts p c s j h))
      (coord_w (get_or ts j nan) (get_or shrinks s nan) (o_at p c j) f l);
}

pub row_d : (ts : List Float) (p c s j f : ℕ) → j < 8 → f < 5 → get_or (coord_at (row ts p c s) j).d f nan
    ≡ sq_to (member (o_at p c j) (slot_k (coord_at (row ts p c s) j).k0 f)) (get_or ts j nan)
row_d ts p c s j f h l = subst
    (λ (x : Coord). get_or x.d f nan ≡ sq_to (member (o_at p c j) (slot_k x.k0 f)) (get_or ts j nan)) (sym (row_at ts p c s j h))
    (coord_d (get_or ts j nan) (get_or shrinks s nan) (o_at p c j) f l)

-- ---- all eight at their slots
pub slot_lt : (j0 fix j : ℕ) → fix < 5 → slot_of j0 fix j < 5
slot_lt j0 fix j F0 = go (eqb j j0)
  where
    go : (b : Bool) → cond b fix 2 < 5
    go true = F0
    go false = lit≤ tt

pub slot_at : (j0 fix : ℕ) → slot_of j0 fix j0 ≡ fix
slot_at j0 fix = ap (λ (b : Bool). cond b fix 2) (eq-eqb j0 j0 refl)

pub slot_off : (j0 fix j : ℕ) → j ≢ j0 → slot_of j0 fix j ≡ 2
slot_off j0 fix j d = ap (λ (b : Bool). cond b fix 2) (ne_eqb j j0 d)

pub slot-plain : (j0 j : ℕ) → slot_of j0 2 j ≡ 2
slot-plain j0 j = cond_same ℕ (eqb j j0) 2

module _ (p c : ℕ) (e : List Coord) (R : Slots p c e) (j0 fix : ℕ) (F0 : fix < 5) where
  abbrev k_s : ℕ → ℤ
  k_s j = slot_k (coord_at e j).k0 (slot_of j0 fix j)

  now_cost : (n : ℕ) → n ≤ 8 → (now_to e j0 fix n).cost ≡ sum_to (λ j. sq (mark_k (o_at p c j) (k_s j))) n
  unfolding now_to sum_to
  now_cost zero h = refl
  now_cost (suc n) h = ap₂ (λ (a b : ℕ). a + b) (now_cost n (omega arith)) (R.w_is n (slot_of j0 fix n) h (slot_lt j0 fix n F0))

  now_key : (n : ℕ) → n ≤ 8 → (i : ℕ) → i < 8 → rank_at (now_to e j0 fix n).key i ≡ cond (ltb i n) (mark_k (o_at p c i) (k_s i)) 0
  unfolding now_to
  now_key zero h i l = nib_zero i l ∙ ap (λ (b : Bool). cond b (mark_k (o_at p c i) (k_s i)) 0) (sym (le-ltb i 0 zero-le))
  now_key (suc n) h i l =
      ap (λ (x : ℕ). rank_at (bit_or (now_to e j0 fix n).key (x * 2 ^ (4 * n) % 4294967296)) i) (R.rank_is n (slot_of j0 fix n) h (slot_lt j0 fix n F0))
      ∙ nib_put (now_to e j0 fix n).key (mark_k (o_at p c n) (k_s n)) n i (rank_lt (o_at p c n) (k_s n)) h l
      (λ (q : i ≡ n). now_key n (omega arith) i l ∙ ap (λ (b : Bool). cond b (mark_k (o_at p c i) (k_s i)) 0) (le-ltb i n (le_of_eq (sym q))))
      ∙ go (ℕ_discrete i n) (now_key n (omega arith) i l)
    where
      go : Dec (i ≡ n) → rank_at (now_to e j0 fix n).key i ≡ cond (ltb i n) (mark_k (o_at p c i) (k_s i)) 0
          → cond (eqb i n) (mark_k (o_at p c n) (k_s n)) (rank_at (now_to e j0 fix n).key i) ≡ cond (ltb i (suc n)) (mark_k (o_at p c i) (k_s i)) 0
      go (yes q) r = subst (λ (z : ℕ).
          cond (eqb z n) (mark_k (o_at p c n) (k_s n)) (rank_at (now_to e j0 fix n).key z) ≡ cond (ltb z (suc n)) (mark_k (o_at p c z) (k_s z)) 0)
          (sym q)
          (ap (λ (b : Bool). cond b (mark_k (o_at p c n) (k_s n)) (rank_at (now_to e j0 fix n).key n)) (eq-eqb n n refl)
          ∙ ap (λ (b : Bool). cond b (mark_k (o_at p c n) (k_s n)) 0) (sym (lt-ltb n (suc n) (le_refl (suc n)))))
      go (no d) r = ap (λ (b : Bool). cond b (mark_k (o_at p c n) (k_s n)) (rank_at (now_to e j0 fix n).key i)) (ne_eqb i n d) ∙ r
          ∙ ap (λ (b : Bool). cond b (mark_k (o_at p c i) (k_s i)) 0) (same-ltb (ltb i n) (ltb→lt i n) (nltb→le i n) refl)
        where
          same-ltb : (t : Bool) → (T t → i < n) → (T (not t) → n ≤ i) → ltb i n ≡ t → ltb i n ≡ ltb i (suc n)
          same-ltb true a b q = q ∙ sym (lt-ltb i (suc n) (up (a tt)))
            where
              up : i < n → i < suc n
              up h = omega arith
          same-ltb false a b q = q ∙ sym (le-ltb i (suc n) (over (b tt)))
            where
              over : n ≤ i → suc n ≤ i
              over h = omega arith

  now-lt : (n : ℕ) → (now_to e j0 fix n).key < 2 ^ 32
  unfolding now_to
  now-lt zero = lit≤ tt
  now-lt (suc n) = or_lt 32 (now_to e j0 fix n).key (get_or (coord_at e n).rank (slot_of j0 fix n) 0 * 2 ^ (4 * n) % 4294967296) (now-lt n)
      (mod-lt (get_or (coord_at e n).rank (slot_of j0 fix n) 0 * 2 ^ (4 * n)) (zero-lt-suc 4294967295))

  pub now_shape : Shape p c k_s (now_to e j0 fix 8).cost (now_to e j0 fix 8).key
  now_shape = record {
    cost_is = now_cost 8 (le_refl 8);
    key-lt = now-lt 8;
    key_is = λ j h. now_key 8 (le_refl 8) j h ∙ ap (λ (b : Bool). cond b (mark_k (o_at p c j) (k_s j)) 0) (lt-ltb j 8 h);
  }

-- ---- one coordinate stepped
module _ (p c : ℕ) (k k' : ℕ → ℤ) (i : ℕ) (I0 : i < 8) (K0 : (j : ℕ) → j < 8 → j ≢ i → k' j ≡ k j) where
  abbrev o : ℕ
  o = o_at p c i

  abbrev wts : (ℕ → ℤ) → ℕ → ℕ
  wts k j = sq (mark_k (o_at p c j) (k j))

  pub step-shape : (cost key : ℕ) → Shape p c k cost key
      → Shape p c k' (cost - sq (mark_k o (k i)) + sq (mark_k o (k' i))) (key_set key i (mark_k o (k' i)))
  step-shape cost key C = record {
    cost_is = cost' cost (sum_to (wts k) 8) (sum_to (wts k') 8) (wts k i) (wts k' i) C.cost_is
        (sum_set (wts k') (wts k) i 8 I0 (λ j h d. ap (λ (z : ℤ). sq (mark_k (o_at p c j) z)) (K0 j h d))) (term-le (wts k) 8 i I0);
    key-lt = set-lt key (mark_k o (k' i)) i C.key-lt;
    key_is = key';
  }
    where
      cost' : (c s s' a b : ℕ) → c ≡ s → s' + a ≡ s + b → a ≤ s → c - a + b ≡ s'
      cost' c s s' a b x y z = omega arith

      key' : (j : ℕ) → j < 8 → rank_at (key_set key i (mark_k o (k' i))) j ≡ mark_k (o_at p c j) (k' j)
      key' j h = nib_set key (mark_k o (k' i)) i j (rank_lt o (k' i)) I0 h ∙ go (ℕ_discrete j i)
        where
          go : Dec (j ≡ i) → cond (eqb j i) (mark_k o (k' i)) (rank_at key j) ≡ mark_k (o_at p c j) (k' j)
          go (yes q) = subst (λ (z : ℕ). cond (eqb z i) (mark_k o (k' i)) (rank_at key z) ≡ mark_k (o_at p c z) (k' z)) (sym q)
              (ap (λ (b : Bool). cond b (mark_k o (k' i)) (rank_at key i)) (eq-eqb i i refl))
          go (no d) = ap (λ (b : Bool). cond b (mark_k o (k' i)) (rank_at key j)) (ne_eqb j i d) ∙ C.key_is j h
              ∙ ap (mark_k (o_at p c j)) (sym (K0 j h d))

-- ---- two coordinates stepped at once
module _ (p c : ℕ) (k k' : ℕ → ℤ) (i l : ℕ) (I0 : i < 8) (L0 : l < 8) (D0 : i ≢ l) (K0 : (j : ℕ) → j < 8 → j ≢ i → j ≢ l → k' j ≡ k j) where
  abbrev ws : (ℕ → ℤ) → ℕ → ℕ
  ws k j = sq (mark_k (o_at p c j) (k j))

  pub two-shape : (cost key : ℕ) → Shape p c k cost key
      → Shape p c k' (cost - ws k i - ws k l + ws k' i + ws k' l) (key_moved key i (mark_k (o_at p c i) (k' i)) l (mark_k (o_at p c l) (k' l)))
  two-shape cost key C = record {
    cost_is = cost' cost (sum_to (ws k) 8) (sum_to (ws k') 8) (ws k i) (ws k l) (ws k' i) (ws k' l) C.cost_is
        (sum-two (ws k') (ws k) i l 8 I0 L0 D0 (λ j h x y. ap (λ (z : ℤ). sq (mark_k (o_at p c j) z)) (K0 j h x y))) (pair-le (ws k) i l 8 I0 L0 D0);
    key-lt = key_lt';
    key_is = key';
  }
    where
      cost' : (c s s' a b r q : ℕ) → c ≡ s → s' + (a + b) ≡ s + (r + q) → a + b ≤ s → c - a - b + r + q ≡ s'
      cost' c s s' a b r q x y z = omega arith

      key_lt' : key_moved key i (mark_k (o_at p c i) (k' i)) l (mark_k (o_at p c l) (k' l)) < 2 ^ 32
      key_lt' = moved-lt key (mark_k (o_at p c i) (k' i)) i (mark_k (o_at p c l) (k' l)) l C.key-lt

      key' : (j : ℕ) → j < 8 → rank_at (key_moved key i (mark_k (o_at p c i) (k' i)) l (mark_k (o_at p c l) (k' l))) j ≡ mark_k (o_at p c j) (k' j)
      key' j h = nib_moved key (mark_k (o_at p c i) (k' i)) i (mark_k (o_at p c l) (k' l)) l j (rank_lt (o_at p c i) (k' i))
          (rank_lt (o_at p c l) (k' l)) I0 L0 h D0 ∙ go (ℕ_discrete j i) (ℕ_discrete j l)
        where
          go : Dec (j ≡ i) → Dec (j ≡ l)
              → cond (eqb j i) (mark_k (o_at p c i) (k' i)) (cond (eqb j l) (mark_k (o_at p c l) (k' l)) (rank_at key j)) ≡ mark_k (o_at p c j) (k' j)
          go (yes q) m = ap (λ (t : Bool). cond t (mark_k (o_at p c i) (k' i)) (cond (eqb j l) (mark_k (o_at p c l) (k' l)) (rank_at key j)))
              (eq-eqb j _ q) ∙ ap (λ (z : ℕ). mark_k (o_at p c z) (k' z)) (sym q)
          go (no d) (yes q) = ap (λ (t : Bool).
              cond t (mark_k (o_at p c i) (k' i)) (cond (eqb j l) (mark_k (o_at p c l) (k' l)) (rank_at key j))) (ne_eqb j i d)
              ∙ ap (λ (t : Bool). cond t (mark_k (o_at p c l) (k' l)) (rank_at key j)) (eq-eqb j _ q)
              ∙ ap (λ (z : ℕ). mark_k (o_at p c z) (k' z)) (sym q)
          go (no d) (no e) = ap (λ (t : Bool). cond t (mark_k (o_at p c i) (k' i)) (cond (eqb j l) (mark_k (o_at p c l) (k' l)) (rank_at key j)))
              (ne_eqb j i d) ∙ ap (λ (t : Bool). cond t (mark_k (o_at p c l) (k' l)) (rank_at key j)) (ne_eqb j l e) ∙ C.key_is j h
              ∙ ap (mark_k (o_at p c j)) (sym (K0 j h d e))

-- ---- the distance of all eight is their section's, summed afresh
abbrev pub Dists : List Float → ℕ → ℕ → List Coord → Type 0
Dists ts p c e = (j f : ℕ) → j < 8 → f < 5 → get_or (coord_at e j).d f nan ≡ sq_to (member (o_at p c j) (slot_k (coord_at e j).k0 f)) (get_or ts j nan)

pub now_dist : (ts : List Float) (p c : ℕ) (e : List Coord) → Dists ts p c e → (j0 fix : ℕ) → fix < 5 → (n : ℕ) → n ≤ 8
    → (now_to e j0 fix n).dist ≡ dist_to (λ j. member (o_at p c j) (slot_k (coord_at e j).k0 (slot_of j0 fix j))) ts n
unfolding now_to dist_to
now_dist ts p c e D j0 fix F0 zero h = refl
now_dist ts p c e D j0 fix F0 (suc n) h =
    ap₂ (add binary64) (now_dist ts p c e D j0 fix F0 n (omega arith)) (D n (slot_of j0 fix n) h (slot_lt j0 fix n F0))

-- ---- within a bound a candidate's key is its section's: ranks of at most 4 give their members back
pub shape_at : (p c : ℕ) → p < 2 → (b : Closed) → b.cost ≤ 96 → (k : ℕ → ℤ) (cost key : ℕ) → Shape p c k cost key → holds b cost key ≡ true
    → (j : ℕ) → j < 8 → section_at p c key j ≡ member (o_at p c j) (k j)
shape_at p c P0 b B0 k cost key C h j l =
    ap (val_of (o_at p c j)) (C.key_is j l)
    ∙ rank_back (o_at p c j) (k j) (o_lt p c j P0) (ranks-le (λ j. mark_k (o_at p c j) (k j)) b B0 cost key C.cost_is h j l)
