-- The point of a word's fields: its parity, bits and ranks; and that the parity of the sum of k of such a point is that of its three classes.
-- Assumes nothing.
use Rattle.std.specs.Prelude.{◌≡◌, ℕ, zero, suc, ◌+◌, ◌*◌, ◌/◌, ◌%◌, ◌^◌, ◌<◌, ◌≤◌, leb, ℤ, pos, get_or, drop}
use Rattle.std.proofs.Math.Path.{refl, ap, ap₂, sym, subst}
use Rattle.std.proofs.Common.{◌∙◌, not-suc-le-zero, le_of_suc-le-suc, div-one, zero-add, add_assoc, zero-mul, suc-mul, arith, one-add, shr-shr, leb→le}
use mathlib.Core.List.{List, [], ◌∷◌, ◌++◌, map}
use Rattle.std.proofs.Math.Nat.{mod-eq_of_lt, add-mod, add-mod-mod}
use Rattle.std.proofs.Math.Dec.{T}
use Rattle.std.proofs.Math.IntN.{nat_abs}
use Rattle.std.proofs.Math.ListN.{length, take}
use Rattle.laws.specs.Laws.Tests.{upto, below2}
use Rattle.laws.specs.Words.{mod_z}
use Rattle.laws.specs.Words.{weight}
use Rattle.word.specs.Word.{Narrow}
use Rattle.word.specs.declared.Fields.{Fields}
use Rattle.rank.specs.Coord.{rank_of, val_of}
use Rattle.rank.specs.Vector.{ranks_below, k_zero, class}
use Rattle.rank.specs.Laws.Vector.{rank_first, rank_rest, below_up, more-below, below_at_lem}
use Rattle.rank.specs.Section.{point_at, uniform, bits_of, ranks_of, k_sum}
use Rattle.rank.specs.Laws.Section.{point-uniform, point-bits, point-ranks, point-length, k_sum_lem}
use Rattle.rows.specs.Table.{row_ranks, middle_class, middle_row}
use Rattle.rows.specs.Laws.Rule.{row-class, row_ranks_lem}
use Rattle.rows.specs.Laws.Places.{number-class}
use Rattle.rows.specs.Laws.Middle.{middle-lt, middle_row-class}
use Rattle.trellis.specs.Code.{codeword_of, columns, label}
use Rattle.trellis.specs.Laws.Code.{word_lt, weight-even}
use Rattle.tetra.specs.Lattice.{Codeword}
use Rattle.tetra.specs.Tetra.{codeword_at, third_class, ranks_at, trio_point}

-- ---- ranks one after another
map-take : (A B : Type 0) (f : A → B) (n : ℕ) (xs : List A) → map f (take n xs) ≡ take n (map f xs)
map-take A B f zero xs = refl
map-take A B f (suc n) [] = refl
map-take A B f (suc n) (x ∷ xs) = ap (λ (l : List B). f x ∷ l) (map-take A B f n xs)

map-drop : (A B : Type 0) (f : A → B) (n : ℕ) (xs : List A) → map f (drop n xs) ≡ drop n (map f xs)
map-drop A B f zero xs = refl
map-drop A B f (suc n) [] = refl
map-drop A B f (suc n) (x ∷ xs) = map-drop A B f n xs

-- the ranks of a part are that part of the ranks
pub ranks-part : (m : ℕ) (t : List ℤ) → ranks_of (take 8 (drop m t)) ≡ take 8 (drop m (ranks_of t))
ranks-part m t = map-take ℤ ℕ rank_of 8 (drop m t) ∙ ap (take 8) (map-drop ℤ ℕ rank_of m t)

pub below-append : (b : ℕ) (u v : List ℕ) → T (ranks_below b u) → T (ranks_below b v) → T (ranks_below b (u ++ v))
below-append b [] v s t = t
below-append b (r ∷ u) v s t = more-below b r (u ++ v) (rank_first b r u s) (below-append b u v (rank_rest b r u s) t)

k-append : (u v : List ℕ) → k_zero (u ++ v) ≡ k_zero u + k_zero v
k-append [] v = sym (zero-add (k_zero v))
k-append (r ∷ u) v = ap (λ (n : ℕ). (r + 1) / 2 + n) (k-append u v) ∙ sym (add_assoc ((r + 1) / 2) (k_zero u) (k_zero v))

-- the class of three sections is the sum of theirs
pub class-three : (u v w : List ℕ) → class (u ++ (v ++ w)) ≡ (class u + class v + class w) % 2
class-three u v w =
    ap (λ (n : ℕ). n % 2) (k-append u (v ++ w) ∙ ap (λ (n : ℕ). k_zero u + n) (k-append v w)) ∙ three (k_zero u) (k_zero v) (k_zero w)
  where
    three : (a b c : ℕ) → (a + (b + c)) % 2 ≡ (a % 2 + b % 2 + c % 2) % 2
    three a b c =
        add-mod a (b + c) 2 ∙ ap (λ (x : ℕ). (a % 2 + x) % 2) (add-mod b c 2) ∙ add-mod-mod (a % 2) (b % 2 + c % 2) 2
        ∙ ap (λ (x : ℕ). x % 2) (sym (add_assoc (a % 2) (b % 2) (c % 2)))

-- ---- the sum of k over a row of 24 coordinates of one parity whose bits are a codeword: its weight is even, so bits count for nothing
pub even_times : (p m : ℕ) → m % 2 ≡ 0 → (p * m) % 2 ≡ 0
even_times zero m e = ap (λ (x : ℕ). x % 2) (zero-mul m)
even_times (suc p) m e = omega (arith, even_times p m e, suc-mul p m)

pub drop-even : (a b : ℕ) → b % 2 ≡ 0 → (a + b) % 2 ≡ a % 2
drop-even a b e = omega arith

pub k_classes : (p : ℕ) (t : List ℤ) → length t ≡ 24 → Codeword (bits_of t) → T (uniform p t) → T (ranks_below 8 (ranks_of t))
    → mod_z (k_sum t) 2 ≡ class (ranks_of t)
k_classes p t e c u s =
    k_sum_lem p t u s
    ∙ drop-even (k_zero (ranks_of t)) (p * weight (length t) (bits_of t))
    (even_times p (weight (length t) (bits_of t))
    (ap₂ (λ (d w : ℕ). weight d w % 2) e (sym c.made) ∙ weight-even c.label))

-- ---- coordinate by coordinate
pub point_at_lem : (p c : ℕ) (v : List ℕ) (j : ℕ) → j < length v
    → get_or (point_at p c v) j (pos 0) ≡ val_of (p + 2 * (c / 2 ^ j % 2)) (get_or v j 0)
unfolding point_at
point_at_lem p c [] j h = absurd (not-suc-le-zero h)
point_at_lem p c (r ∷ v) zero h = ap (λ (x : ℕ). val_of (p + 2 * (x % 2)) r) (sym (div-one c))
point_at_lem p c (r ∷ v) (suc j) h =
    point_at_lem p (c / 2) v j (le_of_suc-le-suc h)
    ∙ ap (λ (x : ℕ). val_of (p + 2 * (x % 2)) (get_or v j 0)) (shr-shr c 1 j ∙ ap (λ (n : ℕ). c / 2 ^ n) (one-add j))

-- of rank 4 or less a coordinate is at most 10 in magnitude
all_small : T (upto 4 (λ (o : ℕ). upto 5 (λ (r : ℕ). leb (nat_abs (val_of o r)) 10)))
unfolding val_of
all_small = tt

value-small : (o r : ℕ) → o < 4 → r < 5 → nat_abs (val_of o r) ≤ 10
value-small o r ho hr = leb→le (nat_abs (val_of o r)) 10 (below2 4 5 (λ (a b : ℕ). leb (nat_abs (val_of a b)) 10) all_small o r ho hr)

-- ---- the point of fields that fit
-- the ranks of a row are below 8
pub row_small : (i : ℕ) → i < 4096 → T (ranks_below 8 (row_ranks i))
row_small i h = below_up 5 8 (omega arith) (row_ranks i) (row_ranks_lem i h)

pub third-lt : (f : Fields) → third_class f < 2
unfolding third_class
third-lt f = omega arith

third_closes : (f : Fields) → f.p < 2 → (f.r + middle_class f.i2 + third_class f) % 2 ≡ f.p
unfolding third_class
third_closes f h = omega arith

module _ (f : Fields) (n : Narrow f) where
  pub first-row : 2048 * f.r + f.i1 < 4096
  first-row = omega arith

  second-row : middle_row f.i2 < 4096
  second-row = middle-lt f.i2 n.i2

  pub third-row : 2048 * third_class f + f.i3 < 4096
  third-row = omega (arith, third-lt f)

  ranks_size : length (ranks_at f) ≡ 24
  unfolding ranks_at row_ranks
  ranks_size = refl

  ranks-small : T (ranks_below 5 (ranks_at f))
  unfolding ranks_at
  ranks-small =
      let u = row_ranks (2048 * f.r + f.i1) in
      let v = row_ranks (middle_row f.i2) in
      let w = row_ranks (2048 * third_class f + f.i3) in
      below-append 5 u (v ++ w) (row_ranks_lem (2048 * f.r + f.i1) first-row)
      (below-append 5 v w (row_ranks_lem (middle_row f.i2) second-row) (row_ranks_lem (2048 * third_class f + f.i3) third-row))

  ranks_below_lem : T (ranks_below 8 (ranks_at f))
  ranks_below_lem = below_up 5 8 (omega arith) (ranks_at f) ranks-small

  pub point_size : length (trio_point f) ≡ 24
  unfolding trio_point
  point_size = point-length f.p (codeword_at f) (ranks_at f) ∙ ranks_size

  pub point-parity : T (uniform f.p (trio_point f))
  unfolding trio_point
  point-parity = point-uniform f.p n.p (codeword_at f) (ranks_at f) ranks_below_lem

  pub bits_are : bits_of (trio_point f) ≡ codeword_at f
  unfolding trio_point codeword_at
  bits_are =
      let x = label f.s8 f.b1 f.b2 f.b3 in
      point-bits f.p n.p (codeword_of columns x) (ranks_at f) ranks_below_lem ∙ ap (λ (m : ℕ). codeword_of columns x % 2 ^ m) ranks_size
      ∙ mod-eq_of_lt (word_lt x)

  pub point-codeword : Codeword (bits_of (trio_point f))
  unfolding codeword_at
  point-codeword = record { label = label f.s8 f.b1 f.b2 f.b3; made = sym bits_are }

  ranks_are : ranks_of (trio_point f) ≡ ranks_at f
  unfolding trio_point
  ranks_are = point-ranks f.p n.p (codeword_at f) (ranks_at f) ranks_below_lem

  -- section by section
  pub first_is : ranks_of (take 8 (drop 0 (trio_point f))) ≡ row_ranks (2048 * f.r + f.i1)
  unfolding ranks_at row_ranks
  first_is = ranks-part 0 (trio_point f) ∙ ap (take 8) ranks_are

  pub second_is : ranks_of (take 8 (drop 8 (trio_point f))) ≡ row_ranks (middle_row f.i2)
  unfolding ranks_at row_ranks
  second_is = ranks-part 8 (trio_point f) ∙ ap (λ (v : List ℕ). take 8 (drop 8 v)) ranks_are

  pub third_is : ranks_of (take 8 (drop 16 (trio_point f))) ≡ row_ranks (2048 * third_class f + f.i3)
  unfolding ranks_at row_ranks
  third_is = ranks-part 16 (trio_point f) ∙ ap (λ (v : List ℕ). take 8 (drop 16 v)) ranks_are

  -- the classes of the sections add up to p
  pub point-sum : mod_z (k_sum (trio_point f)) 2 ≡ f.p
  unfolding ranks_at
  point-sum =
      let u = row_ranks (2048 * f.r + f.i1) in
      let v = row_ranks (middle_row f.i2) in
      let w = row_ranks (2048 * third_class f + f.i3) in
      let cu : class u ≡ f.r = row-class (2048 * f.r + f.i1) first-row ∙ number-class f.r f.i1 n.i1 in
      let cv : class v ≡ middle_class f.i2 = row-class (middle_row f.i2) second-row ∙ middle_row-class f.i2 n.i2 in
      let cw : class w ≡ third_class f =
      row-class (2048 * third_class f + f.i3) third-row ∙ number-class (third_class f) f.i3 n.i3 in
      k_classes f.p (trio_point f) point_size point-codeword point-parity
      (subst (λ (l : List ℕ). T (ranks_below 8 l)) (sym ranks_are) ranks_below_lem)
      ∙ ap class ranks_are ∙ class-three u v w ∙ ap₂ (λ (a b : ℕ). (a + b + class w) % 2) cu cv
      ∙ ap (λ (c : ℕ). (f.r + middle_class f.i2 + c) % 2) cw ∙ third_closes f n.p

  pub point-small : (j : ℕ) → j < 24 → nat_abs (get_or (trio_point f) j (pos 0)) ≤ 10
  unfolding trio_point
  point-small j h =
      let l : j < length (ranks_at f) = omega (arith, ranks_size) in
      subst (λ (z : ℤ). nat_abs z ≤ 10) (sym (point_at_lem f.p (codeword_at f) (ranks_at f) j l))
      (value-small (f.p + 2 * (codeword_at f / 2 ^ j % 2)) (get_or (ranks_at f) j 0) (omega arith) (below_at_lem 5 (ranks_at f) ranks-small j l))
