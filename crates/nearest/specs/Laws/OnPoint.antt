-- A point that has a word, taken as its own target: its distance is 0, and every other lattice point is at least 1 away. Assumes nothing.
use Rattle.std.specs.Prelude.{◌≡◌, refl, ◌≢◌, ◌⊎◌, List, [], ◌∷◌, ℕ, suc, ◌+◌, ◌*◌, ◌≤◌, ◌<◌, T, get_or, length, ℤ, pos, nat_abs, Float}
use Rattle.std.proofs.Common.{sym, ap, ap₂, ◌∙◌, subst, inl, inr, suc-le-suc, le_trans, le_of_eq, lt_of_lt_of_le, lt_of_le_of_lt, mul-le-mul, mul-le-mul_right, add-mul, suc-mul, zero-lt-suc, arith, lit≤}
use Rattle.std.proofs.lemmas.List.{length-map}
use Rattle.std.proofs.Math.IntN.{ℤ_discrete}
use Rattle.std.specs.Float.{nan, binary64}
use Rattle.std.specs.Float.Ieee.{fits, of_int}
use Rattle.std.specs.Float.Ieee.Scale.{finite}
use Rattle.laws.specs.Laws.Lists.{map_at}
use Rattle.laws.specs.Words.{pos_part, neg_part, gap}
use Rattle.float.specs.Value.{U}
use Rattle.float.specs.Laws.Exact.{IsWhole, of_int_whole}
use Rattle.float.specs.Distance.{coord_gap, sq_dist, margin}
use Rattle.tetra.specs.Lattice.{LatticePoint, HasWord}
use Rattle.tetra.specs.Demand2.{onto, coordinate-small}
use Rattle.nearest.specs.Laws.Ints.{apart_parts, less-or}
use Rattle.nearest.specs.Nearest.{Target, doubles}

-- ---- one coordinate: at the double of v, v is 0 away and every other whole number at least 1
no_gap : (v : ℤ) (x : Float) → IsWhole x v → coord_gap v x ≡ 0
no_gap v x w =
    ap₂ (λ (a b : ℕ). gap (pos_part v * U + a) (neg_part v * U + b)) w.neg_is w.pos_is ∙ zero_gap (pos_part v * U) (neg_part v * U)
  where
    zero_gap : (a b : ℕ) → gap (a + b) (b + a) ≡ 0
    zero_gap a b = omega arith

apart : (a b c e u : ℕ) → a + b < c + e → u ≤ gap (a * u + b * u) (e * u + c * u)
apart a b c e u h =
    let l : suc (a + b) * u ≤ (c + e) * u = mul-le-mul_right u h in
    flat (a * u) (b * u) (c * u) (e * u) u
    (le_trans (le_of_eq (sym (suc-mul (a + b) u ∙ ap (λ (n : ℕ). n + u) (add-mul a b u)))) (le_trans l (le_of_eq (add-mul c e u))))
  where
    flat : (a b c e u : ℕ) → a + b + u ≤ c + e → u ≤ gap (a + b) (e + c)
    flat a b c e u h = omega arith

turned : (a b c e u : ℕ) → c + e < a + b → u ≤ gap (a * u + b * u) (e * u + c * u)
turned a b c e u h =
    let l : u ≤ gap (c * u + e * u) (b * u + a * u) = apart c e a b u h in
    flat (a * u) (b * u) (c * u) (e * u) u l
  where
    flat : (a b c e u : ℕ) → u ≤ gap (c + e) (b + a) → u ≤ gap (a + b) (e + c)
    flat a b c e u h = omega arith

one_gap : (z v : ℤ) (x : Float) → IsWhole x v → z ≢ v → U ≤ coord_gap z x
one_gap z v x w d =
    subst (λ (n : ℕ). U ≤ n)
    (sym (ap₂ (λ (a b : ℕ). gap (pos_part z * U + a) (neg_part z * U + b)) w.neg_is w.pos_is))
    (go (less-or (pos_part z + neg_part v) (pos_part v + neg_part z) (apart_parts z v d)))
  where
    go : (pos_part z + neg_part v < pos_part v + neg_part z) ⊎ (pos_part v + neg_part z < pos_part z + neg_part v)
        → U ≤ gap (pos_part z * U + neg_part v * U) (neg_part z * U + pos_part v * U)
    go (inl h) = apart (pos_part z) (neg_part v) (pos_part v) (neg_part z) U h
    go (inr h) = turned (pos_part z) (neg_part v) (pos_part v) (neg_part z) U h

-- ---- a point whose coordinates are doubles
abbrev Exact : List ℤ → Type 0
Exact y = (i : ℕ) → i < length y → IsWhole (of_int binary64 (get_or y i (pos 0))) (get_or y i (pos 0))

no_distance : (y : List ℤ) → Exact y → sq_dist y (doubles y) ≡ 0
unfolding sq_dist
no_distance [] e = refl
no_distance (v ∷ y) e =
    ap₂ (λ (a b : ℕ). a * a + b) (no_gap v (of_int binary64 v) (e 0 (zero-lt-suc (length y)))) (no_distance y (λ i h. e (suc i) (suc-le-suc h)))

some_distance : (z y : List ℤ) → length z ≡ length y → Exact y → z ≢ y → U * U ≤ sq_dist z (doubles y)
unfolding sq_dist
some_distance [] [] l e d = absurd (d refl)
some_distance [] (v ∷ y) l e d = absurd (omega arith)
some_distance (u ∷ z) [] l e d = absurd (omega arith)
some_distance (u ∷ z) (v ∷ y) l e d = go (ℤ_discrete u v) (λ n. some_distance z y (omega arith) (λ i h. e (suc i) (suc-le-suc h)) n)
  where
    right : (a b m : ℕ) → m ≤ b → m ≤ a + b
    right a b m h = omega arith

    left : (a b m : ℕ) → m ≤ a → m ≤ a + b
    left a b m h = omega arith

    g : ℕ
    g = coord_gap u (of_int binary64 v)

    go : Dec (u ≡ v) → (z ≢ y → U * U ≤ sq_dist z (doubles y)) → U * U ≤ g * g + sq_dist z (doubles y)
    go (yes q) f = right (g * g) (sq_dist z (doubles y)) (U * U) (f (λ r. d (ap₂ {C = List ℤ} (λ a b. a ∷ b) q r)))
    go (no q) f =
        let h : U ≤ g = one_gap u v (of_int binary64 v) (e 0 (zero-lt-suc (length y))) q in
        left (g * g) (sq_dist z (doubles y)) (U * U) (mul-le-mul h h)

-- ---- a point that has a word
module _ (y : List ℤ) (W : HasWord y) where
  pub small : (i : ℕ) → i < 24 → nat_abs (get_or y i (pos 0)) ≤ 10
  small i h = let w = onto y W in subst (λ (l : List ℤ). nat_abs (get_or l i (pos 0)) ≤ 10) w.2 (coordinate-small w.0 i h)

  exact : Exact y
  exact i h = of_int_whole (get_or y i (pos 0)) (lt_of_le_of_lt (small i (subst (λ (n : ℕ). i < n) W.point.size h)) (lit≤ tt))

  double-at : (j : ℕ) → j < 24 → get_or (doubles y) j nan ≡ of_int binary64 (get_or y j (pos 0))
  double-at j h = map_at ℤ Float (of_int binary64) nan (pos 0) y j (subst (λ (n : ℕ). j < n) (sym W.point.size) h)

  pub on_target : Target (doubles y)
  on_target =
      record {
        size = length-map y (of_int binary64) ∙ W.point.size;
        double = λ j h. subst (λ (x : Float). T (fits binary64 x)) (sym (double-at j h)) (exact j (inside j h)).fit;
        bounded = λ j h. subst (λ (x : Float). T (finite x)) (sym (double-at j h)) (exact j (inside j h)).fin;
      }
    where
      inside : (j : ℕ) → j < 24 → j < length y
      inside j h = subst (λ (n : ℕ). j < n) (sym W.point.size) h

  -- every other lattice point is further by 1, which is more than 2 ^ -20
  pub alone : (z : List ℤ) → LatticePoint z → z ≢ y → sq_dist y (doubles y) + margin < sq_dist z (doubles y)
  alone z Z d =
      subst (λ (n : ℕ). n + margin < sq_dist z (doubles y)) (sym (no_distance y exact))
      (lt_of_lt_of_le (lit≤ tt) (some_distance z y (Z.size ∙ sym W.point.size) exact d))
