-- What `half_up` and `round` rest on: twice a number is exact, so a whole part of it rounds halves up; a negative number is turned round first.
-- Assumes nothing.
use Rattle.std.proofs.Common.{◌≡◌, ℕ, zero, suc, ◌+◌, ◌-◌, ◌*◌, ◌/◌, ◌^◌, ◌<◌, ◌≤◌, min, Bool, true, false, cond, T, ℤ, pos, ◌-ℤ◌, neg_ℤ, sym, refl, ap, ◌∙◌, subst, inl, inr, true≢false, le_trans, lt_of_lt_of_le, lt_of_le_of_lt, mul-le-mul_right, div-lt_iff_lt-mul, one-mul, arith, lit≤, pow_pos, w32, SFits, to_z, of_z}
use native.Mathlib.Nat.{div-div-eq-div-mul, add-mul-div_right}
use lib.IntN.{+ℤ_idl}
use lib.Signed.{mag}
use lib.Ieee.{Float, nan, inf, fin, binary64, up, down, fits, add, to_unsigned, lt, le, eq, neg}
use lib.Ieee.Fits.{down_pos, add-fits}
use lib.Ieee.Nearest.{div_same}
use lib.Ieee.Scale.{finite}
use mir.ValLaws.{to_z_pos, to_z-of_z}
use Rattle.laws.specs.Laws.Tests.{true_is}
use Rattle.float.specs.Value.{U, mag_units, is_minus, pos_units, neg_units, zero64}
use Rattle.float.specs.Calls.{half_up, round_away}
use Rattle.float.specs.Laws.Exact.{has_value, Exactly, double-exactly, neg-exactly, neg_mag, mag_parts}
use Rattle.float.specs.Laws.Compare.{is_lt, lt_zero, from_zero, not-lt_zero}
use Rattle.float.specs.Laws.Rounding.{Ranged, Small}

-- ---- the whole part of a number that is not negative
whole_part : (x : Float) → T (fits binary64 x) → T (finite x) → neg_units x ≡ 0 → mag_units x < 2 ^ 64 * U → to_unsigned 64 x ≡ mag_units x / U
unfolding to_unsigned
whole_part nan f i z h = absurd i
whole_part (inf s) f i z h = absurd i
whole_part (fin true m e) f i z h = ap (λ (k : ℕ). k / U) (sym z)
whole_part (fin false m e) f i z h =
    let x = fin false m e in
    let q : m * up e / down e ≡ mag_units x / U =
    div_same (m * up e) (down e) (mag_units x) U (down_pos e) (pow_pos 1074) (has_value x f tt).1 in
    uncapped (m * up e / down e) (2 ^ 64) (subst (λ (k : ℕ). k < 2 ^ 64) (sym q) ((div-lt_iff_lt-mul (pow_pos 1074)).1 h)) ∙ q
  where
    uncapped : (a c : ℕ) → a < c → min a (c - 1) ≡ a
    uncapped a c h = omega arith

-- (⌊2 a / u⌋ + 1) / 2 is ⌊a / u + 1 / 2⌋
halves : (a u : ℕ) → 0 < u → (a * 2 / u + 1) / 2 ≡ (a * 2 + u) / (u * 2)
halves a u P =
    ap (λ (k : ℕ). k / 2) (sym (subst (λ (k : ℕ). (a * 2 + k) / u ≡ a * 2 / u + 1) (one-mul u) (add-mul-div_right (a * 2) 1 P)))
    ∙ div-div-eq-div-mul (a * 2 + u) u 2

-- ---- z + z, for a z from 0 to a million
module _ (z : Float) (f : T (fits binary64 z)) (s : Small z) where
  twice : Exactly (add binary64 z z) (is_minus z) (mag_units z * 2)
  twice = double-exactly z f s.fin (lt_of_le_of_lt (mul-le-mul_right 2 s.low) (lit≤ tt))

  twice-lt : mag_units (add binary64 z z) < 2000001 * U
  twice-lt = subst (λ (k : ℕ). k < 2000001 * U) (sym twice.mag) (double (mag_units z) U s.low (pow_pos 1074))
    where
      double : (g u : ℕ) → g ≤ 1000000 * u → 0 < u → g * 2 < 2000001 * u
      double g u h P = omega arith

  twice_plain : neg_units (add binary64 z z) ≡ 0
  twice_plain = go (is_minus (add binary64 z z)) (is_minus z) (mag_units (add binary64 z z)) (mag_units z) twice.sign s.plain twice.mag
    where
      go : (r t : Bool) (g h : ℕ) → r ≡ t → cond t h 0 ≡ 0 → g ≡ h * 2 → cond r g 0 ≡ 0
      go false t g h e a b = refl
      go true false g h e a b = absurd (true≢false e)
      go true true g h e a b = omega arith

  cut : to_unsigned 64 (add binary64 z z) ≡ mag_units z * 2 / U
  cut =
      let big : 2000001 * U ≤ 2 ^ 64 * U = lit≤ tt in
      whole_part (add binary64 z z) (add-fits binary64 z z) twice.fin twice_plain (lt_of_lt_of_le twice-lt big)
      ∙ ap (λ (k : ℕ). k / U) twice.mag

  pub cut-lt : to_unsigned 64 (add binary64 z z) < 2000001
  cut-lt =
      subst (λ (k : ℕ). k < 2000001) (sym cut)
      ((div-lt_iff_lt-mul (pow_pos 1074)).1 (subst (λ (k : ℕ). k < 2000001 * U) twice.mag twice-lt))

  pub cut_rounds : (to_unsigned 64 (add binary64 z z) + 1) / 2 ≡ half_up z
  unfolding half_up
  cut_rounds = ap (λ (k : ℕ). (k + 1) / 2) cut ∙ halves (mag_units z) U (pow_pos 1074)

  -- what the truncation asks: -1 < z + z < 2 ^ 64
  pub asks_low : T (lt (fin true 1 (pos 0)) (add binary64 z z))
  asks_low =
      is_lt (fin true 1 (pos 0)) (add binary64 z z) (unfold fits in tt) (add-fits binary64 z z) tt twice.fin
      (over (neg_units (add binary64 z z)) (pos_units (add binary64 z z)) (mag_units (fin true 1 (pos 0))) twice_plain (unfold mag_units in lit≤ tt))
    where
      over : (a b c : ℕ) → a ≡ 0 → 0 < c → 0 + a < b + c
      over a b c e h = omega arith

  pub asks_high : T (lt (add binary64 z z) (fin false 1 (pos 64)))
  asks_high =
      is_lt (add binary64 z z) (fin false 1 (pos 64)) (add-fits binary64 z z) (unfold fits in tt) twice.fin tt
      (under (pos_units (add binary64 z z)) (neg_units (add binary64 z z)) (mag_units (add binary64 z z)) (mag_units (fin false 1 (pos 64)))
      twice_plain (mag_parts (add binary64 z z)) (lt_of_lt_of_le twice-lt (unfold mag_units in lit≤ tt)))
    where
      under : (p q g l : ℕ) → q ≡ 0 → g ≡ p + q → g < l → p + 0 < l + q
      under p q g l e a b = omega arith

-- ---- `round`, by the sign of the clamped number c
lt-finite : (c : Float) → Ranged c → lt c zero64 ≡ true → T (finite c) × (mag_units c ≤ 1000000 * U)
lt-finite c (inl e) t = absurd (true≢false (sym t ∙ ap (λ (x : Float). lt x zero64) e ∙ unfold lt in refl))
lt-finite c (inr r) t = r

le-finite : (c : Float) → Ranged c → le zero64 c ≡ true → T (finite c) × (mag_units c ≤ 1000000 * U)
le-finite c (inl e) t = absurd (true≢false (sym t ∙ ap (λ (x : Float). le zero64 x) e ∙ unfold le lt eq in refl))
le-finite c (inr r) t = r

module _ (c : Float) (f : T (fits binary64 c)) (r : Ranged c) where
  pub small_negative : lt c zero64 ≡ true → Small (neg c)
  small_negative t =
      let i = lt-finite c r t in
      let n = neg-exactly c i.0 in
      let m = lt_zero c f i.0 (true_is (lt c zero64) t) in
      record {
        fin = n.2;
        plain = n.1 ∙ ap (λ (s : Bool). cond s 0 (mag_units c)) m.0;
        low = subst (λ (g : ℕ). g ≤ 1000000 * U) (sym (neg_mag c)) i.1;
      }

  pub away_negative : lt c zero64 ≡ true → round_away c ≡ neg_ℤ (pos (half_up (neg c)))
  unfolding round_away half_up
  away_negative t =
      let i = lt-finite c r t in
      ap (λ (s : Bool). cond s (neg_ℤ (pos (half_up c))) (pos (half_up c))) (lt_zero c f i.0 (true_is (lt c zero64) t)).0
      ∙ ap (λ (g : ℕ). neg_ℤ (pos ((g * 2 + U) / (U * 2)))) (sym (neg_mag c))

  pub small_plain : le zero64 c ≡ true → Small c
  small_plain t =
      let i = le-finite c r t in
      record { fin = i.0; plain = from_zero c f i.0 (true_is (le zero64 c) t); low = i.1 }

  pub away_plain : le zero64 c ≡ true → round_away c ≡ pos (half_up c)
  unfolding round_away half_up
  away_plain t = go (is_minus c) (mag_units c) (small_plain t).plain
    where
      near : ℕ → ℕ
      near g = (g * 2 + U) / (U * 2)

      go : (s : Bool) (g : ℕ) → cond s g 0 ≡ 0 → cond s (neg_ℤ (pos (near g))) (pos (near g)) ≡ pos (near g)
      go false g h = refl
      go true g h = ap (λ (k : ℕ). neg_ℤ (pos (near k))) h ∙ ap (λ (k : ℕ). pos (near k)) (sym h)

  -- neither: a NaN
  pub away_nan : lt c zero64 ≡ false → le zero64 c ≡ false → pos 0 ≡ round_away c
  away_nan a b = go r
    where
      go : Ranged c → pos 0 ≡ round_away c
      go (inl e) = sym (ap round_away e ∙ unfold round_away half_up mag_units in refl)
      go (inr i) = absurd (subst T b (not-lt_zero c f i.0 a))

-- ---- an i32's bits and its number, up to a million
module _ (r : ℕ) (h : r ≤ 1000000) where
  pub read_back : to_z w32 r ≡ pos r
  read_back = to_z_pos w32 r (lt_of_le_of_lt h (lit≤ tt))

  minus_is : pos 0 -ℤ to_z w32 r ≡ neg_ℤ (pos r)
  minus_is = ap (λ (z : ℤ). pos 0 -ℤ z) read_back ∙ +ℤ_idl (neg_ℤ (pos r))

  neg_fits32 : SFits w32 (neg_ℤ (pos r))
  neg_fits32 = record { sfits = go r (2 ^ 31) (lit≤ tt) (le_trans h (lit≤ tt)) }
    where
      go : (r c : ℕ) → 0 < c → r ≤ c → mag (neg_ℤ (pos r)) < c
      go zero c p h = p
      go (suc r) c p h = h

  pub minus-fits : SFits w32 (pos 0 -ℤ to_z w32 r)
  minus-fits = subst (SFits w32) (sym minus_is) neg_fits32

  pub minus-reads : to_z w32 (of_z w32 (pos 0 -ℤ to_z w32 r)) ≡ neg_ℤ (pos r)
  minus-reads = ap (λ (z : ℤ). to_z w32 (of_z w32 z)) minus_is ∙ to_z-of_z w32 (neg_ℤ (pos r)) neg_fits32
