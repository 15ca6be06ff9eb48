-- Laws of the rounding to a whole number and of the clamp before it: within a half, the range, and what the nearest o + 4 k is worth.
-- Assumes nothing.
use Rattle.std.specs.Prelude.{◌≡◌, ℕ, zero, suc, ◌+◌, ◌*◌, ◌/◌, ◌%◌, ◌^◌, ◌<◌, ◌≤◌, Bool, true, false, cond, T, ◌⊎◌, ℤ, pos, neg_ℤ, unsigned_abs, refl, Float}
use Rattle.std.proofs.Common.{sym, ap, ◌∙◌, subst, inl, inr, le_trans, le_of_eq, le_of_lt, le_of_suc-le-suc, lt_of_mul-lt-mul_right, le-add_right, zero-lt-suc, mul_assoc, mul_comm, add-mul, mul-add, zero-mul, mul-pos, mul-le-mul, mul-le-mul_left, mul-le-mul_right, div-mul-le_self, div-add-mod', mod-lt, arith, pow_pos}
use Rattle.std.proofs.Math.Dec.{lit≤}
use Rattle.std.specs.Float.{nan, inf, fin, binary64}
use Rattle.std.specs.Float.Ieee.{fits, sub, div, lt}
use Rattle.std.specs.Float.Ieee.Fits.{cond-fits}
use Rattle.std.specs.Float.Ieee.Scale.{finite}
use Rattle.laws.specs.Laws.Tests.{is_false}
use Rattle.laws.specs.Laws.Order.{le-or-lt}
use Rattle.laws.specs.Words.{pos_part, neg_part, gap}
use Rattle.float.specs.Value.{U, mag_units, is_minus, pos_units, neg_units, four64}
use Rattle.float.specs.Calls.{abs_of, half_up, round_away, million64, minus_million64, clamped, rounded}
use Rattle.float.specs.Laws.Compare.{lt_is, not-lt_is}
use Rattle.float.specs.Laws.Near.{Near, near_self, near-more, near-scale, near-abs}
use Rattle.float.specs.Laws.Arithmetic.{near_sub, near_quarter}

-- ---- the rounded magnitude is within a half of the magnitude, and a half goes up
pub record Halved (x : Float) : Type 0 where
  pub hi : half_up x * U * 2 ≤ mag_units x * 2 + U
  pub lo : mag_units x * 2 < half_up x * U * 2 + U

-- the quotient of 2 g + u by 2 u
cut_hi : (g u : ℕ) → (g * 2 + u) / (u * 2) * u * 2 ≤ g * 2 + u
cut_hi g u = le_trans (le_of_eq (mul_assoc ((g * 2 + u) / (u * 2)) u 2)) (div-mul-le_self (g * 2 + u) (u * 2))

cut_lo : (g u : ℕ) → 0 < u → g * 2 < (g * 2 + u) / (u * 2) * u * 2 + u
cut_lo g u P =
    let q = (g * 2 + u) / (u * 2) in
    let r = (g * 2 + u) % (u * 2) in
    go r (q * (u * 2)) (q * u * 2) (div-add-mod' (g * 2 + u) (u * 2)) (mod-lt (g * 2 + u) (mul-pos P (zero-lt-suc 1))) (mul_assoc q u 2)
  where
    go : (r a b : ℕ) → a + r ≡ g * 2 + u → r < u * 2 → b ≡ a → g * 2 < b + u
    go r a b x y z = omega arith

pub halved : (x : Float) → Halved x
unfolding half_up
halved x = record { hi = cut_hi (mag_units x) U; lo = cut_lo (mag_units x) U (pow_pos 1074) }

-- r is the whole number of the magnitude h, with the sign s: its magnitude and its two parts
abbrev Signed : Bool → ℕ → ℤ → Type 0
Signed s h r = (unsigned_abs r ≡ h) × (pos_part r ≡ cond s 0 h) × (neg_part r ≡ cond s h 0)

round-parts : (x : Float) → Signed (is_minus x) (half_up x) (round_away x)
unfolding round_away
round-parts x = go (is_minus x) (half_up x)
  where
    go : (s : Bool) (h : ℕ) → Signed s h (cond s (neg_ℤ (pos h)) (pos h))
    go false h = (refl, refl, refl)
    go true zero = (refl, refl, refl)
    go true (suc h) = (refl, refl, refl)

-- ---- the range
pub million_units : mag_units million64 ≡ 1000000 * U
unfolding mag_units
million_units = refl

minus_units : mag_units minus_million64 ≡ 1000000 * U
unfolding mag_units
minus_units = refl

pub million-fits : T (fits binary64 million64)
unfolding fits
million-fits = tt

minus-fits : T (fits binary64 minus_million64)
unfolding fits
minus-fits = tt

pub clamped-fits : (z : Float) → T (fits binary64 z) → T (fits binary64 (clamped z))
unfolding clamped
clamped-fits z f =
    cond-fits binary64 (lt z minus_million64) minus_million64 (cond (lt million64 z) million64 z) minus-fits
    (cond-fits binary64 (lt million64 z) million64 z million-fits f)

-- a clamped number is a NaN, or at most a million in size
abbrev pub Ranged : Float → Type 0
Ranged c = (c ≡ nan) ⊎ (T (finite c) × (mag_units c ≤ 1000000 * U))

-- a number that is neither below -M nor above M, both of m units
between : (s : Bool) (g m n k : ℕ) → m ≡ k → n ≡ k → 0 + cond s g 0 ≤ cond s 0 g + n → cond s 0 g + 0 ≤ m + cond s g 0 → g ≤ k
between false g m n k d e h l = omega arith
between true g m n k d e h l = omega arith

pub clamped_range : (z : Float) → T (fits binary64 z) → Ranged (clamped z)
unfolding clamped lt
clamped_range nan f = inl refl
clamped_range (inf true) f = inr (tt, le_of_eq minus_units)
clamped_range (inf false) f = inr (tt, le_of_eq million_units)
clamped_range (fin s m e) f = go (lt z minus_million64) (lt million64 z) refl refl
  where
    z : Float
    z = fin s m e

    go : (a b : Bool) → lt z minus_million64 ≡ a → lt million64 z ≡ b → Ranged (cond a minus_million64 (cond b million64 z))
    go true b p q = inr (tt, le_of_eq minus_units)
    go false true p q = inr (tt, le_of_eq million_units)
    go false false p q = inr (
      tt,
      between s (mag_units z) (mag_units million64) (mag_units minus_million64) (1000000 * U) million_units minus_units
          (not-lt_is z minus_million64 f minus-fits tt tt p) (not-lt_is million64 z million-fits f tt tt q),
    )

-- and a number that is at most a million in size stays
pub clamped-small : (z : Float) → T (fits binary64 z) → T (finite z) → mag_units z ≤ 1000000 * U → clamped z ≡ z
unfolding clamped
clamped-small z f i h =
    ap (λ (b : Bool). cond b minus_million64 (cond (lt million64 z) million64 z)) (is_false (lt z minus_million64) below)
    ∙ ap (λ (b : Bool). cond b million64 z) (is_false (lt million64 z) above)
  where
    low : (s : Bool) (g n k : ℕ) → n ≡ k → g ≤ k → cond s 0 g + n < 0 + cond s g 0 → ⊥
    low false g n k e h l = omega arith
    low true g n k e h l = omega arith

    high : (s : Bool) (g n k : ℕ) → n ≡ k → g ≤ k → n + cond s g 0 < cond s 0 g + 0 → ⊥
    high false g n k e h l = omega arith
    high true g n k e h l = omega arith

    below : T (lt z minus_million64) → ⊥
    below t = low (is_minus z) (mag_units z) (mag_units minus_million64) (1000000 * U) minus_units h (lt_is z minus_million64 f minus-fits i tt t)

    above : T (lt million64 z) → ⊥
    above t = high (is_minus z) (mag_units z) (mag_units million64) (1000000 * U) million_units h (lt_is million64 z million-fits f tt i t)

pub rounded-small : (z : Float) → T (fits binary64 z) → T (finite z) → mag_units z ≤ 1000000 * U → rounded z ≡ round_away z
unfolding rounded
rounded-small z f i h = ap round_away (clamped-small z f i h)

pub half_up-le : (x : Float) → mag_units x ≤ 1000000 * U → half_up x ≤ 1000000
half_up-le x h =
    le_of_suc-le-suc
    (lt_of_mul-lt-mul_right U
    (under (half_up x * U) (mag_units x) U (1000000 * U) (1000001 * U) (halved x).hi h (lit≤ tt) (pow_pos 1074)))
  where
    under : (a g u m n : ℕ) → a * 2 ≤ g * 2 + u → g ≤ m → m + u ≤ n → 0 < u → a < n
    under a g u m n p q r s = omega arith

-- a number from 0 (of either sign) to a million
pub record Small (z : Float) : Type 0 where
  pub fin : T (finite z)
  pub plain : neg_units z ≡ 0
  pub low : mag_units z ≤ 1000000 * U

-- the answer is at most a million in size
pub rounded-le : (z : Float) → T (fits binary64 z) → unsigned_abs (rounded z) ≤ 1000000
unfolding rounded
rounded-le z f =
    elim (clamped_range z f) [
      | inl e ↦ subst (λ (c : Float). unsigned_abs (round_away c) ≤ 1000000) (sym e) none
      | inr r ↦ size (clamped z) r.1
    ]
  where
    none : unsigned_abs (round_away nan) ≤ 1000000
    none = unfold round_away half_up mag_units in lit≤ tt

    size : (c : Float) → mag_units c ≤ 1000000 * U → unsigned_abs (round_away c) ≤ 1000000
    size c h = le_trans (le_of_eq (round-parts c).0) (half_up-le c h)

-- ---- k = round_away z for z near (t - o) / 4: 4 k is within 2 of t - o, but for the error
abbrev Two : ℕ → ℕ → ℕ → ℕ → ℕ → ℕ → Type 0
Two pk nk p n u e = (p + nk * u * 4 ≤ pk * u * 4 + n + (2 * u + e)) × (pk * u * 4 + n ≤ p + nk * u * 4 + (2 * u + e))

-- a sign, a magnitude g, its rounded h, the unit u
two : (s : Bool) (g h u p n e : ℕ) → h * u * 2 ≤ g * 2 + u → g * 2 ≤ h * u * 2 + u → p + cond s g 0 * 4 ≤ cond s 0 g * 4 + n + e
    → cond s 0 g * 4 + n ≤ p + cond s g 0 * 4 + e → Two (cond s 0 h) (cond s h 0) p n u e
two false g h u p n e a b c d = let z : 0 * u ≡ 0 = zero-mul u in (omega arith, omega arith)
two true g h u p n e a b c d = let z : 0 * u ≡ 0 = zero-mul u in (omega arith, omega arith)

pub round-close : {z : Float} {p n e : ℕ} → Near 4 z p n e → Two (pos_part (round_away z)) (neg_part (round_away z)) p n U e
round-close {z} {p} {n} {e} a =
    let h = halved z in
    subst (λ (i : ℕ). Two i (neg_part (round_away z)) p n U e) (sym (round-parts z).1)
    (subst (λ (j : ℕ). Two (cond (is_minus z) 0 (half_up z)) j p n U e) (sym (round-parts z).2)
    (two (is_minus z) (mag_units z) (half_up z) U p n e h.hi (le_of_lt h.lo) a.lo a.hi))

-- So no other k is nearer by more than the error: g0 is the distance of this one, g that of another, which lies at least 4 away.
pub round-best : (g0 g u e : ℕ) → g0 ≤ 2 * u + e → 4 * u ≤ g + g0 → g0 * g0 ≤ g * g + (e + e) * (4 * u + 2 * e)
round-best g0 g u e h k =
    elim (le-or-lt g0 g) [
      | inl l ↦ le_trans (mul-le-mul l l) (le-add_right (g * g) ((e + e) * (4 * u + 2 * e)))
      | inr l ↦
          let d : g0 ≤ g + (e + e) = omega arith in
          let s : g0 + g ≤ 4 * u + 2 * e = omega arith in
          let a : g0 * g0 ≤ (g + (e + e)) * g0 = mul-le-mul_right g0 d in
          let b : (g + (e + e)) * g0 ≡ g * g0 + (e + e) * g0 = add-mul g (e + e) g0 in
          let c : g * g0 ≤ g * (g + (e + e)) = mul-le-mul_left g d in
          let f : g * (g + (e + e)) ≡ g * g + g * (e + e) = mul-add g g (e + e) in
          let i : g * (e + e) ≡ (e + e) * g = mul_comm g (e + e) in
          let j : (e + e) * (g0 + g) ≡ (e + e) * g0 + (e + e) * g = mul-add (e + e) g0 g in
          let m : (e + e) * (g0 + g) ≤ (e + e) * (4 * u + 2 * e) = mul-le-mul_left (e + e) s in
          omega arith
    ]

-- ---- the regret | (t - o) / 4 - k |, in quarters of a unit, for sizes below 64: within 2 ^ -44
pub near_regret : (t o k : Float) → T (fits binary64 t) → T (fits binary64 o) → T (fits binary64 k) → T (finite t) → T (finite o) → T (finite k)
    → mag_units t + mag_units o < 2 ^ 1080 → mag_units (sub binary64 t o) < 2 ^ 1080 * 4
    → mag_units (div binary64 (sub binary64 t o) four64) + mag_units k < 2 ^ 1080
    → Near 4 (abs_of (sub binary64 (div binary64 (sub binary64 t o) four64) k))
    (gap (pos_units t + neg_units o + neg_units k * 4) (neg_units t + pos_units o + pos_units k * 4)) 0 (2 ^ 1030)
near_regret t o k ft fo fk it io ik h1 h2 h3 =
    let a : Near 1 (sub binary64 t o) (pos_units t + neg_units o) (neg_units t + pos_units o) (2 ^ 1026) =
    near_sub 6 (near_self t ft it) (near_self o fo io) (lit≤ tt) h1 in
    let z : Near 4 (div binary64 (sub binary64 t o) four64) (pos_units t + neg_units o) (neg_units t + pos_units o) (2 ^ 1026 + 2 ^ 1026 * 4) =
    near_quarter 6 a (lit≤ tt) h2 in
    let d = near_sub 6 z (near-scale 4 (near_self k fk ik)) (lit≤ tt) h3 in
    near-abs (near-more (2 ^ 1030) d (lit≤ tt))
