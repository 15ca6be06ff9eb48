-- The steps one after another, and the answer for every double. Assumes nothing.
use mathlib.Core.Path.{◌≡◌, refl, sym, ap, ◌∙◌, subst}
use mathlib.Core.Bool.{Bool, true, false, cond, not, true≢false}
use mathlib.Core.Logic.{inl, inr}
use Prim.Native.Nat.{ℕ, zero, suc, ◌+◌, ◌-◌, ◌*◌, ◌/◌, ◌^◌, ◌≤◌, ◌<◌}
use native.Mathlib.Nat.{lt_irrefl, mul_assoc, mul_comm, mul_left_comm}
use native.Mathlib.Omega.{arith}
use borrow.Author.Tests.{lt-ltb, le-ltb}
use lib.Dec.{T}
use lib.Pow.{pow-add}
use lib.Ieee.{Float, nan, inf, fin, binary64, fits, eq, lt, of_bits, nan_bits}
use lib.Ieee.Bits.{nan_bits_is}
use lib.Ieee.Scale.{finite}
use Rattle.laws.specs.Laws.Tests.{true_is}
use Rattle.float.specs.Value.{U, mag_units, zero64}
use Rattle.float.specs.Laws.Exact.{Exactly, no_nan, no_digits, some-digits, zero-fits, zero_mag}
use Rattle.float.specs.Laws.Compare.{is_lt, zero-lt, eq_zero, zero-eq}
use Rattle.root.specs.Root.{NearestRoot, nearer, root_of, rooted, no_root}
use Rattle.root.specs.Nearest.{nearest_unique, root-nearest}
use Rattle.root.specs.Laws.{Floor, sq-next, nearer_full, nearer-top, nearest_of}
use Rattle.root.specs.Inner.{Above, Apart, Even, Raised, IsRoot, Picked}
use Rattle.root.proofs.Bits.{made}

-- ---- the whole root, and the number that is picked
floor_of : {n root rem : ℕ} → IsRoot n root rem → Floor n root
floor_of {n} {root} {rem} i =
    let a = sq-next root in
    record { low = omega (arith, i.sum); high = omega (arith, i.sum, i.low) }

picked_is : {n root rem r : ℕ} → IsRoot n root rem → Picked root rem r → r ≡ nearer root n
picked_is {n} {root} {rem} {r} i c =
    elim c [
      | inl w ↦ w.1 ∙ sym (ap (λ (b : Bool). cond b (root + 1) root) (lt-ltb (root * root + root) n (omega (arith, i.sum, w.0))))
      | inr w ↦ w.1 ∙ sym (ap (λ (b : Bool). cond b (root + 1) root) (le-ltb (root * root + root) n (omega (arith, i.sum, w.0))))
    ]

-- ---- the radicand: x is m * 2 ^ (c + c) units, n is m * (2 ^ h * 2 ^ h) * 2 ^ 52, and h + k is c + 511
radicand : (m c h k : ℕ) → h + k ≡ c + 511 → m * 2 ^ (c + c) * U ≡ m * (2 ^ h * 2 ^ h) * 2 ^ 52 * (2 ^ k * 2 ^ k)
radicand m c h k e =
    let p : 2 ^ h * 2 ^ k ≡ 2 ^ c * 2 ^ 511 = sym (pow-add 2 h k) ∙ ap (λ (z : ℕ). 2 ^ z) e ∙ pow-add 2 c 511 in
    ap (λ (z : ℕ). m * z * U) (pow-add 2 c c)
    ∙ spread m (2 ^ c) (2 ^ 511) (2 ^ 52)
    ∙ ap (λ (z : ℕ). m * (z * z * 2 ^ 52)) (sym p)
    ∙ gather m (2 ^ h) (2 ^ k) (2 ^ 52)
  where
    spread : (m a b d : ℕ) → m * (a * a) * (b * b * d) ≡ m * (a * b * (a * b) * d)
    spread m a b d = simp (mul_assoc, mul_left_comm)

    gather : (m a b d : ℕ) → m * (a * b * (a * b) * d) ≡ m * (a * a) * d * (b * b)
    gather m a b d = simp (mul_assoc, mul_comm, mul_left_comm)

-- ---- the steps
radicand-lt : {m n h : ℕ} → Raised m n h → n * 2 ^ 52 < 2 ^ 106
radicand-lt {m} {n} {h} r = go n r.hi
  where
    go : (n : ℕ) → n < 2 ^ 54 → n * 2 ^ 52 < 2 ^ 106
    go n h = omega arith

module _ {x : Float} {m k m' k' n h root rem r : ℕ} (p : Apart x m k) (e : Even m k m' k') (g : Raised m' n h) (i : IsRoot (n * 2 ^ 52) root rem)
    (c : Picked root rem r) where
  abbrev place : ℕ
  place = k' / 2 + 511 - h

  big : 2 ^ 104 ≤ n * 2 ^ 52
  big = go n g.lo
    where
      go : (n : ℕ) → 2 ^ 52 ≤ n → 2 ^ 104 ≤ n * 2 ^ 52
      go n h = omega arith

  pub place-lt : place < 2000
  place-lt = omega (arith, p.k-le, e.k-le)

  units_are : mag_units x * U ≡ n * 2 ^ 52 * (2 ^ place * 2 ^ place)
  units_are =
      ap (λ (z : ℕ). z * U) (sym (e.same ∙ p.mag))
      ∙ ap (λ (z : ℕ). m' * 2 ^ z * U) halves
      ∙ radicand m' (k' / 2) h place levels
      ∙ ap (λ (z : ℕ). z * 2 ^ 52 * (2 ^ place * 2 ^ place)) (sym g.is)
    where
      halves : k' ≡ k' / 2 + k' / 2
      halves = omega (arith, e.even)

      levels : h + (k' / 2 + 511 - h) ≡ k' / 2 + 511
      levels = omega (arith, g.h_le)

  pub last-le : r ≤ 2 ^ 53
  last-le =
      subst (λ (z : ℕ). z ≤ 2 ^ 53) (sym (picked_is i c)) (nearer-top x (n * 2 ^ 52) root place units_are (floor_of i) big (radicand-lt g))

  last_made : Exactly (of_bits binary64 (place * 2 ^ 52 + r)) false (r * 2 ^ place)
  last_made =
      made r place
      (subst (λ (z : ℕ). 2 ^ 52 ≤ z) (sym (picked_is i c)) (nearer_full x (n * 2 ^ 52) root place units_are (floor_of i) big (radicand-lt g)))
      last-le place-lt

  pub nearest : NearestRoot x (of_bits binary64 (place * 2 ^ 52 + r))
  nearest =
      nearest_of x (n * 2 ^ 52) root place units_are (floor_of i) big (radicand-lt g) (of_bits binary64 (place * 2 ^ 52 + r))
      (subst (λ (z : ℕ). Exactly (of_bits binary64 (place * 2 ^ 52 + r)) false (z * 2 ^ place)) (picked_is i c) last_made)

  pub bits_no_nan : T (not (nan_bits binary64 (place * 2 ^ 52 + r)))
  bits_no_nan =
      let b = place * 2 ^ 52 + r in
      subst (λ (z : Bool). T (not z)) (sym (nan_bits_is binary64 b)) (no_nan (of_bits binary64 b) last_made.fin)

-- ---- every double
pub above_of : (x : Float) → T (fits binary64 x) → lt zero64 x ≡ true → lt x (inf false) ≡ true → Above x
above_of x f a b =
    let i = finite_of x a b in
    let p = zero-lt x f i (true_is (lt zero64 x) a) in
    record { fin = i; sign = p.0; pos = p.1 }
  where
    finite_of : (x : Float) → lt zero64 x ≡ true → lt x (inf false) ≡ true → T (finite x)
    finite_of nan a b = unfold lt in true≢false (sym a)
    finite_of (inf true) a b = unfold lt in true≢false (sym a)
    finite_of (inf false) a b = unfold lt in true≢false (sym b)
    finite_of (fin s m e) a b = tt

pub rooted_zero : (x : Float) → T (fits binary64 x) → eq x zero64 ≡ true → record { number = 0; root = x } ≡ rooted x
unfolding rooted eq
rooted_zero nan f e = absurd (true≢false (sym e))
rooted_zero (inf s) f e = absurd (true≢false (sym e))
rooted_zero (fin s zero d) f e = refl
rooted_zero (fin s (suc m) d) f e =
    let x = fin s (suc m) d in
    absurd (lt_irrefl 0 (subst (λ (g : ℕ). 0 < g) (eq_zero x f tt (true_is (eq x zero64) e)) (some-digits s m d)))

pub rooted-above : (x r : Float) → T (fits binary64 x) → Above x → NearestRoot x r → record { number = 0; root = r } ≡ rooted x
unfolding rooted
rooted-above nan r f a n = absurd a.fin
rooted-above (inf s) r f a n = absurd a.fin
rooted-above (fin s zero d) r f a n = absurd (lt_irrefl 0 (subst (λ (g : ℕ). 0 < g) (no_digits s d) a.pos))
rooted-above (fin true (suc m) d) r f a n = absurd (true≢false a.sign)
rooted-above (fin false (suc m) d) r f a n =
    let x = fin false (suc m) d in
    ap (λ (q : Float). record { number = 0; root = q }) (nearest_unique x r (root_of x) n (root-nearest x f tt a.pos))

pub rooted_none : (x : Float) → T (fits binary64 x) → eq x zero64 ≡ false → (T (lt zero64 x) → T (lt x (inf false)) → ⊥) → no_root ≡ rooted x
unfolding rooted
rooted_none nan f e h = refl
rooted_none (inf s) f e h = refl
rooted_none (fin s zero d) f e h = absurd (subst T e (zero-eq (fin s zero d) f tt (no_digits s d)))
rooted_none (fin true (suc m) d) f e h = refl
rooted_none (fin false (suc m) d) f e h =
    let x = fin false (suc m) d in
    absurd (h (is_lt zero64 x zero-fits f tt tt (go (mag_units zero64) (mag_units x) zero_mag (some-digits false m d))) (unfold lt in tt))
  where
    go : (o g : ℕ) → o ≡ 0 → 0 < g → o + 0 < g + 0
    go o g e h = omega arith
