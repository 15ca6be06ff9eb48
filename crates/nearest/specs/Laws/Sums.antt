-- Laws of sums over the first n indices, and the arithmetic of rounding with a parity repair. Whole numbers only.
use Rattle.std.specs.Prelude.{◌≡◌, refl, ◌≢◌, ℕ, zero, suc, ◌+◌, ◌*◌, ◌%◌, ◌≤◌, ◌<◌, ℤ}
use Rattle.std.proofs.Common.{sym, ap, ◌∙◌, subst, le_refl, mul-le-mul, suc-mul, lt_irrefl, arith}
use Rattle.std.proofs.Math.Decide.{ℕ_discrete}
use Rattle.nearest.specs.Laws.Forms.{sum_to, odd_k, par_k}

-- ---- what a step from the rounding costs. g0 is the rounding's distance, h = u4 - g0, g any other's, u4 = 4 in units
pub strong : (h g0 g u4 : ℕ) → u4 ≡ h + g0 → h ≤ g → g0 * g0 + u4 * u4 ≤ g * g + 2 * (u4 * g0)
strong h g0 g u4 e l =
    let a : h * h ≤ g * g = mul-le-mul l l in
    let b : u4 * u4 ≡ (h + g0) * (h + g0) = ap (λ (z : ℕ). z * z) e in
    let c : u4 * g0 ≡ (h + g0) * g0 = ap (λ (z : ℕ). z * g0) e in
    omega arith

pub stepped_up : (h g0 g1 u4 e : ℕ) → u4 ≡ h + g0 → g1 ≤ h + e → g1 * g1 + 2 * (u4 * g0) ≤ g0 * g0 + u4 * u4 + (2 * (e * h) + e * e)
stepped_up h g0 g1 u4 e q l =
    let a : g1 * g1 ≤ (h + e) * (h + e) = mul-le-mul l l in
    let b : u4 * u4 ≡ (h + g0) * (h + g0) = ap (λ (z : ℕ). z * z) q in
    let c : u4 * g0 ≡ (h + g0) * g0 = ap (λ (z : ℕ). z * g0) q in
    omega arith

-- ---- sums
below : {n j : ℕ} → j < n → j < suc n
below h = omega arith

pub sum-le : (f g : ℕ → ℕ) (w n : ℕ) → ((j : ℕ) → j < n → f j ≤ g j + w) → sum_to f n ≤ sum_to g n + n * w
unfolding sum_to
sum-le f g w zero h = omega arith
sum-le f g w (suc n) h =
    let a = sum-le f g w n (λ j l. h j (below l)) in
    let b = h n (le_refl (suc n)) in
    let c : suc n * w ≡ n * w + w = suc-mul n w in
    omega arith

pub sum_same : (f g : ℕ → ℕ) (n : ℕ) → ((j : ℕ) → j < n → f j ≡ g j) → sum_to f n ≡ sum_to g n
unfolding sum_to
sum_same f g zero h = refl
sum_same f g (suc n) h =
    let a = sum_same f g n (λ j l. h j (below l)) in
    let b = h n (le_refl (suc n)) in
    omega arith

-- one term changed
pub sum_set : (f g : ℕ → ℕ) (i n : ℕ) → i < n → ((j : ℕ) → j < n → j ≢ i → f j ≡ g j) → sum_to f n + g i ≡ sum_to g n + f i
unfolding sum_to
sum_set f g i zero l h = absurd (not_lt0 l)
  where
    not_lt0 : i < 0 → ⊥
    not_lt0 l = omega arith
sum_set f g i (suc n) l h = go (λ k. sum_set f g i n k (λ j m. h j (below m))) (ℕ_discrete n i)
  where
    go : (i < n → sum_to f n + g i ≡ sum_to g n + f i) → Dec (n ≡ i) → sum_to f n + f n + g i ≡ sum_to g n + g n + f i
    go r (yes e) =
        let a = sum_same f g n (λ j k. h j (below k) (λ (q : j ≡ i). lt_irrefl j (subst (λ (z : ℕ). j < z) (e ∙ sym q) k))) in
        let b : f n ≡ f i = ap f e in
        let c : g n ≡ g i = ap g e in
        omega arith
    go r (no d) =
        let k : i < n = omega arith in
        let a = r k in
        let b = h n (le_refl (suc n)) d in
        omega arith

-- ---- where the parities differ some coordinate of the other section is at another whole number than the rounding's
pub odd-le : (f g : ℕ → ℕ) (k0 k : ℕ → ℤ) (w a b n : ℕ) → par_k k0 n ≢ par_k k n → ((j : ℕ) → j < n → f j ≤ g j + w)
    → ((j : ℕ) → j < n → k0 j ≢ k j → f j + a ≤ g j + b) → sum_to f n + a ≤ sum_to g n + b + n * w
unfolding sum_to
odd-le f g k0 k w a b zero d h s = absurd (d refl)
odd-le f g k0 k w a b (suc n) d h s =
    go (λ m. odd-le f g k0 k w a b n m (λ j l. h j (below l)) (λ j l. s j (below l))) (ℕ_discrete (par_k k0 n) (par_k k n))
  where
    c : suc n * w ≡ n * w + w
    c = suc-mul n w

    go : (par_k k0 n ≢ par_k k n → sum_to f n + a ≤ sum_to g n + b + n * w) → Dec (par_k k0 n ≡ par_k k n)
        → sum_to f n + f n + a ≤ sum_to g n + g n + b + suc n * w
    go r (yes e) =
        let x = sum-le f g w n (λ j l. h j (below l)) in
        let y = s n (le_refl (suc n)) (λ (q : k0 n ≡ k n).
        d (same (sum_to (λ j. odd_k (k0 j)) n) (sum_to (λ j. odd_k (k j)) n) (odd_k (k0 n)) (odd_k (k n)) e (ap odd_k q))) in
        let z = c in
        omega arith
      where
        same : (p q x y : ℕ) → p % 2 ≡ q % 2 → x ≡ y → (p + x) % 2 ≡ (q + y) % 2
        same p q x y h k = omega arith
    go r (no m) =
        let x = r m in
        let y = h n (le_refl (suc n)) in
        let z = c in
        omega arith

-- the first term apart
pub sum_front : (f : ℕ → ℕ) (n : ℕ) → f 0 + sum_to (λ j. f (suc j)) n ≡ sum_to f (suc n)
unfolding sum_to
sum_front f zero = omega arith
sum_front f (suc n) = let a = sum_front f n in omega arith
