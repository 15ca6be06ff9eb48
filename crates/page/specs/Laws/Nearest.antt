-- A fraction rounded to the nearest whole number, a half to the even one, for every divisor: it is at most a half off, and even on a half; and
-- no other number is both. First for magnitudes, then with a sign. Assumes nothing.
use Rattle.std.specs.Prelude.{◌≡◌, refl, ℤ, pos, negsuc, neg_ℤ, nat_abs, ◌-ℤ◌, ◌*ℤ◌}
use Rattle.std.proofs.Common.{sym, ap, ◌∙◌, arith, div-add-mod', mod-lt, add-mul, zero-mul, suc-mul, mul-le-mul_right}
use Prim.Native.Nat.{ℕ, zero, suc, ◌+◌, ◌*◌, ◌/◌, ◌%◌, ◌<◌, ◌≤◌, compare, Ordering}
use Rattle.std.specs.Float.Ieee.{nearest as Ieee·nearest}
use Rattle.std.proofs.Math.IntN.{neg_ℤ-neg_ℤ, neg_ℤ-+ℤ}
use Rattle.laws.specs.Words.{gap}
use Rattle.laws.specs.Laws.Order.{Compared, less, same, more, trichotomy, Ordered, compared}
use Rattle.laws.specs.Laws.Whole.{sub_by}
use Rattle.page.specs.Counts.{nearest, quotient_by, ToEven}

-- ---- magnitudes: m is off n / d by at most a half, and even on a half
abbrev Off : ℕ → ℕ → ℕ → Type 0
Off n d m = (2 * gap (m * d) n ≤ d) × (2 * gap (m * d) n ≡ d → m % 2 ≡ 0)

-- the quotient q with the rest r, moved up or not by how twice the rest compares with the divisor
by_rest : (n q r d : ℕ) (o : Ordering) → q * d + r ≡ n → r < d → Ordered o (r * 2) d → Off n d (Ieee·nearest q o)
by_rest n q r d Ordering.lt e l c = (omega arith, λ h. absurd (omega arith))
by_rest n q r d Ordering.eq e l c =
    let a : (q + q % 2) * d ≡ q * d + q % 2 * d = add-mul q (q % 2) d in
    let b : q % 2 * d ≤ 1 * d = mul-le-mul_right d (omega arith) in
    (omega arith, λ h. omega arith)
by_rest n q r d Ordering.gt e l c =
    let a : suc q * d ≡ q * d + d = suc-mul q d in
    (omega arith, λ h. absurd (omega arith))

nearest_off : (n d : ℕ) → 0 < d → Off n d (nearest n d)
nearest_off n d D = by_rest n (n / d) (n % d) d (compare (n % d * 2) d) (div-add-mod' n d) (mod-lt n D) (compared (n % d * 2) d)

-- of two that are at most a half off, the lower is just a half below and the upper just a half above; then they are neighbours, of which one
-- is odd
off_apart : (n d a b : ℕ) → 0 < d → Off n d a → Off n d b → a < b → ⊥
off_apart n d a b D h k l =
    let s : suc a * d ≡ a * d + d = suc-mul a d in
    go (trichotomy (suc a) b) s
  where
    go : Compared (suc a) b → suc a * d ≡ a * d + d → ⊥
    go (less c) s =
        let t : suc (suc a) * d ≤ b * d = mul-le-mul_right d c in
        let u : suc (suc a) * d ≡ suc a * d + d = suc-mul (suc a) d in
        omega (arith, h.0, k.0)
    go (same c) s =
        let t : b * d ≡ suc a * d = ap (λ (x : ℕ). x * d) (sym c) in
        omega (arith, h.1 (omega (arith, h.0, k.0)), k.1 (omega (arith, h.0, k.0)))
    go (more c) s = omega arith

off_only : (n d m : ℕ) → 0 < d → Off n d m → m ≡ nearest n d
off_only n d m D h = go (trichotomy m (nearest n d))
  where
    go : Compared m (nearest n d) → m ≡ nearest n d
    go (less l) = absurd (off_apart n d m (nearest n d) D h (nearest_off n d D) l)
    go (same e) = e
    go (more l) = absurd (off_apart n d (nearest n d) m D (nearest_off n d D) h l)

-- so a comparison of twice the rest with the divisor decides
pub nearest_by : (n d : ℕ) (o : Ordering) → 0 < d → Ordered o (n % d * 2) d → nearest n d ≡ Ieee·nearest (n / d) o
nearest_by n d o D c =
    sym (off_only n d (Ieee·nearest (n / d) o) D (by_rest n (n / d) (n % d) d o (div-add-mod' n d) (mod-lt n D) c))

-- ---- with a sign
abs_neg : (z : ℤ) → nat_abs (neg_ℤ z) ≡ nat_abs z
abs_neg (pos zero) = refl
abs_neg (pos (suc n)) = refl
abs_neg (negsuc n) = refl

-- the distance of two that are not negative
abs-minus : (a b : ℕ) → nat_abs (pos a -ℤ pos b) ≡ gap a b
abs-minus a zero = omega arith
abs-minus a (suc b) = sub_by (λ (z : ℤ). nat_abs z ≡ gap a (suc b)) a (suc b) (λ h. omega arith) (λ h. omega arith)

neg_times : (c : ℤ) (d : ℕ) → neg_ℤ c *ℤ pos d ≡ neg_ℤ (c *ℤ pos d)
neg_times (pos zero) d = rw zero-mul
neg_times (pos (suc n)) d = refl
neg_times (negsuc n) d = sym (neg_ℤ-neg_ℤ (pos (suc n * d)))

-- both signs turned, the distance is the same
turned : (z c : ℤ) (d : ℕ) → nat_abs (neg_ℤ c *ℤ pos d -ℤ neg_ℤ z) ≡ nat_abs (c *ℤ pos d -ℤ z)
turned z c d =
    ap (λ (x : ℤ). nat_abs (x -ℤ neg_ℤ z)) (neg_times c d)
    ∙ ap nat_abs (sym (neg_ℤ-+ℤ (c *ℤ pos d) (neg_ℤ z)))
    ∙ abs_neg (c *ℤ pos d -ℤ z)

turn : (z c : ℤ) (d : ℕ) → ToEven z d c → ToEven (neg_ℤ z) d (neg_ℤ c)
turn z c d h = rw (turned z c d, abs_neg c) h

pub nearest_is : (n d : ℕ) → 0 < d → ToEven (pos n) d (pos (nearest n d))
nearest_is n d D = rw (abs-minus (nearest n d * d) n) (nearest_off n d D)

pub nearest_only : (n d m : ℕ) → 0 < d → ToEven (pos n) d (pos m) → m ≡ nearest n d
nearest_only n d m D h = off_only n d m D (rw (abs-minus (m * d) n) at h)

pub quotient_is : (z : ℤ) (d : ℕ) → 0 < d → ToEven z d (quotient_by z d)
quotient_is (pos n) d D = nearest_is n d D
quotient_is (negsuc n) d D = turn (pos (suc n)) (pos (nearest (suc n) d)) d (nearest_is (suc n) d D)

-- a negative number is more than a half off a fraction that is none
not_below : (n d k : ℕ) → 0 < d → ToEven (pos n) d (negsuc k) → ⊥
not_below n d k D h =
    let e : nat_abs (negsuc k *ℤ pos d -ℤ pos n) ≡ suc k * d + n =
    ap nat_abs (sym (neg_ℤ-+ℤ (pos (suc k * d)) (pos n))) ∙ abs_neg (pos (suc k * d + n)) in
    let s : suc k * d ≡ k * d + d = suc-mul k d in
    omega (arith, h.0)

from_pos : (n d : ℕ) (c : ℤ) → 0 < d → ToEven (pos n) d c → c ≡ pos (nearest n d)
from_pos n d (pos m) D h = ap pos (nearest_only n d m D h)
from_pos n d (negsuc k) D h = absurd (not_below n d k D h)

pub quotient_only : (z : ℤ) (d : ℕ) (c : ℤ) → 0 < d → ToEven z d c → c ≡ quotient_by z d
quotient_only (pos n) d c D h = from_pos n d c D h
quotient_only (negsuc n) d c D h =
    sym (neg_ℤ-neg_ℤ c) ∙ ap neg_ℤ (from_pos (suc n) d (neg_ℤ c) D (turn (negsuc n) c d h))
