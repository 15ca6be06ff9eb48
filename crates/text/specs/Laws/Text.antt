-- Laws of decimal and hexadecimal texts. Assumes nothing.
use Rattle.std.specs.Prelude.{◌≡◌, refl, Bool, true, false, cond, [], ◌∷◌, ◌++◌, ℕ, zero, suc, ◌+◌, ◌*◌, ◌/◌, ◌%◌, ◌^◌, ◌<◌, ◌≤◌, ltb, length}
use Rattle.std.proofs.Common.{ap, ◌∙◌, arith, pow-suc, lt-ltb, le-ltb, ltb-true, ltb-false, length-append}
use Rattle.std.proofs.Math.Nat.{one-le-pow}
use Rattle.std.proofs.Math.Arith.{mod-mul}
use Rattle.text.specs.Text.{decimal, decimal_by, hex, hex_digit}

-- ---- decimal
-- a larger bound on the number of digits changes nothing
by_enough : (f g n : ℕ) → n < f → n < g → decimal_by f n ≡ decimal_by g n
by_enough zero g n hf hg = absurd (omega arith)
by_enough (suc f) zero n hf hg = absurd (omega arith)
by_enough (suc f) (suc g) n hf hg = go (ltb n 10) refl (λ h. by_enough f g (n / 10) (omega arith) (omega arith))
  where
    go : (b : Bool) → ltb n 10 ≡ b → (10 ≤ n → decimal_by f (n / 10) ≡ decimal_by g (n / 10))
        → cond b ((48 + n) ∷ []) (decimal_by f (n / 10) ++ ((48 + n % 10) ∷ []))
        ≡ cond b ((48 + n) ∷ []) (decimal_by g (n / 10) ++ ((48 + n % 10) ∷ []))
    go true e ih = refl
    go false e ih = rw (ih (ltb-false n 10 e))

pub decimal-small : (n : ℕ) → n < 10 → decimal n ≡ (48 + n) ∷ []
unfolding decimal
decimal-small n h = rw (lt-ltb n 10 h)

pub decimal_more : (n : ℕ) → 10 ≤ n → decimal n ≡ decimal (n / 10) ++ ((48 + n % 10) ∷ [])
unfolding decimal
decimal_more n h =
    rw (le-ltb n 10 h, by_enough n (suc (n / 10)) (n / 10) (omega arith) (omega arith))

-- a number and a digit behind it
pub decimal_step : (v d : ℕ) → 0 < v → d < 10 → decimal (v * 10 + d) ≡ decimal v ++ ((48 + d) ∷ [])
decimal_step v d hv hd =
    let q : (v * 10 + d) / 10 ≡ v = omega arith in
    let r : (v * 10 + d) % 10 ≡ d = omega arith in
    decimal_more (v * 10 + d) (omega arith) ∙ rw (q, r)

-- one digit more than n / 10
pub decimal-longer : (n : ℕ) → 10 ≤ n → length (decimal n) ≡ length (decimal (n / 10)) + 1
decimal-longer n h = ap length (decimal_more n h) ∙ length-append (decimal (n / 10)) ((48 + n % 10) ∷ [])

-- at least one digit
pub decimal-some : (n : ℕ) → 0 < length (decimal n)
decimal-some n = go (ltb n 10) refl
  where
    go : (b : Bool) → ltb n 10 ≡ b → 0 < length (decimal n)
    go true e = rw (decimal-small n (ltb-true n 10 e)) (omega arith)
    go false e = rw (decimal_more n (ltb-false n 10 e), length-append) (omega arith)

-- at most k digits below 10 ^ k
pub decimal-fits : (k n : ℕ) → n < 10 ^ suc k → length (decimal n) ≤ suc k
decimal-fits zero n h = rw (decimal-small n h) (omega arith)
decimal-fits (suc k) n h =
    go (ltb n 10) refl (decimal-fits k (n / 10) (omega (arith, pow-suc 10 (suc k))))
  where
    go : (b : Bool) → ltb n 10 ≡ b → length (decimal (n / 10)) ≤ suc k → length (decimal n) ≤ suc (suc k)
    go true e ih = rw (decimal-small n (ltb-true n 10 e)) (omega arith)
    go false e ih = rw (decimal_more n (ltb-false n 10 e), length-append) (omega arith)

-- ---- hexadecimal
pub hex-length : (k n : ℕ) → length (hex k n) ≡ k
unfolding hex
hex-length zero n = refl
hex-length (suc k) n = length-append (hex k (n / 16)) (hex_digit (n % 16) ∷ []) ∙ rw (hex-length k (n / 16)) (omega arith)

-- the last k digits are those of the number below 16 ^ k that is left of n
pub hex_low : (k n : ℕ) → hex k (n % 16 ^ k) ≡ hex k n
unfolding hex
hex_low zero n = refl
hex_low (suc k) n =
    let e : n % 16 ^ suc k ≡ n / 16 % 16 ^ k * 16 + n % 16 =
    ap (λ (m : ℕ). n % m) (pow-suc 16 k) ∙ mod-mul n (one-le-pow k 16 (omega arith)) (omega arith) in
    let q : n % 16 ^ suc k / 16 ≡ n / 16 % 16 ^ k = omega arith in
    let r : n % 16 ^ suc k % 16 ≡ n % 16 = omega arith in
    rw (q, r, hex_low k (n / 16))
