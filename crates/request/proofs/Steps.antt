-- What the definition of a number hands on from one byte of a line to the next, and that of a row from one word to the next. Assumes nothing.
use mathlib.Core.Path.{◌≡◌, refl, sym, ◌∙◌}
use mathlib.Core.Bool.{Bool, true, false, cond}
use mathlib.Core.List.{List, [], ◌∷◌, ◌++◌}
use Prim.Native.Nat.{ℕ, suc, ◌+◌, ◌*◌, ◌^◌, ◌-◌, ◌<◌, ◌≤◌}
use native.Mathlib.Omega.{arith}
use borrow.Author.Tests.{lt-ltb, le-ltb, ltb-true, ltb-false}
use lib.Dec.{eqb, ltb}
use Rattle.std.specs.Char.{to_ascii_lowercase}
use Rattle.std.specs.Prelude.{Option, Some, None, SomeIff}
use lib.ListN.{length, get_or, take, drop, drop_of_length-le}
use lib.Seq.{take_all}
use Rattle.laws.specs.Laws.Lists.{drop-next}
use Rattle.text.specs.Lines.{onRead, onDigit, digit_at}
use Rattle.text.specs.Laws.Lines.{below_letters, above_letters}
use Rattle.request.specs.Words.{lowered, more_of, counted_of, number_from}
use Rattle.request.specs.Rows.{row_from}

pub number_step : (base most i v j : ℕ) (s : List ℕ) → i < length s
    → number_from base most i v j (drop i s)
    ≡ cond (eqb (get_or s i 0) 32) (counted_of most i v j)
    (onDigit (more_of base v (get_or s i 0)) None (λ w. number_from base most (i + 1) w (j + 1) (drop (i + 1) s)))
unfolding number_from
number_step base most i v j s h = rw (drop-next ℕ 0 s i h)

pub number_end : (base most i v j : ℕ) (s : List ℕ) → length s ≤ i → number_from base most i v j (drop i s) ≡ counted_of most i v j
unfolding number_from
number_end base most i v j s h = rw (drop_of_length-le s h)

-- ---- a row of 24 words, of which k were read; R is what reading all gives
module _ {T : Type 0} (word : List ℕ → ℕ → Option (T × ℕ)) (s : List ℕ) (k : ℕ) (xs : List T) (at : ℕ) (R : Option (List T × ℕ)) where
  row-step : k < 24 → row_from word s (24 - k) xs at ≡ R
      → onRead (word s at) None (λ v m. row_from word s (24 - (k + 1)) (xs ++ (v ∷ [])) m) ≡ R
  unfolding row_from
  row-step h r =
      let e : 24 - k ≡ suc (24 - (k + 1)) = omega arith in
      rw e at r

  -- the next is missing
  pub row_none : k < 24 → row_from word s (24 - k) xs at ≡ R → word s at ≡ None → None ≡ R
  row_none h r e = rw e at (row-step h r)

  -- it stands there
  pub row_next : (v : T) (m : ℕ) → k < 24 → row_from word s (24 - k) xs at ≡ R → word s at ≡ Some (v, m)
      → row_from word s (24 - (k + 1)) (xs ++ (v ∷ [])) m ≡ R
  row_next v m h r e = rw e at (row-step h r)

  -- all are read
  pub row_end : 24 ≤ k → length xs ≡ 24 → row_from word s (24 - k) (take k xs) at ≡ R → Some (xs, at) ≡ R
  unfolding row_from
  row_end h l r =
      let e : 24 - k ≡ 0 = omega arith in
      let m : length xs ≤ k = omega arith in
      rw (e, take_all k xs m) at r

-- ---- a digit of either case
-- from G to Z no letter is a digit, so it does not matter whether these are put in lower case
pub lower_digit : (b : ℕ) → digit_at (to_ascii_lowercase b) ≡ digit_at (lowered b)
unfolding lowered
lower_digit b = go (ltb b 65) (ltb 70 b) (ltb b 91) refl refl refl
  where
    go : (p q r : Bool) → ltb b 65 ≡ p → ltb 70 b ≡ q → ltb b 91 ≡ r
        → digit_at (cond p b (cond r (b + 32) b)) ≡ digit_at (cond p b (cond q b (b + 32)))
    go true q r hp hq hr = refl
    go false true true hp hq hr =
        above_letters (b + 32) (omega (arith, ltb-true 70 b hq))
        ∙ sym (below_letters b (omega (arith, ltb-true 70 b hq)) (omega (arith, ltb-true b 91 hr)))
    go false true false hp hq hr = refl
    go false false true hp hq hr = refl
    go false false false hp hq hr = absurd (omega (arith, ltb-false 70 b hq, ltb-false b 91 hr))

-- ---- one digit more: a sum that was tested, and a product that is past 64 bits already
pub tested : (r : Option ℕ) (n : ℕ) → SomeIff r (n < 2 ^ 64) n → r ≡ cond (ltb n (2 ^ 64)) (Some n) None
tested None n h = rw (le-ltb n (2 ^ 64) (omega (arith, h)))
tested (Some m) n h = rw (lt-ltb n (2 ^ 64) h.0, h.1)

pub too_large : (v base d : ℕ) → SomeIff None (v * base < 2 ^ 64) (v * base) → None ≡ cond (ltb (v * base + d) (2 ^ 64)) (Some (v * base + d)) None
too_large v base d h = rw (le-ltb (v * base + d) (2 ^ 64) (omega (arith, h)))
