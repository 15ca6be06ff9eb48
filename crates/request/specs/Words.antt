-- The words of a request line, each behind one space, as its readers answer them for every line and place. Assumes nothing.
use Rattle.std.specs.Prelude.{Bool, true, false, cond, List, [], ◌∷◌, ℕ, ◌+◌, ◌*◌, ◌^◌, ltb, leb, eqb, ℤ, pos, neg_ℤ, Float, length, drop, get_or, Option, Some, None, option_map}
use Rattle.std.specs.Float.{binary64}
use Rattle.std.specs.Float.Ieee.{of_bits}
use Rattle.text.specs.Lines.{onRead, onDigit, begins, digit_at}

-- the place after the first word where that is `name`. The word ends at a space, the byte 32, or at the line's end
unfoldable pub after_name : List ℕ → List ℕ → Option ℕ
after_name s name =
    cond (begins s name)
    (cond (leb (length s) (length name)) (Some (length name)) (cond (eqb (get_or s (length name) 0) 32) (Some (length name)) None)) None

-- what was read last, behind which the line ends
abbrev pub last_of : {T : Type 0} → List ℕ → Option (T × ℕ) → Option T
last_of s read = onRead read None (λ v next. cond (eqb next (length s)) (Some v) None)

-- ---- digits
-- a byte from A to F, 65 to 70, in lower case
unfoldable pub lowered : ℕ → ℕ
lowered b = cond (ltb b 65) b (cond (ltb 70 b) b (b + 32))

-- a digit of the base, of either case
unfoldable pub digit_in : ℕ → ℕ → Option ℕ
digit_in base b = onDigit (digit_at (lowered b)) None (λ d. cond (leb base d) None (Some d))

-- v with one digit more, where that is below 2^64
unfoldable pub more_of : ℕ → ℕ → ℕ → Option ℕ
more_of base v b = onDigit (digit_in base b) None (λ d. cond (ltb (v * base + d) (2 ^ 64)) (Some (v * base + d)) None)

-- ---- numbers
-- v, which j digits make, of which there are 1 to `most`, with the place after them
unfoldable pub counted_of : ℕ → ℕ → ℕ → ℕ → Option (ℕ × ℕ)
counted_of most end v j = cond (eqb j 0) None (cond (ltb most j) None (Some (v, end)))

-- the digits up to a space or the end, where j were read, and make v; `at` is the place of the next
unfoldable pub number_from : ℕ → ℕ → ℕ → ℕ → ℕ → List ℕ → Option (ℕ × ℕ)
number_from base most at v j [] = counted_of most at v j
number_from base most at v j (b ∷ s) =
    cond (eqb b 32) (counted_of most at v j) (onDigit (more_of base v b) None (λ w. number_from base most (at + 1) w (j + 1) s))

-- ---- arguments: a space at the place, and a word behind it
abbrev pub number_after : ℕ → ℕ → List ℕ → ℕ → Option (ℕ × ℕ)
number_after base most s at = cond (eqb (get_or s at 0) 32) (number_from base most (at + 1) 0 0 (drop (at + 1) s)) None

-- 1 to 16 hex digits, of either case
unfoldable pub hex_after : List ℕ → ℕ → Option (ℕ × ℕ)
hex_after s at = number_after 16 16 s at

-- decimal digits, of which a line of length n has no more than n
unfoldable pub decimal_after : List ℕ → ℕ → Option (ℕ × ℕ)
decimal_after s at = number_after 10 (length s) s at

-- the hex digits of a double's bits
unfoldable pub double_after : List ℕ → ℕ → Option (Float × ℕ)
double_after s at = onRead (hex_after s at) None (λ v n. Some (of_bits binary64 v, n))

-- ---- numbers with a sign: from -2147483648 to 2147483647
-- of a magnitude, below zero or not
unfoldable pub signed_of : Bool → ℕ → Option ℤ
signed_of below v = cond below (cond (ltb 2147483648 v) None (Some (neg_ℤ (pos v)))) (cond (ltb 2147483647 v) None (Some (pos v)))

-- the same of a magnitude that was read, and the place after it
unfoldable pub with_sign : Bool → Option (ℕ × ℕ) → Option (ℤ × ℕ)
with_sign below n = onRead n None (λ v m. option_map (λ z. (z, m)) (signed_of below v))

-- decimal digits, behind a minus sign, the byte 45, or not
unfoldable pub signed_after : List ℕ → ℕ → Option (ℤ × ℕ)
signed_after s at =
    cond (eqb (get_or s at 0) 32)
    (cond (eqb (get_or s (at + 1) 0) 45) (with_sign true (number_from 10 (length s) (at + 1 + 1) 0 0 (drop (at + 1 + 1) s)))
    (with_sign false (number_from 10 (length s) (at + 1) 0 0 (drop (at + 1) s))))
    None
