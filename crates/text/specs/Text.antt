-- Texts as lists of bytes: a quoted text, a line, a number in decimal, the line of a refusal, numbers in a row, a number in hexadecimal.
-- Assumes nothing.
use Rattle.std.specs.Prelude.{cond, List, [], ◌∷◌, ◌++◌, ℕ, zero, suc, ◌+◌, ◌/◌, ◌%◌, ltb, ℤ, pos, negsuc}
use Prim.Native.Char.{code}
use Prim.Native.String.{String}
use Prim.Native.String as quoted

-- the bytes of a quoted text, all of whose characters are ASCII
abbrev pub bytes : String → List ℕ
bytes quoted.[] = []
bytes (quoted.◌∷◌ c s) = code c ∷ bytes s

-- a line: its key, its value, LF
abbrev pub line : List ℕ → List ℕ → List ℕ
line key value = key ++ (value ++ bytes "\n")

-- ---- decimal: no sign, no leading zero except 0 itself
-- 48 is the byte of the digit 0. n < 10 is one digit; any other n is n / 10 with the digit n % 10 behind it. There are f digits at most, of
-- which n + 1 are always enough
abbrev pub decimal_by : ℕ → ℕ → List ℕ
decimal_by zero n = []
decimal_by (suc f) n = cond (ltb n 10) ((48 + n) ∷ []) (decimal_by f (n / 10) ++ ((48 + n % 10) ∷ []))

unfoldable pub decimal : ℕ → List ℕ
decimal n = decimal_by (suc n) n

-- ---- the line by which a program refuses
unfoldable pub refused_text : ℕ → List ℕ
refused_text number = line (bytes "refused=") (decimal number)

-- ---- numbers with a sign
-- a whole number: decimal, with a minus sign below zero
unfoldable pub signed : ℤ → List ℕ
signed (pos n) = decimal n
signed (negsuc n) = bytes "-" ++ decimal (suc n)

-- numbers with a comma in front of each
unfoldable pub commas : List ℤ → List ℕ
commas [] = []
commas (z ∷ zs) = bytes "," ++ (signed z ++ commas zs)

-- numbers with commas between them
unfoldable pub listed : List ℤ → List ℕ
listed [] = []
listed (z ∷ zs) = signed z ++ commas zs

-- ---- hexadecimal, lower case: the last k digits of n, the most significant first. The letter a, the byte 97, is the digit ten
abbrev pub hex_digit : ℕ → ℕ
hex_digit d = cond (ltb d 10) (48 + d) (87 + d)

unfoldable pub hex : ℕ → ℕ → List ℕ
hex zero n = []
hex (suc k) n = hex k (n / 16) ++ (hex_digit (n % 16) ∷ [])
