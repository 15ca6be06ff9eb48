-- The trellis: the states of a codeword at the cuts after its first and its second section, the bytes by which a path runs through them, and
-- the way back from bytes to a path. Assumes nothing.
use Rattle.std.specs.Prelude.{cond, List, [], ◌∷◌, ℕ, ◌+◌, ◌*◌, ◌/◌, ◌%◌, ltb, length, get_or, take, drop, Option, Some, None}
use Rattle.laws.specs.Words.{tab, seek}
use Rattle.trellis.specs.Code.{codewords}
use Rattle.trellis.specs.Tables.{prefixes, middles, nexts, suffixes}
use Rattle.trellis.specs.declared.Edge.{Edge}

-- ---- the tables read
-- row s of a table with n entries a row: no entries where the table has no row s
abbrev pub row : ℕ → List ℕ → ℕ → List ℕ
row n table s = take n (drop (n * s) table)

-- the 64 rows of a table of pairs
unfoldable pub pairs_of : List ℕ → List (List ℕ)
pairs_of table = tab (row 2 table) 64

-- an entry of a row, 0 where there is none: the prefix byte of state s8 and bit b1,
unfoldable pub prefix_of : ℕ → ℕ → ℕ
prefix_of s8 b1 = get_or (row 2 prefixes s8) b1 0

-- the middle byte of branch b2 out of state s8,
unfoldable pub middle_of : ℕ → ℕ → ℕ
middle_of s8 b2 = get_or (row 16 middles s8) b2 0

-- the state at cut 16 that it leads to,
unfoldable pub next_of : ℕ → ℕ → ℕ
next_of s8 b2 = get_or (row 16 nexts s8) b2 0

-- and the suffix byte of state s16 and bit b3
unfoldable pub suffix_of : ℕ → ℕ → ℕ
suffix_of s16 b3 = get_or (row 2 suffixes s16) b3 0

-- the middle bytes of the states 0, 8, .., 56, and the next states of the states 0 to 7, row after row
unfoldable pub middle_sets : List ℕ
middle_sets = tab (λ (i : ℕ). middle_of (8 * (i / 16)) (i % 16)) 128

unfoldable pub first_nexts : List ℕ
first_nexts = tab (λ (i : ℕ). next_of (i / 16) (i % 16)) 128

-- the word of a path, c1 + 256 c2 + 65536 c3
abbrev pub path : ℕ → ℕ → ℕ → ℕ → ℕ
path s8 b1 b2 b3 = prefix_of s8 b1 + 256 * middle_of s8 b2 + 65536 * suffix_of (next_of s8 b2) b3

-- the branch b2 out of state s8
abbrev pub branch_of : ℕ → ℕ → Edge
branch_of s8 b2 = record { byte = middle_of s8 b2; s16 = next_of s8 b2 }

-- ---- the path of a label
abbrev pub s8_of : ℕ → ℕ
s8_of x = x % 64

abbrev pub b1_of : ℕ → ℕ
b1_of x = x / 64 % 2

abbrev pub b2_of : ℕ → ℕ
b2_of x = x / 128 % 16

abbrev pub b3_of : ℕ → ℕ
b3_of x = x / 2048 % 2

-- the state at cut 16 of the codeword with the label x; at cut 8 it is s8_of x
abbrev pub s16_of : ℕ → ℕ
s16_of x = next_of (s8_of x) (b2_of x)

-- ---- the way back. What an answer says: its numbers, and no numbers where there is none. Neither is a refusal.
abbrev pub opening_says : Option (ℕ × ℕ) → List ℕ
opening_says (Some (s8, b1)) = s8 ∷ b1 ∷ []
opening_says None = []

abbrev pub passage_says : Option (ℕ × ℕ) → List ℕ
passage_says (Some (b2, s16)) = b2 ∷ s16 ∷ []
passage_says None = []

abbrev pub closing_says : Option ℕ → List ℕ
closing_says (Some b3) = b3 ∷ []
closing_says None = []

-- what f says of the first place at which c stands; `none` where it stands nowhere
abbrev pub look_up : {A : Type 0} → (ℕ → A) → A → List ℕ → ℕ → A
look_up f none xs c = cond (ltb (seek c xs) (length xs)) (f (seek c xs)) none

-- the state at cut 8 and the bit of a prefix byte: there are two prefixes to a state
unfoldable pub opening_of : ℕ → Option (ℕ × ℕ)
opening_of c1 = look_up (λ (i : ℕ). Some (i / 2, i % 2)) None prefixes c1

-- the branch of a middle byte out of state s8, and the state at cut 16 that it leads to
unfoldable pub passage_of : ℕ → ℕ → Option (ℕ × ℕ)
passage_of s8 c2 = look_up (λ (b2 : ℕ). Some (b2, next_of s8 b2)) None (row 16 middles s8) c2

-- the bit of a suffix byte into state s16
unfoldable pub closing_of : ℕ → ℕ → Option ℕ
closing_of s16 c3 = look_up Some None (row 2 suffixes s16) c3

-- the label of a codeword: its place among the codewords, 4096 where it is none
unfoldable pub label_of : ℕ → ℕ
label_of w = seek w codewords

-- what is answered of a word: its label, and none where `label_of` has 4096
abbrev pub label_in : ℕ → Option ℕ
label_in w = cond (ltb (label_of w) 4096) (Some (label_of w)) None
