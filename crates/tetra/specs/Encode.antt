-- The word of a point, or why it has none, as `encode` answers it. Demand2 shows that no other answer fits. Assumes nothing.
use Rattle.std.specs.Prelude.{Bool, cond, List, ℕ, ltb, eqb, ℤ, pos, get_or, Result, Ok, Err, Option, Some, None}
use Rattle.laws.specs.Words.{mod_z}
use Rattle.refusal.specs.Refusal.{mixed_parity, no_codeword, outside, wrong_sum, number_of, section_of}
use Rattle.word.specs.Word.{word_of}
use Rattle.word.specs.declared.Fields.{Fields}
use Rattle.rank.specs.Coord.{parity_of}
use Rattle.rank.specs.Section.{uniform, bits_of, k_sum}
use Rattle.rows.specs.Table.{class_index_of, mixed_index_of}
use Rattle.rows.specs.declared.Seat.{Seat}
use Rattle.trellis.specs.Trellis.{label_of, s8_of, b1_of, b2_of, b3_of}
use Rattle.tetra.specs.Lattice.{trio, section_ranks, in_bound}
use Rattle.refusal.specs.declared.Refusal.{Refusal}

-- ---- the tests, in the order in which they are made; that of a section's bound, `in_bound`, stands in Lattice
-- the parity of the first coordinate, which is that of all
abbrev pub parity_at : List ℤ → ℕ
parity_at y = parity_of (get_or y 0 (pos 0))

unfoldable pub one_parity : List ℤ → Bool
one_parity y = uniform (parity_at y) y

-- the label of the codeword that the bits are, 4096 where they are none
abbrev pub label_for : List ℤ → ℕ
label_for y = label_of (bits_of (trio y))

unfoldable pub in_code : List ℤ → Bool
in_code y = ltb (label_for y) 4096

unfoldable pub right_sum : List ℤ → Bool
right_sum y = eqb (mod_z (k_sum y) 2) (parity_at y)

-- ---- the word's fields: the parity p, the label x of the codeword in parts, the class of the first section, the rows of all three, gain 0
abbrev pub fields_by : ℕ → ℕ → ℕ → ℕ → ℕ → ℕ → Fields
fields_by p x r i1 i2 i3 =
    record { p = p; r = r; s8 = s8_of x; b1 = b1_of x; i1 = i1; b2 = b2_of x; i2 = i2; b3 = b3_of x; i3 = i3; gain = 0 }

-- the class and the index of an answer
abbrev pub seat_class : Option Seat → ℕ
seat_class (Some s) = s.class
seat_class None = 0

abbrev pub seat_index : Option Seat → ℕ
seat_index (Some s) = s.index
seat_index None = 0

unfoldable pub fields_for : List ℤ → Fields
fields_for y =
    fields_by (parity_at y) (label_for y) (seat_class (class_index_of (section_ranks y 0))) (seat_index (class_index_of (section_ranks y 0)))
    (seat_index (mixed_index_of (section_ranks y 1))) (seat_index (class_index_of (section_ranks y 2)))

-- ---- the answer
-- in document 02's terms: number 0 and the word; or the number of the reason why there is none, and word 0. The section, counted from 1, is the
-- one that the reason is about, and else 0.
pub record Encoded : Type 0 where
  pub number : ℕ
  pub section : ℕ
  pub word : ℕ

-- what a call answers, in these terms
abbrev pub encoded_by : Result ℕ Refusal → Encoded
encoded_by (Ok w) = record { number = 0; section = 0; word = w }
encoded_by (Err r) = record { number = number_of r; section = section_of r; word = 0 }

-- no word, and a word
abbrev pub refused_with : ℕ → ℕ → Encoded
refused_with n s = record { number = n; section = s; word = 0 }

abbrev pub accepted_with : ℕ → Encoded
accepted_with w = record { number = 0; section = 0; word = w }

-- what follows where the test passes, and the refusal where it fails
abbrev asks : Bool → Encoded → Encoded → Encoded
asks test refusal next = cond test next refusal

-- the first test that fails decides
unfoldable pub encode_of : List ℤ → Encoded
encode_of y =
    asks (one_parity y) (refused_with mixed_parity 0)
    (asks (in_code y) (refused_with no_codeword 0)
    (asks (in_bound y 0) (refused_with outside 1)
    (asks (in_bound y 1) (refused_with outside 2)
    (asks (in_bound y 2) (refused_with outside 3) (asks (right_sum y) (refused_with wrong_sum 0) (accepted_with (word_of (fields_for y))))))))
