-- The 48-bit word: where each of its ten fields stands. Assumes nothing.
use Rattle.std.specs.Prelude.{Bool, cond, ◌&&◌, ℕ, ◌+◌, ◌*◌, ◌/◌, ◌%◌, ◌^◌, ◌<◌, ltb, Result, Ok, Err}
use Rattle.refusal.specs.Refusal.{too_wide, number_of}
use Rattle.word.specs.declared.Fields.{Fields}
use Rattle.refusal.specs.declared.Refusal.{Refusal}

-- the field of w that has its low bit at lo and is width bits wide
unfoldable pub field_at : ℕ → ℕ → ℕ → ℕ
field_at lo width w = (w / 2 ^ lo) % 2 ^ width

-- the ten fields of a word, low bit and width of each; bits 48 and up are ignored
abbrev pub fields_of : ℕ → Fields
fields_of w =
    record {
      p = field_at 0 1 w;
      r = field_at 1 1 w;
      s8 = field_at 2 6 w;
      b1 = field_at 8 1 w;
      i1 = field_at 9 11 w;
      b2 = field_at 20 4 w;
      i2 = field_at 24 11 w;
      b3 = field_at 35 1 w;
      i3 = field_at 36 11 w;
      gain = field_at 47 1 w;
    }

-- whether each field fits its width
abbrev pub fits : Fields → Bool
fits f =
    ltb f.p (2 ^ 1) && ltb f.r (2 ^ 1) && ltb f.s8 (2 ^ 6) && ltb f.b1 (2 ^ 1) && ltb f.i1 (2 ^ 11) && ltb f.b2 (2 ^ 4)
    && ltb f.i2 (2 ^ 11) && ltb f.b3 (2 ^ 1) && ltb f.i3 (2 ^ 11) && ltb f.gain (2 ^ 1)

-- the same as facts
pub record Narrow (f : Fields) : Type 0 where
  pub p : f.p < 2 ^ 1
  pub r : f.r < 2 ^ 1
  pub s8 : f.s8 < 2 ^ 6
  pub b1 : f.b1 < 2 ^ 1
  pub i1 : f.i1 < 2 ^ 11
  pub b2 : f.b2 < 2 ^ 4
  pub i2 : f.i2 < 2 ^ 11
  pub b3 : f.b3 < 2 ^ 1
  pub i3 : f.i3 < 2 ^ 11
  pub gain : f.gain < 2 ^ 1

-- the word that holds each field at its low bit
abbrev pub word_of : Fields → ℕ
word_of f =
    f.p * 2 ^ 0 + f.r * 2 ^ 1 + f.s8 * 2 ^ 2 + f.b1 * 2 ^ 8 + f.i1 * 2 ^ 9 + f.b2 * 2 ^ 20 + f.i2 * 2 ^ 24 + f.b3 * 2 ^ 35
    + f.i3 * 2 ^ 36 + f.gain * 2 ^ 47

-- an answer of `join` in document 01's terms: number 0 and the word, or the number of a refusal and word 0
pub record Joined : Type 0 where
  pub number : ℕ
  pub word : ℕ

abbrev pub joined_by : Result ℕ Refusal → Joined
joined_by (Ok w) = record { number = 0; word = w }
joined_by (Err r) = record { number = number_of r; word = 0 }

-- what `join` answers: the word, or the refusal and word 0 where a field does not fit
unfoldable pub join_of : Fields → Joined
join_of f = cond (fits f) (record { number = 0; word = word_of f }) (record { number = too_wide; word = 0 })
