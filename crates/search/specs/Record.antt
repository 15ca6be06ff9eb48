-- The rounding record of a coordinate: `Coord` and `Tables::build` of encoder.rs, float operation by float operation. Definitions only.
-- In these files every loop is a recursion on the turns done, every array a list, every `if` a `cond`.
-- The idea: the search asks the same of each coordinate again and again: between which numbers o + 4k its
-- target lies, what the five nearest of them weigh, how far away they are. So that is worked out once, for
-- each shrink and for both bits that a byte can have there. What follows only picks and adds.
use Rattle.std.specs.Prelude.{false, cond, List, [], ◌∷◌, ℕ, ◌+◌, ◌*◌, ◌/◌, ◌%◌, ◌^◌, ℤ, pos, negsuc, ◌+ℤ◌, ◌-ℤ◌, ◌*ℤ◌, get_or, Float}
use Rattle.std.specs.Float.{nan, fin, binary64}
use Rattle.std.specs.Float.Ieee.{sub, mul, div, lt, of_int, of_bits}
use Rattle.laws.specs.Words.{tab}
use Rattle.rank.specs.Vector.{sq}
use Rattle.rank.specs.Answers.{mark_of}
use Rattle.float.specs.Value.{zero64, four64}
use Rattle.float.specs.Calls.{abs_of, clamped, rounded}
use Rattle.search.specs.declared.Coord.{Coord}

-- bit j of a pattern byte
abbrev pub bit_at : ℕ → ℕ → ℕ
bit_at c j = c / 2 ^ j % 2

-- the member o + 4k
abbrev pub member : ℕ → ℤ → ℤ
member o k = pos o +ℤ pos 4 *ℤ k

-- the squared distance from a whole number to a target: one subtraction, one product
abbrev pub sq_to : ℤ → Float → Float
sq_to v t = mul binary64 (sub binary64 (of_int binary64 v) t) (sub binary64 (of_int binary64 v) t)

-- the whole number of slot f of five; slot 2 is k0
abbrev pub slot_k : ℤ → ℕ → ℤ
slot_k k f = k +ℤ (pos f -ℤ pos 2)

abbrev pub five {ℓ} : {A : Type ℓ} → (ℕ → A) → List A
five f = f 0 ∷ f 1 ∷ f 2 ∷ f 3 ∷ f 4 ∷ []

-- the shrunk target on the offset lattice: (t * shrink - o) / 4
abbrev pub on_lattice : Float → Float → ℕ → Float
on_lattice t shrink o = div binary64 (sub binary64 (mul binary64 t shrink) (of_int binary64 (pos o))) four64

-- the record of a coordinate whose place on the lattice is z, kept within a million, and rounds to k. The distances are to the target before the
-- shrink. The Rust reads a rank from a table of k from -8 to 8 and has 15 beyond it; there a rank is past 7, whose mark is 15 too
abbrev pub coord_from : Float → ℕ → Float → ℤ → Coord
coord_from t o z k =
    record {
      k0 = k;
      dir = cond (lt (of_int binary64 k) z) (pos 1) (negsuc 0);
      regret = abs_of (sub binary64 z (of_int binary64 k));
      rank = five (λ f. mark_of (member o (slot_k k f)));
      w = five (λ f. sq (mark_of (member o (slot_k k f))));
      d = five (λ f. sq_to (member o (slot_k k f)) t);
    }

-- `rounded` rounds what `clamped` gives, as the Rust does
unfoldable pub coord_of : Float → Float → ℕ → Coord
coord_of t shrink o = coord_from t o (clamped (on_lattice t shrink o)) (rounded (on_lattice t shrink o))

-- SHRINKS: 1, .85, .7, .55, .4, .25, .1, 0
unfoldable pub shrinks : List Float
shrinks =
    fin false 1 (pos 0) ∷ of_bits binary64 0x3feb333333333333 ∷ of_bits binary64 0x3fe6666666666666 ∷ of_bits binary64 0x3fe199999999999a
    ∷ of_bits binary64 0x3fd999999999999a ∷ of_bits binary64 0x3fd0000000000000 ∷ of_bits binary64 0x3fb999999999999a ∷ zero64 ∷ []

-- how many they are, and how many of them an end runs at most
abbrev pub all_shrinks : ℕ
all_shrinks = 8

abbrev pub end_shrinks : ℕ
end_shrinks = 7

-- the eight records of a section's targets, of parity p and pattern c, at shrink s
unfoldable pub row : List Float → ℕ → ℕ → ℕ → List Coord
row ts p c s = tab (λ (j : ℕ). coord_of (get_or ts j nan) (get_or shrinks s nan) (p + 2 * bit_at c j)) 8

-- ---- reading a row
abbrev pub no_coord : Coord
no_coord = record { k0 = pos 0; dir = pos 0; regret = nan; rank = []; w = []; d = [] }

abbrev pub coord_at : List Coord → ℕ → Coord
coord_at e j = get_or e j no_coord
