-- Room for a block: 24 places are enough, and a shorter slice is answered by document 01's number 8 before
-- everything else, with what was lent left as it was. First for any call, then call by call. Assumes nothing.
use Rattle.encoder.specs.Encode.{Coding}
use Rattle.std.specs.Prelude.{◌≡◌, refl, Bool, true, false, ◌||◌, ◌↔◌, List, ◌++◌, ℕ, ◌<◌, ◌≤◌, ℤ, Float, length, take, drop}
use Rattle.std.proofs.Common.{sym, eq-eqb, ne_eqb, lt-ltb, le-ltb, length-take-le}
use Rattle.refusal.specs.Refusal.{outside}
use Rattle.tetra.specs.Tetra.{point_of}
use Rattle.tetra.specs.Encode.{encode_of}
use Rattle.tetra.specs.Demand2.{section-told}
use Rattle.yultarvas.specs.Calls.{
  room_first,
  short,
  left,
  at_front,
  decode_number,
  decode_point,
  word_for,
  point_number,
  point_word,
  outside_section,
  code_number,
}

-- ---- written where the number is 0
module _ (A : Type 0) (k : ℕ) (new old : A) where
  pub left_new : k ≡ 0 → new ≡ left k new old
  left_new e = rw (eq-eqb k 0 e)

  pub left_old : (k ≡ 0 → ⊥) → old ≡ left k new old
  left_old h = rw (ne_eqb k 0 h)

-- ---- one slice, too short or not
module _ (A : Type 0) (xs : List A) (k : ℕ) where
  pub no_room_lem : length xs < 24 → 8 ≡ room_first (short xs) k
  no_room_lem h = rw (lt-ltb (length xs) 24 h)

  pub room : 24 ≤ length xs → k ≡ room_first (short xs) k
  room h = rw (le-ltb (length xs) 24 h)

-- ---- two slices: either can be too short
module _ (x : List Float) (y : List ℤ) (k : ℕ) where
  pub no_samples_lem : length x < 24 → 8 ≡ room_first (short x || short y) k
  no_samples_lem h = rw (lt-ltb (length x) 24 h)

  pub no_cells : length y < 24 → 8 ≡ room_first (short x || short y) k
  no_cells h = rw (lt-ltb (length y) 24 h) (go (short x))
    where
      go : (b : Bool) → 8 ≡ room_first (b || true) k
      go true = refl
      go false = refl

  pub both : 24 ≤ length x → 24 ≤ length y → k ≡ room_first (short x || short y) k
  both h l = rw (le-ltb (length x) 24 h, le-ltb (length y) 24 l)

-- ---- a word to its point
module _ (w : ℕ) (old : List ℤ) where
  pub decode_room : 24 ≤ length old → (decode_number old ≡ 0) × (decode_point w old ≡ point_of w ++ drop 24 old)
  decode_room h =
      let n = sym (room ℤ old 0 h) in
      (n, sym (left_new (List ℤ) (decode_number old) (at_front (point_of w) old) old n))

  pub decode_short : length old < 24 → (decode_number old ≡ 8) × (decode_point w old ≡ old)
  decode_short h = let n = no_room_lem ℤ old 0 h in (sym n, rw (← n))

-- ---- a point to its word
module _ (y : List ℤ) (old : ℕ) where
  pub point_room : 24 ≤ length y → point_number y ≡ (encode_of (take 24 y)).number
  point_room h = sym (room ℤ y (word_for y).number h)

  pub point_short : length y < 24 → (point_number y ≡ 8) × (point_word y old ≡ old)
  point_short h = let n = no_room_lem ℤ y (word_for y).number h in (sym n, rw (← n))

-- the section is told beside 11 alone, so that a slice that is too short has none
pub outside_room : (y : List ℤ) → 24 ≤ length y → (point_number y ≡ outside) ↔ (1 ≤ outside_section y)
outside_room y h =
    rw (le-ltb (length y) 24 h) (section-told (take 24 y) (length-take-le 24 y h)).0

pub outside_short : (y : List ℤ) → length y < 24 → outside_section y ≡ 0
outside_short y h = rw (lt-ltb (length y) 24 h)

-- ---- samples to their code
module _ (x : List Float) (old : List ℤ) (c : Coding) where
  pub code_room : 24 ≤ length x → 24 ≤ length old → code_number x old c ≡ c.number
  code_room h k = sym (both x old c.number h k)

  pub code_short : (length x < 24 → code_number x old c ≡ 8) × (length old < 24 → code_number x old c ≡ 8)
  code_short = (λ h. sym (no_samples_lem x old c.number h), λ h. sym (no_cells x old c.number h))
