-- What is promised of the code that a public call answers. Definitions only.
use Rattle.std.specs.Prelude.{◌≡◌, List, ℕ, ◌^◌, ◌<◌, ℤ, Float}
use Rattle.tetra.specs.Tetra.{point_of}
use Rattle.tetra.specs.Encode.{accepted_with, encode_of}
use Rattle.tetra.specs.Why.{OfParity}
use Rattle.score.specs.Scale.{second_scale}
use Rattle.encoder.specs.Encode.{Coding, number_at, encode_at_over, higher, encode_over}

-- all 24 coordinates are even: a point of the even profile
abbrev pub Even : List ℤ → Type 0
Even y = OfParity y 0

-- demand 2: number 0, a word below 2 ^ 47 that decodes to the point, and a point that encodes to the word
pub record Coded (c : Coding) : Type 0 where
  pub number : c.number ≡ 0
  pub small : c.word < 2 ^ 47
  pub back : point_of c.word ≡ c.point
  pub again : encode_of c.point ≡ accepted_with c.word

-- demand 3: number 0, the point y, and its word
pub record Returns (y : List ℤ) (c : Coding) : Type 0 where
  pub number : c.number ≡ 0
  pub point : c.point ≡ y
  pub word : c.word ≡ (encode_of y).word

-- the two scales: both calls are accepted, and the code is the higher of theirs
pub record TwoCalls (ps : List ℕ) (x : List Float) (s : Float) (n : ℕ) : Type 0 where
  pub first : number_at x s n ≡ 0
  pub second : number_at x (second_scale s) n ≡ 0
  pub code : encode_over ps x n ≡ higher (encode_at_over ps x s n) (encode_at_over ps x (second_scale s) n)
