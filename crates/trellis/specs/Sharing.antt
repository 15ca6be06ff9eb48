-- States: when two codewords share one at a cut, which is a place between two bits, and how states are numbered. Assumes nothing.
use Rattle.std.specs.Prelude.{◌≡◌, ◌⊎◌, ◌↔◌, ℕ, ◌%◌, ◌^◌, ◌<◌, ◌≤◌}
use Rattle.std.specs.Int.Bits.{bit_xor}
use Rattle.trellis.specs.Code.{codeword_of, columns}

-- the word w lies wholly on one side of the cut: below it, or above it
abbrev pub OneSide : ℕ → ℕ → Type 0
OneSide place w = (w < 2 ^ place) ⊎ (w % 2 ^ place ≡ 0)

-- the word is a sum of codewords that each lie wholly on one side of the cut
pub data Sum : ℕ → ℕ → Type 0 where
  none : {place : ℕ} → Sum place 0
  plus : {place v : ℕ} (x : ℕ) → OneSide place (codeword_of columns x) → Sum place v → Sum place (bit_xor (codeword_of columns x) v)

-- two codewords share a state at the cut when they differ by such a sum
abbrev pub Share : ℕ → ℕ → ℕ → Type 0
Share place v w = Sum place (bit_xor v w)

-- the states at the cut are numbered by the ascending order of their smallest codewords; `state x` is the number at the label x
pub record Numbered (place : ℕ) (state : ℕ → ℕ) : Type 0 where
  -- numbers 0 to 63, the same where a state is shared and nowhere else
  pub state-lt : (x : ℕ) → state x < 64
  pub shared : (x y : ℕ) → (state x ≡ state y) ↔ Share place (codeword_of columns x) (codeword_of columns y)
  -- the label of the smallest codeword of each state: it is one of the state's, none of them is smaller, and they ascend
  pub least : ℕ → ℕ
  pub own : (s : ℕ) → s < 64 → state (least s) ≡ s
  pub smallest : (x : ℕ) → codeword_of columns (least (state x)) ≤ codeword_of columns x
  pub ascending : (s t : ℕ) → s < t → t < 64 → codeword_of columns (least s) < codeword_of columns (least t)
