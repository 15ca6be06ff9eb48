-- Why a point has no word: request 2026-02 of document 02. A reason is said of the point alone, by what Lattice says of points; no answer of
-- the code and no table stands here. Assumes nothing.
use Rattle.std.specs.Prelude.{◌≡◌, ◌⊎◌, List, ℕ, suc, ◌<◌, T, ℤ, pos, get_or}
use Rattle.laws.specs.Words.{mod_z}
use Rattle.refusal.specs.Refusal.{mixed_parity, no_codeword, outside, wrong_sum}
use Rattle.rank.specs.Coord.{parity_of}
use Rattle.rank.specs.Section.{bits_of, k_sum}
use Rattle.tetra.specs.Lattice.{trio, Codeword, in_bound, HasWord}

-- all 24 coordinates have the parity p
abbrev pub OfParity : List ℤ → ℕ → Type 0
OfParity y p = (i : ℕ) → i < 24 → parity_of (get_or y i (pos 0)) ≡ p

-- the bits are a codeword
abbrev pub InCode : List ℤ → Type 0
InCode y = Codeword (bits_of (trio y))

-- section s, which is 0, 1 or 2, meets its bound
abbrev pub Inside : List ℤ → ℕ → Type 0
Inside y s = T (in_bound y s)

-- the reasons with their number and section: a point that has a word carries 0, and a section, counted from 1, stands beside 11 alone. Each
-- says that what the reasons above it deny holds, so that it is the first.
pub data Why (y : List ℤ) : ℕ → ℕ → Type 0 where
  has_word : HasWord y → Why y 0 0
  mixed_parity_lem : ((p : ℕ) → OfParity y p → ⊥) → Why y mixed_parity 0
  no_codeword_lem : (p : ℕ) → OfParity y p → (InCode y → ⊥) → Why y no_codeword 0
  outside-bound : (p s : ℕ) → OfParity y p → InCode y → s < 3 → ((t : ℕ) → t < s → Inside y t) → (Inside y s → ⊥) → Why y outside (suc s)
  wrong_sum_lem : (p : ℕ) → OfParity y p → InCode y → ((s : ℕ) → s < 3 → Inside y s) → (mod_z (k_sum y) 2 ≡ p → ⊥) → Why y wrong_sum 0

-- a number that refuses a point
abbrev pub Refused : ℕ → Type 0
Refused n = (n ≡ mixed_parity) ⊎ (n ≡ no_codeword) ⊎ (n ≡ outside) ⊎ (n ≡ wrong_sum)
