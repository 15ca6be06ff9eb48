-- What each step of the computation does. Definitions only.
use Rattle.std.specs.Prelude.{false, ◌⊎◌, ◌≡◌, ℕ, ◌+◌, ◌*◌, ◌%◌, ◌^◌, ◌≤◌, ◌<◌, T, Float}
use Rattle.std.specs.Float.Ieee.Scale.{finite}
use Rattle.float.specs.Value.{mag_units, is_minus}

-- a finite double above zero
pub record Above (x : Float) : Type 0 where
  pub fin : T (finite x)
  pub sign : is_minus x ≡ false
  pub pos : 0 < mag_units x

-- x is m * 2 ^ k units
pub record Apart (x : Float) (m k : ℕ) : Type 0 where
  pub mag : m * 2 ^ k ≡ mag_units x
  pub small : m < 2 ^ 53
  pub k-le : k ≤ 2045

-- the same number with an even exponent
pub record Even (m k m' k' : ℕ) : Type 0 where
  pub same : m' * 2 ^ k' ≡ m * 2 ^ k
  pub small : m' < 2 ^ 54
  pub even : k' % 2 ≡ 0
  pub k-le : k' ≤ k

-- m * 4 ^ h, of 53 or 54 digits
pub record Raised (m n h : ℕ) : Type 0 where
  pub is : n ≡ m * (2 ^ h * 2 ^ h)
  pub h_le : h ≤ 26
  pub lo : 2 ^ 52 ≤ n
  pub hi : n < 2 ^ 54

-- the whole root of n, and what is left
pub record IsRoot (n root rem : ℕ) : Type 0 where
  pub sum : root * root + rem ≡ n
  pub low : rem ≤ 2 * root

-- one digit more, for two digits d more of the radicand
pub record Step (root rem d root' rem' : ℕ) : Type 0 where
  pub sum : root' * root' + rem' ≡ (root * root + rem) * 4 + d
  pub low : rem' ≤ 2 * root'
  pub size : root' ≤ root * 2 + 1

-- the root, or one more where more is left than the root
abbrev pub Picked : ℕ → ℕ → ℕ → Type 0
Picked root rem r = ((root < rem) × (r ≡ root + 1)) ⊎ ((rem ≤ root) × (r ≡ root))
