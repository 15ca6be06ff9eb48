-- The fields of a text in an array of n bytes. Assumes nothing.
use Rattle.std.specs.Prelude.{◌≡◌, List, ◌++◌, ℕ, ◌-◌, ◌≤◌, length, take, replicate}
use Rattle.text.specs.declared.printed.Printed.TheInside.{Inside}

-- the text that they hold
abbrev pub held : {n : ℕ} → Inside n → List ℕ
held p = take p.length p.bytes

-- those that hold a text: it stands at the array's front, with zeros behind it
abbrev pub in_array : (n : ℕ) → List ℕ → Inside n
in_array n text = record { length = length text; bytes = text ++ replicate (n - length text) 0 }

-- they hold a text that the array has room for
abbrev pub IsHeld : {n : ℕ} → Inside n → Type 0
IsHeld {n} p = (p.length ≤ n) × (p ≡ in_array n (held p))
