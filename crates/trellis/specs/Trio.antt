-- Trio order: the set bits of each octad ascending, in the order of the octads. Assumes nothing.
use Rattle.std.specs.Prelude.{cond, List, [], ◌∷◌, ◌++◌, ℕ, zero, suc, ◌/◌, ◌%◌, eqb}
use Rattle.laws.specs.Words.{tab, seek}

-- three octads: bit i of each stands for coordinate i
abbrev pub octad1 : ℕ
octad1 = 0x00149f

abbrev pub octad2 : ℕ
octad2 = 0x0f6840

abbrev pub octad3 : ℕ
octad3 = 0xf08320

-- the places of the set bits among the n low bits of w, ascending, where the lowest bit stands at place i
abbrev pub set_bits : ℕ → ℕ → ℕ → List ℕ
set_bits zero i w = []
set_bits (suc n) i w = let rest = set_bits n (suc i) (w / 2) in cond (eqb (w % 2) 1) (i ∷ rest) rest

-- the coordinate at each place of trio order
unfoldable pub order : List ℕ
order = set_bits 24 0 octad1 ++ (set_bits 24 0 octad2 ++ set_bits 24 0 octad3)

-- the place of each coordinate: where it stands in the order
unfoldable pub places : List ℕ
places = tab (λ (i : ℕ). seek i order) 24
