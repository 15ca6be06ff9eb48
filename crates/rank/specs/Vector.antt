-- Rank vectors: a section's ranks, coordinate 0 first. Cost, class, order, bounds and packing as document 01 has them. Assumes nothing.
use Rattle.std.specs.Prelude.{Bool, true, ◌&&◌, List, [], ◌∷◌, ltb}
use Prim.Native.Nat.{ℕ, zero, suc, ◌+◌, ◌*◌, ◌/◌, ◌%◌, compare}
use Rattle.laws.specs.Words.{pick3, lex_le, lex_lt}

-- all ranks are below b
unfoldable pub ranks_below : ℕ → List ℕ → Bool
ranks_below b [] = true
ranks_below b (r ∷ v) = ltb r b && ranks_below b v

-- ---- cost: the sum of (2 rank + 1)^2
abbrev pub sq : ℕ → ℕ
sq r = (2 * r + 1) * (2 * r + 1)

abbrev pub cost : List ℕ → ℕ
cost [] = 0
cost (r ∷ v) = sq r + cost v

-- ---- class: the parity of the sum of k read under o = 0, where the members are 0, 4, -4, 8, -8, .. and so |k| is (r + 1) / 2
abbrev pub k_zero : List ℕ → ℕ
k_zero [] = 0
k_zero (r ∷ v) = (r + 1) / 2 + k_zero v

abbrev pub class : List ℕ → ℕ
class v = k_zero v % 2

-- ---- packing: four bits a rank, coordinate 0 lowest
abbrev pub pack : List ℕ → ℕ
pack [] = 0
pack (r ∷ v) = r + 16 * pack v

abbrev pub unpack : ℕ → ℕ → List ℕ
unpack zero w = []
unpack (suc d) w = (w % 16) ∷ unpack d (w / 16)

-- ---- order: by cost, then by ranks, coordinate 0 most significant
abbrev pub before : List ℕ → List ℕ → Bool
before v w = pick3 (compare (cost v) (cost w)) (lex_lt v w)

-- ---- a closed bound: all that cost less than C, and those that cost C up to the cut, the cut included
abbrev pub within : ℕ → List ℕ → List ℕ → Bool
within C cut v = pick3 (compare (cost v) C) (lex_le v cut)

-- the bounds of the two classes and of the middle section
abbrev pub bound_cost : ℕ → ℕ
bound_cost zero = 88
bound_cost (suc c) = 96

abbrev pub bound_cut : ℕ → List ℕ
bound_cut zero = 1 ∷ 1 ∷ 0 ∷ 3 ∷ 0 ∷ 0 ∷ 1 ∷ 1 ∷ []
bound_cut (suc c) = 0 ∷ 0 ∷ 2 ∷ 2 ∷ 2 ∷ 0 ∷ 1 ∷ 1 ∷ []

abbrev pub middle_cost : ℕ
middle_cost = 72

abbrev pub middle_cut : List ℕ
middle_cut = 3 ∷ 0 ∷ 0 ∷ 0 ∷ 1 ∷ 0 ∷ 1 ∷ 0 ∷ []

abbrev pub in_class : ℕ → List ℕ → Bool
in_class c v = within (bound_cost c) (bound_cut c) v

abbrev pub in_middle : List ℕ → Bool
in_middle v = within middle_cost middle_cut v
