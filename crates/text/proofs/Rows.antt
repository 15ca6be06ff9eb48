-- Numbers in a row as texts in a buffer. Assumes nothing.
use mathlib.Core.Path.{◌≡◌, refl, ap, ◌∙◌}
use mathlib.Core.List.{List, [], ◌∷◌, ◌++◌}
use Prim.Native.Nat.{ℕ, ◌+◌, ◌<◌, ◌≤◌}
use native.Mathlib.Omega.{arith}
use lib.IntN.{ℤ, pos}
use lib.ListN.{length, get_or, drop, length-append, drop_of_length-le}
use lib.Seq.{sets}
use Rattle.laws.specs.Laws.Lists.{drop-next, sets-append}
use Rattle.text.specs.Text.{signed, commas, listed}

-- ---- numbers in a row
-- what is left to write at j: a comma, the number at j, and what is left at j + 1
module _ (zs : List ℤ) (j : ℕ) (inside : j < length zs) where
  commas-next : commas (drop j zs) ≡ (44 ∷ []) ++ (signed (get_or zs j (pos 0)) ++ commas (drop (j + 1) zs))
  unfolding commas
  commas-next = rw (drop-next ℤ (pos 0) zs j inside)

  pub row-length : length (commas (drop j zs)) ≡ 1 + length (signed (get_or zs j (pos 0))) + length (commas (drop (j + 1) zs))
  row-length =
      ap length commas-next
      ∙ omega (arith, length-append (signed (get_or zs j (pos 0))) (commas (drop (j + 1) zs)))

  pub row_next : (l : List ℕ) (next : ℕ)
      → sets l next (commas (drop j zs))
      ≡ sets (sets (sets l next (44 ∷ [])) (next + 1) (signed (get_or zs j (pos 0)))) (next + 1 + length (signed (get_or zs j (pos 0))))
      (commas (drop (j + 1) zs))
  row_next l next =
      ap (sets l next) commas-next
      ∙ sets-append ℕ (44 ∷ []) (signed (get_or zs j (pos 0)) ++ commas (drop (j + 1) zs)) l next
      ∙ sets-append ℕ (signed (get_or zs j (pos 0))) (commas (drop (j + 1) zs)) (sets l next (44 ∷ [])) (next + 1)

pub commas_end : (zs : List ℤ) (j : ℕ) → length zs ≤ j → commas (drop j zs) ≡ []
unfolding commas
commas_end zs j h = rw (drop_of_length-le zs h)

pub listed-first : (zs : List ℤ) → 0 < length zs → listed zs ≡ signed (get_or zs 0 (pos 0)) ++ commas (drop 1 zs)
unfolding listed
listed-first [] h = absurd (omega arith)
listed-first (z ∷ zs) h = refl
