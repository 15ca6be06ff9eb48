-- The rows of a request line, 24 words each, as their readers answer them for every line and place. Assumes nothing.
use Rattle.std.specs.Prelude.{List, [], ◌∷◌, ◌++◌, ℕ, zero, suc, ℤ, Float, Option, Some, None}
use Rattle.text.specs.Lines.{onRead}
use Rattle.request.specs.Words.{double_after, signed_after}

-- n words more, from a place on, each read by `word`, where xs were read; and the place after the last
unfoldable pub row_from : {T : Type 0} → (List ℕ → ℕ → Option (T × ℕ)) → List ℕ → ℕ → List T → ℕ → Option (List T × ℕ)
row_from word s zero xs at = Some (xs, at)
row_from word s (suc n) xs at = onRead (word s at) None (λ v m. row_from word s n (xs ++ (v ∷ [])) m)

abbrev pub row_after : {T : Type 0} → (List ℕ → ℕ → Option (T × ℕ)) → List ℕ → ℕ → Option (List T × ℕ)
row_after word s at = row_from word s 24 [] at

-- 24 samples
abbrev pub samples_after : List ℕ → ℕ → Option (List Float × ℕ)
samples_after s at = row_after double_after s at

-- 24 coordinates
abbrev pub point_after : List ℕ → ℕ → Option (List ℤ × ℕ)
point_after s at = row_after signed_after s at
