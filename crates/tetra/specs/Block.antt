-- Twenty-four numbers that stand in a longer list. Assumes nothing.
use Rattle.std.specs.Prelude.{◌≡◌, List, ℕ, ◌+◌, ◌≤◌, ℤ, pos, length, get_or, take, drop}
use Rattle.std.proofs.Common.{sym, ◌∙◌, arith, length-drop, length-take-le, get_or-take, get_or-drop}
use Rattle.laws.specs.Words.{tab}
use Rattle.laws.specs.Laws.Lists.{filled}

-- those from place `from` on, 0 for each that stands past the end
abbrev pub block_at : List ℤ → ℕ → List ℤ
block_at s from = tab (λ (j : ℕ). get_or s (from + j) (pos 0)) 24

-- where all 24 stand in it, they are a part of it as it is
pub block-part : (s : List ℤ) (from : ℕ) → from + 24 ≤ length s → block_at s from ≡ take 24 (drop from s)
block-part s from h =
    sym (filled ℤ (pos 0) 24 (λ (j : ℕ). get_or s (from + j) (pos 0)) (take 24 (drop from s)) (length-take-le 24 (drop from s) long)
    (λ k l. get_or-take 24 (drop from s) k (pos 0) l ∙ get_or-drop from s k (pos 0)))
  where
    long : 24 ≤ length (drop from s)
    long = omega (arith, length-drop from s)
