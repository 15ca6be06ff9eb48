-- A row that a loop lays out place by place, and a row of coordinates that a loop reads one after another. Assumes nothing.
use mathlib.Core.Path.{◌≡◌, ap, sym, ◌∙◌}
use mathlib.Core.Bool.{true, ◌&&◌}
use mathlib.Core.List.{List}
use Prim.Native.Nat.{ℕ, ◌+◌, ◌*◌, ◌<◌, ◌≤◌}
use native.Mathlib.Omega.{arith}
use lib.Dec.{eqb}
use lib.IntN.{ℤ, pos}
use lib.ListN.{length, get_or, set, take, drop, drop_of_length-le, length-map, length-drop, length-set}
use lib.Seq.{ext_get_or, get_or-take, get_or-drop, length-take-le}
use Rattle.laws.specs.Laws.Lists.{filled_more, drop-next, map_at}
use Rattle.rank.specs.Coord.{parity_of, bit_of}
use Rattle.rank.specs.Section.{uniform, bits_of}
use Rattle.rank.specs.Answers.{mark_of, marks_of}

-- ---- of n places, the first j are laid out as in the row u
abbrev pub Laid : {A : Type 0} → A → List A → ℕ → List A → ℕ → Type 0
Laid d u n out j = (j ≤ n) × (length out ≡ n) × ((k : ℕ) → k < j → get_or out k d ≡ get_or u k d)

-- one more, and all of them
pub laid_more : (A : Type 0) (d : A) (u : List A) (n : ℕ) (out : List A) (j : ℕ) (v : A) → Laid d u n out j → j < n → v ≡ get_or u j d
    → Laid d u n (set out j v) (j + 1)
laid_more A d u n out j v l h e =
    (omega arith, simp length-set l.1, filled_more A d (λ (k : ℕ). get_or u k d) out j v (omega arith) e l.2)

pub laid_all : (A : Type 0) (d : A) (u : List A) (n : ℕ) (out : List A) (j : ℕ) → Laid d u n out j → n ≤ j → length u ≡ n → out ≡ u
laid_all A d u n out j l h e = ext_get_or d out u (l.1 ∙ sym e) (λ k q. l.2 k (omega arith))

-- ---- read one after another
module _ (t : List ℤ) where
  pub uniform-next : (p i : ℕ) → i < length t → uniform p (drop i t) ≡ (eqb (parity_of (get_or t i (pos 0))) p && uniform p (drop (i + 1) t))
  unfolding uniform
  uniform-next p i h = ap (uniform p) (drop-next ℤ (pos 0) t i h)

  pub bits-next : (i : ℕ) → i < length t → bits_of (drop i t) ≡ bit_of (get_or t i (pos 0)) + 2 * bits_of (drop (i + 1) t)
  unfolding bits_of
  bits-next i h = ap bits_of (drop-next ℤ (pos 0) t i h)

  module _ (e : length t ≡ 24) where
    pub uniform_end : (p : ℕ) → uniform p (drop 24 t) ≡ true
    unfolding uniform
    uniform_end p = ap (uniform p) (drop_of_length-le t {i = 24} (omega arith))

    pub bits_end : bits_of (drop 24 t) ≡ 0
    unfolding bits_of
    bits_end = ap bits_of (drop_of_length-le t {i = 24} (omega arith))

    module _ (s : ℕ) (h : s < 3) where
      part_length : length (take 8 (drop (8 * s) t)) ≡ 8
      part_length = length-take-le 8 (drop (8 * s) t) (omega (arith, length-drop (8 * s) t))

      pub marks-length : length (marks_of (take 8 (drop (8 * s) t))) ≡ 8
      marks-length = length-map (take 8 (drop (8 * s) t)) mark_of ∙ part_length

      pub marks-at : (k : ℕ) → k < 8 → get_or (marks_of (take 8 (drop (8 * s) t))) k 0 ≡ mark_of (get_or t (8 * s + k) (pos 0))
      marks-at k l =
          map_at ℤ ℕ mark_of 0 (pos 0) (take 8 (drop (8 * s) t)) k (omega (arith, part_length))
          ∙ ap mark_of (get_or-take 8 (drop (8 * s) t) k (pos 0) l ∙ get_or-drop (8 * s) t k (pos 0))
