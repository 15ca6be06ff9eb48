-- Rows stored one behind another, and compared one behind another. Assumes nothing.
use mathlib.Core.Path.{◌≡◌, ap, ◌∙◌}
use mathlib.Core.Bool.{◌&&◌}
use mathlib.Core.List.{List, []}
use Prim.Native.Nat.{ℕ, ◌+◌, ◌*◌, ◌<◌, ◌≤◌}
use native.Mathlib.Omega.{arith}
use lib.IntN.{ℤ}
use lib.ListN.{length, get_or, drop, drop_of_length-le}
use lib.Seq.{sets, drop-drop}
use Rattle.laws.specs.Laws.Lists.{drop-next, sets-append}
use Rattle.summary.specs.Summary.{row_of, block_row, page_row, block_rows, summary_of}
use Rattle.summary.specs.Answer.{begin, agree}
use Rattle.summary.specs.Laws.Rows.{block-length}
use Rattle.summary.specs.Laws.Cells.{begin-append}

module _ (words : List ℕ) (i : ℕ) where
  -- nothing is left behind the last word
  pub left_end : length words ≤ i → block_rows (drop i words) ≡ []
  unfolding block_rows
  left_end h = rw (drop_of_length-le words h)

  -- ---- stored
  pub rows_next : i < length words → (l : List ℤ)
      → sets l (4 * (i + 1)) (block_rows (drop i words))
      ≡ sets (sets l (4 * (i + 1)) (block_row (get_or words i 0))) (4 * (i + 1 + 1)) (block_rows (drop (i + 1) words))
  unfolding block_rows
  rows_next h l =
      let w = get_or words i 0 in
      let e : 4 * (i + 1 + 1) ≡ 4 * (i + 1) + length (block_row w) = omega (arith, block-length w) in
      rw (drop-next ℕ 0 words i h, e) (sets-append ℤ (block_row w) (block_rows (drop (i + 1) words)) l (4 * (i + 1)))

  -- ---- compared
  pub agree-split : i < length words → (rows : List ℤ)
      → begin (drop (4 * (i + 1)) rows) (block_rows (drop i words))
      ≡ begin (drop (4 * (i + 1)) rows) (block_row (get_or words i 0)) && begin (drop (4 * (i + 1 + 1)) rows) (block_rows (drop (i + 1) words))
  unfolding block_rows
  agree-split h rows =
      let w = get_or words i 0 in
      let e : 4 * (i + 1) + length (block_row w) ≡ 4 * (i + 1 + 1) = omega (arith, block-length w) in
      rw (drop-next ℕ 0 words i h, begin-append (drop (4 * (i + 1)) rows) (block_row w) (block_rows (drop (i + 1) words)))
      (ap (λ (l : List ℤ). begin (drop (4 * (i + 1)) rows) (block_row w) && begin l (block_rows (drop (i + 1) words)))
      (drop-drop (length (block_row w)) (4 * (i + 1)) rows ∙ ap (λ (n : ℕ). drop n rows) e))

-- ---- the page's row first
pub rows_start : (ws : List ℕ) (l : List ℤ) → sets l 0 (summary_of ws) ≡ sets (sets l 0 (page_row ws)) 4 (block_rows ws)
unfolding summary_of page_row row_of
rows_start ws l = sets-append ℤ (page_row ws) (block_rows ws) l 0

pub agree-start : (ws : List ℕ) (rows : List ℤ) → agree ws rows ≡ begin rows (page_row ws) && begin (drop 4 rows) (block_rows ws)
unfolding agree summary_of page_row row_of
agree-start ws rows = begin-append rows (page_row ws) (block_rows ws)
