-- A summary with one word more: what is stored, and that it is the summary of the longer list. Assumes nothing.
use Rattle.std.specs.Prelude.{◌≡◌, refl, true, ℕ, ◌+◌, ◌*◌, ◌-◌, ◌%◌, ◌^◌, ◌≤◌, ℤ}
use Rattle.std.proofs.Math.Path.{ap, ap₂, sym}
use Rattle.std.proofs.Common.{◌∙◌, arith, take-append-drop, drop-drop}
use mathlib.Core.List.{List, [], ◌∷◌, ◌++◌, append_assoc, append-nil}
use Rattle.std.proofs.Math.ListN.{length, drop, length-append, length-drop}
use Rattle.std.proofs.Math.Seq.{sets, take-append_seam, drop-append-add}
use Rattle.std.proofs.lemmas.List.Edits.{sets-eq}
use Rattle.summary.specs.Summary.{row_of, block_row, page_row, block_rows, summary_of, cells_for}
use Rattle.summary.specs.Answer.{agree, longer}
use Rattle.summary.specs.Laws.Rows.{joined, row_step, low_free, block-length, page-length, rows-length, summary-length}
use Rattle.summary.specs.Laws.Cells.{begin_is}

pub rows_append : (us ws : List ℕ) → block_rows (us ++ ws) ≡ block_rows us ++ block_rows ws
unfolding block_rows
rows_append [] ws = refl
rows_append (u ∷ us) ws =
    ap (λ (l : List ℤ). block_row u ++ l) (rows_append us ws) ∙ sym (append_assoc (block_row u) (block_rows us) (block_rows ws))

-- ---- rows that agree: the summary, and the cells behind it
pub agree_is : (ws : List ℕ) (rows : List ℤ) → agree ws rows ≡ true → rows ≡ summary_of ws ++ drop (cells_for (length ws)) rows
unfolding agree
agree_is ws rows e =
    let n = summary-length ws in
    sym (take-append-drop (cells_for (length ws)) rows)
    ∙ ap (λ (l : List ℤ). l ++ drop (cells_for (length ws)) rows) (rw n at (begin_is rows (summary_of ws) e))

-- ---- a list stored behind another, over what stands there
sets_seam : (xs ys v : List ℤ) → length v ≤ length ys → sets (xs ++ ys) (length xs) v ≡ xs ++ (v ++ drop (length v) ys)
sets_seam xs ys v h =
    sets-eq v (xs ++ ys) (length xs) (omega (arith, length-append xs ys, h))
    ∙ ap₂ (λ (a b : List ℤ). (a ++ v) ++ b) (take-append_seam xs ys) (drop-append-add xs ys (length v))
    ∙ append_assoc xs v (drop (length v) ys)

-- ---- the summary stored over what stands there
pub all_stored : (ws : List ℕ) (old : List ℤ) → cells_for (length ws) ≤ length old
    → sets old 0 (summary_of ws) ≡ summary_of ws ++ drop (cells_for (length ws)) old
all_stored ws old room =
    let n = summary-length ws in
    sets_seam [] old (summary_of ws) (omega arith) ∙ ap (λ (k : ℕ). summary_of ws ++ drop k old) n

-- ---- the page's row stored anew, and the new block's row behind the others
module _ (ws : List ℕ) (w : ℕ) where
  -- the page's row
  pub page-grown : joined (length ws) (page_row ws) (block_row w) ≡ page_row (longer ws w)
  page-grown = ap (joined (length ws) (page_row ws)) (sym (low_free w)) ∙ sym (row_step ws (w % 2 ^ 48))

  pub longer-length : length (longer ws w) ≡ length ws + 1
  longer-length = length-append ws (w % 2 ^ 48 ∷ [])

  -- the blocks' rows
  pub blocks-grown : block_rows (longer ws w) ≡ block_rows ws ++ block_row w
  unfolding block_rows
  blocks-grown =
      rows_append ws (w % 2 ^ 48 ∷ [])
      ∙ ap (λ (l : List ℤ). block_rows ws ++ l) (append-nil (block_row (w % 2 ^ 48)) ∙ low_free w)

  page_stored : (old : List ℤ) → agree ws old ≡ true
      → sets old 0 (page_row (longer ws w)) ≡ (page_row (longer ws w) ++ block_rows ws) ++ drop (cells_for (length ws)) old
  unfolding page_row row_of summary_of
  page_stored old e =
      let rest = drop (cells_for (length ws)) old in
      let s = agree_is ws old e ∙ append_assoc (page_row ws) (block_rows ws) rest in
      ap (λ (l : List ℤ). sets l 0 (page_row (longer ws w))) s
      ∙ sym (append_assoc (page_row (longer ws w)) (block_rows ws) rest)

  behind : (old : List ℤ) → drop (length (block_row w)) (drop (cells_for (length ws)) old) ≡ drop (cells_for (length (longer ws w))) old
  behind old =
      let e : cells_for (length ws) + length (block_row w) ≡ cells_for (length (longer ws w)) = omega (arith, block-length w, longer-length) in
      drop-drop (length (block_row w)) (cells_for (length ws)) old ∙ ap (λ (k : ℕ). drop k old) e

  pub stored : (old : List ℤ) → agree ws old ≡ true → cells_for (length ws + 1) ≤ length old
      → sets (sets old 0 (joined (length ws) (page_row ws) (block_row w))) (4 * (length ws + 1)) (block_row w)
      ≡ summary_of (longer ws w) ++ drop (cells_for (length (longer ws w))) old
  unfolding summary_of
  stored old e room =
      let rest = drop (cells_for (length ws)) old in
      let front = page_row (longer ws w) ++ block_rows ws in
      let n : length front ≡ 4 * (length ws + 1) =
      length-append (page_row (longer ws w)) (block_rows ws) ∙ omega (arith, page-length (longer ws w), rows-length ws) in
      let r : length rest ≡ length old - cells_for (length ws) = length-drop (cells_for (length ws)) old in
      let b = block-length w in
      let p = ap (sets old 0) page-grown ∙ page_stored old e in
      ap₂ (λ (l : List ℤ) (k : ℕ). sets l k (block_row w)) p (sym n)
      ∙ sets_seam front rest (block_row w) (omega arith)
      ∙ ap (λ (l : List ℤ). front ++ (block_row w ++ l)) (behind old)
      ∙ sym (append_assoc front (block_row w) (drop (cells_for (length (longer ws w))) old))
      ∙ ap (λ (l : List ℤ). l ++ drop (cells_for (length (longer ws w))) old)
      (append_assoc (page_row (longer ws w)) (block_rows ws) (block_row w) ∙ ap (λ (l : List ℤ). page_row (longer ws w) ++ l) (sym blocks-grown))

  -- the same of rows that are known by what was stored
  pub stored_by : (old mid after page block : List ℤ) (n : ℕ) → n ≡ length ws → block ≡ block_row w → page ≡ joined n (page_row ws) block
      → mid ≡ sets old 0 page → after ≡ sets mid (4 * (n + 1)) block → agree ws old ≡ true → cells_for (length ws + 1) ≤ length old
      → after ≡ summary_of (longer ws w) ++ drop (cells_for (length (longer ws w))) old
  stored_by old mid after page block n e b p m a t room = a ∙ rw (m, p, e, b) (stored old t room)
