-- What `read` answers and stores for a page for which the buffer has room. Assumes nothing.
use mathlib.Core.Path.{◌≡◌, ◌∙◌}
use mathlib.Core.List.{List}
use Prim.Native.Nat.{ℕ, ◌+◌, ◌*◌, ◌≤◌}
use native.Mathlib.Omega.{arith}
use borrow.Author.Tests.{le-ltb}
use lib.IntN.{ℤ}
use lib.ListN.{length}
use lib.Seq.{sets, sets-eq}
use Rattle.page.specs.Answer.{Reading, page, number_in, words_in, counts_in, read_of, cells_of}
use Rattle.page.specs.Counts.{page_counts}
use Rattle.page.specs.Laws.Count.{page-length}

module _ (R : Reading) (num : ℕ) (words : List ℕ) (count : ℕ) where
  pub answered : (cells : ℕ) → R ≡ page num words → count ≡ length words → 24 * count ≤ cells
      → record { number = 0; count = count } ≡ read_of R cells
  unfolding read_of number_in words_in
  answered cells e n h =
      let l : 24 * length words ≤ cells = omega arith in
      rw (e, le-ltb cells (24 * length words) l, n)

  pub stored : (old : List ℤ) → R ≡ page num words → count ≡ length words → 24 * count ≤ length old
      → sets old 0 (page_counts num words) ≡ cells_of R old
  unfolding cells_of number_in words_in counts_in
  stored old e n h =
      let l : 24 * length words ≤ length old = omega arith in
      let z : 0 + length (page_counts num words) ≡ 24 * length words = omega (arith, page-length num words) in
      rw (e, le-ltb (length old) (24 * length words) l) (sets-eq (page_counts num words) old 0 (omega arith) ∙ rw z)
