-- What each call answers and leaves, by what the text is, how much room there is, and whether the rows agree. Assumes nothing.
use Rattle.std.specs.Prelude.{◌≡◌, refl, true, false, List, ◌++◌, ℕ, ◌+◌, ◌<◌, ◌≤◌, ℤ, length, drop}
use borrow.Author.Tests.{lt-ltb, le-ltb, le-leb, lt-leb}
use Rattle.page.specs.Answer.{Reading, page, malformed, number_in, words_in}
use Rattle.summary.specs.Summary.{summary_of, cells_for}
use Rattle.summary.specs.Answer.{Summed, summarise_number, summarised, summarised_rows, agree, checked, add_number, added, longer, added_rows}

-- ---- a call answers r and leaves `rows` where `old` stood
abbrev pub Summarises : Reading → List ℤ → Summed → List ℤ → Type 0
Summarises R old r rows = (summarised R (length old) ≡ r) × (summarised_rows R old ≡ rows)

abbrev pub Adds : Reading → ℕ → List ℤ → Summed → List ℤ → Type 0
Adds R w old r rows = (added R old ≡ r) × (added_rows R w old ≡ rows)

-- ---- no page
pub sum-none : (old : List ℤ) → Summarises malformed old (record { number = 9; count = 0 }) old
unfolding summarise_number summarised summarised_rows number_in words_in
sum-none old = (refl, refl)

pub check-none : (rows : List ℤ) → checked malformed rows ≡ 9
unfolding checked number_in words_in
check-none rows = refl

pub add_none : (w : ℕ) (old : List ℤ) → Adds malformed w old (record { number = 9; count = 0 }) old
unfolding add_number added added_rows number_in words_in
add_none w old = (refl, refl)

-- ---- a page
module _ (num : ℕ) (ws : List ℕ) (old : List ℤ) where
  pub sum_short : length old < cells_for (length ws) → Summarises (page num ws) old (record { number = 8; count = 0 }) old
  unfolding summarise_number summarised summarised_rows number_in words_in
  sum_short h = rw (lt-ltb (length old) (cells_for (length ws)) h) (refl, refl)

  pub sum-good : cells_for (length ws) ≤ length old
      → Summarises (page num ws) old (record { number = 0; count = length ws }) (summary_of ws ++ drop (cells_for (length ws)) old)
  unfolding summarise_number summarised summarised_rows number_in words_in
  sum-good h = rw (le-ltb (length old) (cells_for (length ws)) h) (refl, refl)

  pub check_short : length old < cells_for (length ws) → checked (page num ws) old ≡ 8
  unfolding checked number_in words_in
  check_short h = rw (lt-ltb (length old) (cells_for (length ws)) h)

  pub check-other : cells_for (length ws) ≤ length old → agree ws old ≡ false → checked (page num ws) old ≡ 14
  unfolding checked number_in words_in
  check-other h e = rw (le-ltb (length old) (cells_for (length ws)) h, e)

  pub check-good : cells_for (length ws) ≤ length old → agree ws old ≡ true → checked (page num ws) old ≡ 0
  unfolding checked number_in words_in
  check-good h e = rw (le-ltb (length old) (cells_for (length ws)) h, e)

  module _ (w : ℕ) where
    pub add_full : 64 ≤ length ws → Adds (page num ws) w old (record { number = 9; count = 0 }) old
    unfolding add_number added added_rows number_in words_in
    add_full h = rw (le-leb 64 (length ws) h) (refl, refl)

    pub add_short : length ws < 64 → length old < cells_for (length ws + 1) → Adds (page num ws) w old (record { number = 8; count = 0 }) old
    unfolding add_number added added_rows number_in words_in
    add_short few h = rw (lt-leb 64 (length ws) few, lt-ltb (length old) (cells_for (length ws + 1)) h) (refl, refl)

    pub add-other : length ws < 64 → cells_for (length ws + 1) ≤ length old → agree ws old ≡ false
        → Adds (page num ws) w old (record { number = 14; count = 0 }) old
    unfolding add_number added added_rows number_in words_in
    add-other few h e = rw (lt-leb 64 (length ws) few, le-ltb (length old) (cells_for (length ws + 1)) h, e) (refl, refl)

    pub add-good : length ws < 64 → cells_for (length ws + 1) ≤ length old → agree ws old ≡ true
        → Adds (page num ws) w old (record { number = 0; count = length ws + 1 })
        (summary_of (longer ws w) ++ drop (cells_for (length (longer ws w))) old)
    unfolding add_number added added_rows number_in words_in
    add-good few h e = rw (lt-leb 64 (length ws) few, le-ltb (length old) (cells_for (length ws + 1)) h, e) (refl, refl)
