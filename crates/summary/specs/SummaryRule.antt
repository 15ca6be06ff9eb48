-- The summary's rule: what each call answers and leaves, in the order of the refusals; a word added is the longer page's summary worked out
-- afresh; what the cells of a row say, and how large they are. Assumes nothing.
use Rattle.std.specs.Prelude.{◌≡◌, refl, ◌↔◌, ◌⊎◌, Bool, true, false, List, [], ◌∷◌, ◌++◌, ℕ, zero, suc, ◌+◌, ◌*◌, ◌%◌, ◌<◌, ◌≤◌, T, ℤ, pos, nat_abs, length, get_or, take, drop, ◌≤ℤ◌}
use Rattle.std.proofs.Common.{ap, ap₂, sym, subst, ◌∙◌, inl, inr, true≢false, append_assoc, arith, not-suc-le-zero, le_of_suc-le-suc, take-append-drop, length-append, length-take}
use Rattle.std.proofs.Math.Dec.{not_T}
use Rattle.std.proofs.Math.Seq.{take-append_seam, drop-append-add}
use Rattle.std.specs.Int.Signed.{lt_z, lt_z_no}
use Rattle.laws.specs.Words.{norm}
use Rattle.laws.specs.Laws.Order.{le-or-lt}
use Rattle.laws.specs.Laws.Tests.{is_true, is_false}
use Rattle.rank.specs.Coord.{parity_of}
use Rattle.tetra.specs.Tetra.{point_of}
use Rattle.tetra.specs.Demand2.{point-length, parity_is}
use Rattle.page.specs.Page.{Fit, Page, page_text}
use Rattle.page.specs.Answer.{Reading, page, malformed}
use Rattle.page.specs.Reader.{reading_of}
use Rattle.page.specs.PageRule.{page_of_lem, accepted, only_pages, reads, one_reading}
use Rattle.summary.specs.Summary.{taken, row_of, block_row, points, odds, page_row, block_rows, summary_of, cells_for}
use Rattle.summary.specs.Answer.{begin, agree, checked, added, added_rows, longer}
use Rattle.summary.specs.Laws.Answers.{Summarises, Adds, sum-none, sum_short, sum-good, check-none, check_short, check-other, check-good}
use Rattle.summary.specs.Laws.Answers.{add_none, add-other, add-good}
use Rattle.summary.specs.Laws.Answers as answers
use Rattle.summary.specs.Laws.Extremes.{ascending, descending, none_beyond, found}
use Rattle.summary.specs.Laws.Rows.{Within, norm-append, points-length, point-within, points-within, block-sum, page-sum, odds_most}
use Rattle.summary.specs.Laws.Rows.{block-length, page-length, rows-length, summary-length}
use Rattle.summary.specs.Laws.Cells.{begin_is, begin_self}
use Rattle.summary.specs.Laws.Grown.{agree_is, longer-length, blocks-grown}

-- ---- what it means that rows agree with a page's words: the cells from their start on are the summary; those behind are not looked at
abbrev pub Agrees : List ℕ → List ℤ → Type 0
Agrees ws rows = take (cells_for (length ws)) rows ≡ summary_of ws

agrees_true : (ws : List ℕ) (rows : List ℤ) → Agrees ws rows → agree ws rows ≡ true
unfolding agree
agrees_true ws rows e =
    let s : summary_of ws ++ drop (cells_for (length ws)) rows ≡ rows =
    ap (λ (l : List ℤ). l ++ drop (cells_for (length ws)) rows) (sym e) ∙ take-append-drop (cells_for (length ws)) rows in
    subst (λ (l : List ℤ). begin l (summary_of ws) ≡ true) s (begin_self (summary_of ws) (drop (cells_for (length ws)) rows))

true_agrees : (ws : List ℕ) (rows : List ℤ) → agree ws rows ≡ true → Agrees ws rows
unfolding agree
true_agrees ws rows e = rw (summary-length ws) at (begin_is rows (summary_of ws) e)

agrees_false : (ws : List ℕ) (rows : List ℤ) → (Agrees ws rows → ⊥) → agree ws rows ≡ false
agrees_false ws rows h = is_false (agree ws rows) (λ t. h (true_agrees ws rows (is_true (agree ws rows) t)))

-- either they agree or they do not
pub agrees-or_not : (ws : List ℕ) (rows : List ℤ) → Agrees ws rows ⊎ (Agrees ws rows → ⊥)
agrees-or_not ws rows = go (agree ws rows) refl
  where
    go : (b : Bool) → agree ws rows ≡ b → Agrees ws rows ⊎ (Agrees ws rows → ⊥)
    go true t = inl (true_agrees ws rows t)
    go false t = inr (λ e. true≢false (sym (agrees_true ws rows e) ∙ t))

-- rows that begin with a summary have room for it
agrees_room : (ws : List ℕ) (rows : List ℤ) → Agrees ws rows → cells_for (length ws) ≤ length rows
agrees_room ws rows e =
    let n : length (take (cells_for (length ws)) rows) ≡ cells_for (length ws) = ap length e ∙ summary-length ws in
    omega (arith, rw length-take at n)

front_agrees : (ws : List ℕ) (rest : List ℤ) → agree ws (summary_of ws ++ rest) ≡ true
unfolding agree
front_agrees ws rest = begin_self (summary_of ws) rest

-- the rows of the blocks that a summary and a longer one have in common
block_rows_front : (ws : List ℕ) (rest : List ℤ) → take (4 * length ws) (drop 4 (summary_of ws ++ rest)) ≡ block_rows ws
unfolding summary_of page_row row_of
block_rows_front ws rest = rw (← rows-length ws) (take-append_seam (block_rows ws) rest)

block_rows-grown : (ws : List ℕ) (w : ℕ) (rest : List ℤ) → take (4 * length ws) (drop 4 (summary_of (longer ws w) ++ rest)) ≡ block_rows ws
unfolding summary_of page_row row_of
block_rows-grown ws w rest =
    rw (blocks-grown ws w, append_assoc (block_rows ws) (block_row w) rest, ← rows-length ws) (take-append_seam (block_rows ws) (block_row w ++ rest))

fit_longer : (ws : List ℕ) (w : ℕ) → Fit ws → Fit (longer ws w)
fit_longer [] w f zero h = omega arith
fit_longer [] w f (suc k) h = absurd (not-suc-le-zero (le_of_suc-le-suc h))
fit_longer (v ∷ ws) w f zero h = f 0 (omega arith)
fit_longer (v ∷ ws) w f (suc k) h = fit_longer ws w (λ j l. f (suc j) (omega arith)) k (le_of_suc-le-suc h)

-- ---- what each call answers and leaves in rows that held `old`
module _ (text : List ℕ) (old : List ℤ) where
  -- 9 for a text that is no page
  module _ (none : (num : ℕ) (words : List ℕ) → Page text num words → ⊥) where
    no_reading : reading_of text ≡ malformed
    no_reading = one_reading text (reading_of text) malformed (reads text) none

    pub summarise_on-no_page : Summarises (reading_of text) old (record { number = 9; count = 0 }) old
    summarise_on-no_page = rw no_reading (sum-none old)

    pub check_on-no_page : checked (reading_of text) old ≡ 9
    check_on-no_page = rw no_reading (check-none old)

    pub add_on-no_page : (w : ℕ) → Adds (reading_of text) w old (record { number = 9; count = 0 }) old
    add_on-no_page w = rw no_reading (add_none w old)

  module _ (num : ℕ) (words : List ℕ) (p : Page text num words) where
    is_page : reading_of text ≡ page num words
    is_page = accepted text num words p

    -- then 8 where there are fewer cells than the summary takes
    pub summarise_on_short : length old < cells_for (length words) → Summarises (reading_of text) old (record { number = 8; count = 0 }) old
    summarise_on_short h = rw is_page (sum_short num words old h)

    pub check_on_short : length old < cells_for (length words) → checked (reading_of text) old ≡ 8
    check_on_short h = rw is_page (check_short num words old h)

    -- otherwise the summary, and the cells behind it stay
    pub summarise_on-page : cells_for (length words) ≤ length old
        → Summarises (reading_of text) old (record { number = 0; count = length words }) (summary_of words ++ drop (cells_for (length words)) old)
    summarise_on-page h = rw is_page (sum-good num words old h)

    -- a check gives 14 where the rows do not agree, and else 0
    pub check_on-other : cells_for (length words) ≤ length old → (Agrees words old → ⊥) → checked (reading_of text) old ≡ 14
    check_on-other h e = rw is_page (check-other num words old h (agrees_false words old e))

    pub check_on-page : cells_for (length words) ≤ length old → Agrees words old → checked (reading_of text) old ≡ 0
    check_on-page h e = rw is_page (check-good num words old h (agrees_true words old e))

    -- ---- a word added
    module _ (w : ℕ) where
      -- 9 for a full page, before the rows are looked at
      pub add_full : 64 ≤ length words → Adds (reading_of text) w old (record { number = 9; count = 0 }) old
      add_full h = rw is_page (answers.add_full num words old w h)

      module _ (few : length words < 64) where
        -- then 8 where there are fewer cells than the longer summary takes
        pub add_short : length old < cells_for (length words + 1) → Adds (reading_of text) w old (record { number = 8; count = 0 }) old
        add_short h = rw is_page (answers.add_short num words old w few h)

        module _ (room : cells_for (length words + 1) ≤ length old) where
          -- then 14 where the rows do not agree with the page
          pub add-disagrees : (Agrees words old → ⊥) → Adds (reading_of text) w old (record { number = 14; count = 0 }) old
          add-disagrees e = rw is_page (add-other num words old w few room (agrees_false words old e))

          module _ (e : Agrees words old) where
            -- otherwise the summary of the longer page, and the cells behind it stay
            pub add_on-page : Adds (reading_of text) w old (record { number = 0; count = length words + 1 })
                (summary_of (longer words w) ++ drop (cells_for (length words + 1)) old)
            add_on-page =
                let g = add-good num words old w few room (agrees_true words old e) in
                let n = ap (λ (k : ℕ). summary_of (longer words w) ++ drop (cells_for k) old) (longer-length words w) in
                rw is_page (g.0, g.1 ∙ n)

            -- the text of the longer page
            longer-page : Page (page_text num (longer words w)) num (longer words w)
            longer-page =
                page_of_lem num (longer words w) p.num_least p.num_most (omega (arith, longer-length words w))
                (fit_longer words w p.words_fit)

            -- what is answered and left is what working out that page's summary afresh would answer and leave
            pub add_afresh : Summarises (reading_of (page_text num (longer words w))) old
                (added (reading_of text) old) (added_rows (reading_of text) w old)
            add_afresh =
                let n = longer-length words w in
                let a = add_on-page in
                let s = sum-good num (longer words w) old (rw n room) in
                rw (accepted (page_text num (longer words w)) num (longer words w) longer-page) (
                  s.0 ∙ ap (λ (k : ℕ). record { number = 0; count = k }) n ∙ sym a.0,
                  s.1 ∙ ap (λ (k : ℕ). summary_of (longer words w) ++ drop (cells_for k) old) n ∙ sym a.1,
                )

            -- and a check on that text accepts it
            pub add_then-check : checked (reading_of (page_text num (longer words w))) (added_rows (reading_of text) w old) ≡ 0
            add_then-check =
                let ls = longer words w in
                let rest = drop (cells_for (length words + 1)) old in
                rw (accepted (page_text num ls) num ls longer-page, add_on-page.1)
                (check-good num ls (summary_of ls ++ rest) (omega (arith, length-append (summary_of ls) rest, summary-length ls))
                (front_agrees ls rest))

            -- of the old rows only the page's changes
            pub old_rows_stay : take (4 * length words) (drop 4 (added_rows (reading_of text) w old)) ≡ take (4 * length words) (drop 4 old)
            old_rows_stay =
                let s = agree_is words old (agrees_true words old e) in
                rw add_on-page.1 (block_rows-grown words w (drop (cells_for (length words + 1)) old))
                ∙ sym (ap (λ (l : List ℤ). take (4 * length words) (drop 4 l)) s ∙ block_rows_front words (drop (cells_for (length words)) old))

-- ---- rows are accepted by a check just where the text is a page, and they have its summary at their start
pub record Kept (text : List ℕ) (rows : List ℤ) : Type 0 where
  pub num : ℕ
  pub words : List ℕ
  pub is_page : Page text num words
  pub agrees : Agrees words rows

pub check_iff : (text : List ℕ) (rows : List ℤ) → (checked (reading_of text) rows ≡ 0) ↔ Kept text rows
check_iff text rows = (kept (reading_of text) refl, good)
  where
    good : Kept text rows → checked (reading_of text) rows ≡ 0
    good k = check_on-page text rows k.num k.words k.is_page (agrees_room k.words rows k.agrees) k.agrees

    kept : (R : Reading) → reading_of text ≡ R → checked R rows ≡ 0 → Kept text rows
    kept malformed r e = absurd (omega (arith, sym (check-none rows) ∙ e))
    kept (page num words) r e = go (le-or-lt (cells_for (length words)) (length rows)) (agree words rows) refl
      where
        go : (cells_for (length words) ≤ length rows) ⊎ (length rows < cells_for (length words)) → (b : Bool) → agree words rows ≡ b → Kept text rows
        go (inl h) true t = record { num = num; words = words; is_page = only_pages text num words r; agrees = true_agrees words rows t }
        go (inl h) false t = absurd (omega (arith, sym (check-other num words rows h t) ∙ e))
        go (inr h) b t = absurd (omega (arith, sym (check_short num words rows h) ∙ e))

-- ---- what the cells of a row say
-- m is one of the elements, and none is above it; or below it
abbrev pub Largest : List ℤ → ℤ → Type 0
Largest ys m = ((i : ℕ) → i < length ys → get_or ys i (pos 0) ≤ℤ m) × ((j : ℕ) × (j < length ys) × (get_or ys j (pos 0) ≡ m))

abbrev pub Smallest : List ℤ → ℤ → Type 0
Smallest ys m = ((i : ℕ) → i < length ys → m ≤ℤ get_or ys i (pos 0)) × ((j : ℕ) × (j < length ys) × (get_or ys j (pos 0) ≡ m))

pub record RowIs (ys : List ℤ) (odd : ℕ) (row : List ℤ) : Type 0 where
  pub sum : get_or row 0 (pos 0) ≡ pos (norm ys)
  pub largest : Largest ys (get_or row 1 (pos 0))
  pub smallest : Smallest ys (get_or row 2 (pos 0))
  pub odd-blocks : get_or row 3 (pos 0) ≡ pos odd

not_below : (a b : ℤ) → lt_z a b ≡ false → b ≤ℤ a
not_below a b e = lt_z_no {a = a} {b = b} (not_T (lt_z a b) (λ t. subst T e t))

row_is : (ys : List ℤ) (odd : ℕ) → 0 < length ys → RowIs ys odd (row_of ys odd)
unfolding row_of
row_is ys odd h =
    record {
      sum = refl;
      largest = (λ i l. not_below _ _ (none_beyond _ ascending ys i l), found _ ascending ys h);
      smallest = (λ i l. not_below _ _ (none_beyond _ descending ys i l), found _ descending ys h);
      odd-blocks = refl;
    }

-- a block's row is of its point, and its last cell is the parity of every coordinate
pub block_row_is : (w : ℕ) → RowIs (point_of w) (w % 2) (block_row w)
unfolding block_row
block_row_is w = row_is (point_of w) (w % 2) (omega (arith, point-length w))

pub block-parity : (w i : ℕ) → i < 24 → pos (parity_of (get_or (point_of w) i (pos 0))) ≡ get_or (block_row w) 3 (pos 0)
block-parity w i h = ap pos (parity_is w i h) ∙ sym (block_row_is w).odd-blocks

-- the page's row is of all coordinates of its blocks; of an empty page it is all zeros
pub page_row_is : (ws : List ℕ) → 0 < length ws → RowIs (points ws) (odds ws) (page_row ws)
unfolding page_row
page_row_is ws h = row_is (points ws) (odds ws) (omega (arith, points-length ws))

pub empty_row : page_row [] ≡ pos 0 ∷ pos 0 ∷ pos 0 ∷ pos 0 ∷ []
unfolding page_row row_of points odds taken norm
empty_row = refl

first : (v : ℕ) (vs : List ℕ) (rest : List ℤ) → take 4 (block_rows (v ∷ vs) ++ rest) ≡ block_row v
unfolding block_rows block_row row_of
first v vs rest = refl

next : (v : ℕ) (vs : List ℕ) (rest : List ℤ) → block_rows (v ∷ vs) ++ rest ≡ block_row v ++ (block_rows vs ++ rest)
unfolding block_rows
next v vs rest = append_assoc (block_row v) (block_rows vs) rest

-- where the rows of a summary stand: the page's first, block i's from place 4 (i + 1) on
pub page_row-at : (ws : List ℕ) (rest : List ℤ) → take 4 (summary_of ws ++ rest) ≡ page_row ws
unfolding summary_of page_row row_of
page_row-at ws rest = refl

pub block_row-at : (ws : List ℕ) (rest : List ℤ) (i : ℕ) → i < length ws
    → take 4 (drop (4 * (i + 1)) (summary_of ws ++ rest)) ≡ block_row (get_or ws i 0)
unfolding summary_of
block_row-at ws rest i h =
    let e : 4 * (i + 1) ≡ length (page_row ws) + 4 * i = omega (arith, page-length ws) in
    ap (take 4)
    (ap₂ (λ (n : ℕ) (l : List ℤ). drop n l) e (append_assoc (page_row ws) (block_rows ws) rest)
    ∙ drop-append-add (page_row ws) (block_rows ws ++ rest) (4 * i))
    ∙ go ws i h
  where
    go : (vs : List ℕ) (k : ℕ) → k < length vs → take 4 (drop (4 * k) (block_rows vs ++ rest)) ≡ block_row (get_or vs k 0)
    go [] k h = absurd (not-suc-le-zero h)
    go (v ∷ vs) zero h = first v vs rest
    go (v ∷ vs) (suc k) h =
        let e : 4 * suc k ≡ length (block_row v) + 4 * k = omega (arith, block-length v) in
        ap (take 4)
        (ap₂ (λ (n : ℕ) (l : List ℤ). drop n l) e (next v vs rest) ∙ drop-append-add (block_row v) (block_rows vs ++ rest) (4 * k))
        ∙ go vs k (le_of_suc-le-suc h)

-- its sum is the total of the blocks' sums, and its last cell how many blocks have p = 1
pub page_total : (w : ℕ) (ws : List ℕ) → (norm (points (w ∷ ws)) ≡ norm (point_of w) + norm (points ws)) × (odds (w ∷ ws) ≡ w % 2 + odds ws)
unfolding points odds
page_total w ws = (norm-append (point_of w) (points ws), refl)

-- ---- how large they are: a row of at most `sum` and `odd`, and coordinates of magnitude 10 at most. So each fits its cell
pub record RowFits (sum odd : ℕ) (row : List ℤ) : Type 0 where
  pub total : ℕ
  pub total_is : get_or row 0 (pos 0) ≡ pos total
  pub total_most : total ≤ sum
  pub largest-small : nat_abs (get_or row 1 (pos 0)) ≤ 10
  pub smallest_small : nat_abs (get_or row 2 (pos 0)) ≤ 10
  pub odds : ℕ
  pub odds_is : get_or row 3 (pos 0) ≡ pos odds
  pub odds_most : odds ≤ odd

small : (ys : List ℤ) → Within 10 ys → (m : ℤ) → (j : ℕ) × (j < length ys) × (get_or ys j (pos 0) ≡ m) → nat_abs m ≤ 10
small ys h m f = subst (λ (z : ℤ). nat_abs z ≤ 10) f.2 (h f.0 f.1)

row_fits : (ys : List ℤ) (odd sum odds : ℕ) (row : List ℤ) → Within 10 ys → RowIs ys odd row → norm ys ≤ sum → odd ≤ odds → RowFits sum odds row
row_fits ys odd sum odds row h r s o =
    record {
      total = norm ys;
      total_is = r.sum;
      total_most = s;
      largest-small = small ys h _ r.largest.1;
      smallest_small = small ys h _ r.smallest.1;
      odds = odd;
      odds_is = r.odd-blocks;
      odds_most = o;
    }

pub block-fits : (w : ℕ) → RowFits 2400 1 (block_row w)
block-fits w = row_fits (point_of w) (w % 2) 2400 1 (block_row w) (point-within w) (block_row_is w) (block-sum w) (omega arith)

pub page-fits : (ws : List ℕ) → length ws ≤ 64 → RowFits 153600 64 (page_row ws)
page-fits [] h =
    rw empty_row
    (record {
      total = 0;
      total_is = refl;
      total_most = omega arith;
      largest-small = omega arith;
      smallest_small = omega arith;
      odds = 0;
      odds_is = refl;
      odds_most = omega arith;
    })
page-fits (w ∷ ws) h =
    row_fits (points (w ∷ ws)) (odds (w ∷ ws)) 153600 64 (page_row (w ∷ ws)) (points-within (w ∷ ws)) (page_row_is (w ∷ ws) (omega arith))
    (omega (arith, page-sum (w ∷ ws))) (omega (arith, odds_most (w ∷ ws)))
