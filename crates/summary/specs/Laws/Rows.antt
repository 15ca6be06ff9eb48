-- Rows: their length and bounds, what bit 47 and the bits above say of them, and the page's row with one block more. Assumes nothing.
use Rattle.std.specs.Prelude.{◌≡◌, refl, cond, List, [], ◌∷◌, ◌++◌, ℕ, zero, suc, ◌+◌, ◌*◌, ◌%◌, ◌^◌, ◌<◌, ◌≤◌, eqb, ℤ, pos, negsuc, nat_abs, ◌+ℤ◌, length, get_or}
use Rattle.std.proofs.Common.{ap, ap₂, sym, ◌∙◌, append_assoc, append-nil, arith, mul-le-mul, suc-mul, add-zero, not-suc-le-zero, le_of_suc-le-suc, ne_eqb, length-append}
use Rattle.laws.specs.Words.{square, norm}
use Rattle.tetra.specs.Tetra.{point_of}
use Rattle.tetra.specs.Demand2.{point-length, coordinate-small, gain_ignored}
use Rattle.summary.specs.Summary.{larger, smaller, row_of, block_row, points, odds, page_row, block_rows, summary_of, cells_for}
use Rattle.summary.specs.Laws.Extremes.{ascending, descending, extreme-append}

-- ---- the sum of squares
pub norm-append : (xs ys : List ℤ) → norm (xs ++ ys) ≡ norm xs + norm ys
unfolding norm
norm-append [] ys = omega arith
norm-append (x ∷ xs) ys = omega (arith, norm-append xs ys)

-- every element is at most b in magnitude
abbrev pub Within : ℕ → List ℤ → Type 0
Within b ys = (i : ℕ) → i < length ys → nat_abs (get_or ys i (pos 0)) ≤ b

square_is : (y : ℤ) → square y ≡ nat_abs y * nat_abs y
square_is (pos n) = refl
square_is (negsuc n) = refl

pub norm_most : (b : ℕ) (ys : List ℤ) → Within b ys → norm ys ≤ length ys * (b * b)
unfolding norm
norm_most b [] h = omega arith
norm_most b (y ∷ ys) h =
    let first : square y ≤ b * b = omega (arith, square_is y, mul-le-mul (h 0 (omega arith)) (h 0 (omega arith))) in
    rw suc-mul (omega (arith, first, norm_most b ys (λ i l. h (suc i) (omega arith))))

-- ---- two rows of some coordinates each as one
abbrev pub cell : List ℤ → ℕ → ℤ
cell row j = get_or row j (pos 0)

abbrev pub both : List ℤ → List ℤ → List ℤ
both a b =
    (cell a 0 +ℤ cell b 0) ∷ larger (cell a 1) (cell b 1) ∷ smaller (cell a 2) (cell b 2) ∷ (cell a 3 +ℤ cell b 3) ∷ []

pub row-both : (xs ys : List ℤ) (m n : ℕ) → 0 < length xs → 0 < length ys → row_of (xs ++ ys) (m + n) ≡ both (row_of xs m) (row_of ys n)
unfolding row_of
row-both xs ys m n h k =
    rw (norm-append xs ys, extreme-append _ ascending xs ys h k, extreme-append _ descending xs ys h k)

-- ---- words one after another
pub points-append : (us ws : List ℕ) → points (us ++ ws) ≡ points us ++ points ws
unfolding points
points-append [] ws = refl
points-append (u ∷ us) ws = ap (λ (l : List ℤ). point_of u ++ l) (points-append us ws) ∙ sym (append_assoc (point_of u) (points us) (points ws))

pub odds-append : (us ws : List ℕ) → odds (us ++ ws) ≡ odds us + odds ws
unfolding odds
odds-append [] ws = omega arith
odds-append (u ∷ us) ws = omega (arith, odds-append us ws)

pub points-length : (ws : List ℕ) → length (points ws) ≡ 24 * length ws
unfolding points
points-length [] = refl
points-length (w ∷ ws) = length-append (point_of w) (points ws) ∙ omega (arith, point-length w, points-length ws)

-- ---- the page's row with one block more, where it stood for n blocks: an empty page's zeros take no part
abbrev pub joined : ℕ → List ℤ → List ℤ → List ℤ
joined n page block = cond (eqb n 0) block (both page block)

pub row_step : (ws : List ℕ) (w : ℕ) → page_row (ws ++ (w ∷ [])) ≡ joined (length ws) (page_row ws) (block_row w)
unfolding page_row block_row points odds
row_step [] w = ap₂ row_of (append-nil (point_of w)) (add-zero (w % 2))
row_step (v ∷ ws) w =
    ap₂ row_of (points-append (v ∷ ws) (w ∷ []) ∙ ap (λ (l : List ℤ). points (v ∷ ws) ++ l) (append-nil (point_of w)))
    (odds-append (v ∷ ws) (w ∷ []) ∙ ap (λ (n : ℕ). odds (v ∷ ws) + n) (add-zero (w % 2)))
    ∙ row-both (points (v ∷ ws)) (point_of w) (odds (v ∷ ws)) (w % 2) (omega (arith, points-length (v ∷ ws))) (omega (arith, point-length w))
    ∙ rw (ne_eqb (suc (length ws)) 0 (λ e. omega arith))

-- ---- a word's gain and its bits 48 and up say nothing of its row
pub gain_free : (w : ℕ) → block_row (w % 2 ^ 47) ≡ block_row w
unfolding block_row
gain_free w = ap₂ row_of (gain_ignored w) (omega arith)

pub low_free : (w : ℕ) → block_row (w % 2 ^ 48) ≡ block_row w
low_free w = sym (gain_free (w % 2 ^ 48)) ∙ ap block_row e ∙ gain_free w
  where
    e : w % 2 ^ 48 % 2 ^ 47 ≡ w % 2 ^ 47
    e = omega arith

-- ---- how many cells there are
pub block-length : (w : ℕ) → length (block_row w) ≡ 4
unfolding block_row row_of
block-length w = refl

pub page-length : (ws : List ℕ) → length (page_row ws) ≡ 4
unfolding page_row row_of
page-length ws = refl

pub rows-length : (ws : List ℕ) → length (block_rows ws) ≡ 4 * length ws
unfolding block_rows block_row row_of
rows-length [] = refl
rows-length (w ∷ ws) = omega (arith, rows-length ws)

pub summary-length : (ws : List ℕ) → length (summary_of ws) ≡ cells_for (length ws)
unfolding summary_of page_row row_of
summary-length ws = omega (arith, rows-length ws)

-- ---- bounds
pub point-within : (w : ℕ) → Within 10 (point_of w)
point-within w i h = coordinate-small w i (omega (arith, point-length w))

within-append : (b : ℕ) (xs ys : List ℤ) → Within b xs → Within b ys → Within b (xs ++ ys)
within-append b [] ys h k i l = k i l
within-append b (x ∷ xs) ys h k zero l = h 0 (omega arith)
within-append b (x ∷ xs) ys h k (suc i) l = within-append b xs ys (λ j m. h (suc j) (omega arith)) k i (le_of_suc-le-suc l)

pub points-within : (ws : List ℕ) → Within 10 (points ws)
unfolding points
points-within [] i h = absurd (not-suc-le-zero h)
points-within (w ∷ ws) i h = within-append 10 (point_of w) (points ws) (point-within w) (points-within ws) i h

pub odds_most : (ws : List ℕ) → odds ws ≤ length ws
unfolding odds
odds_most [] = omega arith
odds_most (w ∷ ws) = omega (arith, odds_most ws)

pub block-sum : (w : ℕ) → norm (point_of w) ≤ 2400
block-sum w = omega (arith, point-length w, norm_most 10 (point_of w) (point-within w))

pub page-sum : (ws : List ℕ) → norm (points ws) ≤ 2400 * length ws
page-sum ws = omega (arith, points-length ws, norm_most 10 (points ws) (points-within ws))
