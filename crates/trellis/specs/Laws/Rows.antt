-- The tables read at one index. The branches out of every state by those out of state 0: codewords add up, and so do their middle bytes, by one
-- computed test (and their states: proofs/Rows). And the pairs of a table of two entries a state. Assumes nothing.
use Rattle.std.specs.Prelude.{◌≡◌, refl, Bool, true, false, ltb, List, [], ◌∷◌, ℕ, ◌+◌, ◌*◌, ◌/◌, ◌%◌, ◌<◌, ◌≤◌, T, eqb, length, get_or, take, drop}
use Rattle.std.proofs.Common.{◌∙◌, sym, ap, ap₂, mul_comm, arith, eqb→eq, length-drop, get_or-drop, ltb-true, ltb-false}
use lib.ListN.{get_or-eq_default}
use Rattle.std.specs.Int.Bits.{bit_xor}
use Rattle.laws.specs.Laws.Tests.{upto, below}
use Rattle.laws.specs.Laws.Tables.{every, at}
use Rattle.laws.specs.Words.{tab}
use Rattle.laws.specs.Laws.Lists.{tab-length, tab_at, tab-eq}
use Rattle.trellis.specs.Tables.{prefixes, middles, nexts, suffixes}
use Rattle.trellis.specs.Trellis.{row, pairs_of, prefix_of, middle_of, next_of, suffix_of, middle_sets}
use Rattle.trellis.specs.Laws.Path.{row_at, row_beyond, row-length, middles-length}

-- ---- the tables read at one index
pub prefix-read : (s b : ℕ) → b < 2 → prefix_of s b ≡ get_or prefixes (2 * s + b) 0
unfolding prefix_of
prefix-read s b h = row_at 2 prefixes s b h

pub middle-read : (s b : ℕ) → b < 16 → middle_of s b ≡ get_or middles (s * 16 + b) 0
unfolding middle_of
middle-read s b h = row_at 16 middles s b h ∙ ap (λ (i : ℕ). get_or middles (i + b) 0) (mul_comm 16 s)

pub next-read : (s b : ℕ) → b < 16 → next_of s b ≡ get_or nexts (s * 16 + b) 0
unfolding next_of
next-read s b h = row_at 16 nexts s b h ∙ ap (λ (i : ℕ). get_or nexts (i + b) 0) (mul_comm 16 s)

pub suffix-read : (s b : ℕ) → b < 2 → suffix_of s b ≡ get_or suffixes (2 * s + b) 0
unfolding suffix_of
suffix-read s b h = row_at 2 suffixes s b h

-- ---- a test along each of the 64 rows of a table of sixteen entries a row
pub along : (t : List ℕ) (f : ℕ → ℕ → ℕ → Bool) → length t ≡ 1024 → T (upto 64 (λ (s : ℕ). every (f s) 0 (row 16 t s)))
    → (s b : ℕ) → s < 64 → b < 16 → T (f s b (get_or (row 16 t s) b 0))
along t f e all s b h k =
    at (f s) (row 16 t s) (below 64 (λ (r : ℕ). every (f r) 0 (row 16 t r)) all s h) b (omega (arith, row-length 16 t s (omega arith)))

-- ---- middle bytes: those of state 0, and the first of each eight states in a row
unfoldable pub zero_middles : List ℕ
zero_middles = row 16 middles 0

unfoldable pub set_firsts : List ℕ
set_firsts = tab (λ (k : ℕ). get_or middles (128 * k) 0) 8

middle_sum : ℕ → ℕ → ℕ → Bool
middle_sum s b x = eqb (bit_xor (get_or zero_middles b 0) (get_or set_firsts (s / 8) 0)) x

middle-sums : T (upto 64 (λ (s : ℕ). every (middle_sum s) 0 (row 16 middles s)))
unfolding middle_sum zero_middles set_firsts tab middles
middle-sums = tt

pub middle-sum : (s b : ℕ) → s < 64 → b < 16 → bit_xor (get_or zero_middles b 0) (get_or set_firsts (s / 8) 0) ≡ middle_of s b
unfolding middle_sum middle_of
middle-sum s b h k = eqb→eq _ _ (along middles middle_sum middles-length middle-sums s b h k)

-- ---- each of eight numbers added to all of sixteen
unfoldable pub sums_of : List ℕ → List ℕ → List ℕ
sums_of first row = tab (λ (i : ℕ). bit_xor (get_or row (i % 16) 0) (get_or first (i / 16) 0)) 128

pub middle_sets_lem : sums_of set_firsts zero_middles ≡ middle_sets
unfolding sums_of middle_sets
middle_sets_lem =
    tab-eq ℕ 0 (λ (i : ℕ). bit_xor (get_or zero_middles (i % 16) 0) (get_or set_firsts (i / 16) 0)) (λ (i : ℕ). middle_of (8 * (i / 16)) (i % 16)) 128
    (λ i h.
    let q : i / 16 ≡ 8 * (i / 16) / 8 = omega arith in
    ap (λ (n : ℕ). bit_xor (get_or zero_middles (i % 16) 0) (get_or set_firsts n 0)) q ∙ middle-sum (8 * (i / 16)) (i % 16) (omega arith) (omega arith))

-- ---- an entry of a pair is that of the table
pub pair_at_lem : (t : List ℕ) (s b : ℕ) → s < 64 → b < 2 → get_or (get_or (pairs_of t) s []) b 0 ≡ get_or t (2 * s + b) 0
unfolding pairs_of
pair_at_lem t s b h k = ap (λ (l : List ℕ). get_or l b 0) (tab_at (List ℕ) [] (row 2 t) 64 s h) ∙ row_at 2 t s b k

-- and so is what is read of a state or a bit that there is not: 0
pub pair_read : (t : List ℕ) (s b : ℕ) → length t ≡ 128 → get_or (get_or (pairs_of t) s []) b 0 ≡ get_or (row 2 t s) b 0
unfolding pairs_of
pair_read t s b e = go (ltb s 64) refl
  where
    go : (q : Bool) → ltb s 64 ≡ q → get_or (get_or (tab (row 2 t) 64) s []) b 0 ≡ get_or (row 2 t s) b 0
    go true q = ap (λ (l : List ℕ). get_or l b 0) (tab_at (List ℕ) [] (row 2 t) 64 s (ltb-true s 64 q))
    go false q =
        let h : 64 ≤ s = ltb-false s 64 q in
        ap (λ (l : List ℕ). get_or l b 0)
        (get_or-eq_default (tab (row 2 t) 64) [] (omega (arith, tab-length (List ℕ) (row 2 t) 64)))
        ∙ sym (row_beyond 2 t s b (omega arith))

-- and a pair is its two entries
two-first : (l : List ℕ) → 2 ≤ length l → get_or l 0 0 ∷ get_or l 1 0 ∷ [] ≡ take 2 l
two-first [] h = absurd (omega arith)
two-first (x ∷ []) h = absurd (omega arith)
two-first (x ∷ y ∷ l) h = refl

pub pair_is : (t : List ℕ) (s : ℕ) → length t ≡ 128 → s < 64 → get_or t (2 * s) 0 ∷ get_or t (2 * s + 1) 0 ∷ [] ≡ row 2 t s
pair_is t s e h =
    let z : 2 * s ≡ 2 * s + 0 = omega arith in
    ap₂ (λ (x y : ℕ). x ∷ y ∷ []) (ap (λ (n : ℕ). get_or t n 0) z ∙ sym (get_or-drop (2 * s) t 0 0)) (sym (get_or-drop (2 * s) t 1 0))
    ∙ two-first (drop (2 * s) t) (omega (arith, length-drop (2 * s) t))
