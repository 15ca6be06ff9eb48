-- The rows of the tables: 64 each, of bytes and of states; the bytes of a state ascend, its two prefixes and its two suffixes are complementary.
-- Assumes nothing.
use Rattle.std.specs.Prelude.{◌≡◌, refl, Bool, true, false, ◌&&◌, List, [], ◌∷◌, ℕ, zero, suc, ◌+◌, ◌*◌, ◌^◌, ◌<◌, ◌≤◌, T, eqb, ltb, length, get_or, take, drop}
use Rattle.std.proofs.Common.{◌∙◌, ap, le_of_suc-le-suc, arith, ltb-true, ltb-false, eqb→eq, ltb→lt, length-take, length-drop, drop_of_length-le, get_or-take, get_or-drop, length-take-le, pow_pos}
use Rattle.std.proofs.Math.Nat.{min-le_left}
use Rattle.std.proofs.Math.ListN.{get_or-eq_default}
use Rattle.std.proofs.Math.Seq.{take-nil}
use Rattle.std.specs.Int.Bits.{bit_xor}
use Rattle.laws.specs.Laws.Tests.{and_left, and_right, upto, below}
use Rattle.trellis.specs.Tables.{prefixes, middles, nexts, suffixes}
use Rattle.trellis.specs.Trellis.{row, prefix_of, middle_of, next_of, suffix_of}
use Rattle.trellis.specs.Laws.Linear.{all_below}
use Rattle.trellis.specs.Laws.Ascending.{asc_by, asc-lt}

-- ---- rows of a table
pub row_at : (n : ℕ) (t : List ℕ) (s b : ℕ) → b < n → get_or (row n t s) b 0 ≡ get_or t (n * s + b) 0
row_at n t s b h = get_or-take n (drop (n * s) t) b 0 h ∙ get_or-drop (n * s) t b 0

pub row-length : (n : ℕ) (t : List ℕ) (s : ℕ) → n * s + n ≤ length t → length (row n t s) ≡ n
row-length n t s h = length-take-le n (drop (n * s) t) (omega (arith, length-drop (n * s) t))

row-none : (n : ℕ) (t : List ℕ) (s : ℕ) → length t ≤ n * s → row n t s ≡ []
row-none n t s h = ap (take n) (drop_of_length-le t h) ∙ take-nil n

-- past the end of the table, and past the end of a row, is 0
pub row_beyond : (n : ℕ) (t : List ℕ) (s b : ℕ) → length t ≤ n * s → get_or (row n t s) b 0 ≡ 0
row_beyond n t s b h = ap (λ (l : List ℕ). get_or l b 0) (row-none n t s h)

pub row_past : (n : ℕ) (t : List ℕ) (s b : ℕ) → n ≤ b → get_or (row n t s) b 0 ≡ 0
row_past n t s b h =
    get_or-eq_default (row n t s) 0 (omega (arith, length-take n (drop (n * s) t), min-le_left n (length (drop (n * s) t))))

-- where every entry of the table is below 2 ^ k, so is every entry of a row
entry_lt : (k : ℕ) (t : List ℕ) → T (all_below k t) → (i : ℕ) → get_or t i 0 < 2 ^ k
entry_lt k [] a i = pow_pos k
entry_lt k (x ∷ t) a zero = ltb→lt x (2 ^ k) (and_left (ltb x (2 ^ k)) (all_below k t) a)
entry_lt k (x ∷ t) a (suc i) = entry_lt k t (and_right (ltb x (2 ^ k)) (all_below k t) a) i

row_lt : (k n : ℕ) (t : List ℕ) → T (all_below k t) → (s b : ℕ) → get_or (row n t s) b 0 < 2 ^ k
row_lt k n t a s b = go (ltb b n) refl
  where
    go : (q : Bool) → ltb b n ≡ q → get_or (row n t s) b 0 < 2 ^ k
    go true e = rw (row_at n t s b (ltb-true b n e)) (entry_lt k t a (n * s + b))
    go false e = rw (row_past n t s b (ltb-false b n e)) (pow_pos k)

-- ---- 64 rows each
pub prefixes-length : length prefixes ≡ 128
unfolding prefixes
prefixes-length = refl

pub middles-length : length middles ≡ 1024
unfolding middles
middles-length = refl

pub nexts-length : length nexts ≡ 1024
unfolding nexts
nexts-length = refl

pub suffixes-length : length suffixes ≡ 128
unfolding suffixes
suffixes-length = refl

-- ---- bytes are below 256, states below 64
pub prefix-lt : (s8 b1 : ℕ) → prefix_of s8 b1 < 256
unfolding prefix_of prefixes
prefix-lt = row_lt 8 2 prefixes tt

pub middle-lt : (s8 b2 : ℕ) → middle_of s8 b2 < 256
unfolding middle_of middles
middle-lt = row_lt 8 16 middles tt

pub next-lt : (s8 b2 : ℕ) → next_of s8 b2 < 64
unfolding next_of nexts
next-lt = row_lt 6 16 nexts tt

-- and so is each entry of the table of next states
pub next-entry-lt : (i : ℕ) → get_or nexts i 0 < 64
unfolding nexts
next-entry-lt = entry_lt 6 nexts tt

pub suffix-lt : (s16 b3 : ℕ) → suffix_of s16 b3 < 256
unfolding suffix_of suffixes
suffix-lt = row_lt 8 2 suffixes tt

-- ---- the two bytes of a state: ascending, and each the other's complement
abbrev pub Pair : (ℕ → ℕ → ℕ) → ℕ → Type 0
Pair byte s = (byte s 0 < byte s 1) × (bit_xor (byte s 0) (byte s 1) ≡ 255)

pair_of : (ℕ → ℕ → ℕ) → ℕ → Bool
pair_of byte s = ltb (byte s 0) (byte s 1) && eqb (bit_xor (byte s 0) (byte s 1)) 255

pair_of_lem : (byte : ℕ → ℕ → ℕ) → T (upto 64 (pair_of byte)) → (s : ℕ) → s < 64 → Pair byte s
unfolding pair_of
pair_of_lem byte t s h =
    let a = ltb (byte s 0) (byte s 1) in
    let b = eqb (bit_xor (byte s 0) (byte s 1)) 255 in
    let u = below 64 (pair_of byte) t s h in
    (ltb→lt (byte s 0) (byte s 1) (and_left a b u), eqb→eq (bit_xor (byte s 0) (byte s 1)) 255 (and_right a b u))

prefix-pairs : T (upto 64 (pair_of prefix_of))
unfolding pair_of prefix_of prefixes
prefix-pairs = tt

suffix-pairs : T (upto 64 (pair_of suffix_of))
unfolding pair_of suffix_of suffixes
suffix-pairs = tt

pub prefix-pair : (s8 : ℕ) → s8 < 64 → Pair prefix_of s8
prefix-pair = pair_of_lem prefix_of prefix-pairs

pub suffix-pair : (s16 : ℕ) → s16 < 64 → Pair suffix_of s16
suffix-pair = pair_of_lem suffix_of suffix-pairs

-- ---- the sixteen middle bytes of a state ascend, and so are distinct
fan : ℕ → Bool
fan s = asc_by suc 0 (row 16 middles s)

fans : T (upto 64 fan)
unfolding fan middles
fans = tt

pub middle_up : (s8 : ℕ) → s8 < 64 → (a b : ℕ) → a < b → b < 16 → middle_of s8 a < middle_of s8 b
unfolding fan middle_of
middle_up s h a b l k =
    let e : length (row 16 middles s) ≡ 16 = row-length 16 middles s (omega (arith, middles-length)) in
    le_of_suc-le-suc (asc-lt suc 0 (row 16 middles s) (below 64 fan fans s h) a b l (omega arith))
