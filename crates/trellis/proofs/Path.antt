-- Each codeword is its path through the tables. Assumes nothing.
use Rattle.std.specs.Prelude.{◌≡◌, Bool, List, ℕ, ◌+◌, ◌*◌, ◌%◌, ◌^◌, ◌<◌, T, eqb, get_or}
use Rattle.std.proofs.Common.{◌∙◌, sym, ap, ap₂, mod-lt, zero-lt-suc, arith, eqb→eq}
use Rattle.laws.specs.Laws.Tables.{every}
use Rattle.laws.specs.Laws.Trees.{Tree, build, get, get_build}
use Rattle.trellis.specs.Code.{codeword_of, columns, first, second, third}
use Rattle.trellis.specs.Tables.{prefixes, middles, nexts, suffixes}
use Rattle.trellis.specs.Trellis.{row, prefix_of, middle_of, next_of, suffix_of, path, s8_of, b1_of, b2_of, b3_of, s16_of}
use Rattle.trellis.specs.Laws.Words.{words, at_word}
use Rattle.trellis.specs.Laws.Code.{label_low}
use Rattle.trellis.specs.Laws.Path.{row_at, prefix-lt, middle-lt, next-lt}

-- ---- each word is its path: one test along the words, the tables read as trees
prefix_tree : Tree
prefix_tree = build 7 prefixes

middle_tree : Tree
middle_tree = build 10 middles

unfoldable pub next_tree : Tree
next_tree = build 10 nexts

suffix_tree : Tree
suffix_tree = build 7 suffixes

tree_path : ℕ → ℕ
tree_path x =
    get 7 prefix_tree (2 * s8_of x + b1_of x) + 256 * get 10 middle_tree (16 * s8_of x + b2_of x)
    + 65536 * get 7 suffix_tree (2 * get 10 next_tree (16 * s8_of x + b2_of x) + b3_of x)

on_path : ℕ → ℕ → Bool
on_path x w = eqb w (tree_path x)

all_on-path : T (every on_path 0 words)
unfolding on_path tree_path prefix_tree middle_tree next_tree suffix_tree prefixes middles nexts suffixes words columns
all_on-path = tt

tree-at : (d n : ℕ) (t : List ℕ) (s b : ℕ) → b < n → n * s + b < 2 ^ d → get d (build d t) (n * s + b) ≡ get_or (row n t s) b 0
tree-at d n t s b h k = get_build d t (n * s + b) k ∙ sym (row_at n t s b h)

pub next-tree : (x : ℕ) → get 10 next_tree (16 * s8_of x + b2_of x) ≡ s16_of x
unfolding next_tree next_of
next-tree x = tree-at 10 16 nexts (s8_of x) (b2_of x) (omega arith) (omega arith)

tree-path : (x : ℕ) → tree_path x ≡ path (s8_of x) (b1_of x) (b2_of x) (b3_of x)
unfolding tree_path prefix_tree middle_tree suffix_tree prefix_of middle_of suffix_of
tree-path x =
    rw (
      tree-at 7 2 prefixes (s8_of x) (b1_of x) (omega arith) (omega arith),
      tree-at 10 16 middles (s8_of x) (b2_of x) (omega arith) (omega arith),
      next-tree x,
      tree-at 7 2 suffixes (s16_of x) (b3_of x) (omega arith) (omega (arith, next-lt (s8_of x) (b2_of x))),
    )

low_at : (x : ℕ) → x < 4096 → codeword_of columns x ≡ path (s8_of x) (b1_of x) (b2_of x) (b3_of x)
unfolding on_path
low_at x h = eqb→eq (codeword_of columns x) (tree_path x) (at_word on_path all_on-path x h) ∙ tree-path x

-- for every label: bits past the twelfth change neither side
pub path-at : (x : ℕ) → codeword_of columns x ≡ path (s8_of x) (b1_of x) (b2_of x) (b3_of x)
path-at x =
    sym (label_low x) ∙ low_at (x % 4096) (mod-lt x (zero-lt-suc 4095))
    ∙ ap₂ (λ (s b : ℕ). path s b (b2_of (x % 4096)) (b3_of (x % 4096))) (omega arith) (omega arith)
    ∙ ap₂ (λ (b d : ℕ). path (s8_of x) (b1_of x) b d) (omega arith) (omega arith)

-- the sections of a codeword
sections : (a b c : ℕ) → a < 256 → b < 256 → (first (a + 256 * b + 65536 * c) ≡ a) × (second (a + 256 * b + 65536 * c) ≡ b)
    × (third (a + 256 * b + 65536 * c) ≡ c)
sections a b c ha hb = (omega arith, omega arith, omega arith)

pub first-at : (x : ℕ) → first (codeword_of columns x) ≡ prefix_of (s8_of x) (b1_of x)
first-at x = ap first (path-at x) ∙ (sections _ _ _ (prefix-lt (s8_of x) (b1_of x)) (middle-lt (s8_of x) (b2_of x))).0

pub second_at : (x : ℕ) → second (codeword_of columns x) ≡ middle_of (s8_of x) (b2_of x)
second_at x = ap second (path-at x) ∙ (sections _ _ _ (prefix-lt (s8_of x) (b1_of x)) (middle-lt (s8_of x) (b2_of x))).1

pub third_at : (x : ℕ) → third (codeword_of columns x) ≡ suffix_of (s16_of x) (b3_of x)
third_at x = ap third (path-at x) ∙ (sections _ _ _ (prefix-lt (s8_of x) (b1_of x)) (middle-lt (s8_of x) (b2_of x))).2
