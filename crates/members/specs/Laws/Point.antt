-- Three members along a path of the trellis, of classes that add up to the parity: their bytes are a codeword, and their rows are those of their
-- classes. (They are a lattice point that has a word: proofs/Point.)
use Rattle.std.specs.Prelude.{◌≡◌, List, ℕ, ◌+◌, ◌*◌, ◌/◌, ◌%◌, ◌<◌, T, get_or}
use Rattle.std.proofs.Common.{sym, ap, ap₂, ◌∙◌, subst, mod-lt, zero-lt-suc, arith}
use Rattle.laws.specs.Words.{weight}
use Rattle.rank.specs.Vector.{class, unpack, ranks_below, in_class, in_middle}
use Rattle.rank.specs.Laws.Vector.{below_up, class-ranks, middle_class_lem}
use Rattle.trellis.specs.Code.{codeword_of, columns, label}
use Rattle.trellis.specs.Laws.Code.{bytes-even}
use Rattle.trellis.specs.Tables.{prefixes, middles, nexts, suffixes}
use Rattle.trellis.specs.Trellis.{prefix_of, middle_of, next_of, suffix_of, middle_sets, s8_of, b1_of, b2_of, b3_of}
use Rattle.trellis.proofs.Path.{path-at, first-at, second_at, third_at}
use Rattle.trellis.specs.Laws.Path.{prefix-lt, middle-lt, suffix-lt, next-lt}
use Rattle.trellis.specs.Laws.Rows.{prefix-read, middle-read, next-read, suffix-read}
use Rattle.trellis.specs.Laws.Back.{label-parts}
use Rattle.search.specs.declared.Entry.{Entry}
use Rattle.search.specs.Tables.{tables, class_of, branch_entries}
use Rattle.search.specs.Laws.Tables.{entry_byte}
use Rattle.search.specs.Join.{mid_at, last_at}
use Rattle.nearest.specs.Laws.Winner.{mid_half, mid_bit, end_half, end_rest}
use Rattle.members.specs.Laws.Ranks.{class_in, middle_in, member-class}
use Rattle.members.specs.Laws.Paths.{Through}

module _ (p : ℕ) (P0 : p < 2) (e1 e2 e3 : Entry) (H : Through p e1 e2 e3) where
  abbrev s8 : ℕ
  s8 = H.i % 64

  abbrev b1 : ℕ
  b1 = H.one.byte.0

  abbrev b2 : ℕ
  b2 = H.n / 2

  abbrev b3 : ℕ
  b3 = H.three.byte.0

  abbrev k : ℕ
  k = s8 * 16 + b2

  s8-lt : s8 < 64
  s8-lt = mod-lt H.i (zero-lt-suc 63)

  b2-lt : b2 < 16
  b2-lt = let a = H.n-lt in omega arith

  k_lt : k < 1024
  k_lt = go s8 b2 s8-lt b2-lt
    where
      go : (s b : ℕ) → s < 64 → b < 16 → s * 16 + b < 1024
      go s b h l = omega arith

  next_64 : get_or nexts k 0 < 64
  next_64 = subst (λ (n : ℕ). n < 64) (next-read s8 b2 b2-lt) (next-lt s8 b2)

  -- ---- the three bytes
  is1 : e1.byte ≡ get_or prefixes (2 * s8 + b1) 0
  is1 = H.one.byte.2

  is2 : e2.byte ≡ get_or middles k 0
  is2 = H.two.byte ∙ ap (λ (m : ℕ). get_or middle_sets m 0) (mid_half (get_or branch_entries k 0) H.n) ∙ entry_byte k k_lt

  is3 : e3.byte ≡ get_or suffixes (2 * get_or nexts k 0 + b3) 0
  is3 = H.three.byte.2 ∙ ap (λ (m : ℕ). get_or suffixes (2 * m + b3) 0) (end_rest (p + H.i / 64 + H.n % 2) (get_or nexts k 0) next_64)

  path1 : prefix_of s8 b1 ≡ e1.byte
  path1 = prefix-read s8 b1 H.one.byte.1 ∙ sym is1

  path2 : middle_of s8 b2 ≡ e2.byte
  path2 = middle-read s8 b2 b2-lt ∙ sym is2

  path3 : suffix_of (next_of s8 b2) b3 ≡ e3.byte
  path3 = suffix-read (next_of s8 b2) b3 H.three.byte.1 ∙ ap (λ (m : ℕ). get_or suffixes (2 * m + b3) 0) (next-read s8 b2 b2-lt) ∙ sym is3

  pub c1-lt : e1.byte < 256
  c1-lt = subst (λ (n : ℕ). n < 256) path1 (prefix-lt s8 b1)

  pub c2-lt : e2.byte < 256
  c2-lt = subst (λ (n : ℕ). n < 256) path2 (middle-lt s8 b2)

  pub c3-lt : e3.byte < 256
  c3-lt = subst (λ (n : ℕ). n < 256) path3 (suffix-lt (next_of s8 b2) b3)

  -- they are a codeword
  abbrev x : ℕ
  x = label s8 b1 b2 b3

  abbrev word : ℕ
  word = e1.byte + 256 * e2.byte + 65536 * e3.byte

  abbrev parts : (s8_of x ≡ s8) × (b1_of x ≡ b1) × (b2_of x ≡ b2) × (b3_of x ≡ b3)
  parts = label-parts s8 b1 b2 b3 s8-lt H.one.byte.1 b2-lt H.three.byte.1

  pub word_is : codeword_of columns x ≡ word
  word_is =
      path-at x
      ∙ ap₂ (λ (a b : ℕ). a + 65536 * b)
      (ap₂ (λ (a b : ℕ). a + 256 * b) (ap₂ prefix_of parts.0 parts.1 ∙ path1) (ap₂ middle_of parts.0 parts.2 ∙ path2))
      (ap₂ suffix_of (ap₂ next_of parts.0 parts.2) parts.3 ∙ path3)

  -- so each has an even number of set bits
  even1 : weight 8 e1.byte % 2 ≡ 0
  even1 = subst (λ (c : ℕ). weight 8 c % 2 ≡ 0) (first-at x ∙ ap₂ prefix_of parts.0 parts.1 ∙ path1) (bytes-even x).0

  even2 : weight 8 e2.byte % 2 ≡ 0
  even2 = subst (λ (c : ℕ). weight 8 c % 2 ≡ 0) (second_at x ∙ ap₂ middle_of parts.0 parts.2 ∙ path2) (bytes-even x).1

  pub even3 : weight 8 e3.byte % 2 ≡ 0
  even3 =
      subst (λ (c : ℕ). weight 8 c % 2 ≡ 0) (third_at x ∙ ap₂ suffix_of (ap₂ next_of parts.0 parts.2) parts.3 ∙ path3) (bytes-even x).2

  -- ---- the three rows
  abbrev v1 : List ℕ
  v1 = unpack 8 e1.key

  abbrev v2 : List ℕ
  v2 = unpack 8 e2.key

  abbrev v3 : List ℕ
  v3 = unpack 8 e3.key

  abbrev r1 : ℕ
  r1 = H.i / 64

  abbrev r2 : ℕ
  r2 = H.n % 2

  abbrev r3 : ℕ
  r3 = (p + r1 + r2) % 2

  r1-lt : r1 < 2
  r1-lt = let a = H.i_lt in omega arith

  mid_class : mid_at tables H.i H.n % 2 ≡ r2
  mid_class = mid_bit (get_or branch_entries k 0) H.n

  pub last-class : last_at tables p H.i H.n / 64 ≡ r3
  last-class = end_half (p + r1 + r2) (get_or nexts k 0) next_64

  last-lt : last_at tables p H.i H.n / 64 < 2
  last-lt = subst (λ (n : ℕ). n < 2) (sym last-class) (mod-lt (p + r1 + r2) (zero-lt-suc 1))

  pub in1 : T (in_class r1 v1)
  in1 = class_in e1.key r1 r1-lt H.one.good.is.within

  pub in2 : T (in_middle v2)
  in2 = middle_in e2.key H.two.good.is.within

  pub in3 : T (in_class (last_at tables p H.i H.n / 64) v3)
  in3 = class_in e3.key (last_at tables p H.i H.n / 64) last-lt H.three.good.is.within

  pub low1 : T (ranks_below 8 v1)
  low1 = below_up 5 8 (omega arith) v1 (class-ranks r1 v1 in1)

  pub low2 : T (ranks_below 8 v2)
  low2 = below_up 5 8 (omega arith) v2 (class-ranks 0 v2 (middle_class_lem 0 v2 in2))

  pub class1 : class v1 ≡ r1
  class1 = member-class p e1.byte r1 (class_of tables r1) e1.key P0 c1-lt even1 low1 H.one.good.is

  pub class2 : class v2 ≡ r2
  class2 = member-class p e2.byte (mid_at tables H.i H.n % 2) tables.mixed e2.key P0 c2-lt even2 low2 H.two.good.is ∙ mid_class
