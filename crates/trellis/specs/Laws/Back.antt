-- The way back: a prefix byte names its state and bit, a middle byte out of a state its branch, a suffix byte into a state its bit, a codeword
-- its label; and each answers none exactly where there is none. Assumes nothing.
use Rattle.std.specs.Prelude.{◌≡◌, ◌↔◌, ℕ, ◌+◌, ◌*◌, ◌/◌, ◌%◌, ◌<◌, ◌≤◌, T, Bool, true, false, cond, eqb, ltb, get_or, drop, Option, Some, None, unwrap_or}
use Rattle.std.proofs.Common.{◌∙◌, sym, ap₂, arith, ltb-true, ltb-false, length-take, length-drop}
use Rattle.std.proofs.Math.Path.{refl, ap}
use mathlib.Core.List.{List, [], ◌∷◌}
use Rattle.std.proofs.Math.Nat.{min-le_left, min-le_right}
use Rattle.std.proofs.lemmas.Nat.{mod-pow-add}
use Rattle.std.proofs.Math.ListN.{length}
use Rattle.laws.specs.Words.{seek}
use Rattle.laws.specs.Laws.Lists.{tab-length, tab_at, seek-le, seek-holds}
use Rattle.laws.specs.Laws.Tables.{every}
use Rattle.trellis.specs.Code.{codeword_of, columns, codewords, label}
use Rattle.trellis.specs.Tables.{prefixes, middles, suffixes}
use Rattle.trellis.specs.Trellis.{row, prefix_of, middle_of, next_of, suffix_of, s8_of, b1_of, b2_of, b3_of, label_of, label_in}
use Rattle.trellis.specs.Trellis.{opening_of, passage_of, closing_of, opening_says, passage_says, closing_says}
use Rattle.trellis.specs.Laws.Path.{row-length, prefixes-length, middles-length, suffixes-length}
use Rattle.trellis.specs.Laws.Path.{middle_up, suffix-pair}
use Rattle.trellis.specs.Laws.Rows.{prefix-read}
use Rattle.trellis.specs.Laws.Code.{distinct}
use Rattle.trellis.specs.Laws.Look.{seek_is, seek-none, Distinct, found_distinct, up_distinct, says_iff, says_none}

-- ---- an answer is known from what it says
pub opening_by : (o p : Option (ℕ × ℕ)) → opening_says o ≡ opening_says p → o ≡ p
opening_by (Some (s, b)) (Some (t, d)) e = cc
opening_by (Some (s, b)) None e = cc
opening_by None (Some (t, d)) e = cc
opening_by None None e = refl

pub passage_by : (o p : Option (ℕ × ℕ)) → passage_says o ≡ passage_says p → o ≡ p
passage_by (Some (b, s)) (Some (d, t)) e = cc
passage_by (Some (b, s)) None e = cc
passage_by None (Some (d, t)) e = cc
passage_by None None e = refl

pub closing_by : (o p : Option ℕ) → closing_says o ≡ closing_says p → o ≡ p
closing_by (Some b) (Some d) e = cc
closing_by (Some b) None e = cc
closing_by None (Some d) e = cc
closing_by None None e = refl

-- ---- a prefix byte
prefixes-found : T (every (λ (i x : ℕ). eqb (seek x prefixes) i) 0 prefixes)
unfolding prefixes
prefixes-found = tt

pub prefixes_distinct : Distinct prefixes
prefixes_distinct = found_distinct prefixes prefixes-found

-- some numbers are not none
some : (x : ℕ) (xs : List ℕ) → x ∷ xs ≡ [] → ⊥
some x xs e = let z : ◌≡◌ {A = ℕ} 0 1 = cc in omega arith

abbrev open_at : ℕ → Option (ℕ × ℕ)
open_at i = Some (i / 2, i % 2)

loud_open : (i : ℕ) → opening_says (open_at i) ≡ [] → ⊥
loud_open i = some (i / 2) ((i % 2) ∷ [])

-- the place of a prefix among them all, and back
place_at : (i : ℕ) → prefix_of (i / 2) (i % 2) ≡ get_or prefixes i 0
place_at i = prefix-read (i / 2) (i % 2) (omega arith) ∙ ap (λ (n : ℕ). get_or prefixes n 0) (omega arith)

pub opening_iff : (c1 s8 b1 : ℕ) → (opening_says (opening_of c1) ≡ s8 ∷ b1 ∷ []) ↔ ((s8 < 64) × (b1 < 2) × (prefix_of s8 b1 ≡ c1))
unfolding opening_of
opening_iff c s b = (
  λ e.
      let q = found.0 e in
      let i = q.0 in
      let v : (i / 2) ∷ (i % 2) ∷ [] ≡ s ∷ b ∷ [] = q.3 in
      let es : i / 2 ≡ s = cc in
      let eb : i % 2 ≡ b = cc in
      (omega (arith, prefixes-length, q.1), omega arith, ap₂ prefix_of (sym es) (sym eb) ∙ place_at i ∙ q.2),
  λ q. found.1
      (2 * s + b, omega (arith, prefixes-length), sym (prefix-read s b q.1) ∙ q.2, ap₂ (λ (x y : ℕ). x ∷ y ∷ []) (omega arith) (omega arith)),
)
  where
    found : (opening_says (opening_of c) ≡ s ∷ b ∷ [])
        ↔ ((i : ℕ) × (i < length prefixes) × (get_or prefixes i 0 ≡ c) × (opening_says (open_at i) ≡ s ∷ b ∷ []))
    found = says_iff (Option (ℕ × ℕ)) opening_says open_at None refl loud_open prefixes c prefixes_distinct (s ∷ b ∷ []) (some s (b ∷ []))

pub opening-none : (c1 : ℕ) → (opening_says (opening_of c1) ≡ []) ↔ ((s8 b1 : ℕ) → s8 < 64 → b1 < 2 → prefix_of s8 b1 ≡ c1 → ⊥)
unfolding opening_of
opening-none c =
    let r = says_none (Option (ℕ × ℕ)) opening_says open_at None refl loud_open prefixes c in (
      λ e s b h k q. r.0 e (2 * s + b) (omega (arith, prefixes-length)) (sym (prefix-read s b k) ∙ q),
      λ n. r.1 (λ i h e. n (i / 2) (i % 2) (omega (arith, prefixes-length)) (omega arith) (place_at i ∙ e)),
    )

-- ---- rows of a table: what stands in one stands in the table
row_in : (n : ℕ) (t : List ℕ) (s b : ℕ) → b < length (row n t s) → (b < n) × (n * s + b < length t)
row_in n t s b h =
    let l = length (drop (n * s) t) in (
      omega (arith, length-take n (drop (n * s) t), min-le_left n l),
      omega (arith, length-take n (drop (n * s) t), min-le_right n l, length-drop (n * s) t),
    )

in_row : (n : ℕ) (t : List ℕ) (s b : ℕ) → b < n → n * s + n ≤ length t → b < length (row n t s)
in_row n t s b h k = omega (arith, row-length n t s k)

-- ---- a middle byte
middles_distinct : (s8 : ℕ) → Distinct (row 16 middles s8)
unfolding middle_of
middles_distinct s =
    up_distinct (row 16 middles s)
    (λ i j h k.
    let q = row_in 16 middles s j k in
    middle_up s (omega (arith, q.1, middles-length)) i j h q.0)

pub middle_distinct : (s8 : ℕ) → s8 < 64 → (a b : ℕ) → a < 16 → b < 16 → middle_of s8 a ≡ middle_of s8 b → a ≡ b
unfolding middle_of
middle_distinct s h a b ha hb e =
    middles_distinct s a b (in_row 16 middles s a ha (omega (arith, middles-length))) (in_row 16 middles s b hb (omega (arith, middles-length))) e

module _ (s8 c2 : ℕ) where
  abbrev along_at : ℕ → Option (ℕ × ℕ)
  along_at b2 = Some (b2, next_of s8 b2)

  loud_along : (b2 : ℕ) → passage_says (along_at b2) ≡ [] → ⊥
  loud_along b2 = some b2 (next_of s8 b2 ∷ [])

  pub passage_iff : (b2 s16 : ℕ)
      → (passage_says (passage_of s8 c2) ≡ b2 ∷ s16 ∷ []) ↔ ((s8 < 64) × (b2 < 16) × (middle_of s8 b2 ≡ c2) × (next_of s8 b2 ≡ s16))
  unfolding passage_of middle_of
  passage_iff b t = (
    λ e.
        let q = found.0 e in
        let i = q.0 in
        let v : i ∷ next_of s8 i ∷ [] ≡ b ∷ t ∷ [] = q.3 in
        let eb : i ≡ b = cc in
        let et : next_of s8 i ≡ t = cc in
        let r = row_in 16 middles s8 i q.1 in
        (omega (arith, r.1, middles-length), omega (arith, r.0), rw (← eb) q.2, rw (← eb) et),
    λ q. found.1 (b, in_row 16 middles s8 b q.1 (omega (arith, middles-length)), q.2, ap (λ (x : ℕ). b ∷ x ∷ []) q.3),
  )
    where
      found : (passage_says (passage_of s8 c2) ≡ b ∷ t ∷ [])
          ↔ ((i : ℕ) × (i < length (row 16 middles s8)) × (get_or (row 16 middles s8) i 0 ≡ c2) × (passage_says (along_at i) ≡ b ∷ t ∷ []))
      found =
          says_iff (Option (ℕ × ℕ)) passage_says along_at None refl loud_along (row 16 middles s8) c2 (middles_distinct s8) (b ∷ t ∷ []) (some b (t ∷ []))

  pub passage-none : (passage_says (passage_of s8 c2) ≡ []) ↔ ((b2 : ℕ) → s8 < 64 → b2 < 16 → middle_of s8 b2 ≡ c2 → ⊥)
  unfolding passage_of middle_of
  passage-none =
      let r = says_none (Option (ℕ × ℕ)) passage_says along_at None refl loud_along (row 16 middles s8) c2 in (
        λ e b h k q. r.0 e b (in_row 16 middles s8 b k (omega (arith, middles-length))) q,
        λ n. r.1 (λ i h e. let l = row_in 16 middles s8 i h in n i (omega (arith, l.1, middles-length)) l.0 e),
      )

-- ---- a suffix byte
suffixes_distinct : (s16 : ℕ) → Distinct (row 2 suffixes s16)
unfolding suffix_of
suffixes_distinct s =
    up_distinct (row 2 suffixes s)
    (λ i j h k.
    let q = row_in 2 suffixes s j k in
    let u : i ≡ 0 = omega (arith, q.0) in
    let v : j ≡ 1 = omega (arith, q.0) in
    rw (u, v) (suffix-pair s (omega (arith, q.1, suffixes-length))).0)

module _ (s16 c3 : ℕ) where
  loud_by : (b3 : ℕ) → closing_says (Some b3) ≡ [] → ⊥
  loud_by b3 = some b3 []

  pub closing_iff : (b3 : ℕ) → (closing_says (closing_of s16 c3) ≡ b3 ∷ []) ↔ ((s16 < 64) × (b3 < 2) × (suffix_of s16 b3 ≡ c3))
  unfolding closing_of suffix_of
  closing_iff b = (
    λ e.
        let q = found.0 e in
        let i = q.0 in
        let v : i ∷ [] ≡ b ∷ [] = q.3 in
        let eb : i ≡ b = cc in
        let r = row_in 2 suffixes s16 i q.1 in
        (omega (arith, r.1, suffixes-length), omega (arith, r.0), rw (← eb) q.2),
    λ q. found.1 (b, in_row 2 suffixes s16 b q.1 (omega (arith, suffixes-length)), q.2, refl),
  )
    where
      found : (closing_says (closing_of s16 c3) ≡ b ∷ [])
          ↔ ((i : ℕ) × (i < length (row 2 suffixes s16)) × (get_or (row 2 suffixes s16) i 0 ≡ c3) × (closing_says (Some i) ≡ b ∷ []))
      found = says_iff (Option ℕ) closing_says Some None refl loud_by (row 2 suffixes s16) c3 (suffixes_distinct s16) (b ∷ []) (some b [])

  pub closing-none : (closing_says (closing_of s16 c3) ≡ []) ↔ ((b3 : ℕ) → s16 < 64 → b3 < 2 → suffix_of s16 b3 ≡ c3 → ⊥)
  unfolding closing_of suffix_of
  closing-none =
      let r = says_none (Option ℕ) closing_says Some None refl loud_by (row 2 suffixes s16) c3 in (
        λ e b h k q. r.0 e b (in_row 2 suffixes s16 b k (omega (arith, suffixes-length))) q,
        λ n. r.1 (λ i h e. let l = row_in 2 suffixes s16 i h in n i (omega (arith, l.1, suffixes-length)) l.0 e),
      )

-- ---- a codeword
codewords-length : length codewords ≡ 4096
unfolding codewords
codewords-length = tab-length ℕ (codeword_of columns) 4096

codewords-at : (x : ℕ) → x < 4096 → get_or codewords x 0 ≡ codeword_of columns x
unfolding codewords
codewords-at x h = tab_at ℕ 0 (codeword_of columns) 4096 x h

codewords_distinct : Distinct codewords
codewords_distinct i j h k e =
    let hi : i < 4096 = omega (arith, codewords-length) in
    let hj : j < 4096 = omega (arith, codewords-length) in
    distinct i j hi hj (sym (codewords-at i hi) ∙ e ∙ codewords-at j hj)

pub label_word : (w : ℕ) → label_of w < 4096 → codeword_of columns (label_of w) ≡ w
unfolding label_of
label_word w h = sym (codewords-at (label_of w) h) ∙ seek-holds w codewords (omega (arith, codewords-length))

pub label_iff : (w x : ℕ) → x < 4096 → (label_of w ≡ x) ↔ (codeword_of columns x ≡ w)
unfolding label_of
label_iff w x h = (
  λ e. ap (codeword_of columns) (sym e) ∙ label_word w (omega arith),
  λ e. seek_is w codewords codewords_distinct x (omega (arith, codewords-length)) (codewords-at x h ∙ e),
)

pub label_at : (x : ℕ) → x < 4096 → label_of (codeword_of columns x) ≡ x
label_at x h = (label_iff (codeword_of columns x) x h).1 refl

pub label-none : (w : ℕ) → (label_of w ≡ 4096) ↔ ((x : ℕ) → x < 4096 → codeword_of columns x ≡ w → ⊥)
unfolding label_of
label-none w = (
  λ e x h q. omega (arith, (label_iff w x h).1 q),
  λ n. seek-none w codewords (λ i h q. let hi : i < 4096 = omega (arith, codewords-length) in n i hi (sym (codewords-at i hi) ∙ q))
      ∙ codewords-length,
)

-- the answer and the number say the same: 4096 for none
pub label_some : (w x : ℕ) → label_in w ≡ Some x → (label_of w ≡ x) × (x < 4096)
label_some w x e = go (ltb (label_of w) 4096) refl e
  where
    go : (b : Bool) → ltb (label_of w) 4096 ≡ b → cond b (Some (label_of w)) None ≡ Some x → (label_of w ≡ x) × (x < 4096)
    go true q r = let p : label_of w ≡ x = cc in (p, omega (arith, ltb-true (label_of w) 4096 q))
    go false q r = absurd (nothing_here r)
      where
        nothing_here : ◌≡◌ {A = Option ℕ} None (Some x) → ⊥
        nothing_here z = let u : ◌≡◌ {A = ℕ} 0 1 = cc in omega arith

pub label_absent : (w : ℕ) → label_in w ≡ None → 4096 ≤ label_of w
label_absent w e = go (ltb (label_of w) 4096) refl e
  where
    go : (b : Bool) → ltb (label_of w) 4096 ≡ b → cond b (Some (label_of w)) None ≡ None → 4096 ≤ label_of w
    go true q r = let u : ◌≡◌ {A = ℕ} 0 1 = cc in omega arith
    go false q r = ltb-false (label_of w) 4096 q

label_at-most : (w : ℕ) → label_of w ≤ 4096
unfolding label_of
label_at-most w = omega (arith, seek-le w codewords, codewords-length)

pub label_or : (w : ℕ) → unwrap_or (label_in w) 4096 ≡ label_of w
label_or w = go (ltb (label_of w) 4096) refl
  where
    go : (b : Bool) → ltb (label_of w) 4096 ≡ b → unwrap_or (cond b (Some (label_of w)) None) 4096 ≡ label_of w
    go true q = refl
    go false q = omega (arith, label_at-most w, ltb-false (label_of w) 4096 q)

-- ---- the parts of a label (the codeword of a whole path: proofs/Walk)
pub label-parts : (s8 b1 b2 b3 : ℕ) → s8 < 64 → b1 < 2 → b2 < 16 → b3 < 2
    → (s8_of (label s8 b1 b2 b3) ≡ s8) × (b1_of (label s8 b1 b2 b3) ≡ b1) × (b2_of (label s8 b1 b2 b3) ≡ b2) × (b3_of (label s8 b1 b2 b3) ≡ b3)
label-parts s8 b1 b2 b3 h1 h2 h3 h4 = (omega arith, omega arith, omega arith, omega arith)

pub parts-label : (x : ℕ) → label (s8_of x) (b1_of x) (b2_of x) (b3_of x) ≡ x % 4096
parts-label x = sum _ _ _ _ _ _ _ (mod-pow-add x 1 6) (mod-pow-add x 4 7) (mod-pow-add x 1 11)
  where
    sum : (a b c d m n o : ℕ) → m ≡ b * 64 + a → n ≡ c * 128 + m → o ≡ d * 2048 + n → a + 64 * b + 128 * c + 2048 * d ≡ o
    sum a b c d m n o e f g = omega arith
