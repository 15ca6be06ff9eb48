-- The fields of a point that has a word: they fit, their point is the point, and those of a word's point are the word's. Assumes nothing.
use Rattle.std.specs.Prelude.{◌≡◌, ℕ, ◌+◌, ◌*◌, ◌%◌, ◌<◌, ℤ, pos, length, get_or, take, drop}
use Rattle.std.proofs.Math.Path.{ap, ap₂, sym, subst}
use Rattle.std.proofs.Common.{◌∙◌, mod-lt, zero-lt-suc, arith, length-drop, take-append-drop, take_all, drop-drop, length-take-le}
use mathlib.Core.List.{List, ◌++◌}
use Rattle.std.proofs.Math.Dec.{T}
use Rattle.std.proofs.lemmas.List.{length-map}
use Rattle.laws.specs.Words.{mod_z}
use Rattle.laws.specs.Laws.Whole.{mod2-lt}
use Rattle.word.specs.Word.{Narrow, fields_of}
use Rattle.word.specs.Laws.{no_gain, split-narrow}
use Rattle.word.specs.declared.Fields.{Fields}
use Rattle.rank.specs.Coord.{parity_of, rank_of}
use Rattle.rank.specs.Vector.{ranks_below, class, in_middle}
use Rattle.rank.specs.Section.{point_at, uniform, bits_of, ranks_of, k_sum}
use Rattle.rank.specs.Laws.Section.{point-back}
use Rattle.rank.specs.Laws.Vector.{below_up, class-ranks, middle_class_lem}
use Rattle.rows.specs.Table.{row_ranks, class_index_of, mixed_index_of, middle_row}
use Rattle.rows.specs.Laws.Rule.{row_in}
use Rattle.rows.specs.Laws.Middle.{middle_row_in}
use Rattle.rows.specs.Answers.{class_index_in, class_index-row, mixed_index_in, mixed_index-row, mixed_index-back}
use Rattle.rows.specs.Table.{At}
use Rattle.trellis.specs.Code.{codeword_of, columns, label}
use Rattle.trellis.specs.Trellis.{label_of}
use Rattle.trellis.specs.Laws.Code.{label_low}
use Rattle.trellis.specs.Laws.Back.{label_word, label_iff, label_at, label-parts, parts-label}
use Rattle.tetra.specs.Lattice.{trio, Codeword, section, section_ranks, in_own_class, HasWord}
use Rattle.tetra.specs.Tetra.{codeword_at, third_class, ranks_at, trio_point, trio_point_of, point_of}
use Rattle.tetra.specs.Encode.{parity_at, label_for, fields_by, fields_for}
use Rattle.tetra.specs.Laws.Orders.{trio-length, natural-length, trio-natural, parity-natural, parity-trio, k_order}
use Rattle.tetra.specs.Laws.Point.{ranks-part, below-append, class-three, k_classes, third-lt, first-row, third-row}
use Rattle.tetra.specs.Laws.Point.{point_size, point-parity, bits_are, point-codeword, point-sum, first_is, second_is, third_is}

-- ---- the sections of a point
pub section_size : (y : List ℤ) (s : ℕ) → s < 3 → length (section y s) ≡ 8
section_size y s h = length-take-le 8 (drop (8 * s) (trio y)) (omega (arith, length-drop (8 * s) (trio y), trio-length y))

pub section-length : (y : List ℤ) (s : ℕ) → s < 3 → length (section_ranks y s) ≡ 8
section-length y s h = length-map (section y s) rank_of ∙ section_size y s h

sections : (y : List ℤ) → section_ranks y 0 ++ (section_ranks y 1 ++ section_ranks y 2) ≡ ranks_of (trio y)
sections y =
    let t = trio y in
    ap₂ (λ (a b : List ℕ). a ++ b) (ranks-part 0 t) (ap₂ (λ (a b : List ℕ). a ++ b) (ranks-part 8 t) (ranks-part 16 t))
    ∙ parts (ranks_of t) (length-map t rank_of ∙ trio-length y)
  where
    parts : (v : List ℕ) → length v ≡ 24 → take 8 v ++ (take 8 (drop 8 v) ++ take 8 (drop 16 v)) ≡ v
    parts v e =
        ap (λ (l : List ℕ). take 8 v ++ (take 8 (drop 8 v) ++ l))
        (take_all 8 (drop 16 v) (omega (arith, length-drop 16 v)) ∙ sym (drop-drop 8 8 v))
        ∙ ap (λ (l : List ℕ). take 8 v ++ l) (take-append-drop 8 (drop 8 v)) ∙ take-append-drop 8 v

-- what meets its bound has no rank above 4
pub own_small : (v : List ℕ) → T (in_own_class v) → T (ranks_below 8 v)
own_small v t = below_up 5 8 (omega arith) v (class-ranks (class v) v t)

sections-small : (y : List ℤ) → T (in_own_class (section_ranks y 0)) → T (in_middle (section_ranks y 1)) → T (in_own_class (section_ranks y 2))
    → T (ranks_below 8 (ranks_of (trio y)))
sections-small y a b c =
    let u = section_ranks y 0 in
    let v = section_ranks y 1 in
    let w = section_ranks y 2 in
    subst (λ (l : List ℕ). T (ranks_below 8 l)) (sections y)
    (below-append 8 u (v ++ w) (own_small u a)
    (below-append 8 v w (own_small v (middle_class_lem (class v) v b)) (own_small w c)))

-- ---- a codeword is what has a label below 4096
pub code-label : (c : ℕ) → Codeword c → label_of c < 4096
code-label c w =
    let h : w.label % 4096 < 4096 = mod-lt w.label (zero-lt-suc 4095) in
    let e = (label_iff c (w.label % 4096) h).1 (label_low w.label ∙ w.made) in
    omega arith

pub label-code : (c : ℕ) → label_of c < 4096 → Codeword c
label-code c h = record { label = label_of c; made = label_word c h }

-- ---- the sum of k is even or odd as the sum of the three classes is
pub sum_classes : (p : ℕ) (y : List ℤ) → length y ≡ 24 → T (uniform p (trio y)) → Codeword (bits_of (trio y))
    → T (in_own_class (section_ranks y 0)) → T (in_middle (section_ranks y 1)) → T (in_own_class (section_ranks y 2))
    → mod_z (k_sum y) 2 ≡ (class (section_ranks y 0) + class (section_ranks y 1) + class (section_ranks y 2)) % 2
sum_classes p y e u c a b d =
    sym (k_order y e) ∙ k_classes p (trio y) (trio-length y) c u (sections-small y a b d) ∙ ap class (sym (sections y))
    ∙ class-three (section_ranks y 0) (section_ranks y 1) (section_ranks y 2)

-- ---- the fields of a point that has a word
module _ (y : List ℤ) (h : HasWord y) where
  one_parity_lem : T (uniform (parity_at y) (trio y))
  one_parity_lem =
      parity-trio (parity_at y) y (λ i l. h.point.one_parity_lem i l ∙ sym (h.point.one_parity_lem 0 (omega arith)))

  -- the row of each section
  pub row0 : (i : ℕ) × (i < 2048) × (row_ranks (2048 * class (section_ranks y 0) + i) ≡ section_ranks y 0)
      × (class_index_of (section_ranks y 0) ≡ At (class (section_ranks y 0)) i)
  row0 = class_index_in (section_ranks y 0) (section-length y 0 (omega arith)) h.first

  pub row1 : (i : ℕ) × (i < 2048) × (row_ranks (middle_row i) ≡ section_ranks y 1) × (mixed_index_of (section_ranks y 1) ≡ At (class (section_ranks y 1)) i)
  row1 = mixed_index_in (section_ranks y 1) (section-length y 1 (omega arith)) h.second

  pub row2 : (i : ℕ) × (i < 2048) × (row_ranks (2048 * class (section_ranks y 2) + i) ≡ section_ranks y 2)
      × (class_index_of (section_ranks y 2) ≡ At (class (section_ranks y 2)) i)
  row2 = class_index_in (section_ranks y 2) (section-length y 2 (omega arith)) h.third

  pub label-lt : label_for y < 4096
  label-lt = code-label (bits_of (trio y)) h.point.codeword

  -- the fields by these rows
  found : Fields
  found = fields_by (parity_at y) (label_for y) (class (section_ranks y 0)) row0.0 row1.0 row2.0

  fields-found : fields_for y ≡ found
  unfolding fields_for found
  fields-found = rw (row0.3, row1.3, row2.3)

  found-narrow : Narrow found
  unfolding found
  found-narrow =
      record {
        p = mod2-lt (get_or y 0 (pos 0));
        r = omega arith;
        s8 = omega arith;
        b1 = omega arith;
        i1 = row0.1;
        b2 = omega arith;
        i2 = row1.1;
        b3 = omega arith;
        i3 = row2.1;
        gain = omega arith;
      }

  pub fields-narrow : Narrow (fields_for y)
  fields-narrow = subst Narrow (sym fields-found) found-narrow

  -- section 3 owes what the first two did not pay
  pub third_owes : (parity_at y + class (section_ranks y 0) + class (section_ranks y 1)) % 2 ≡ class (section_ranks y 2)
  third_owes =
      owed (parity_at y) (class (section_ranks y 0)) (class (section_ranks y 1)) (class (section_ranks y 2)) (omega arith)
      (sym (sum_classes (parity_at y) y h.point.size one_parity_lem h.point.codeword h.first h.second h.third)
      ∙ h.point.sum_of_k ∙ sym (h.point.one_parity_lem 0 (omega arith)))
    where
      owed : (p a b c : ℕ) → c < 2 → (a + b + c) % 2 ≡ p → (p + a + b) % 2 ≡ c
      owed p a b c l e = omega arith

  found-third : third_class found ≡ class (section_ranks y 2)
  unfolding third_class found
  found-third =
      let m = mixed_index-back (section_ranks y 1) (section-length y 1 (omega arith)) (class (section_ranks y 1)) row1.0 row1.3 in
      ap (λ (c : ℕ). (parity_at y + class (section_ranks y 0) + c) % 2) m.1 ∙ third_owes

  found-ranks : ranks_at found ≡ ranks_of (trio y)
  unfolding ranks_at found
  found-ranks =
      ap₂ (λ (a b : List ℕ). a ++ b) row0.2
      (ap₂ (λ (a b : List ℕ). a ++ b) row1.2 (ap (λ (c : ℕ). row_ranks (2048 * c + row2.0)) found-third ∙ row2.2))
      ∙ sections y

  found-code : codeword_at found ≡ bits_of (trio y)
  unfolding codeword_at found
  found-code =
      ap (codeword_of columns) (parts-label (label_for y)) ∙ label_low (label_for y) ∙ label_word (bits_of (trio y)) label-lt

  found-point : trio_point found ≡ trio y
  unfolding trio_point found
  found-point =
      ap₂ (λ (c : ℕ) (v : List ℕ). point_at (parity_at y) c v) found-code found-ranks
      ∙ point-back (parity_at y) (trio y) one_parity_lem (sections-small y h.first h.second h.third)

  pub fields-point : trio_point (fields_for y) ≡ trio y
  fields-point = ap trio_point fields-found ∙ found-point

-- ---- a word's point has a word, and its fields are the word's, with gain 0
pub trio_of_lem : (w : ℕ) → trio (point_of w) ≡ trio_point (fields_of w)
unfolding point_of trio_point_of
trio_of_lem w = trio-natural (trio_point (fields_of w)) (point_size (fields_of w) (split-narrow w))

module _ (w : ℕ) where
  -- the ranks of its sections
  section0 : section_ranks (point_of w) 0 ≡ row_ranks (2048 * (fields_of w).r + (fields_of w).i1)
  section0 = ap (λ (t : List ℤ). ranks_of (take 8 (drop 0 t))) (trio_of_lem w) ∙ first_is (fields_of w) (split-narrow w)

  section1 : section_ranks (point_of w) 1 ≡ row_ranks (middle_row (fields_of w).i2)
  section1 = ap (λ (t : List ℤ). ranks_of (take 8 (drop 8 t))) (trio_of_lem w) ∙ second_is (fields_of w) (split-narrow w)

  section2 : section_ranks (point_of w) 2 ≡ row_ranks (2048 * third_class (fields_of w) + (fields_of w).i3)
  section2 = ap (λ (t : List ℤ). ranks_of (take 8 (drop 16 t))) (trio_of_lem w) ∙ third_is (fields_of w) (split-narrow w)

  -- its coordinates have the parity of the field p
  pub word_parity : (i : ℕ) → i < 24 → parity_of (get_or (point_of w) i (pos 0)) ≡ (fields_of w).p
  unfolding point_of trio_point_of
  word_parity =
      let f = fields_of w in
      let n = split-narrow w in
      parity-natural f.p (trio_point f) (point_size f n) (point-parity f n)

  pub decoded : HasWord (point_of w)
  unfolding point_of trio_point_of
  decoded =
      let f = fields_of w in
      let n = split-narrow w in
      let t = trio_of_lem w in
      record {
        point =
            record {
              size = natural-length (trio_point f);
              p = f.p;
              one_parity_lem = word_parity;
              codeword = subst (λ (l : List ℤ). Codeword (bits_of l)) (sym t) (point-codeword f n);
              sum_of_k =
                  sym (k_order (point_of w) (natural-length (trio_point f))) ∙ ap (λ (l : List ℤ). mod_z (k_sum l) 2) t ∙ point-sum f n;
            };
        first = subst (λ (v : List ℕ). T (in_own_class v)) (sym section0) (row_in (2048 * f.r + f.i1) (first-row f n));
        second = subst (λ (v : List ℕ). T (in_middle v)) (sym section1) (middle_row_in f.i2 n.i2);
        third = subst (λ (v : List ℕ). T (in_own_class v)) (sym section2) (row_in (2048 * third_class f + f.i3) (third-row f n));
      }

  label_is : label_for (point_of w) ≡ label (fields_of w).s8 (fields_of w).b1 (fields_of w).b2 (fields_of w).b3
  unfolding codeword_at
  label_is =
      let f = fields_of w in
      let n = split-narrow w in
      ap (λ (t : List ℤ). label_of (bits_of t)) (trio_of_lem w) ∙ ap label_of (bits_are f n)
      ∙ label_at (label f.s8 f.b1 f.b2 f.b3) (omega arith)

  pub fields_back : fields_for (point_of w) ≡ no_gain (fields_of w)
  unfolding fields_for
  fields_back =
      let f = fields_of w in
      let n = split-narrow w in
      let q = label-parts f.s8 f.b1 f.b2 f.b3 n.s8 n.b1 n.b2 n.b3 in
      rw (
        word_parity 0 (omega arith),
        section0,
        section1,
        section2,
        class_index-row f.r f.i1 n.r n.i1,
        mixed_index-row f.i2 n.i2,
        class_index-row (third_class f) f.i3 (third-lt f) n.i3,
        label_is,
        q.0,
        q.1,
        q.2,
        q.3,
      )
