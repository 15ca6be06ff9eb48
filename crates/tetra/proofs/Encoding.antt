-- From what `encode` reads to what it answers. Assumes nothing.
use mathlib.Core.Path.{◌≡◌, refl, ap, ap₂, sym, subst, ◌∙◌}
use mathlib.Core.Bool.{Bool, true, false, not}
use mathlib.Core.List.{List}
use Prim.Native.Nat.{ℕ, ◌+◌, ◌*◌, ◌%◌, ◌<◌}
use native.Mathlib.Omega.{arith}
use lib.Dec.{T}
use lib.IntN.{ℤ, pos}
use lib.ListN.{length, get_or, take, drop, length-map}
use Rattle.laws.specs.Laws.Tests.{true_is}
use Rattle.laws.specs.Laws.Whole.{mod2-lt}
use Rattle.laws.specs.Words.{mod_z}
use Rattle.refusal.specs.Refusal.{mixed_parity, no_codeword, outside, wrong_sum}
use Rattle.word.specs.Word.{Narrow, word_of}
use Rattle.rank.specs.Coord.{rank_of}
use Rattle.rank.specs.Vector.{class, in_middle}
use Rattle.rank.specs.Section.{uniform, bits_of, ranks_of, k_sum}
use Rattle.rank.specs.Answers.{mark_of, marks_of}
use Rattle.rank.specs.Laws.Lookup.{marks_are, marks-near}
use Rattle.rank.specs.Laws.Vector.{class-ranks}
use Rattle.rows.specs.Table.{At, class_index_of, middle_seat, mixed_index_of, middle_row}
use Rattle.rows.specs.Laws.Rule.{row_in, row-class}
use Rattle.rows.specs.Laws.Places.{number-class}
use Rattle.rows.specs.Laws.Middle.{middle_row_in, middle-lt, middle_row-class}
use Rattle.rows.specs.Answers.{class_index_in, class_index_out, class_index-back, mixed_index_in, mixed_index-back}
use Rattle.rows.specs.declared.Seat.{Seat}
use Rattle.std.specs.Prelude.{Option, Some, None}
use Rattle.trellis.specs.Trellis.{label_in}
use Rattle.trellis.specs.Laws.Back.{label_some, label_absent}
use Rattle.tetra.specs.Lattice.{trio, section, section_ranks, in_own_class, in_bound, HasWord}
use Rattle.tetra.specs.Encode.{refused_with, accepted_with, parity_at, label_for, fields_by, fields_for, encode_of}
use Rattle.tetra.specs.Why.{OfParity, InCode, has_word, mixed_parity_lem, no_codeword_lem, outside-bound, wrong_sum_lem}
use Rattle.tetra.specs.Laws.Orders.{at-uniform, uniform-at, parity-trio}
use Rattle.tetra.specs.Laws.Word.{section_size, section-length, code-label, label-code, sum_classes, fields-narrow}
use Rattle.tetra.specs.Laws.Reason.{each_inside, answered}

-- ---- a row looked up by its marks is found where its ranks are: what meets a bound has no rank above 4
marks-seat : (u : List ℤ) → length u ≡ 8 → class_index_of (marks_of u) ≡ class_index_of (ranks_of u)
marks-seat u e = go (in_own_class (ranks_of u)) refl
  where
    own : T (in_own_class (marks_of u)) → marks_of u ≡ ranks_of u
    own t = marks_are 5 (omega arith) u (class-ranks (class (marks_of u)) (marks_of u) t)

    go : (b : Bool) → in_own_class (ranks_of u) ≡ b → class_index_of (marks_of u) ≡ class_index_of (ranks_of u)
    go true q = ap class_index_of (marks-near 5 (omega arith) u (class-ranks (class (ranks_of u)) (ranks_of u) (true_is _ q)))
    go false q =
        class_index_out (marks_of u) (length-map u mark_of ∙ e) (λ t. subst T q (subst (λ (v : List ℕ). T (in_own_class v)) (own t) t))
        ∙ sym (class_index_out (ranks_of u) (length-map u rank_of ∙ e) (λ t. subst T q t))

-- ---- what an answer says of the vector: it meets its bound, and its class is the one answered
own_seat : (v : List ℕ) → length v ≡ 8 → {c i : ℕ} → class_index_of v ≡ At c i → T (in_own_class v) × (class v ≡ c)
own_seat v e {c} {i} q =
    let b = class_index-back v e c i q in
    let h : 2048 * c + i < 4096 = omega (arith, b.0, b.1) in (
      subst (λ (u : List ℕ). T (in_own_class u)) b.2 (row_in (2048 * c + i) h),
      ap class (sym b.2) ∙ row-class (2048 * c + i) h ∙ number-class c i b.1,
    )

middle_seat_lem : (v : List ℕ) → length v ≡ 8 → {c i : ℕ} → mixed_index_of v ≡ At c i → T (in_middle v) × (class v ≡ c)
middle_seat_lem v e {c} {i} q =
    let b = mixed_index-back v e c i q in (
      subst (λ (u : List ℕ). T (in_middle u)) b.2 (middle_row_in i b.0),
      ap class (sym b.2) ∙ row-class (middle_row i) (middle-lt i b.0) ∙ middle_row-class i b.0 ∙ b.1,
    )

-- a test that is denied
not_not : (b : Bool) {c : Bool} → not b ≡ c → b ≡ not c
not_not true e = ap not e
not_not false e = ap not e

not_both : {s : Option Seat} {c i : ℕ} → s ≡ None → s ≡ At c i → ⊥
not_both p q = let z : ◌≡◌ {A = ℕ} 0 1 = cc in omega arith

-- ---- a point of 24 coordinates, and what is read of it: its coordinates t in trio order
module _ (y : List ℤ) (size : length y ≡ 24) where
  module _ {t : List ℤ} (et : t ≡ trio y) where
    pub label-read : {c : ℕ} {r : Option ℕ} → c ≡ bits_of t → r ≡ label_in c → r ≡ label_in (bits_of (trio y))
    label-read ec er = er ∙ ap label_in (ec ∙ ap bits_of et)

    -- the seat of section s
    pub seat-read : (s : ℕ) → s < 3 → {m : List ℕ} {r : Option Seat} → m ≡ marks_of (take 8 (drop (8 * s) t)) → r ≡ class_index_of m
        → r ≡ class_index_of (section_ranks y s)
    seat-read s h em er =
        er ∙ ap class_index_of (em ∙ ap (λ (l : List ℤ). marks_of (take 8 (drop (8 * s) l))) et)
        ∙ marks-seat (section y s) (section_size y s h)

    pub middle-read : {m : List ℕ} {r : Option Seat} → m ≡ marks_of (take 8 (drop (8 * 1) t)) → r ≡ mixed_index_of m
        → r ≡ mixed_index_of (section_ranks y 1)
    unfolding mixed_index_of
    middle-read em er = er ∙ ap middle_seat (seat-read 1 (omega arith) em refl)

  -- ---- the tests that pass: one parity, and a codeword
  pub parity-read : {p : ℕ} {b : Bool} → b ≡ uniform p y → not b ≡ false → OfParity y p
  parity-read {p} {b} eb q i h = uniform-at p y (true_is _ (sym eb ∙ not_not b q)) i (omega arith)

  pub code_read : {r : Option ℕ} {x : ℕ} → r ≡ label_in (bits_of (trio y)) → r ≡ Some x → InCode y × (x ≡ label_for y)
  code_read {r} {x} e q =
      let s = label_some (bits_of (trio y)) x (sym e ∙ q) in
      (label-code (bits_of (trio y)) (omega (arith, s.0, s.1)), sym s.0)

  -- ---- each test that fails is the reason, where those before it pass
  pub no_parity : {p : ℕ} {b : Bool} → p ≡ parity_at y → b ≡ uniform p y → not b ≡ true → refused_with mixed_parity 0 ≡ encode_of y
  no_parity {p} {b} ep eb q =
      sym (answered y size
      (mixed_parity_lem
      (λ n o.
      subst T (sym eb ∙ not_not b q) (at-uniform p y (λ k l. o k (omega arith) ∙ sym (o 0 (omega arith)) ∙ sym ep)))))

  module _ {p : ℕ} (o : OfParity y p) where
    pub no_code : {r : Option ℕ} → r ≡ label_in (bits_of (trio y)) → r ≡ None → refused_with no_codeword 0 ≡ encode_of y
    no_code e q =
        let l = label_absent (bits_of (trio y)) (sym e ∙ q) in
        sym (answered y size (no_codeword_lem p o (λ c. omega (arith, code-label (bits_of (trio y)) c))))

    module _ (c : InCode y) where
      pub no_first : {r : Option Seat} → r ≡ class_index_of (section_ranks y 0) → r ≡ None → refused_with outside 1 ≡ encode_of y
      unfolding in_bound
      no_first e q =
          sym (answered y size
          (outside-bound p 0 o c (omega arith) (λ t l. absurd (omega arith))
          (λ i. not_both (sym e ∙ q) (class_index_in (section_ranks y 0) (section-length y 0 (omega arith)) i).3)))

      module _ {r i1 : ℕ} (s0 : class_index_of (section_ranks y 0) ≡ At r i1) where
        first : T (in_own_class (section_ranks y 0)) × (class (section_ranks y 0) ≡ r)
        first = own_seat (section_ranks y 0) (section-length y 0 (omega arith)) s0

        pub no_second : {s : Option Seat} → s ≡ mixed_index_of (section_ranks y 1) → s ≡ None → refused_with outside 2 ≡ encode_of y
        unfolding in_bound
        no_second e q =
            sym (answered y size
            (outside-bound p 1 o c (omega arith)
            (each_inside y 1 (omega arith) (λ l. first.0) (λ l. absurd (omega arith)) (λ l. absurd (omega arith)))
            (λ i. not_both (sym e ∙ q) (mixed_index_in (section_ranks y 1) (section-length y 1 (omega arith)) i).3)))

        module _ {d i2 : ℕ} (s1 : mixed_index_of (section_ranks y 1) ≡ At d i2) where
          second : T (in_middle (section_ranks y 1)) × (class (section_ranks y 1) ≡ d)
          second = middle_seat_lem (section_ranks y 1) (section-length y 1 (omega arith)) s1

          pub no_third : {s : Option Seat} → s ≡ class_index_of (section_ranks y 2) → s ≡ None → refused_with outside 3 ≡ encode_of y
          unfolding in_bound
          no_third e q =
              sym (answered y size
              (outside-bound p 2 o c (omega arith)
              (each_inside y 2 (omega arith) (λ l. first.0) (λ l. second.0) (λ l. absurd (omega arith)))
              (λ i. not_both (sym e ∙ q) (class_index_in (section_ranks y 2) (section-length y 2 (omega arith)) i).3)))

          -- ---- three seats found
          module _ {r3 i3 : ℕ} (s2 : class_index_of (section_ranks y 2) ≡ At r3 i3) where
            third : T (in_own_class (section_ranks y 2)) × (class (section_ranks y 2) ≡ r3)
            third = own_seat (section_ranks y 2) (section-length y 2 (omega arith)) s2

            pub classes-lt : (r < 2) × (d < 2) × (r3 < 2)
            classes-lt = (omega (arith, first.1), omega (arith, second.1), omega (arith, third.1))

            p-lt : p < 2
            p-lt = subst (λ (n : ℕ). n < 2) (o 0 (omega arith)) (mod2-lt (get_or y 0 (pos 0)))

            sum-read : mod_z (k_sum y) 2 ≡ (r + d + r3) % 2
            sum-read =
                sum_classes p y size (parity-trio p y o) c first.0 second.0 third.0
                ∙ ap₂ (λ (a e : ℕ). (a + e + class (section_ranks y 2)) % 2) first.1 second.1
                ∙ ap (λ (a : ℕ). (r + d + a) % 2) third.1

            -- the sum of k is wrong
            pub no-sum : (r3 ≡ (p + r + d) % 2 → ⊥) → refused_with wrong_sum 0 ≡ encode_of y
            no-sum n = sym (answered y size (wrong_sum_lem p o c (each_inside y 3 (omega arith) (λ l. first.0) (λ l. second.0) (λ l. third.0)) (λ e. n (owed (sym sum-read ∙ e)))))
              where
                owed : (r + d + r3) % 2 ≡ p → r3 ≡ (p + r + d) % 2
                owed e = omega (arith, classes-lt.2)

            -- it is right
            module _ {x : ℕ} (ex : x ≡ label_for y) (owes : r3 ≡ (p + r + d) % 2) where
              point-has : HasWord y
              point-has =
                  record {
                    point = record { size = size; p = p; one_parity_lem = o; codeword = c; sum_of_k = sum-read ∙ paid };
                    first = first.0;
                    second = second.0;
                    third = third.0;
                  }
                where
                  paid : (r + d + r3) % 2 ≡ p
                  paid = omega (arith, p-lt)

              fields_read : fields_by p x r i1 i2 i3 ≡ fields_for y
              unfolding fields_for
              fields_read = rw (s0, s1, s2, sym (o 0 (omega arith)), ex)

              pub read-narrow : Narrow (fields_by p x r i1 i2 i3)
              read-narrow = subst Narrow (sym fields_read) (fields-narrow y point-has)

              pub read_word : {w : ℕ} → w ≡ word_of (fields_by p x r i1 i2 i3) → accepted_with w ≡ encode_of y
              read_word ew = ap accepted_with (ew ∙ ap word_of fields_read) ∙ sym (answered y size (has_word point-has))
