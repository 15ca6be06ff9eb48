-- Three members along a path of the trellis, of classes that add up to the parity, are a lattice point that has a word.
use Rattle.std.specs.Prelude.{◌≡◌, List, ◌++◌, ℕ, ◌+◌, ◌-◌, ◌*◌, ◌/◌, ◌%◌, ◌^◌, ◌≤◌, ◌<◌, T, get_or, length, take, drop, ℤ, pos}
use Rattle.std.proofs.Common.{sym, ap, ap₂, ◌∙◌, subst, mod-eq_of_lt, le-add_right, arith, ext_get_or}
use Rattle.std.proofs.Math.Nat.{add-sub_cancel_left}
use Rattle.std.proofs.Math.ListN.{get_or-append}
use Rattle.laws.specs.Words.{tab}
use Rattle.laws.specs.Laws.Lists.{tab_at, tab-length, append_past}
use Rattle.laws.specs.Words.{mod_z}
use Rattle.rank.specs.Coord.{val_of}
use Rattle.rank.specs.Vector.{class, unpack, ranks_below, in_class, in_middle}
use Rattle.rank.specs.Laws.Vector.{unpack-at, below_up, class-ranks}
use Rattle.rank.specs.Section as section
use Rattle.rank.specs.Laws.Section.{point-uniform, point-bits, point-ranks, point-length}
use Rattle.trellis.specs.Code.{label}
use Rattle.trellis.specs.Laws.Code.{word_lt}
use Rattle.trellis.specs.Laws.Trio.{trio-fits}
use Rattle.tetra.specs.Lattice.{trio, Codeword, section_ranks, in_own_class, HasWord}
use Rattle.tetra.specs.Why.{OfParity}
use Rattle.tetra.specs.Tetra.{natural}
use Rattle.tetra.specs.Laws.Orders.{natural-length, natural-at, trio-natural, parity-natural}
use Rattle.tetra.specs.Laws.Point.{ranks-part, below-append, point_at_lem}
use Rattle.tetra.specs.Laws.Word.{sum_classes}
use Rattle.search.specs.declared.Entry.{Entry}
use Rattle.search.specs.Parity.{Winner}
use Rattle.search.specs.Record.{bit_at}
use Rattle.search.specs.Tables.{tables, class_of}
use Rattle.search.specs.Entries.{section_at}
use Rattle.search.specs.Join.{last_at}
use Rattle.search.specs.Block as block
use Rattle.nearest.specs.Laws.Sections.{bit_a, bit_b, bit_c, up8, up16, up24, all24, turn, glue, glue1, glue2, glue3}
use Rattle.members.specs.Laws.Ranks.{member-class}
use Rattle.members.specs.Laws.Paths.{Through}
use Rattle.members.specs.Laws.Point.{c1-lt, c2-lt, c3-lt, word_is, even3, last-class, in1, in2, in3, low1, low2, class1, class2}

module _ (p : ℕ) (P0 : p < 2) (e1 e2 e3 : Entry) (H : Through p e1 e2 e3) where
  abbrev word : ℕ
  word = e1.byte + 256 * e2.byte + 65536 * e3.byte

  abbrev v1 : List ℕ
  v1 = unpack 8 e1.key

  abbrev v2 : List ℕ
  v2 = unpack 8 e2.key

  abbrev v3 : List ℕ
  v3 = unpack 8 e3.key

  abbrev r1 : ℕ
  r1 = H.i / 64

  abbrev r2 : ℕ
  r2 = H.n % 2

  -- the label of the path
  abbrev x : ℕ
  x = label (H.i % 64) H.one.byte.0 (H.n / 2) H.three.byte.0

  -- ---- the third row
  low3 : T (ranks_below 8 v3)
  low3 = below_up 5 8 (omega arith) v3 (class-ranks (last_at tables p H.i H.n / 64) v3 (in3 p P0 e1 e2 e3 H))

  class3' : class v3 ≡ last_at tables p H.i H.n / 64
  class3' = member-class p e3.byte (last_at tables p H.i H.n / 64) (class_of tables (last_at tables p H.i H.n / 64))
      e3.key P0 (c3-lt p P0 e1 e2 e3 H) (even3 p P0 e1 e2 e3 H) low3 H.three.good.is

  -- ---- the point in trio order
  abbrev ranks : List ℕ
  ranks = v1 ++ (v2 ++ v3)

  low : T (ranks_below 8 ranks)
  low = below-append 8 v1 (v2 ++ v3) (low1 p P0 e1 e2 e3 H) (below-append 8 v2 v3 (low2 p P0 e1 e2 e3 H) low3)

  abbrev z : List ℤ
  z = section.point_at p word ranks

  size : length z ≡ 24
  size = point-length p word ranks

  all_p : T (section.uniform p z)
  all_p = point-uniform p P0 word ranks low

  bits : section.bits_of z ≡ word
  bits = point-bits p P0 word ranks low ∙ mod-eq_of_lt (subst (λ (n : ℕ). n < 2 ^ 24) (word_is p P0 e1 e2 e3 H) (word_lt x))

  ranks_are : section.ranks_of z ≡ ranks
  ranks_are = point-ranks p P0 word ranks low

  -- ---- and in natural order
  abbrev y : List ℤ
  y = natural z

  back : trio y ≡ z
  back = trio-natural z size

  sec0 : section_ranks y 0 ≡ v1
  sec0 = ap (λ (t : List ℤ). section.ranks_of (take 8 (drop 0 t))) back ∙ ranks-part 0 z ∙ ap (λ (v : List ℕ). take 8 (drop 0 v)) ranks_are

  sec1 : section_ranks y 1 ≡ v2
  sec1 = ap (λ (t : List ℤ). section.ranks_of (take 8 (drop 8 t))) back ∙ ranks-part 8 z ∙ ap (λ (v : List ℕ). take 8 (drop 8 v)) ranks_are

  sec2 : section_ranks y 2 ≡ v3
  sec2 = ap (λ (t : List ℤ). section.ranks_of (take 8 (drop 16 t))) back ∙ ranks-part 16 z ∙ ap (λ (v : List ℕ). take 8 (drop 16 v)) ranks_are

  codeword : Codeword (section.bits_of (trio y))
  codeword = record { label = x; made = word_is p P0 e1 e2 e3 H ∙ sym bits ∙ ap section.bits_of (sym back) }

  first : T (in_own_class (section_ranks y 0))
  first = subst (λ (v : List ℕ). T (in_own_class v)) (sym sec0) (subst (λ (r : ℕ). T (in_class r v1)) (sym (class1 p P0 e1 e2 e3 H)) (in1 p P0 e1 e2 e3 H))

  second : T (in_middle (section_ranks y 1))
  second = subst (λ (v : List ℕ). T (in_middle v)) (sym sec1) (in2 p P0 e1 e2 e3 H)

  third : T (in_own_class (section_ranks y 2))
  third = subst (λ (v : List ℕ). T (in_own_class v)) (sym sec2) (subst (λ (r : ℕ). T (in_class r v3)) (sym class3') (in3 p P0 e1 e2 e3 H))

  sum : mod_z (section.k_sum y) 2 ≡ p
  sum =
      sum_classes p y (natural-length z) (subst (λ (t : List ℤ). T (section.uniform p t)) (sym back) all_p) codeword first second third
      ∙ ap₂ (λ (a b : ℕ). (a + b) % 2) (ap₂ (λ (a b : ℕ). a + b) (ap class sec0 ∙ class1 p P0 e1 e2 e3 H) (ap class sec1 ∙ class2 p P0 e1 e2 e3 H))
      (ap class sec2 ∙ class3' ∙ last-class p P0 e1 e2 e3 H)
      ∙ turn r1 r2 p P0

  natural-parity : OfParity (natural z) p
  natural-parity = parity-natural p z size all_p

  natural_word : HasWord (natural z)
  natural_word =
      record {
        point = record { size = natural-length z; p = p; one_parity_lem = natural-parity; codeword = codeword; sum_of_k = sum };
        first = first;
        second = second;
        third = third;
      }

  -- ---- coordinate by coordinate it is the winner's point
  coordinate_is : (j : ℕ) (c key b r : ℕ) → b ≡ bit_at c j → j < 8 → r ≡ get_or (unpack 8 key) j 0 → val_of (p + 2 * b) r ≡ section_at p c key j
  coordinate_is j c key b r e h f = ap₂ (λ (b r : ℕ). val_of (p + 2 * b) r) e (f ∙ unpack-at 8 key j h)

  abbrev three : ℕ → ℤ
  three = glue (section_at p e1.byte e1.key) (section_at p e2.byte e2.key) (section_at p e3.byte e3.key)

  trio_is : (j : ℕ) → j < 24 → get_or z j (pos 0) ≡ three j
  trio_is =
      all24 (λ j. get_or z j (pos 0) ≡ three j)
      (λ j h. point_at_lem p word ranks j (up8 h)
      ∙ coordinate_is j e1.byte e1.key (bit_at word j) (get_or ranks j 0) (bit_a e1.byte e2.byte e3.byte (c1-lt p P0 e1 e2 e3 H) j h) h
      (get_or-append v1 (v2 ++ v3) 0 j h)
      ∙ sym (glue1 (section_at p e1.byte e1.key) (section_at p e2.byte e2.key) (section_at p e3.byte e3.key) j h))
      (λ j h. point_at_lem p word ranks (8 + j) (up16 h)
      ∙ coordinate_is j e2.byte e2.key (bit_at word (8 + j)) (get_or ranks (8 + j) 0)
      (bit_b e1.byte e2.byte e3.byte (c1-lt p P0 e1 e2 e3 H) (c2-lt p P0 e1 e2 e3 H) j h) h (middle-at j h)
      ∙ sym (glue2 (section_at p e1.byte e1.key) (section_at p e2.byte e2.key) (section_at p e3.byte e3.key) j h))
      (λ j h. point_at_lem p word ranks (16 + j) (up24 h)
      ∙ coordinate_is j e3.byte e3.key (bit_at word (16 + j)) (get_or ranks (16 + j) 0)
      (bit_c e1.byte e2.byte e3.byte (c1-lt p P0 e1 e2 e3 H) (c2-lt p P0 e1 e2 e3 H) j h) h (last_at_lem j h)
      ∙ sym (glue3 (section_at p e1.byte e1.key) (section_at p e2.byte e2.key) (section_at p e3.byte e3.key) j h))
    where
      eight : (j : ℕ) → 16 + j - 8 ≡ 8 + j
      eight j = omega arith

      nine : (j : ℕ) → 8 ≤ 16 + j
      nine j = omega arith

      middle-at : (j : ℕ) → j < 8 → get_or (v1 ++ (v2 ++ v3)) (8 + j) 0 ≡ get_or v2 j 0
      middle-at j h = append_past ℕ 0 v1 (v2 ++ v3) (8 + j) (le-add_right 8 j) ∙ ap (λ (m : ℕ). get_or (v2 ++ v3) m 0) (add-sub_cancel_left 8 j) ∙ get_or-append v2 v3 0 j h

      last_at_lem : (j : ℕ) → j < 8 → get_or (v1 ++ (v2 ++ v3)) (16 + j) 0 ≡ get_or v3 j 0
      last_at_lem j h =
          append_past ℕ 0 v1 (v2 ++ v3) (16 + j) (nine j) ∙ ap (λ (m : ℕ). get_or (v2 ++ v3) m 0) (eight j)
          ∙ append_past ℕ 0 v2 v3 (8 + j) (le-add_right 8 j) ∙ ap (λ (m : ℕ). get_or v3 m 0) (add-sub_cancel_left 8 j)

  natural_is : natural z ≡ tab (λ i. three (block.place i)) 24
  natural_is =
      ext_get_or (pos 0) (natural z) (tab (λ i. three (block.place i)) 24) (natural-length z ∙ sym (tab-length ℤ (λ i. three (block.place i)) 24))
      (λ i h.
      let l : i < 24 = subst (λ (n : ℕ). i < n) (natural-length z) h in
      natural-at z i l ∙ trio_is (block.place i) (trio-fits i l).place-lt ∙ sym (tab_at ℤ (pos 0) (λ i. three (block.place i)) 24 i l))

-- ---- the point of a winner whose path goes through three members has a word
pub winner_word : (w : Winner) → w.p < 2 → Through w.p w.s1 w.s2 w.s3 → HasWord (block.point_from w)
unfolding glue
winner_word w P0 H = subst HasWord (natural_is w.p P0 w.s1 w.s2 w.s3 H) (natural_word w.p P0 w.s1 w.s2 w.s3 H)

-- and coordinates of its parity
pub winner-parity : (w : Winner) → w.p < 2 → Through w.p w.s1 w.s2 w.s3 → OfParity (block.point_from w) w.p
unfolding glue
winner-parity w P0 H =
    subst (λ (y : List ℤ). OfParity y w.p) (natural_is w.p P0 w.s1 w.s2 w.s3 H)
    (natural-parity w.p P0 w.s1 w.s2 w.s3 H)
