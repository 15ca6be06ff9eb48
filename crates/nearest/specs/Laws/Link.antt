-- The lattice and the points that have a word as document 01 has them (tetra/specs/Lattice), against the form that the proof works with: a
-- lattice point in trio order is one by its path through the trellis' tables, and the other way round; and a point that has a word has its
-- three packed rows. Assumes nothing.
use Rattle.std.specs.Prelude.{◌≡◌, List, ℕ, ◌+◌, ◌*◌, ◌/◌, ◌%◌, ◌^◌, ◌<◌, T, get_or, length, drop, ℤ, pos}
use Rattle.std.proofs.Math.Path.{refl, sym, ap, subst}
use Rattle.std.proofs.Common.{ap₂, ◌∙◌, zero-lt-suc, zero-add, arith, get_or-take, get_or-drop}
use Rattle.std.proofs.Math.Nat.{mod-lt}
use Rattle.laws.specs.Words.{mod_z}
use Rattle.laws.specs.Laws.Whole.{mod2-lt, bit-small, low_bit, high_bits}
use Rattle.laws.specs.Words.{weight}
use Rattle.rank.specs.Coord.{parity_of, bit_of, k_of}
use Rattle.rank.specs.Laws.Coord.{residue, halves}
use Rattle.rank.specs.Vector.{ranks_below, class, k_zero, bound_cost, bound_cut, middle_cost, middle_cut}
use Rattle.rank.specs.Section.{uniform, bits_of, k_sum}
use Rattle.rank.specs.Laws.Vector.{middle_class_lem}
use Rattle.trellis.specs.Tables.{prefixes, middles, nexts, suffixes}
use Rattle.trellis.specs.Code.{codeword_of, columns, first, second, third}
use Rattle.trellis.specs.Laws.Code.{label_low, word_lt, bytes-even}
use Rattle.trellis.specs.Trellis.{prefix_of, middle_of, next_of, suffix_of}
use Rattle.trellis.proofs.Path.{path-at, first-at, second_at, third_at}
use Rattle.trellis.specs.Laws.Rows.{prefix-read, middle-read, next-read, suffix-read}
use Rattle.tetra.specs.Lattice.{trio, LatticePoint, section, section_ranks, in_own_class, HasWord}
use Rattle.tetra.specs.Tetra.{natural}
use Rattle.tetra.specs.Laws.Orders.{trio-length, natural-length, trio-natural, parity-trio, parity-natural, uniform-at, at-uniform, k_order}
use Rattle.tetra.specs.Laws.Word.{section_size, own_small}
use Rattle.search.specs.Record.{bit_at, member}
use Rattle.search.specs.Tables.{tables, class_of}
use Rattle.search.specs.Laws.Tables.{mixed_is}
use Rattle.nearest.specs.Laws.Forms.{sum_to, par_k, at24, RowOf}
use Rattle.nearest.specs.Laws.Sums.{sum_same}
use Rattle.nearest.specs.Laws.Keys.{member_self, member_is}
use Rattle.nearest.specs.Laws.Premises.{HasRows}
use Rattle.nearest.specs.Laws.Sections.{path_of, LeechTrio, point_of_lem, bit_a, bit_b, bit_c}
use Rattle.nearest.specs.Laws.TableFacts.{tables-bytes}
use Rattle.nearest.specs.Laws.Packed.{class_bound, cut_size, cut_below, bits_at, bits_from, k_sum_is, row_of, class_of_lem}

-- ---- the codeword by its path
branch-lt : (a : ℕ) → a % 16 < 16
branch-lt a = mod-lt a (zero-lt-suc 15)

top : (x : ℕ) → x < 4096 → x / 2048 % 2 ≡ x / 2048
top x h = omega arith

byte1 : (x : ℕ) → prefix_of (x % 64) (x / 64 % 2) ≡ get_or prefixes (2 * (x % 64) + x / 64 % 2) 0
byte1 x = prefix-read (x % 64) (x / 64 % 2) (bit-small (x / 64))

byte2 : (x : ℕ) → middle_of (x % 64) (x / 128 % 16) ≡ get_or middles (x % 64 * 16 + x / 128 % 16) 0
byte2 x = middle-read (x % 64) (x / 128 % 16) (branch-lt (x / 128))

byte3 : (x : ℕ) → x < 4096
    → suffix_of (next_of (x % 64) (x / 128 % 16)) (x / 2048 % 2) ≡ get_or suffixes (2 * get_or nexts (x % 64 * 16 + x / 128 % 16) 0 + x / 2048) 0
byte3 x h =
    suffix-read (next_of (x % 64) (x / 128 % 16)) (x / 2048 % 2) (bit-small (x / 2048))
    ∙ ap₂ (λ (s b : ℕ). get_or suffixes (2 * s + b) 0) (next-read (x % 64) (x / 128 % 16) (branch-lt (x / 128))) (top x h)

path_is : (x : ℕ) → x < 4096 → codeword_of columns x ≡ path_of tables x
path_is x h = path-at x ∙ ap₂ (λ (a b : ℕ). a + 65536 * b) (ap₂ (λ (a b : ℕ). a + 256 * b) (byte1 x) (byte2 x)) (byte3 x h)

-- ---- a lattice point of document 01, in trio order
module _ (y : List ℤ) (Y : LatticePoint y) where
  pub p-lt : Y.p < 2
  p-lt = subst (λ (n : ℕ). n < 2) (Y.one_parity_lem 0 (omega arith)) (mod2-lt (at24 y 0))

  label : ℕ
  label = Y.codeword.label % 4096

  label-lt : label < 4096
  unfolding label
  label-lt = mod-lt Y.codeword.label (zero-lt-suc 4095)

  word_is : codeword_of columns label ≡ bits_of (trio y)
  unfolding label
  word_is = label_low Y.codeword.label ∙ Y.codeword.made

  inside : (j : ℕ) → j < 24 → j < length (trio y)
  inside j h = subst (λ (n : ℕ). j < n) (sym (trio-length y)) h

  bit_is : (j : ℕ) → j < 24 → bit_of (at24 (trio y) j) ≡ bit_at (codeword_of columns label) j
  bit_is j h = sym (bits_at (trio y) j (inside j h)) ∙ ap (λ (w : ℕ). bit_at w j) (sym word_is)

  parity_is : (j : ℕ) → j < 24 → parity_of (at24 (trio y) j) ≡ Y.p
  parity_is j h = uniform-at Y.p (trio y) (parity-trio Y.p y Y.one_parity_lem) j (inside j h)

  pub leech : LeechTrio tables (trio y)
  leech =
      record {
        len = trio-length y;
        p = Y.p;
        x = label;
        k = λ j. k_of (at24 (trio y) j);
        p-lt = p-lt;
        x_lt = label-lt;
        at = λ j h.
            member_self (at24 (trio y) j)
            ∙ ap (λ (o : ℕ). member o (k_of (at24 (trio y) j)))
            (sym (residue (at24 (trio y) j))
            ∙ ap₂ (λ (a b : ℕ). a + 2 * b) (parity_is j h) (bit_is j h ∙ ap (λ (w : ℕ). bit_at w j) (path_is label label-lt)));
        sum =
            ap (λ (n : ℕ). sum_to (λ j. mod_z (k_of (at24 (trio y) j)) 2) n % 2) (sym (trio-length y)) ∙ sym (k_sum_is (trio y)) ∙ k_order y Y.size
            ∙ Y.sum_of_k;
      }

  pub leech_parity : leech.p ≡ Y.p
  unfolding leech
  leech_parity = refl

-- ---- a point that has a word has its rows
bytes_of : (w : ℕ) → w ≡ first w + 256 * second w + 65536 * third w
bytes_of w = omega arith

module _ (y : List ℤ) (W : HasWord y) where
  abbrev x : ℕ
  x = label y W.point

  abbrev word : ℕ
  word = codeword_of columns x

  part_at : (s j : ℕ) → j < 8 → get_or (section y s) j (pos 0) ≡ at24 (trio y) (8 * s + j)
  part_at s j h = get_or-take 8 (drop (8 * s) (trio y)) j (pos 0) h ∙ get_or-drop (8 * s) (trio y) j (pos 0)

  part-uniform : (s : ℕ) → s < 3 → T (uniform W.point.p (section y s))
  part-uniform s hs =
      at-uniform W.point.p (section y s)
      (λ k h.
      let l : k < 8 = subst (λ (n : ℕ). k < n) (section_size y s hs) h in
      ap parity_of (part_at s k l) ∙ parity_is y W.point (8 * s + k) (omega arith))

  part-bits : (s c : ℕ) → s < 3 → c < 256 → ((j : ℕ) → j < 8 → bit_at word (8 * s + j) ≡ bit_at c j) → bits_of (section y s) ≡ c
  part-bits s c hs hc f =
      bits_from (section y s) c (subst (λ (n : ℕ). c < 2 ^ n) (sym (section_size y s hs)) hc)
      (λ j h.
      let l : j < 8 = subst (λ (n : ℕ). j < n) (section_size y s hs) h in
      ap bit_of (part_at s j l) ∙ bit_is y W.point (8 * s + j) (omega arith) ∙ f j l)

  first-lt : first word < 256
  first-lt = mod-lt word (zero-lt-suc 255)

  second_lt : second word < 256
  second_lt = mod-lt (word / 256) (zero-lt-suc 255)

  third-lt : third word < 256
  third-lt = cut word (word_lt x)
    where
      cut : (w : ℕ) → w < 2 ^ 24 → w / 65536 < 256
      cut w h = omega arith

  bits1 : bits_of (section y 0) ≡ first word
  bits1 =
      part-bits 0 (first word) (omega arith) first-lt
      (λ j h.
      ap (bit_at word) (zero-add j) ∙ ap (λ (w : ℕ). bit_at w j) (bytes_of word) ∙ bit_a (first word) (second word) (third word) first-lt j h)

  bits2 : bits_of (section y 1) ≡ second word
  bits2 =
      part-bits 1 (second word) (omega arith) second_lt
      (λ j h. ap (λ (w : ℕ). bit_at w (8 + j)) (bytes_of word) ∙ bit_b (first word) (second word) (third word) first-lt second_lt j h)

  bits3 : bits_of (section y 2) ≡ third word
  bits3 =
      part-bits 2 (third word) (omega arith) third-lt
      (λ j h. ap (λ (w : ℕ). bit_at w (16 + j)) (bytes_of word) ∙ bit_c (first word) (second word) (third word) first-lt second_lt j h)

  class-lt : (v : List ℕ) → class v < 2
  class-lt v = mod-lt (k_zero v) (zero-lt-suc 1)

  -- a section that meets the bound of its own class; c is its byte, by a name of the tables
  end_row : (s b c : ℕ) (hs : s < 3) → bits_of (section y s) ≡ b → weight 8 b % 2 ≡ 0 → b ≡ c → T (in_own_class (section_ranks y s))
      → (f : ℕ → ℤ) → ((j : ℕ) → j < 8 → f j ≡ get_or (section y s) j (pos 0))
      → RowOf W.point.p c (class_of tables (par_k (λ j. k_of (f j)) 8)) f
  end_row s b c hs q even e m f a =
      let v = section_ranks y s in
      let r = class v in
      let even' : weight 8 c % 2 ≡ 0 = subst (λ (n : ℕ). weight 8 n % 2 ≡ 0) e even in
      row_of W.point.p c (section y s) (section_size y s hs) (part-uniform s hs) (q ∙ e) (own_small v m) f a
      (class_of tables (par_k (λ j. k_of (f j)) 8)) (bound_cost r) (bound_cut r)
      (ap (class_of tables)
      (class_of_lem W.point.p c (section y s) (section_size y s hs) (part-uniform s hs) (q ∙ e) (own_small v m) f a even')
      ∙ class_bound r (class-lt v))
      (cut_size r) (cut_below r) m

  -- the byte of the last section, by the state that the branch reaches
  abbrev last : ℕ
  last = get_or suffixes (2 * get_or nexts (x % 64 * 16 + x / 128 % 16) 0 + x / 2048) 0

  pub has-rows : HasRows tables (leech y W.point).p (point_of_lem tables tables-bytes (trio y) (leech y W.point))
  unfolding leech point_of_lem ranks_below
  has-rows =
      let v = section_ranks y 1 in
      let even = bytes-even x in
      record {
        one =
            end_row 0 (first word) _ (omega arith) bits1 even.0 (first-at x ∙ byte1 x) W.first (λ j. at24 (trio y) j)
            (λ j h. ap (at24 (trio y)) (sym (zero-add j)) ∙ sym (part_at 0 j h));
        two =
            row_of W.point.p _ (section y 1) (section_size y 1 (omega arith)) (part-uniform 1 (omega arith))
            (bits2 ∙ second_at x ∙ byte2 x) (own_small v (middle_class_lem (class v) v W.second)) (λ j. at24 (trio y) (8 + j))
            (λ j h. sym (part_at 1 j h)) tables.mixed middle_cost middle_cut mixed_is refl tt W.second;
        three =
            subst (λ (r : ℕ). RowOf W.point.p last (class_of tables r) (λ j. at24 (trio y) (16 + j)))
            (point_of_lem tables tables-bytes (trio y) (leech y W.point)).sec3.class
            (end_row 2 (third word) last (omega arith) bits3 even.2 (third_at x ∙ byte3 x (label-lt y W.point)) W.third
            (λ j. at24 (trio y) (16 + j)) (λ j h. sym (part_at 2 j h)));
      }

-- ---- and back: what the proof works with is, in natural order, a lattice point of document 01
module _ (z : List ℤ) (L : LeechTrio tables z) where
  abbrev bit : ℕ → ℕ
  bit j = bit_at (path_of tables L.x) j

  o_lt : (j : ℕ) → L.p + 2 * bit j < 4
  o_lt j = sum L.p (bit j) L.p-lt (mod-lt (path_of tables L.x / 2 ^ j) (zero-lt-suc 1))
    where
      sum : (p b : ℕ) → p < 2 → b < 2 → p + 2 * b < 4
      sum p b h l = omega arith

  leaves : (j : ℕ) → j < 24 → mod_z (at24 z j) 4 ≡ L.p + 2 * bit j
  leaves j h = ap (λ (v : ℤ). mod_z v 4) (L.at j h) ∙ sym (member_is (L.p + 2 * bit j) (L.k j) (o_lt j)).0

  parity_at_lem : (j : ℕ) → j < 24 → parity_of (at24 z j) ≡ L.p
  parity_at_lem j h = sym (halves (at24 z j)).0 ∙ ap (λ (n : ℕ). n % 2) (leaves j h) ∙ low_bit L.p (bit j) L.p-lt

  bit_of_lem : (j : ℕ) → j < 24 → bit_of (at24 z j) ≡ bit j
  bit_of_lem j h = sym (halves (at24 z j)).1 ∙ ap (λ (n : ℕ). n / 2) (leaves j h) ∙ high_bits L.p (bit j) L.p-lt

  k_is : (j : ℕ) → j < 24 → k_of (at24 z j) ≡ L.k j
  k_is j h = ap k_of (L.at j h) ∙ sym (member_is (L.p + 2 * bit j) (L.k j) (o_lt j)).1

  within_24 : (j : ℕ) → j < length z → j < 24
  within_24 j h = subst (λ (n : ℕ). j < n) L.len h

  back : trio (natural z) ≡ z
  back = trio-natural z L.len

  bits_are : codeword_of columns L.x ≡ bits_of z
  bits_are =
      sym
      (bits_from z (codeword_of columns L.x) (subst (λ (n : ℕ). codeword_of columns L.x < 2 ^ n) (sym L.len) (word_lt L.x))
      (λ j h. bit_of_lem j (within_24 j h) ∙ ap (λ (w : ℕ). bit_at w j) (sym (path_is L.x L.x_lt))))

  pub lattice : LatticePoint (natural z)
  lattice =
      record {
        size = natural-length z;
        p = L.p;
        one_parity_lem = parity-natural L.p z L.len (at-uniform L.p z (λ j h. parity_at_lem j (within_24 j h)));
        codeword = record { label = L.x; made = bits_are ∙ ap bits_of (sym back) };
        sum_of_k =
            sym (k_order (natural z) (natural-length z)) ∙ ap (λ (l : List ℤ). mod_z (k_sum l) 2) back ∙ k_sum_is z
            ∙ ap (λ (n : ℕ). n % 2)
            (ap (sum_to (λ j. mod_z (k_of (at24 z j)) 2)) L.len
            ∙ sum_same (λ j. mod_z (k_of (at24 z j)) 2) (λ j. mod_z (L.k j) 2) 24 (λ j h. ap (λ (v : ℤ). mod_z v 2) (k_is j h)))
            ∙ L.sum;
      }

  pub lattice_parity : lattice.p ≡ L.p
  unfolding lattice
  lattice_parity = refl
