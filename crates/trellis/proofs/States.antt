-- The states of the trellis are those of the cuts, and their numbers are the ranks of their smallest codewords. Assumes nothing.
use Rattle.std.specs.Prelude.{◌≡◌, refl, ◌↔◌, Bool, ◌&&◌, ◌||◌, List, [], ◌∷◌, map, T, eqb, leb, ltb, length, get_or}
use Rattle.std.proofs.Common.{◌∙◌, subst, ap, ap₂, inl, inr, ⊎_elim, mod-lt, zero-lt-suc, mul-one, mod-eq_of_lt, le_of_suc-le-suc, arith, eqb→eq, leb→le, ltb→lt, lt→ltb, pow_pos}
use Rattle.std.proofs.Math.Path.{sym}
use Prim.Native.Nat.{ℕ, suc, ◌+◌, ◌*◌, ◌/◌, ◌%◌, ◌^◌, ◌<◌, ◌≤◌}
use Rattle.std.proofs.lemmas.List.{length-map}
use Rattle.std.proofs.Math.Pow.{split}
use Rattle.std.specs.Int.Bits.{bit_xor, xor_self, xor_zero_r, xor_shifted}
use Rattle.std.proofs.lemmas.Nat.{xor_comm}
use Rattle.laws.specs.Laws.Tests.{and_left, and_right, split3, implies, modus, eq→eqb, or_left, or_right}
use Rattle.laws.specs.Laws.Tables.{every2}
use Rattle.laws.specs.Laws.Trees.{Tree, build, get, get_build}
use Rattle.trellis.specs.Laws.Xor.{xor_zero}
use Rattle.trellis.specs.Code.{codeword_of, columns}
use Rattle.trellis.specs.Trellis.{s8_of, b2_of, s16_of, next_of}
use Rattle.trellis.specs.Sharing.{OneSide, Sum, none, plus, Share, Numbered}
use Rattle.trellis.specs.Laws.Linear.{linear, compose, powers, powers_word, word_low, word_zero}
use Rattle.trellis.proofs.Path.{next_tree, next-tree}
use Rattle.trellis.specs.Laws.Path.{next-lt}
use Rattle.trellis.specs.Tables.{nexts}
use Rattle.trellis.specs.Laws.Words.{words, words_of, words_at_lem, words-length, at_words}
use Rattle.trellis.specs.Laws.Code.{label_low, back_at, back_columns}
use Rattle.trellis.specs.Laws.Ascending.{asc_by, asc-lt}

-- ---- what one test along the codewords shows of a cut. At the codeword w of the label z, in the state s:
-- where w lies on one side, the state is 0
abbrev sided : ℕ → ℕ → ℕ → Bool
sided cut w s = implies (ltb w (2 ^ cut) || eqb (w % 2 ^ cut) 0) (eqb s 0)

-- where the state is 0, the low k bits of the label give a word below the cut, and the others one above it
abbrev parted : ℕ → ℕ → ℕ → ℕ → Bool
parted cut k z s = implies (eqb s 0) (ltb (codeword_of columns (z % 2 ^ k)) (2 ^ cut) && eqb (codeword_of columns (z / 2 ^ k * 2 ^ k) % 2 ^ cut) 0)

-- and the state's smallest word is not above w
abbrev cut_test : ℕ → ℕ → Tree → ℕ → ℕ → ℕ → Bool
cut_test cut k tree z w s = sided cut w s && (parted cut k z s && leb (get 6 tree s) w)

-- the words of 64 labels
least_words : List ℕ → List ℕ
least_words ls = words_of (map (codeword_of columns) ls)

same_label : (x y : ℕ) → codeword_of columns x ≡ codeword_of columns y → x % 4096 ≡ y % 4096
same_label x y e = sym (back_at x) ∙ ap (codeword_of back_columns) e ∙ back_at y

-- ---- a cut; the number k of label bits below it; the state of a label, by the columns cs; the label of a state's smallest word, by the
-- columns ls; and a tree of these words
module _ (cut k : ℕ) (state : ℕ → ℕ) (cs ls : List ℕ) (tree : Tree)
    (state_is : (x : ℕ) → state x ≡ codeword_of cs x)
    (low : (x : ℕ) → state (x % 4096) ≡ state x)
    (test : (z : ℕ) → z < 4096 → T (cut_test cut k tree z (codeword_of columns z) (state z))) where
  sums : (x y : ℕ) → state (bit_xor x y) ≡ bit_xor (state x) (state y)
  sums x y = state_is (bit_xor x y) ∙ linear cs x y ∙ sym (ap₂ bit_xor (state_is x) (state_is y))

  tests : (z : ℕ) → T (sided cut (codeword_of columns z) (state z)) × T (parted cut k (z % 4096) (state z))
      × T (leb (get 6 tree (state z)) (codeword_of columns z))
  tests z =
      let w = codeword_of columns z in
      let s = state z in
      split3 (sided cut w s) (parted cut k (z % 4096) s) (leb (get 6 tree s) w)
      (rw (label_low z, low z) at (test (z % 4096) (mod-lt z (zero-lt-suc 4095))))

  one_side : (z : ℕ) → OneSide cut (codeword_of columns z) → state z ≡ 0
  one_side z o =
      let w = codeword_of columns z in
      eqb→eq (state z) 0
      (modus (ltb w (2 ^ cut) || eqb (w % 2 ^ cut) 0) (eqb (state z) 0)
      (⊎_elim (λ h. or_left (ltb w (2 ^ cut)) (eqb (w % 2 ^ cut) 0) (lt→ltb w (2 ^ cut) h))
      (λ e. or_right (ltb w (2 ^ cut)) (eqb (w % 2 ^ cut) 0) (eq→eqb (w % 2 ^ cut) 0 e)) o)
      (tests z).0)

  -- the label in two, each part's word on its own side
  parts : (z : ℕ) → state z ≡ 0 → (codeword_of columns (z % 4096 % 2 ^ k) < 2 ^ cut) × (codeword_of columns (z % 4096 / 2 ^ k * 2 ^ k) % 2 ^ cut ≡ 0)
  parts z e =
      let a = codeword_of columns (z % 4096 % 2 ^ k) in
      let b = codeword_of columns (z % 4096 / 2 ^ k * 2 ^ k) % 2 ^ cut in
      let t = modus (eqb (state z) 0) (ltb a (2 ^ cut) && eqb b 0) (eq→eqb (state z) 0 e) (tests z).1 in
      (ltb→lt a (2 ^ cut) (and_left (ltb a (2 ^ cut)) (eqb b 0) t), eqb→eq b 0 (and_right (ltb a (2 ^ cut)) (eqb b 0) t))

  joined : (y : ℕ) → bit_xor (y % 2 ^ k) (y / 2 ^ k * 2 ^ k) ≡ y
  joined y =
      xor_comm (y % 2 ^ k) (y / 2 ^ k * 2 ^ k) ∙ xor_shifted (y / 2 ^ k) k (y % 2 ^ k) (mod-lt y (pow_pos k)) ∙ split y k

  zero-sum : (z : ℕ) → state z ≡ 0 → Sum cut (codeword_of columns z)
  zero-sum z e =
      let y = z % 4096 in
      let a = y % 2 ^ k in
      let b = y / 2 ^ k * 2 ^ k in
      subst (Sum cut)
      (ap (bit_xor (codeword_of columns a)) (xor_zero_r (codeword_of columns b)) ∙ sym (linear columns a b) ∙ ap (codeword_of columns) (joined y) ∙ label_low z)
      (plus a (inl (parts z e).0) (plus b (inr (parts z e).1) none))

  sum_zero : {v : ℕ} → Sum cut v → (z : ℕ) × (codeword_of columns z ≡ v) × (state z ≡ 0)
  sum_zero none = (0, word_zero columns, sums 0 0 ∙ xor_self (state 0))
  sum_zero (plus x o s) =
      let r = sum_zero s in (
        bit_xor x r.0,
        linear columns x r.0 ∙ ap (bit_xor (codeword_of columns x)) r.1,
        sums x r.0 ∙ ap₂ bit_xor (one_side x o) r.2,
      )

  share_to : (x y : ℕ) → state x ≡ state y → Share cut (codeword_of columns x) (codeword_of columns y)
  share_to x y e =
      subst (Sum cut) (linear columns x y)
      (zero-sum (bit_xor x y) (sums x y ∙ ap (λ (s : ℕ). bit_xor s (state y)) e ∙ xor_self (state y)))

  share_from : (x y : ℕ) → Share cut (codeword_of columns x) (codeword_of columns y) → state x ≡ state y
  share_from x y s =
      let r = sum_zero s in
      xor_zero (state x) (state y)
      (sym (sums x y) ∙ sym (low (bit_xor x y)) ∙ ap state (sym (same_label r.0 (bit_xor x y) (r.1 ∙ sym (linear columns x y))))
      ∙ low r.0 ∙ r.2)

  share_iff : (x y : ℕ) → (state x ≡ state y) ↔ Share cut (codeword_of columns x) (codeword_of columns y)
  share_iff x y = (share_to x y, share_from x y)

  module _ (state-lt : (x : ℕ) → state x < 64) (six : length ls ≡ 6) (back : map (codeword_of cs) ls ≡ powers 0 6)
      (tree_is : tree ≡ build 6 (least_words ls)) (up : T (asc_by suc 0 (least_words ls))) where
    least_in : (s : ℕ) → s < 64 → s < 2 ^ length (map (codeword_of columns) ls)
    least_in s h = rw (length-map ls (codeword_of columns), six) h

    least_at : (s : ℕ) → s < 64 → get_or (least_words ls) s 0 ≡ codeword_of columns (codeword_of ls s)
    unfolding least_words
    least_at s h = words_at_lem (map (codeword_of columns) ls) s (least_in s h) ∙ sym (compose columns ls s)

    own : (s : ℕ) → s < 64 → state (codeword_of ls s) ≡ s
    own s h =
        state_is (codeword_of ls s) ∙ compose cs ls s ∙ ap (λ (l : List ℕ). codeword_of l s) back ∙ powers_word 6 0 s ∙ mul-one (s % 64) ∙ mod-eq_of_lt h

    smallest : (x : ℕ) → codeword_of columns (codeword_of ls (state x)) ≤ codeword_of columns x
    smallest x =
        subst (λ (w : ℕ). w ≤ codeword_of columns x)
        (ap (λ (t : Tree). get 6 t (state x)) tree_is ∙ get_build 6 (least_words ls) (state x) (state-lt x) ∙ least_at (state x) (state-lt x))
        (leb→le (get 6 tree (state x)) (codeword_of columns x) (tests x).2)

    ascending : (s t : ℕ) → s < t → t < 64 → codeword_of columns (codeword_of ls s) < codeword_of columns (codeword_of ls t)
    unfolding least_words
    ascending s t h k =
        rw (least_at s (omega arith), least_at t k) at
        (le_of_suc-le-suc (asc-lt suc 0 (least_words ls) up s t h
        (subst (λ (n : ℕ). t < n) (sym (words-length (map (codeword_of columns) ls))) (least_in t k))))

    numbered : Numbered cut state
    numbered =
        record { state-lt = state-lt; shared = share_iff; least = codeword_of ls; own = own; smallest = smallest; ascending = ascending }

-- ---- cut 8: the state is s8
least_columns8 : List ℕ
least_columns8 = 129 ∷ 258 ∷ 516 ∷ 8 ∷ 16 ∷ 32 ∷ []

least8 : Tree
least8 = build 6 (least_words least_columns8)

-- ---- cut 16: the state that the branch leads to; it is linear in the label too
state_columns16 : List ℕ
state_columns16 = 22 ∷ 29 ∷ 58 ∷ 1 ∷ 2 ∷ 4 ∷ 0 ∷ 22 ∷ 29 ∷ 58 ∷ 49 ∷ 0 ∷ []

least_columns16 : List ℕ
least_columns16 = 8 ∷ 16 ∷ 32 ∷ 27 ∷ 49 ∷ 62 ∷ []

least16 : Tree
least16 = build 6 (least_words least_columns16)

abbrev tree_state : ℕ → ℕ
tree_state x = get 10 next_tree (16 * s8_of x + b2_of x)

-- ---- both cuts in one walk along the codewords and their states at cut 16, so that the codewords are made once
walked : ℕ → ℕ → ℕ → Bool
walked z w s = cut_test 8 7 least8 z w (s8_of z) && (eqb s (tree_state z) && cut_test 16 11 least16 z w s)

all_walked : T (every2 walked 0 words (words_of state_columns16))
unfolding walked words columns next_tree nexts least8 least16 least_words least_columns8 least_columns16 state_columns16
all_walked = tt

twelve : length state_columns16 ≡ 12
unfolding state_columns16
twelve = refl

walked_at : (z : ℕ) → z < 4096
    → T (cut_test 8 7 least8 z (codeword_of columns z) (s8_of z)) × T (eqb (codeword_of state_columns16 z) (tree_state z))
    × T (cut_test 16 11 least16 z (codeword_of columns z) (codeword_of state_columns16 z))
unfolding walked
walked_at z h =
    let w = codeword_of columns z in
    let s = codeword_of state_columns16 z in
    split3 (cut_test 8 7 least8 z w (s8_of z)) (eqb s (tree_state z)) (cut_test 16 11 least16 z w s)
    (at_words walked state_columns16 twelve all_walked z h)

-- ---- the numbers at cut 8
up8 : T (asc_by suc 0 (least_words least_columns8))
unfolding columns least_words least_columns8
up8 = tt

pub states_8 : Numbered 8 s8_of
unfolding least8 least_columns8
states_8 =
    numbered 8 7 s8_of (powers 0 6) least_columns8 least8 (λ x. sym (powers_word 6 0 x ∙ mul-one (s8_of x))) (λ x. omega arith)
    (λ z h. (walked_at z h).0) (λ x. omega arith) refl refl refl up8

-- ---- and at cut 16
s16_low : (x : ℕ) → s16_of (x % 4096) ≡ s16_of x
s16_low x = ap₂ next_of (omega arith) (omega arith)

s16_is : (x : ℕ) → s16_of x ≡ codeword_of state_columns16 x
unfolding state_columns16
s16_is x =
    let y = x % 4096 in
    sym (s16_low x) ∙ sym (next-tree y)
    ∙ sym (eqb→eq (codeword_of state_columns16 y) (tree_state y) (walked_at y (mod-lt x (zero-lt-suc 4095))).1)
    ∙ word_low state_columns16 x

up16 : T (asc_by suc 0 (least_words least_columns16))
unfolding columns least_words least_columns16
up16 = tt

pub states_16 : Numbered 16 s16_of
unfolding least16 least_columns16 state_columns16
states_16 =
    numbered 16 11 s16_of state_columns16 least_columns16 least16 s16_is s16_low
    (λ z h. subst (λ (s : ℕ). T (cut_test 16 11 least16 z (codeword_of columns z) s)) (sym (s16_is z)) (walked_at z h).2)
    (λ x. next-lt (s8_of x) (b2_of x)) refl refl refl up16
