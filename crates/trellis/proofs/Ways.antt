-- What the functions of the way back find, over plain numbers. Assumes nothing.
use Rattle.std.specs.Prelude.{Some, None}
use Rattle.std.proofs.Common.{lt-ltb}
use mathlib.Core.Path.{◌≡◌, refl, ◌∙◌, sym, ap, ap₂}
use mathlib.Core.Bool.{Bool, ◌&&◌}
use Prim.Native.Nat.{ℕ, zero, suc, ◌/◌, ◌<◌, ◌≤◌}
use native.Mathlib.Nat.{mod-eq_of_lt}
use native.Mathlib.Omega.{arith}
use lib.Dec.{T, eqb, eqb→eq}
use Rattle.laws.specs.Laws.Tests.{and_left, and_right, upto, below2}
use Rattle.trellis.specs.Code.{codeword_of, columns}
use Rattle.trellis.specs.Tables.{prefixes, middles}
use Rattle.trellis.specs.Trellis.{prefix_of, middle_of, branch_of, suffix_of, s8_of, b1_of, opening_of, passage_of, closing_of, label_of, label_in}
use Rattle.trellis.specs.Laws.Code.{back_columns, back_at, back-lt}
use Rattle.trellis.specs.Laws.Back.{opening_by, opening_iff, opening-none}
use Rattle.trellis.specs.Laws.Back.{passage_by, passage_iff, passage-none, closing_by, closing_iff, closing-none}
use Rattle.trellis.specs.Laws.Back.{label_iff, label-none}
use Rattle.trellis.specs.declared.Edge.{Edge}

-- ---- a prefix byte: the way back finds its state and its bit by the first byte alone
found : ℕ → ℕ → Bool
found s b = eqb (s8_of (codeword_of back_columns (prefix_of s b))) s && eqb (b1_of (codeword_of back_columns (prefix_of s b))) b

all_found : T (upto 64 (λ (s : ℕ). upto 2 (found s)))
unfolding found prefix_of prefixes back_columns
all_found = tt

found_at : (s b : ℕ) → s < 64 → b < 2
    → (s8_of (codeword_of back_columns (prefix_of s b)) ≡ s) × (b1_of (codeword_of back_columns (prefix_of s b)) ≡ b)
unfolding found
found_at s b h k =
    let w = codeword_of back_columns (prefix_of s b) in
    let t = below2 64 2 found all_found s b h k in
    (eqb→eq _ _ (and_left (eqb (s8_of w) s) (eqb (b1_of w) b) t), eqb→eq _ _ (and_right (eqb (s8_of w) s) (eqb (b1_of w) b) t))

pub open-found : (c s b r : ℕ) → r ≡ prefix_of s b → s < 64 → b < 2 → r ≡ c → Some (s, b) ≡ opening_of c
open-found c s b r e h k q = sym (opening_by _ (Some (s, b)) ((opening_iff c s b).1 (h, k, sym e ∙ q)))

pub open_none : (c x r : ℕ) → x ≡ codeword_of back_columns c → r ≡ prefix_of (s8_of x) (b1_of x) → (r ≡ c → ⊥) → None ≡ opening_of c
open_none c x r ex e n =
    sym (opening_by _ None
    ((opening-none c).1 (λ s b h k q.
    let f = found_at s b h k in
    let w = ex ∙ ap (codeword_of back_columns) (sym q) in
    n (e ∙ ap₂ prefix_of (ap s8_of w ∙ f.0) (ap b1_of w ∙ f.1) ∙ q))))

-- ---- a middle byte: its high half is its place among those of the state
high : ℕ → ℕ → Bool
high s b = eqb (middle_of s b / 16) b

all_high : T (upto 64 (λ (s : ℕ). upto 16 (high s)))
unfolding high middle_of middles
all_high = tt

high_at : (s b : ℕ) → s < 64 → b < 16 → middle_of s b / 16 ≡ b
unfolding high
high_at s b h k = eqb→eq (middle_of s b / 16) b (below2 64 16 high all_high s b h k)

pub pass-outside : (s c : ℕ) → 64 ≤ s → None ≡ passage_of s c
pass-outside s c h = sym (passage_by _ None ((passage-none s c).1 (λ b k l q. omega arith)))

pub pass-found : (s c b : ℕ) (r : Edge) → r ≡ branch_of s b → s < 64 → b < 16 → r.byte ≡ c → Some (b, r.s16) ≡ passage_of s c
pass-found s c b r e h k q =
    sym (passage_by _ (Some (b, r.s16))
    ((passage_iff s c b r.s16).1 (h, k, sym (ap (λ (x : Edge). x.byte) e) ∙ q, sym (ap (λ (x : Edge). x.s16) e))))

pub pass-none : (s c : ℕ) (r : Edge) → r ≡ branch_of s (c / 16) → s < 64 → (r.byte ≡ c → ⊥) → None ≡ passage_of s c
pass-none s c r e h n =
    sym (passage_by _ None
    ((passage-none s c).1 (λ b k l q.
    n (ap (λ (x : Edge). x.byte) e ∙ ap (middle_of s) (ap (λ (x : ℕ). x / 16) (sym q) ∙ high_at s b h l) ∙ q))))

-- ---- a suffix byte: one of the two of the state
pub close-outside : (s c : ℕ) → 64 ≤ s → None ≡ closing_of s c
close-outside s c h = sym (closing_by _ None ((closing-none s c).1 (λ b k l q. omega arith)))

pub close-found : (s c b r : ℕ) → r ≡ suffix_of s b → s < 64 → b < 2 → r ≡ c → Some b ≡ closing_of s c
close-found s c b r e h k q = sym (closing_by _ (Some b) ((closing_iff s c b).1 (h, k, sym e ∙ q)))

pub close-none : (s c r t : ℕ) → r ≡ suffix_of s 0 → t ≡ suffix_of s 1 → (r ≡ c → ⊥) → (t ≡ c → ⊥) → None ≡ closing_of s c
close-none s c r t e f n m = sym (closing_by _ None ((closing-none s c).1 go))
  where
    go : (b : ℕ) → s < 64 → b < 2 → suffix_of s b ≡ c → ⊥
    go zero h k q = n (e ∙ q)
    go (suc zero) h k q = m (f ∙ q)
    go (suc (suc b)) h k q = omega arith

-- ---- a codeword: its label by the columns of the way back, if that label's codeword is the word
pub label-found : (w x y : ℕ) → x ≡ codeword_of back_columns w → y ≡ codeword_of columns x → y ≡ w → Some x ≡ label_in w
label-found w x y ex ey e =
    let h : x < 4096 = omega (arith, back-lt w) in
    let q = (label_iff w x h).1 (sym ey ∙ e) in
    rw (q, lt-ltb x 4096 h) refl

pub label_lost : (w x y : ℕ) → x ≡ codeword_of back_columns w → y ≡ codeword_of columns x → (y ≡ w → ⊥) → None ≡ label_in w
label_lost w x y ex ey n = rw none refl
  where
    none : label_of w ≡ 4096
    none =
        (label-none w).1 (λ z h e.
        n (ey ∙ ap (codeword_of columns) (ex ∙ ap (codeword_of back_columns) (sym e) ∙ back_at z ∙ mod-eq_of_lt h) ∙ e))
