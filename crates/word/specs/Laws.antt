-- Laws of the word: the test and the facts agree, split and join undo each other, and what is left of a word without its gain. Assumes nothing.
use Rattle.std.specs.Prelude.{◌≡◌, refl, true, ℕ, ◌+◌, ◌*◌, ◌/◌, ◌%◌, ◌^◌, ◌<◌, Result, Ok, Err}
use Rattle.std.specs.Result.{result_unwrap_or}
use Rattle.std.proofs.Common.{ap, sym, ◌∙◌, add_comm, mod-lt, mod-eq_of_lt, arith, ltb-true, lt-ltb, pow_pos}
use Rattle.std.proofs.Math.Bool.{and-eq-true_iff}
use Rattle.std.proofs.Math.Arith.{digits_div, digits_mod}
use Rattle.std.proofs.lemmas.Nat.{mod-pow-add}
use Rattle.laws.specs.Laws.Tests.{is_true, is_false}
use Rattle.refusal.specs.declared.Refusal.{Refusal}
use Rattle.refusal.proofs.Once.{Tells, tells, tells-record, once}
use Rattle.word.specs.declared.Fields.{Fields}
use Rattle.word.specs.Word.{field_at, fields_of, fits, Narrow, word_of, Joined, joined_by, join_of}

-- ---- the test and the facts
pub fits-narrow : (f : Fields) → fits f ≡ true → Narrow f
fits-narrow f e =
    let gain = (and-eq-true_iff _ _).0 e in
    let i3 = (and-eq-true_iff _ _).0 gain.0 in
    let b3 = (and-eq-true_iff _ _).0 i3.0 in
    let i2 = (and-eq-true_iff _ _).0 b3.0 in
    let b2 = (and-eq-true_iff _ _).0 i2.0 in
    let i1 = (and-eq-true_iff _ _).0 b2.0 in
    let b1 = (and-eq-true_iff _ _).0 i1.0 in
    let s8 = (and-eq-true_iff _ _).0 b1.0 in
    let r = (and-eq-true_iff _ _).0 s8.0 in
    record {
      p = ltb-true _ _ r.0;
      r = ltb-true _ _ r.1;
      s8 = ltb-true _ _ s8.1;
      b1 = ltb-true _ _ b1.1;
      i1 = ltb-true _ _ i1.1;
      b2 = ltb-true _ _ b2.1;
      i2 = ltb-true _ _ i2.1;
      b3 = ltb-true _ _ b3.1;
      i3 = ltb-true _ _ i3.1;
      gain = ltb-true _ _ gain.1;
    }

narrow-fits : (f : Fields) → Narrow f → fits f ≡ true
narrow-fits f n =
    rw (
      lt-ltb _ _ n.p,
      lt-ltb _ _ n.r,
      lt-ltb _ _ n.s8,
      lt-ltb _ _ n.b1,
      lt-ltb _ _ n.i1,
      lt-ltb _ _ n.b2,
      lt-ltb _ _ n.i2,
      lt-ltb _ _ n.b3,
      lt-ltb _ _ n.i3,
      lt-ltb _ _ n.gain,
    )

-- `join` answers the word where the fields fit, and refuses where they do not
pub join-accepts : (f : Fields) → Narrow f → join_of f ≡ record { number = 0; word = word_of f }
unfolding join_of
join-accepts f n = rw (narrow-fits f n)

pub join-refuses : (f : Fields) → (Narrow f → ⊥) → join_of f ≡ record { number = 6; word = 0 }
unfolding join_of
join-refuses f n = rw (is_false (fits f) (λ t. n (fits-narrow f (is_true (fits f) t))))

-- ---- sizes
cut-lt : (lo width w : ℕ) → field_at lo width w < 2 ^ width
unfolding field_at
cut-lt lo width w = mod-lt (w / 2 ^ lo) (pow_pos width)

-- the fields of a word fit
pub split-narrow : (w : ℕ) → Narrow (fields_of w)
split-narrow w =
    record {
      p = cut-lt _ _ w;
      r = cut-lt _ _ w;
      s8 = cut-lt _ _ w;
      b1 = cut-lt _ _ w;
      i1 = cut-lt _ _ w;
      b2 = cut-lt _ _ w;
      i2 = cut-lt _ _ w;
      b3 = cut-lt _ _ w;
      i3 = cut-lt _ _ w;
      gain = cut-lt _ _ w;
    }

join-lt : (f : Fields) → Narrow f → word_of f < 2 ^ 48
join-lt f n = omega arith

-- ---- join of a split: the low 48 bits
-- the bits of w up to the end of a field: those below the field, and the field
low_step : (w width lo : ℕ) → w % 2 ^ (width + lo) ≡ w % 2 ^ lo + field_at lo width w * 2 ^ lo
unfolding field_at
low_step w width lo = mod-pow-add w width lo ∙ add_comm _ _

low_first : (w : ℕ) → w % 2 ^ 1 ≡ field_at 0 1 w * 2 ^ 0
unfolding field_at
low_first w = omega arith

pub join-split : (w : ℕ) → word_of (fields_of w) ≡ w % 2 ^ 48
join-split w =
    rw (
      low_step w 1 47,
      low_step w 11 36,
      low_step w 1 35,
      low_step w 11 24,
      low_step w 4 20,
      low_step w 11 9,
      low_step w 1 8,
      low_step w 6 2,
      low_step w 1 1,
      low_first w,
    )

-- ---- split of a join: the fields
-- where two numbers are equal, so are their lowest digits and what stands above those
digit : {m x y a b : ℕ} → a < m → b < m → x * m + a ≡ y * m + b → (x ≡ y) × (a ≡ b)
digit {m} {x} {y} ha hb e =
    (sym (digits_div x ha) ∙ ap (λ (n : ℕ). n / m) e ∙ digits_div y hb, sym (digits_mod x ha) ∙ ap (λ (n : ℕ). n % m) e ∙ digits_mod y hb)

-- the fields as digits, the lowest last
nested : Fields → ℕ
nested f =
    let above_i1 = (((f.gain * 2 ^ 11 + f.i3) * 2 ^ 1 + f.b3) * 2 ^ 11 + f.i2) * 2 ^ 4 + f.b2 in
    ((((above_i1 * 2 ^ 11 + f.i1) * 2 ^ 1 + f.b1) * 2 ^ 6 + f.s8) * 2 ^ 1 + f.r) * 2 ^ 1 + f.p

nested_word : (f : Fields) → nested f ≡ word_of f
unfolding nested
nested_word f = omega arith

pub split-join : (f : Fields) → Narrow f → fields_of (word_of f) ≡ f
unfolding nested
split-join f n =
    let g = fields_of (word_of f) in
    let m = split-narrow (word_of f) in
    let e = nested_word g ∙ join-split (word_of f) ∙ mod-eq_of_lt (join-lt f n) ∙ sym (nested_word f) in
    let p = digit m.p n.p e in
    let r = digit m.r n.r p.0 in
    let s8 = digit m.s8 n.s8 r.0 in
    let b1 = digit m.b1 n.b1 s8.0 in
    let i1 = digit m.i1 n.i1 b1.0 in
    let b2 = digit m.b2 n.b2 i1.0 in
    let i2 = digit m.i2 n.i2 b2.0 in
    let b3 = digit m.b3 n.b3 i2.0 in
    let i3 = digit m.i3 n.i3 b3.0 in
    rw (p.1, r.1, s8.1, b1.1, i1.1, b2.1, i2.1, b3.1, i3.1, i3.0)

-- splitting ignores bits 48 and up
pub split_low : (w : ℕ) → fields_of (w % 2 ^ 48) ≡ fields_of w
split_low w = rw join-split at (split-join (fields_of w) (split-narrow w))

-- ---- without the gain: the low 47 bits
-- the fields with gain 0
abbrev pub no_gain : Fields → Fields
no_gain f = record { p = f.p; r = f.r; s8 = f.s8; b1 = f.b1; i1 = f.i1; b2 = f.b2; i2 = f.i2; b3 = f.b3; i3 = f.i3; gain = 0 }

pub no_gain_split : (w : ℕ) → word_of (no_gain (fields_of w)) ≡ w % 2 ^ 47
no_gain_split w = omega (arith, join-split w, low_step w 1 47)

pub no_gain-lt : (f : Fields) → Narrow f → f.gain ≡ 0 → word_of f < 2 ^ 47
no_gain-lt f n e = omega arith

-- the word of an answer, 0 where there is none
pub word_or_zero : (r : Result ℕ Refusal) → result_unwrap_or r 0 ≡ (joined_by r).word
word_or_zero (Ok w) = refl
word_or_zero (Err e) = refl

-- no second answer fits
join-tells : (f : Fields) → Tells (join_of f).number
unfolding join_of
join-tells f = tells-record (λ (r : Joined). r.number) (fits f) _ _ (tells 0 refl) (tells 6 refl)

pub one_answer : (f : Fields) (a b : Result ℕ Refusal) → joined_by a ≡ join_of f → joined_by b ≡ join_of f → a ≡ b
one_answer f =
    once joined_by (λ (r : Joined). r.number)
    (record { accepted = λ v. refl; refused = λ r. refl; same = λ v w e. ap (λ (r : Joined). r.word) e }) (join_of f) (join-tells f)
