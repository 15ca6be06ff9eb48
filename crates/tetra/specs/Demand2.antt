-- DEMAND 2: words and points, both ways. `point_of w` is what `decode` answers for the word w, `encode_of y` what `encode` answers for the
-- point y; w is any number, so every 64-bit word. A refused point is told why (Why, `Refused`). Assumes nothing.
use Rattle.std.specs.Prelude.{◌≡◌, refl, cond, ◌⊎◌, ◌↔◌, List, ℕ, ◌+◌, ◌*◌, ◌/◌, ◌%◌, ◌^◌, ◌<◌, ◌≤◌, eqb, ℤ, pos, nat_abs, length, get_or}
use Rattle.std.proofs.Common.{ap, ap₂, sym, subst, ◌∙◌, inl, inr, mod-eq_of_lt, div-one, arith, shr-shr}
use Rattle.refusal.specs.Refusal.{outside}
use Rattle.word.specs.Word.{field_at, fields_of, word_of}
use Rattle.word.specs.Laws.{split-narrow, split-join, no_gain_split, no_gain-lt}
use Rattle.word.specs.declared.Fields.{Fields}
use Rattle.rank.specs.Coord.{parity_of}
use Rattle.rank.specs.Section.{bits_of}
use Rattle.trellis.specs.Trio.{places}
use Rattle.trellis.specs.Laws.Trio.{trio-fits}
use Rattle.tetra.specs.Lattice.{trio, HasWord}
use Rattle.tetra.specs.Tetra.{codeword_at, trio_point, natural, trio_point_of, point_of, patterns_of}
use Rattle.tetra.specs.Encode.{accepted_with, fields_for, encode_of}
use Rattle.tetra.specs.Why.{Why, has_word, mixed_parity_lem, no_codeword_lem, outside-bound, wrong_sum_lem, Refused}
use Rattle.tetra.specs.Laws.Orders.{natural-length, natural-at, natural-trio}
use Rattle.tetra.specs.Laws.Point.{bits_are, point-small}
use Rattle.tetra.specs.Laws.Word.{trio_of_lem, word_parity, decoded, fields-narrow, fields-point, fields_back}
use Rattle.tetra.specs.Laws.Reason.{answered, told}
use Rattle.tetra.specs.Encode.{Encoded}

-- ---- every word decodes to 24 coordinates, of magnitude 10 at most, that are a lattice point and have a word
pub point-length : (w : ℕ) → length (point_of w) ≡ 24
unfolding point_of
point-length w = natural-length (trio_point_of w)

pub coordinate-small : (w i : ℕ) → i < 24 → nat_abs (get_or (point_of w) i (pos 0)) ≤ 10
unfolding point_of trio_point_of
coordinate-small w i h =
    subst (λ (z : ℤ). nat_abs z ≤ 10) (sym (natural-at (trio_point (fields_of w)) i h))
    (point-small (fields_of w) (split-narrow w) (get_or places i 0) (trio-fits i h).place-lt)

pub decodes : (w : ℕ) → HasWord (point_of w)
decodes = decoded

-- whose coordinates have the parity p, bit 0 of the word
pub parity_is : (w i : ℕ) → i < 24 → parity_of (get_or (point_of w) i (pos 0)) ≡ w % 2
unfolding field_at
parity_is w i h = word_parity w i h ∙ ap (λ (n : ℕ). n % 2) (div-one w)

-- and whose bits are the bytes that `patterns` answers
pub patterns_are : (w : ℕ) → (patterns_of w).c1 + 256 * (patterns_of w).c2 + 65536 * (patterns_of w).c3 ≡ bits_of (trio (point_of w))
unfolding patterns_of
patterns_are w =
    let c = codeword_at (fields_of w) in
    let e : c % 256 + 256 * (c / 256 % 256) + 65536 * (c / 65536) ≡ c = omega (arith, shr-shr c 8 8) in
    e ∙ sym (ap bits_of (trio_of_lem w) ∙ bits_are (fields_of w) (split-narrow w))

-- ---- encoding a word's point gives the word back, without its gain
pub round_trip : (w : ℕ) → encode_of (point_of w) ≡ accepted_with (w % 2 ^ 47)
round_trip w =
    answered (point_of w) (point-length w) (has_word (decodes w)) ∙ ap (λ (f : Fields). accepted_with (word_of f)) (fields_back w)
    ∙ ap accepted_with (no_gain_split w)

-- ---- a point that has a word is accepted, with a word below 2 ^ 47 that decodes to it
pub record Accepted (y : List ℤ) (r : Encoded) : Type 0 where
  pub number : r.number ≡ 0
  pub section : r.section ≡ 0
  pub small : r.word < 2 ^ 47
  pub back : point_of r.word ≡ y

no_gain_lem : (y : List ℤ) → (fields_for y).gain ≡ 0
unfolding fields_for
no_gain_lem y = refl

pub accepts : (y : List ℤ) → HasWord y → Accepted y (encode_of y)
unfolding point_of trio_point_of
accepts y h =
    subst (Accepted y) (sym (answered y h.point.size (has_word h)))
    (record {
      number = refl;
      section = refl;
      small = no_gain-lt (fields_for y) (fields-narrow y h) (no_gain_lem y);
      back =
          ap (λ (f : Fields). natural (trio_point f)) (split-join (fields_for y) (fields-narrow y h)) ∙ ap natural (fields-point y h)
          ∙ natural-trio y h.point.size;
    })

-- so a word's gain and its bits 48 and up say nothing of the point
pub gain_ignored : (w : ℕ) → point_of (w % 2 ^ 47) ≡ point_of w
gain_ignored w = ap (λ (r : Encoded). point_of r.word) (sym (round_trip w)) ∙ (accepts (point_of w) (decodes w)).back

-- ---- every point is told its reason: the number and the section that are answered fit, and no others do
pub why : (y : List ℤ) → length y ≡ 24 → Why y (encode_of y).number (encode_of y).section
why y e =
    let t = told y e in
    subst (λ (r : Encoded). Why y r.number r.section) (sym (answered y e t.why)) t.why

pub one_reason : (y : List ℤ) → length y ≡ 24 → {n s m t : ℕ} → Why y n s → Why y m t → (n ≡ m) × (s ≡ t)
one_reason y e v w =
    let q = sym (answered y e v) ∙ answered y e w in
    (ap (λ (r : Encoded). r.number) q, ap (λ (r : Encoded). r.section) q)

-- a section is told beside 11 alone, and it is 1, 2 or 3
pub section-told : (y : List ℤ) → length y ≡ 24
    → (((encode_of y).number ≡ outside) ↔ (1 ≤ (encode_of y).section)) × ((encode_of y).section ≤ 3)
section-told y e = go (why y e)
  where
    go : {n s : ℕ} → Why y n s → ((n ≡ outside) ↔ (1 ≤ s)) × (s ≤ 3)
    go (has_word h) = ((λ q. omega arith, λ l. omega arith), omega arith)
    go (mixed_parity_lem f) = ((λ q. omega arith, λ l. omega arith), omega arith)
    go (no_codeword_lem p o f) = ((λ q. omega arith, λ l. omega arith), omega arith)
    go (outside-bound p s o c h f k) = ((λ q. omega arith, λ l. refl), omega arith)
    go (wrong_sum_lem p o c f k) = ((λ q. omega arith, λ l. omega arith), omega arith)

-- ---- a point that has no word is refused, by one of the four numbers, and with word 0
pub record Turned (y : List ℤ) (r : Encoded) : Type 0 where
  pub why : Why y r.number r.section
  pub refused : Refused r.number
  pub word : r.word ≡ 0

-- it has a word or it has none
split : (y : List ℤ) → length y ≡ 24 → HasWord y ⊎ Turned y (encode_of y)
split y e = let t = told y e in subst (λ (r : Encoded). HasWord y ⊎ Turned y r) (sym (answered y e t.why)) (go t.why)
  where
    go : {n s : ℕ} → Why y n s → HasWord y ⊎ Turned y (record { number = n; section = s; word = cond (eqb n 0) (word_of (fields_for y)) 0 })
    go (has_word h) = inl h
    go (mixed_parity_lem f) = inr (record { why = mixed_parity_lem f; refused = inl refl; word = refl })
    go (no_codeword_lem p o f) = inr (record { why = no_codeword_lem p o f; refused = inr (inl refl); word = refl })
    go (outside-bound p s o c h f k) =
        inr (record { why = outside-bound p s o c h f k; refused = inr (inr (inl refl)); word = refl })
    go (wrong_sum_lem p o c f k) = inr (record { why = wrong_sum_lem p o c f k; refused = inr (inr (inr refl)); word = refl })

pub refuses : (y : List ℤ) → length y ≡ 24 → (HasWord y → ⊥) → Turned y (encode_of y)
refuses y e n = go (split y e)
  where
    go : HasWord y ⊎ Turned y (encode_of y) → Turned y (encode_of y)
    go (inl h) = absurd (n h)
    go (inr t) = t

not_zero : {n : ℕ} → Refused n → n ≡ 0 → ⊥
not_zero (inl a) z = omega arith
not_zero (inr (inl a)) z = omega arith
not_zero (inr (inr (inl a))) z = omega arith
not_zero (inr (inr (inr a))) z = omega arith

-- ---- so a point is refused exactly where it has no word, and that is where no word decodes to it
pub refused_iff : (y : List ℤ) → length y ≡ 24 → Refused (encode_of y).number ↔ (HasWord y → ⊥)
refused_iff y e = (λ q h. not_zero q (accepts y h).number, λ n. (refuses y e n).refused)

pub has_word_iff : (y : List ℤ) → HasWord y ↔ ((w : ℕ) × (point_of w ≡ y))
has_word_iff y = (λ h. ((encode_of y).word, (accepts y h).back), λ q. subst HasWord q.1 (decodes q.0))

pub refused_iff_no_word : (y : List ℤ) → length y ≡ 24 → Refused (encode_of y).number ↔ ((w : ℕ) → point_of w ≡ y → ⊥)
refused_iff_no_word y e = (
  λ q w d. (refused_iff y e).0 q ((has_word_iff y).1 (w, d)),
  λ n. (refused_iff y e).1 (λ h. let q = (has_word_iff y).0 h in n q.0 q.1),
)

-- what is accepted decodes back to itself
pub accepted-back : (y : List ℤ) → length y ≡ 24 → (encode_of y).number ≡ 0 → point_of (encode_of y).word ≡ y
accepted-back y e q = go (split y e)
  where
    go : HasWord y ⊎ Turned y (encode_of y) → point_of (encode_of y).word ≡ y
    go (inl h) = (accepts y h).back
    go (inr t) = absurd (not_zero t.refused q)

-- every word that is answered has 47 bits, that of a refusal too
pub word_small : (y : List ℤ) → length y ≡ 24 → (encode_of y).word < 2 ^ 47
word_small y e = go (split y e)
  where
    go : HasWord y ⊎ Turned y (encode_of y) → (encode_of y).word < 2 ^ 47
    go (inl h) = (accepts y h).small
    go (inr t) = omega (arith, t.word)

-- ---- words below 2 ^ 47 and points that have a word are in bijection
pub injective : (v w : ℕ) → v < 2 ^ 47 → w < 2 ^ 47 → point_of v ≡ point_of w → v ≡ w
injective v w hv hw e =
    sym (mod-eq_of_lt hv) ∙ ap (λ (r : Encoded). r.word) (sym (round_trip v) ∙ ap encode_of e ∙ round_trip w) ∙ mod-eq_of_lt hw

pub onto : (y : List ℤ) → HasWord y → (w : ℕ) × (w < 2 ^ 47) × (point_of w ≡ y)
onto y h = let a = accepts y h in ((encode_of y).word, a.small, a.back)

-- ---- no second answer fits: whoever accepts the points that have a word, and tells of all others a true reason and word 0, answers as
-- `encode` does
pub only_answer : (y : List ℤ) → length y ≡ 24 → (r : Encoded) → (HasWord y → Accepted y r)
    → ((HasWord y → ⊥) → Why y r.number r.section × (r.word ≡ 0)) → r ≡ encode_of y
only_answer y e r keeps turns = go (split y e)
  where
    same : (a b : Encoded) → a.number ≡ b.number → a.section ≡ b.section → a.word ≡ b.word → a ≡ b
    same a b en es ew =
        ap (λ (n : ℕ). record { number = n; section = a.section; word = a.word }) en
        ∙ ap₂ {C = Encoded} (λ s w. record { number = b.number; section = s; word = w }) es ew

    go : HasWord y ⊎ Turned y (encode_of y) → r ≡ encode_of y
    go (inl h) =
        let a = keeps h in
        let b = accepts y h in
        same r (encode_of y) (a.number ∙ sym b.number) (a.section ∙ sym b.section)
        (injective r.word (encode_of y).word a.small b.small (a.back ∙ sym b.back))
    go (inr t) =
        let q = turns (λ h. not_zero t.refused (accepts y h).number) in
        let p = one_reason y e q.0 t.why in
        same r (encode_of y) p.0 p.1 (q.1 ∙ sym t.word)
