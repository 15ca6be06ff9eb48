-- The bytes of a state are those of its codewords, and no others: two prefixes, sixteen branches, two suffixes. Assumes nothing.
use Rattle.std.specs.Prelude.{◌≡◌, ◌↔◌, ℕ, ◌<◌}
use Rattle.std.proofs.Common.{◌∙◌, sym, ap, ap₂, arith}
use Rattle.trellis.specs.Code.{codeword_of, columns, label, first, second, third}
use Rattle.trellis.specs.Trellis.{prefix_of, middle_of, next_of, suffix_of, s8_of, b1_of, b2_of, b3_of, s16_of}
use Rattle.trellis.proofs.Path.{first-at, second_at, third_at}
use Rattle.trellis.specs.Laws.Back.{label-parts}
use Rattle.trellis.proofs.States.{states_16}

pub prefixes_of : (s8 : ℕ) → s8 < 64 → (c1 : ℕ)
    → ((x : ℕ) × (s8_of x ≡ s8) × (first (codeword_of columns x) ≡ c1)) ↔ ((b1 : ℕ) × (b1 < 2) × (prefix_of s8 b1 ≡ c1))
prefixes_of s h c = (to, from)
  where
    to : ((x : ℕ) × (s8_of x ≡ s) × (first (codeword_of columns x) ≡ c)) → (b : ℕ) × (b < 2) × (prefix_of s b ≡ c)
    to q = (b1_of q.0, omega arith, ap (λ (t : ℕ). prefix_of t (b1_of q.0)) (sym q.1) ∙ sym (first-at q.0) ∙ q.2)

    from : ((b : ℕ) × (b < 2) × (prefix_of s b ≡ c)) → (x : ℕ) × (s8_of x ≡ s) × (first (codeword_of columns x) ≡ c)
    from q =
        let x = label s q.0 0 0 in
        let p = label-parts s q.0 0 0 h q.1 (omega arith) (omega arith) in
        (x, p.0, first-at x ∙ ap₂ prefix_of p.0 p.1 ∙ q.2)

pub branches_of : (s8 : ℕ) → s8 < 64 → (c2 s16 : ℕ)
    → ((x : ℕ) × (s8_of x ≡ s8) × (second (codeword_of columns x) ≡ c2) × (s16_of x ≡ s16))
    ↔ ((b2 : ℕ) × (b2 < 16) × (middle_of s8 b2 ≡ c2) × (next_of s8 b2 ≡ s16))
branches_of s h c t = (to, from)
  where
    to : ((x : ℕ) × (s8_of x ≡ s) × (second (codeword_of columns x) ≡ c) × (s16_of x ≡ t))
        → (b : ℕ) × (b < 16) × (middle_of s b ≡ c) × (next_of s b ≡ t)
    to q =
        let b = b2_of q.0 in (
          b,
          omega arith,
          ap (λ (u : ℕ). middle_of u b) (sym q.1) ∙ sym (second_at q.0) ∙ q.2,
          ap (λ (u : ℕ). next_of u b) (sym q.1) ∙ q.3,
        )

    from : ((b : ℕ) × (b < 16) × (middle_of s b ≡ c) × (next_of s b ≡ t))
        → (x : ℕ) × (s8_of x ≡ s) × (second (codeword_of columns x) ≡ c) × (s16_of x ≡ t)
    from q =
        let x = label s 0 q.0 0 in
        let p = label-parts s 0 q.0 0 h (omega arith) q.1 (omega arith) in
        (x, p.0, second_at x ∙ ap₂ middle_of p.0 p.2 ∙ q.2, ap₂ next_of p.0 p.2 ∙ q.3)

pub suffixes_of : (s16 : ℕ) → s16 < 64 → (c3 : ℕ)
    → ((x : ℕ) × (s16_of x ≡ s16) × (third (codeword_of columns x) ≡ c3)) ↔ ((b3 : ℕ) × (b3 < 2) × (suffix_of s16 b3 ≡ c3))
suffixes_of t h c = (to, from)
  where
    to : ((x : ℕ) × (s16_of x ≡ t) × (third (codeword_of columns x) ≡ c)) → (b : ℕ) × (b < 2) × (suffix_of t b ≡ c)
    to q = (b3_of q.0, omega arith, ap (λ (u : ℕ). suffix_of u (b3_of q.0)) (sym q.1) ∙ sym (third_at q.0) ∙ q.2)

    -- the state's smallest codeword, its last bit set as wanted
    from : ((b : ℕ) × (b < 2) × (suffix_of t b ≡ c)) → (x : ℕ) × (s16_of x ≡ t) × (third (codeword_of columns x) ≡ c)
    from q =
        let l = states_16.least t in
        let x = label (s8_of l) 0 (b2_of l) q.0 in
        let p = label-parts (s8_of l) 0 (b2_of l) q.0 (omega arith) (omega arith) (omega arith) q.1 in
        let e = ap₂ next_of p.0 p.2 ∙ states_16.own t h in
        (x, e, third_at x ∙ ap₂ suffix_of e p.3 ∙ q.2)
