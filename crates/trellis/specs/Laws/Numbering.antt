-- A cut has one numbering only: two that are by the ascending order of the states' smallest codewords give every codeword the same number.
-- Assumes nothing.
use Rattle.std.specs.Prelude.{◌≡◌, ℕ, zero, suc, ◌<◌, ◌≤◌}
use Rattle.std.proofs.Common.{◌∙◌, sym, ap}
use Rattle.std.proofs.Math.Path.{subst}
use native.Mathlib.Omega.{arith}
use Rattle.trellis.specs.Code.{codeword_of, columns}
use Rattle.trellis.specs.Sharing.{Numbered}

-- numbers that ascend below n do not fall behind
climbs : (n : ℕ) (p : ℕ → ℕ) → ((s t : ℕ) → s < t → t < n → p s < p t) → (s : ℕ) → s < n → s ≤ p s
climbs n p up zero h = omega arith
climbs n p up (suc s) h = omega (arith, climbs n p up s (omega arith), up s (suc s) (omega arith) h)

module _ (cut : ℕ) (f g : ℕ → ℕ) (A : Numbered cut f) (B : Numbered cut g) where
  -- the number by g of the state numbered s by f
  turned : ℕ → ℕ
  turned s = g (A.least s)

  back : (s : ℕ) → s < 64 → f (B.least (turned s)) ≡ s
  unfolding turned
  back s h =
      (A.shared (B.least (turned s)) (A.least s)).1
      ((B.shared (B.least (turned s)) (A.least s)).0 (B.own (turned s) (B.state-lt (A.least s))))
      ∙ A.own s h

  same_least : (s : ℕ) → s < 64 → codeword_of columns (A.least s) ≡ codeword_of columns (B.least (turned s))
  unfolding turned
  same_least s h =
      omega (
        arith,
        B.smallest (A.least s),
        subst (λ (t : ℕ). codeword_of columns (A.least t) ≤ codeword_of columns (B.least (turned s))) (back s h) (A.smallest (B.least (turned s))),
      )

  turned_up : (s t : ℕ) → s < t → t < 64 → turned s < turned t
  unfolding turned
  turned_up s t h k = omega (arith, not_after, not_same)
    where
      ahead : codeword_of columns (B.least (turned s)) < codeword_of columns (B.least (turned t))
      ahead = omega (arith, A.ascending s t h k, same_least s (omega arith), same_least t k)

      not_after : turned t < turned s → ⊥
      not_after l = omega (arith, ahead, B.ascending (turned t) (turned s) l (B.state-lt (A.least s)))

      not_same : turned t ≡ turned s → ⊥
      not_same e = omega (arith, ahead, ap (λ (n : ℕ). codeword_of columns (B.least n)) e)

pub one_numbering : (cut : ℕ) (f g : ℕ → ℕ) → Numbered cut f → Numbered cut g → (x : ℕ) → f x ≡ g x
unfolding turned
one_numbering cut f g A B x =
    let s = f x in
    let h = A.state-lt x in
    let t = turned cut f g A B s in
    let up = climbs 64 (turned cut f g A B) (turned_up cut f g A B) s h in
    let down = climbs 64 (turned cut g f B A) (turned_up cut g f B A) t (B.state-lt (A.least s)) in
    let stays : t ≡ s = omega (arith, up, down, back cut f g A B s h) in
    sym stays ∙ (B.shared (A.least s) x).1 ((A.shared (A.least s) x).0 (A.own s h))
