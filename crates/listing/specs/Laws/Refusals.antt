-- The refusal of `list` by document 01's number, which is 8: a buffer of fewer cells than the listing has stays as
-- it was. With as many or more the answer is the listing's own count. Assumes nothing.
use Rattle.std.specs.Prelude.{◌≡◌, Bool, true, false, cond, ltb, Result, Ok, Err, List, ◌++◌, ℕ, ◌<◌, ◌≤◌, length, drop}
use Rattle.std.proofs.Common.{ap, sym, ◌∙◌, arith, lt-ltb, le-ltb}
use Rattle.listing.specs.Listing.{listing}
use Rattle.refusal.specs.declared.Refusal.{Refusal}
use Rattle.refusal.specs.Refusal.{number_of}
use Rattle.refusal.proofs.Apart.{told_by_number, told_at_all}
use Rattle.listing.specs.Lent.{cells, Listed, listed_by, answered, written}
use Rattle.listing.specs.Laws.Listed.{count}

pub too_short : (buf : List ℕ) → length buf < length listing
    → (answered (length buf) ≡ record { number = 8; count = 0 }) × (written buf ≡ buf)
too_short buf h =
    let e = lt-ltb (length buf) cells (omega (arith, count)) in
    (rw e, rw e)

pub enough : (buf : List ℕ) → length listing ≤ length buf
    → (answered (length buf) ≡ record { number = 0; count = length listing })
    × (written buf ≡ listing ++ drop (length listing) buf)
enough buf h =
    let e = le-ltb (length buf) cells (omega (arith, count)) in
    (rw (e, count), rw (e, count))

-- no second answer fits
pub one_answer : (n : ℕ) (a b : Result ℕ Refusal) → listed_by a ≡ answered n → listed_by b ≡ answered n → a ≡ b
one_answer n (Ok a) (Ok b) p q = let ok : ℕ → Result ℕ Refusal = λ c. Ok c in ap (λ (r : Listed). ok r.count) (p ∙ sym q)
one_answer n (Ok a) (Err s) p q = absurd (told_at_all s (sym (ap (λ (r : Listed). r.number) (p ∙ sym q))))
one_answer n (Err r) (Ok b) p q = absurd (told_at_all r (ap (λ (z : Listed). z.number) (p ∙ sym q)))
one_answer n (Err r) (Err s) p q =
    let err : Refusal → Result ℕ Refusal = λ z. Err z in
    ap err (told_by_number r s (ap (λ (z : Listed). z.number) (p ∙ sym q)) (not_eleven (ltb n cells) (ap (λ (z : Listed). z.number) q)))
  where
    either : Bool → Listed
    either b = cond b (record { number = 8; count = 0 }) (record { number = 0; count = cells })

    not_eleven : (b : Bool) → number_of s ≡ (either b).number → number_of s ≡ 11 → ⊥
    not_eleven true h e = omega (arith, h, e)
    not_eleven false h e = omega (arith, h, e)
