-- No two reasons are told alike: the number, and the section that a reason is about, decide it. Assumes nothing.
use Rattle.std.specs.Prelude.{◌≡◌, refl, false, ℕ, cond, eqb}
use Rattle.std.proofs.Common.{sym, ◌∙◌, ap₂, arith, ne_eqb}
use Rattle.refusal.specs.declared.Refusal.{Refusal}
use Rattle.refusal.specs.declared.Refusal.TheVariants.{NotFinite, TooLarge, NoScale, TooFar, MixedParity, TooWide, OutOfRange, NoRoom, NoPage, NoCodeword, Outside, WrongSum, AllOdd, Disagrees}
use Rattle.refusal.specs.Refusal.{number_of, section_of}

-- the reason of a number and a section
reason_of : ℕ → ℕ → Refusal
reason_of n section =
    cond (eqb n 1) NotFinite
    (cond (eqb n 2) TooLarge
    (cond (eqb n 3) NoScale
    (cond (eqb n 4) TooFar
    (cond (eqb n 5) MixedParity
    (cond (eqb n 6) TooWide
    (cond (eqb n 7) OutOfRange
    (cond (eqb n 8) NoRoom
    (cond (eqb n 9) NoPage
    (cond (eqb n 10) NoCodeword
    (cond (eqb n 11) (Outside section)
    (cond (eqb n 12) WrongSum
    (cond (eqb n 13) AllOdd Disagrees))))))))))))

back : (r : Refusal) → reason_of (number_of r) (section_of r) ≡ r
unfolding reason_of
back NotFinite = refl
back TooLarge = refl
back NoScale = refl
back TooFar = refl
back MixedParity = refl
back TooWide = refl
back OutOfRange = refl
back NoRoom = refl
back NoPage = refl
back NoCodeword = refl
back (Outside section) = refl
back WrongSum = refl
back AllOdd = refl
back Disagrees = refl

-- no reason carries the number of a call that is accepted
pub never_0 : (r : Refusal) → number_of r ≡ 0 → ⊥
never_0 NotFinite e = omega arith
never_0 TooLarge e = omega arith
never_0 NoScale e = omega arith
never_0 TooFar e = omega arith
never_0 MixedParity e = omega arith
never_0 TooWide e = omega arith
never_0 OutOfRange e = omega arith
never_0 NoRoom e = omega arith
never_0 NoPage e = omega arith
never_0 NoCodeword e = omega arith
never_0 (Outside section) e = omega arith
never_0 WrongSum e = omega arith
never_0 AllOdd e = omega arith
never_0 Disagrees e = omega arith

pub told_apart : (r s : Refusal) → number_of r ≡ number_of s → section_of r ≡ section_of s → r ≡ s
told_apart r s n i = sym (back r) ∙ ap₂ reason_of n i ∙ back s

-- a number other than 11 is about no section, and so tells its reason alone
no_section : (r : Refusal) → (number_of r ≡ 11 → ⊥) → section_of r ≡ 0
no_section NotFinite h = refl
no_section TooLarge h = refl
no_section NoScale h = refl
no_section TooFar h = refl
no_section MixedParity h = refl
no_section TooWide h = refl
no_section OutOfRange h = refl
no_section NoRoom h = refl
no_section NoPage h = refl
no_section NoCodeword h = refl
no_section (Outside section) h = absurd (h refl)
no_section WrongSum h = refl
no_section AllOdd h = refl
no_section Disagrees h = refl

pub told_by_number : (r s : Refusal) → number_of r ≡ number_of s → (number_of s ≡ 11 → ⊥) → r ≡ s
told_by_number r s n h = told_apart r s n (no_section r (λ e. h (sym n ∙ e)) ∙ sym (no_section s h))

-- no reason has the number of an answer that is accepted
pub told_at_all : (r : Refusal) → number_of r ≡ 0 → ⊥
told_at_all NotFinite e = absurd (omega (arith, e))
told_at_all TooLarge e = absurd (omega (arith, e))
told_at_all NoScale e = absurd (omega (arith, e))
told_at_all TooFar e = absurd (omega (arith, e))
told_at_all MixedParity e = absurd (omega (arith, e))
told_at_all TooWide e = absurd (omega (arith, e))
told_at_all OutOfRange e = absurd (omega (arith, e))
told_at_all NoRoom e = absurd (omega (arith, e))
told_at_all NoPage e = absurd (omega (arith, e))
told_at_all NoCodeword e = absurd (omega (arith, e))
told_at_all (Outside section) e = absurd (omega (arith, e))
told_at_all WrongSum e = absurd (omega (arith, e))
told_at_all AllOdd e = absurd (omega (arith, e))
told_at_all Disagrees e = absurd (omega (arith, e))

pub never_zero : (r : Refusal) → eqb (number_of r) 0 ≡ false
never_zero r = ne_eqb (number_of r) 0 (told_at_all r)
