-- Which refusals are about a block: reason by reason. Assumes nothing.
use mathlib.Core.Path.{◌≡◌, refl}
use mathlib.Core.Bool.{true, false}
use mathlib.Core.Logic.{◌⊎◌, inl, inr}
use Rattle.refusal.specs.declared.Refusal.{Refusal}
use Rattle.refusal.specs.declared.Refusal.TheVariants.{NotFinite, TooLarge, NoScale, TooFar, MixedParity, TooWide, OutOfRange, NoRoom, NoPage, NoCodeword, Outside, WrongSum, AllOdd, Disagrees}
use Rattle.refusal.specs.Refusal.{number_of}
use Rattle.made.specs.Made.{names_block}

pub named : (r : Refusal) → (r ≡ TooLarge) ⊎ (r ≡ TooFar) → true ≡ names_block (number_of r)
unfolding names_block
named r (inl e) = rw e refl
named r (inr e) = rw e refl

pub other : (r : Refusal) → (r ≡ TooLarge → ⊥) → (r ≡ TooFar → ⊥) → false ≡ names_block (number_of r)
unfolding names_block
other NotFinite h k = refl
other TooLarge h k = absurd (h refl)
other NoScale h k = refl
other TooFar h k = absurd (k refl)
other MixedParity h k = refl
other TooWide h k = refl
other OutOfRange h k = refl
other NoRoom h k = refl
other NoPage h k = refl
other NoCodeword h k = refl
other (Outside section) h k = refl
other WrongSum h k = refl
other AllOdd h k = refl
other Disagrees h k = refl
