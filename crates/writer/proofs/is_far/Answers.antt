-- `writer::is_far` meets its contract: 4 is told of one reason alone. Assumes nothing.
use Rattle.std.specs.Prelude.{◌≡◌, refl, eqb, Result, Ok, Err}
use Rattle.std.specs.Result.{result_eq}
use Rattle.std.specs.contracts.prelude.UnitPartialEq.TheImpl as unit
use Rattle.std.proofs.Common.{◌∙◌}
use Rattle.refusal.specs.declared.Refusal.{Refusal}
use Rattle.refusal.specs.declared.Refusal.TheVariants.{NotFinite, TooLarge, NoScale, TooFar, MixedParity, TooWide, OutOfRange, NoRoom, NoPage, NoCodeword, Outside, WrongSum, AllOdd, Disagrees}
use Rattle.refusal.specs.contracts.RefusalPartialEq.TheImpl as reason
use Rattle.refusal.specs.Refusal.{too_far, number_in}
use Rattle.writer.specs.Writer.{is_far}
use Rattle.writer.proofs.is_far.Goals as goal

told : (r : Result (Unit {0}) Refusal) → result_eq (unit.eq-value).it (reason.eq-value).it r (Err TooFar) ≡ eqb (number_in r) too_far
told (Ok x) = refl
told (Err NotFinite) = refl
told (Err TooLarge) = refl
told (Err NoScale) = refl
told (Err TooFar) = refl
told (Err MixedParity) = refl
told (Err TooWide) = refl
told (Err OutOfRange) = refl
told (Err NoRoom) = refl
told (Err NoPage) = refl
told (Err NoCodeword) = refl
told (Err (Outside section)) = refl
told (Err WrongSum) = refl
told (Err AllOdd) = refl
told (Err Disagrees) = refl

pub returns : goal.returns
unfolding is_far
returns c = c.eq.ensures ∙ told c.check_scale.result ∙ rw (c.check_scale.ensures, c.doubles.ensures)
