-- `encoder::value` meets its contract. Assumes nothing.
use mathlib.Core.Path.{ap, ap₂, subst, ◌≡◌, sym, ◌∙◌}
use mathlib.Core.Bool.{false, ◌&&◌, and-eq-true_iff}
use Prim.Native.Nat.{ℕ}
use native.Mathlib.Omega.{arith}
use borrow.Author.Tests.{eqb-true, eq-eqb}
use borrow.Author.Rules.{rules}
use mir.Syntax.{w32}
use mir.Val.{SFits}
use mir.Facts.{to_z-of_z}
use lib.Dec.{T, eqb}
use lib.IntN.{ℤ}
use Rattle.std.specs.Prelude.{Result, Ok, Err}
use Rattle.refusal.specs.declared.Refusal.{Refusal}
use Rattle.refusal.specs.declared.Refusal.TheVariants.{NotFinite, TooLarge, NoScale, TooFar, MixedParity, TooWide, OutOfRange, NoRoom, NoPage, NoCodeword, Outside, WrongSum, AllOdd, Disagrees}
use Rattle.refusal.specs.Refusal.{number_of}
use Rattle.rank.specs.Coord.{val_of}
use Rattle.rank.specs.Answers.{Valued, valued_by}
use Rattle.encoder.proofs.Values.{ninth, looked_up, refused}
use Rattle.encoder.proofs.value.Goals as goal

not_both : (o rho : ℕ) → (eqb o 0 && eqb rho 8) ≡ false → o ≡ 0 → rho ≡ 8 → ⊥
not_both o rho e i j = subst T (sym (ap₂ ◌&&◌ (eq-eqb o 0 i) (eq-eqb rho 8 j)) ∙ e) tt

-- no reason for a refusal has the number of an accepted call
numbered : (r : Refusal) → number_of r ≡ 0 → ⊥
numbered NotFinite e = omega arith
numbered TooLarge e = omega arith
numbered NoScale e = omega arith
numbered TooFar e = omega arith
numbered MixedParity e = omega arith
numbered TooWide e = omega arith
numbered OutOfRange e = omega arith
numbered NoRoom e = omega arith
numbered NoPage e = omega arith
numbered NoCodeword e = omega arith
numbered (Outside s) e = omega arith
numbered WrongSum e = omega arith
numbered AllOdd e = omega arith
numbered Disagrees e = omega arith

pub returns-in-Ok : goal.returns-in-Ok
returns-in-Ok c =
    let a = c.args in
    let f : SFits w32 c.in-Ok.y = search rules in
    let told = ap valued_by (sym c.in-Ok.is) ∙ c.val.ensures in
    to_z-of_z f ∙ ap (λ (r : Valued). r.value) told ∙ looked_up a.o a.rho (ap (λ (r : Valued). r.number) (sym told))

pub returns-then-o-rho : goal.returns-then-o-rho
returns-then-o-rho c =
    let a = c.args in
    let p = (and-eq-true_iff _ _).0 c.if-o-rho.true in
    sym (ap₂ val_of (eqb-true a.o 0 p.0) (eqb-true a.rho 8 p.1) ∙ ninth)

pub returns-else-o-rho : goal.returns-else-o-rho
returns-else-o-rho c =
    let a = c.args in
    let told = ap valued_by (sym c.in-Err.is) ∙ c.val.ensures in
    sym
    (refused a.o a.rho (λ q. numbered c.in-Err.field-0 (ap (λ (r : Valued). r.number) told ∙ q))
    (λ i j. not_both a.o a.rho c.if-o-rho.false i j))
