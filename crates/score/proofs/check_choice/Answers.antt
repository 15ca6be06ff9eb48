-- `score::check_choice` meets its contract, by the three choices. Assumes nothing.
use mathlib.Core.Path.{◌≡◌}
use mathlib.Core.Bool.{Bool}
use mathlib.Core.List.{List}
use Prim.Native.Nat.{ℕ}
use lib.Ieee.{Float}
use Rattle.float.specs.Calls.{quotients_of}
use Rattle.score.specs.declared.Choice.{Choice}
use Rattle.score.specs.declared.Choice.TheVariants.{Scale, Divide}
use Rattle.score.specs.Choice.{is_pair, is_division, number_for, choice_number}
use Rattle.score.proofs.check_choice.Goals as goal

at_scale_lem : (x : List Float) (s : Float) (h : Choice) (a : Bool) (r : ℕ) → h ≡ Scale s → a ≡ is_pair s → r ≡ number_for a x x s → r ≡ choice_number h x
unfolding choice_number
at_scale_lem x s h a r e u v = rw (e, ← u) v

divided : (x : List Float) (m s : Float) (h : Choice) (a : Bool) (q : List Float) (r : ℕ) → h ≡ Divide m s → a ≡ is_division m s → q ≡ quotients_of x m
    → r ≡ number_for a x q s → r ≡ choice_number h x
unfolding choice_number
divided x m s h a q r e u p v = rw (e, ← u, ← p) v

pub returns-in-Zero : goal.returns-in-Zero
unfolding choice_number
returns-in-Zero c = rw c.in-Zero.is c.check_zeros.ensures

pub returns-in-Scale : goal.returns-in-Scale
returns-in-Scale c =
    let a = c.args in
    at_scale_lem a.samples _ a.choice _ _ c.in-Scale.is c.is_pair.ensures c.check_coded.ensures

pub returns-in-Divide : goal.returns-in-Divide
returns-in-Divide c =
    let a = c.args in
    divided a.samples _ _ a.choice _ _ _ c.in-Divide.is c.is_division.ensures c.quotients.ensures
    c.check_coded-in-Divide.ensures
