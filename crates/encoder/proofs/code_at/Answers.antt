-- `encoder::code_at` meets its contract, by the three choices. Assumes nothing.
use mathlib.Core.Path.{◌≡◌}
use mathlib.Core.List.{List}
use Prim.Native.Nat.{ℕ}
use lib.Ieee.{Float, of_bits, div, neg}
use Rattle.laws.specs.Words.{tab}
use Rattle.float.specs.Calls.{quotients_of}
use Rattle.score.specs.declared.Choice.{Choice}
use Rattle.score.specs.declared.Choice.TheVariants.{Divide}
use Rattle.search.specs.Parity.{parities_of}
use Rattle.encoder.specs.Encode.{Coding, two_scales, scaled_back, code_at}
use Rattle.encoder.proofs.code_at.Goals as goal

divided : (ps : List ℕ) (x : List Float) (n : ℕ) (m s : Float) (h : Choice) (q : List Float) (b r : Coding) → h ≡ Divide m s → q ≡ quotients_of x m
    → b ≡ two_scales ps q s n → r ≡ scaled_back m b → r ≡ code_at ps h x n
unfolding code_at
divided ps x n m s h q b r e p u v = rw (e, ← p, ← u) v

pub returns-in-Zero : goal.returns-in-Zero
unfolding code_at of_bits div neg tab
returns-in-Zero c = rw c.in-Zero.is

pub returns-in-Scale : goal.returns-in-Scale
unfolding code_at
returns-in-Scale c = rw c.in-Scale.is c.two_scales.ensures

pub returns-in-Divide : goal.returns-in-Divide
unfolding code_at
returns-in-Divide c =
    let a = c.args in
    divided (parities_of a.odd) a.samples a.setting _ _ a.choice _ _ _ c.in-Divide.is c.quotients.ensures
    c.two_scales-in-Divide.ensures
    c.scaled_back.ensures
