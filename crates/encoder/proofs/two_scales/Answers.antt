-- `encoder::two_scales` meets its contract: the higher of two codes. Assumes nothing.
use mathlib.Core.Path.{◌≡◌}
use mathlib.Core.List.{List}
use Prim.Native.Nat.{ℕ}
use lib.Ieee.{Float}
use Rattle.score.specs.Scale.{second_scale}
use Rattle.search.specs.Parity.{parities_of}
use Rattle.encoder.specs.Encode.{Coding, code_for, higher, two_scales}
use Rattle.encoder.proofs.two_scales.Goals as goal

both : (ps : List ℕ) (x : List Float) (s : Float) (n : ℕ) {a b r : Coding} {s2 : Float} → a ≡ code_for ps x s n → s2 ≡ second_scale s
    → b ≡ code_for ps x s2 n → r ≡ higher a b → r ≡ two_scales ps x s n
unfolding two_scales
both ps x s n p q u v = rw (← p, ← q, ← u) v

pub returns : goal.returns
returns c =
    let a = c.args in
    both (parities_of a.odd) a.samples a.scale a.setting c.code_for-a.ensures c.second_scale.ensures
    c.code_for-b.ensures
    c.higher.ensures
