-- `root::taken_apart` meets its contract: the fields of the bits, with a field of 0 apart. Assumes nothing.
use mathlib.Core.Path.{sym, subst}
use native.Mathlib.Omega.{arith}
use lib.Dec.{T}
use Rattle.float.specs.Laws.Exact.{no_nan}
use Rattle.root.proofs.Bits.{apart_low, apart_high}
use Rattle.root.proofs.taken_apart.Goals as goal

pub float_to_bits-b : goal.float_to_bits-b
float_to_bits-b c = no_nan c.args.x c.requires.fin

pub returns-then-e-eq0 : goal.returns-then-e-eq0
returns-then-e-eq0 c = apart_low c.args.x (subst T (sym c.well_formed.0.1) tt) c.requires (omega arith)

pub returns-else-e-eq0 : goal.returns-else-e-eq0
returns-else-e-eq0 c = apart_high c.args.x (subst T (sym c.well_formed.0.1) tt) c.requires (omega (arith, c.if-e-eq0.false))
