-- `writer::scale_of` meets its contract. Assumes nothing.
use mathlib.Core.Path.{refl}
use lib.Ieee.{of_bits}
use Rattle.writer.specs.Writer.{scale_of}
use Rattle.writer.proofs.scale_of.Goals as goal

pub returns : goal.returns
unfolding scale_of of_bits
returns c = refl
