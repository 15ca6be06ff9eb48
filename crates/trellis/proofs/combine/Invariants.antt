use Rattle.std.proofs.Common.{◌≡◌, drop}
use Rattle.std.specs.Int.Bits.{bit_xor}
use Rattle.trellis.specs.Code.{codeword_of}
use Rattle.trellis.proofs.combine.Given as goal

abbrev pub invariant-loop-column : goal.invariant-loop-column
invariant-loop-column l = bit_xor l.word (codeword_of (drop l.column-index l.columns) l.rest) ≡ codeword_of l.columns l.fn.x
