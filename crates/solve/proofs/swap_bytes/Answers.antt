-- `solve::swap_bytes` meets its contract, by the law of the bytes. Assumes nothing.
use Rattle.solve.proofs.Nibbles.{bytes}
use native.Mathlib.Omega.{arith}
use Rattle.solve.proofs.swap_bytes.Goals as goal

pub returns : goal.returns
returns c = bytes c.args.x (omega arith)
