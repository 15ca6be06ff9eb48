-- The byte is read from the pairs of prefixes; past the table it is 0.
use Rattle.laws.specs.Words.{tab}
use Rattle.std.proofs.Common.{◌∙◌}
use Rattle.trellis.specs.Tables.{prefixes}
use Rattle.trellis.specs.Trellis.{pairs_of, prefix_of}
use Rattle.trellis.specs.Laws.Path.{prefixes-length}
use Rattle.trellis.specs.Laws.Rows.{pair_read}
use Rattle.trellis.proofs.prefix.Goals as goal

pub returns : goal.returns
unfolding pairs_of tab prefix_of prefixes
returns c = c.byte_of.ensures ∙ pair_read prefixes c.args.s8 c.args.b1 prefixes-length
