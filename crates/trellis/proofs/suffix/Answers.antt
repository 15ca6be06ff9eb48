-- The byte is read from the pairs of suffixes; past the table it is 0.
use Rattle.laws.specs.Words.{tab}
use Rattle.std.proofs.Common.{◌∙◌}
use Rattle.trellis.specs.Tables.{suffixes}
use Rattle.trellis.specs.Trellis.{pairs_of, suffix_of}
use Rattle.trellis.specs.Laws.Path.{suffixes-length}
use Rattle.trellis.specs.Laws.Rows.{pair_read}
use Rattle.trellis.proofs.suffix.Goals as goal

pub returns : goal.returns
unfolding pairs_of tab suffix_of suffixes
returns c = c.byte_of.ensures ∙ pair_read suffixes c.args.s16 c.args.b3 suffixes-length
