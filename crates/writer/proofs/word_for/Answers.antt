-- `writer::word_for` meets its contract. Assumes nothing.
use Rattle.std.proofs.Common.{◌≡◌, ◌∙◌, rules}
use Rattle.encoder.specs.Encode.{coded_by}
use Rattle.writer.specs.Writer.{word_for}
use Rattle.writer.proofs.word_for.Goals as goal

pub returns : goal.returns
unfolding word_for
returns c =
    let e : c.map_or.result ≡ (coded_by c.encode_at_scale.result).word = search rules in
    e ∙ rw (c.encode_at_scale.ensures, c.doubles-block.ensures, c.block.ensures)
