-- `parity::parity` meets its contract: its sections are those of crate search, and so the pass is the definition. Assumes nothing.
use mathlib.Core.Path.{◌∙◌}
use Prim.Native.Nat.{◌%◌}
use Rattle.parity.proofs.Sections.{over_sections}
use Rattle.parity.proofs.parity.Goals as goal

pub returns : goal.returns
returns c =
    let s = c.args in
    over_sections s.targets.now s.setting (s.p % 2) s.u0
    (c.end_of-first.ensures ∙ rw (c.prefixes.ensures, c.shrinks-ends.ensures))
    (c.middle_of-middle.ensures ∙ rw c.shrinks-mids.ensures)
    (c.end_of-last.ensures ∙ rw (c.suffixes.ensures, c.shrinks-ends.ensures))
    c.starts.ensures c.starts-2.ensures c.starts-3.ensures c.pass.ensures
