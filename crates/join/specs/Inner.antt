-- What the private functions of this crate say of a path. Assumes nothing.
use Rattle.std.specs.Prelude.{◌<◌}
use Rattle.search.specs.declared.Way.{Way}

-- its entries are entries of the three sections
abbrev pub InRange : Way → Type 0
InRange w = (w.i1 < 128) × ((w.i2 < 256) × (w.i3 < 128))
