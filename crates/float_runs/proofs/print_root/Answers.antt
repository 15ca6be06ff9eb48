-- `print_root` is safe: a root is never a NaN.
use Rattle.std.proofs.Common.{sym, subst, T, not}
use Rattle.std.specs.Float.Ieee.{is_nan}
use Rattle.float.specs.Laws.Exact.{no_nan}
use Rattle.root.specs.Root.{Rooted, rooted}
use Rattle.root.specs.Nearest.{rooted-finite}
use Rattle.float_runs.proofs.print_root.Goals as goal

pub float_to_bits-bits : goal.float_to_bits-bits
float_to_bits-bits g c =
    let x = c.args.x in
    let plain = no_nan (rooted x).root (rooted-finite x (subst T (sym c.well_formed.1.0.1) tt)).1 in
    subst (λ (r : Rooted). T (not (is_nan r.root))) (sym c.in-Ok.ensures) plain
