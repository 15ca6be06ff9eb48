-- `float::half_up` meets its contract: twice z is exact, and its whole part plus one, halved, is z rounded. Assumes nothing.
use Rattle.std.proofs.Common.{◌≡◌, ℕ, ◌+◌, ◌/◌, ◌<◌, ◌≤◌, T, sym, ap, ◌∙◌, subst, arith}
use lib.Ieee.{binary64, add, to_unsigned}
use Rattle.float.specs.Calls.{half_up}
use Rattle.float.specs.Laws.Rounding.{half_up-le}
use Rattle.float.proofs.Halves.{asks_low, asks_high, cut-lt, cut_rounds}
use Rattle.float.proofs.half_up.Goals as goal

pub truncating_f64_to_u64-requires-clause-lower_bound : goal.truncating_f64_to_u64-requires-clause-lower_bound
truncating_f64_to_u64-requires-clause-lower_bound c =
    asks_low c.args.z (subst T (sym c.well_formed.0.1) tt) c.requires

pub truncating_f64_to_u64-requires-clause-upper_bound : goal.truncating_f64_to_u64-requires-clause-upper_bound
truncating_f64_to_u64-requires-clause-upper_bound c =
    asks_high c.args.z (subst T (sym c.well_formed.0.1) tt) c.requires

pub overflow_add-result : goal.overflow_add-result
overflow_add-result c =
    let z = c.args.z in
    let h : to_unsigned 64 (add binary64 z z) < 2000001 =
    cut-lt z (subst T (sym c.well_formed.0.1) tt) c.requires in
    let e : c.truncating_f64_to_u64.result ≡ to_unsigned 64 (add binary64 z z) = c.truncating_f64_to_u64.ensures in
    omega arith

pub returns : goal.returns
returns c =
    let z = c.args.z in
    let s = c.requires in
    let r : (c.truncating_f64_to_u64.result + 1) / 2 ≡ half_up z =
    ap (λ (k : ℕ). (k + 1) / 2) c.truncating_f64_to_u64.ensures
    ∙ cut_rounds z (subst T (sym c.well_formed.0.1) tt) s in
    (r, subst (λ (k : ℕ). k ≤ 1000000) (sym r) (half_up-le z s.low))
