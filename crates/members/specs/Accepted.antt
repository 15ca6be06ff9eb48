-- What the search at one scale is asked for: a target whose numbers are at most a million in size. The quotients of an accepted call are such
-- (demands/specs/Laws). Definitions only.
use Rattle.std.specs.Prelude.{List, ℕ, ◌*◌, ◌≤◌, ◌<◌, get_or, Float}
use Rattle.std.specs.Float.{nan}
use Rattle.float.specs.Value.{U, mag_units}
use Rattle.nearest.specs.Nearest.{Target}

-- `target`: 24 finite doubles. A double is `mag_units` units of 2 ^ -1074 in size, and 1 is U of them
pub record Accepted (t : List Float) : Type 0 where
  pub target : Target t
  pub low : (j : ℕ) → j < 24 → mag_units (get_or t j nan) ≤ 1000000 * U
