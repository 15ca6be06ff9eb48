-- The base of a pattern for one parity of the sum of k: `base_pair` of encoder.rs. Definitions only.
-- The idea: without the bound, the nearest vector of a pattern and class is found at once. Round every
-- coordinate; if the sum of k has the wrong parity, step the coordinate whose rounding is least sure, where
-- that costs least. A base within the bound answers its section; the distance of any other is a lower bound
-- on what the section can have.
use Rattle.std.specs.Prelude.{cond, List, ℕ, zero, suc, ◌+◌, ◌-◌, ◌*◌, ◌%◌, ◌^◌, ℤ, pos, get_or, eqb}
use Rattle.std.specs.Int.Signed.{lt_z}
use Rattle.std.specs.Int.Bits.{bit_and, bit_or}
use Rattle.std.specs.Float.{nan, binary64}
use Rattle.std.specs.Float.Ieee.{add, sub, lt}
use Rattle.laws.specs.Words.{mod_z}
use Rattle.float.specs.Value.{zero64}
use Rattle.search.specs.declared.Coord.{Coord}
use Rattle.search.specs.declared.Candidate.{Candidate}
use Rattle.search.specs.declared.Best.{Best}
use Rattle.search.specs.declared.Closed.{Closed}
use Rattle.search.specs.Record.{coord_at}
use Rattle.search.specs.Bound.{holds}

-- slot 2 everywhere, but slot `fix` at coordinate j0
abbrev pub slot_of : ℕ → ℕ → ℕ → ℕ
slot_of j0 fix j = cond (eqb j j0) fix 2

-- the slot a step toward the target: the Rust's 2 + dir
abbrev pub toward_of : ℤ → ℕ
toward_of dir = cond (lt_z (pos 0) dir) 3 1

-- the coordinate of largest regret among the first n, the lowest on a tie. The Rust's loop starts at 1: 0 against itself changes nothing
unfoldable pub worst_to : List Coord → ℕ → ℕ
worst_to e zero = 0
worst_to e (suc n) = cond (lt (coord_at e (worst_to e n)).regret (coord_at e n).regret) n (worst_to e n)

-- the parity of the sum of k0 over the first n, turn by turn: the Rust takes the remainder of the whole sum
unfoldable pub par_to : List Coord → ℕ → ℕ
par_to e zero = 0
par_to e (suc n) = (par_to e n + mod_z (coord_at e n).k0 2) % 2

-- cost, packed row and distance of the first n coordinates, at slot 2 but slot `fix` at j0
unfoldable pub now_to : List Coord → ℕ → ℕ → ℕ → Candidate
now_to e j0 fix zero = record { cost = 0; key = 0; dist = zero64 }
now_to e j0 fix (suc n) =
    record {
      cost = (now_to e j0 fix n).cost + get_or (coord_at e n).w (slot_of j0 fix n) 0;
      key = bit_or (now_to e j0 fix n).key (get_or (coord_at e n).rank (slot_of j0 fix n) 0 * 2 ^ (4 * n) % 2 ^ 32);
      dist = add binary64 (now_to e j0 fix n).dist (get_or (coord_at e n).d (slot_of j0 fix n) nan);
    }

-- rank x in place of the rank at j
unfoldable pub key_set : ℕ → ℕ → ℕ → ℕ
key_set key j x = bit_or (bit_and key (2 ^ 32 - 1 - 15 * 2 ^ (4 * j) % 2 ^ 32)) (x * 2 ^ (4 * j) % 2 ^ 32)

-- coordinate j, whose record is c, a step toward its target: the distance loses a term and gains a term
unfoldable pub stepped : Coord → Candidate → ℕ → Candidate
stepped c s j =
    record {
      cost = s.cost - get_or c.w 2 0 + get_or c.w (toward_of c.dir) 0;
      key = key_set s.key j (get_or c.rank (toward_of c.dir) 0);
      dist = add binary64 (sub binary64 s.dist (get_or c.d 2 nan)) (get_or c.d (toward_of c.dir) nan);
    }

-- the base for parity r: all coordinates at their rounding, and where that has the other parity, the least decided one a step toward its target
unfoldable pub base_now : List Coord → ℕ → Candidate
base_now e r = cond (eqb (par_to e 8) r) (now_to e 0 2 8) (stepped (coord_at e (worst_to e 8)) (now_to e 0 2 8) (worst_to e 8))

abbrev pub base_best : Closed → Candidate → Best
base_best bound n = record { d = n.dist; key = n.key; met = holds bound n.cost n.key }
