-- The entries of the join: `end_resolve`, `mid_resolve` and the first part of `solve_parity` of encoder.rs. Definitions only.
-- The idea: an entry is what the join knows of a section. An end has one for each class and state, the middle
-- one for each byte and class. It starts with what is cheap, bases and fallback: exact where the nearest of
-- them has a row, else a lower bound. Resolved in full, it has run the candidate rule and is exact.
use Rattle.std.specs.Prelude.{Bool, true, false, cond, ◌&&◌, List, ℕ, zero, suc, ◌+◌, ◌*◌, ◌/◌, ◌%◌, ◌^◌, ℤ, get_or, Float}
use Rattle.std.specs.Float.{nan, binary64}
use Rattle.std.specs.Float.Ieee.{add, lt}
use Rattle.rank.specs.Coord.{val_of}
use Rattle.float.specs.Value.{zero64}
use Rattle.search.specs.declared.Best.{Best}
use Rattle.search.specs.declared.Entry.{Entry}
use Rattle.search.specs.Record.{bit_at, sq_to, all_shrinks, row}
use Rattle.search.specs.Bound.{holds}
use Rattle.search.specs.Base.{base_now, base_best}
use Rattle.search.specs.Solve.{solve, infinity}
use Rattle.search.specs.Tables.{Tables, class_of, end_byte, fallback_at}

-- how many shrinks each kind of section runs
pub record Rule : Type 0 where
  pub ends : ℕ
  pub mids : ℕ

-- rank j of a packed row
abbrev pub rank_at : ℕ → ℕ → ℕ
rank_at key j = key / 2 ^ (4 * j) % 16

-- `section_point`: coordinate j of the section of parity p, byte c and packed row key
abbrev pub section_at : ℕ → ℕ → ℕ → ℕ → ℤ
section_at p c key j = val_of (p + 2 * bit_at c j) (rank_at key j)

-- `dist_to`: the squared distance of the first n coordinates, summed from +0.0 on
unfoldable pub dist_to : (ℕ → ℤ) → List Float → ℕ → Float
dist_to s ts zero = zero64
dist_to s ts (suc n) = add binary64 (dist_to s ts n) (sq_to (s n) (get_or ts n nan))

-- INFEASIBLE: what the join does not see
abbrev pub infeasible : Entry
infeasible = record { value = infinity; exact = true; byte = 0; key = 0 }

-- ---- resolved in full
-- the point of least norm of an end region
abbrev pub fallback : Tables → List Float → ℕ → ℕ → ℕ → ℕ → Entry
fallback g ts kind p r st =
    record {
      value = dist_to (section_at p (get_or g.fb_byte (fallback_at kind p r st) 0) (get_or g.fb_key (fallback_at kind p r st) 0)) ts 8;
      exact = true;
      byte = get_or g.fb_byte (fallback_at kind p r st) 0;
      key = get_or g.fb_key (fallback_at kind p r st) 0;
    }

-- a member that is strictly nearer replaces the entry
abbrev pub better : Entry → Best → ℕ → Entry
better e b c = cond (b.met && lt b.d e.value) (record { value = b.d; exact = true; byte = c; key = b.key }) e

-- the fallback, then the rule on both bytes of the state
unfoldable pub end_resolve : Tables → Rule → List Float → ℕ → ℕ → ℕ → ℕ → Entry
end_resolve g u ts kind p r st =
    better
    (better (fallback g ts kind p r st) (solve ts p (end_byte g kind st 0) r (class_of g r) u.ends) (end_byte g kind st 0))
    (solve ts p (end_byte g kind st 1) r (class_of g r) u.ends) (end_byte g kind st 1)

abbrev pub mid_of : Best → ℕ → Entry
mid_of b c = cond b.met (record { value = b.d; exact = true; byte = c; key = b.key }) infeasible

-- the rule on one byte, and once more with all eight shrinks where it met no member (the Rust leaves that out at a setting of 8, where it would be
-- the same search again)
unfoldable pub mid_resolve : Tables → Rule → List Float → ℕ → ℕ → ℕ → Entry
mid_resolve g u ts p c d =
    cond (solve ts p c d g.mixed u.mids).met (mid_of (solve ts p c d g.mixed u.mids) c) (mid_of (solve ts p c d g.mixed all_shrinks) c)

-- ---- as they start
-- an end entry in the making: the nearest member so far, the least distance of a base that is no member, and whether there was one
pub record Start : Type 0 where
  pub ent : Entry
  pub lb : Float
  pub loose : Bool

-- one base more: a member replaces the entry where it is nearer, another lowers the bound
abbrev pub with_base : Start → Best → ℕ → Start
with_base s b c =
    cond b.met (record { ent = better s.ent b c; lb = s.lb; loose = s.loose })
    (record { ent = s.ent; lb = cond (lt b.d s.lb) b.d s.lb; loose = true })

-- where a base that is no member is nearer than the member, its distance is a bound and the entry is not exact
abbrev pub settle : Start → Entry
settle s =
    cond (s.loose && lt s.lb s.ent.value) (record { value = s.lb; exact = false; byte = s.ent.byte; key = s.ent.key }) s.ent

-- the fallback, then the bases of both bytes of the state
unfoldable pub end_start : Tables → List Float → ℕ → ℕ → ℕ → ℕ → Entry
end_start g ts kind p r st =
    settle
    (with_base
    (with_base (record { ent = fallback g ts kind p r st; lb = infinity; loose = false })
    (base_best (class_of g r) (base_now (row ts p (end_byte g kind st 0) 0) r)) (end_byte g kind st 0))
    (base_best (class_of g r) (base_now (row ts p (end_byte g kind st 1) 0) r)) (end_byte g kind st 1))

-- the base of the byte, exact where it is a member
unfoldable pub mid_start : Tables → List Float → ℕ → ℕ → ℕ → Entry
mid_start g ts p c d =
    record {
      value = (base_now (row ts p c 0) d).dist;
      exact = holds g.mixed (base_now (row ts p c 0) d).cost (base_now (row ts p c 0) d).key;
      byte = c;
      key = (base_now (row ts p c 0) d).key;
    }
