-- One block parity, and the best of the parities searched: `solve_parity` and the loop of `encode_at_scale` of encoder.rs. Definitions only.
-- The idea: most entries need no full search. At most two seed joins look for a real path, of cost u. A pass
-- over all paths then says which of the entries that are mere lower bounds may lie on a cheaper one. Those
-- are resolved late and the others dropped: no path through them costs less than u. docs/ALGORITHM.md says
-- why nothing is lost.
use Rattle.std.specs.Prelude.{Bool, true, false, cond, not, ◌&&◌, ◌||◌, List, [], ◌∷◌, ℕ, zero, suc, ◌/◌, ◌%◌, get_or, set, Float}
use Rattle.std.specs.Float.{nan}
use Rattle.std.specs.Float.Ieee.{lt}
use Rattle.laws.specs.Words.{tab}
use Rattle.std.specs.Float.Ieee.Scale.{finite}
use Rattle.search.specs.declared.Entry.{Entry}
use Rattle.search.specs.declared.Way.{Way}
use Rattle.search.specs.declared.Bounds.{Bounds}
use Rattle.search.specs.declared.Winner as declared
use Rattle.search.specs.declared.Targets.{Targets}
use Rattle.search.specs.Solve.{infinity}
use Rattle.search.specs.Tables.{Tables}
use Rattle.search.specs.Entries.{Rule, infeasible, end_resolve, mid_resolve, end_start, mid_start}
use Rattle.search.specs.declared.Sides.{Sides}
use Rattle.search.specs.Join.{ent_at, way_at, join, all_exact}

-- ---- entry i resolved in full
abbrev pub solved1 : Tables → Rule → List Float → ℕ → ℕ → Entry
solved1 g u ts p i = end_resolve g u ts 0 p (i / 64) (i % 64)

abbrev pub solved2 : Tables → Rule → List Float → ℕ → ℕ → Entry
solved2 g u ts p i = mid_resolve g u ts p (get_or g.sets (i / 2) 0) (i % 2)

abbrev pub solved3 : Tables → Rule → List Float → ℕ → ℕ → Entry
solved3 g u ts p i = end_resolve g u ts 1 p (i / 64) (i % 64)

-- ---- the entries as they start
unfoldable pub starts : Tables → Targets → ℕ → Sides
starts g t p =
    record {
      e1 = tab (λ (i : ℕ). end_start g t.t1 0 p (i / 64) (i % 64)) 128;
      e2 = tab (λ (i : ℕ). mid_start g t.t2 p (get_or g.sets (i / 2) 0) (i % 2)) 256;
      e3 = tab (λ (i : ℕ). end_start g t.t3 1 p (i / 64) (i % 64)) 128;
    }

-- ---- 1. the seed joins: the entries of the best path that are not exact are resolved
abbrev pub fixed : List Entry → ℕ → Entry → List Entry
fixed e i new = cond (ent_at e i).exact e (set e i new)

abbrev pub seeded : Tables → Rule → Targets → ℕ → Sides → Way → Sides
seeded g u t p s w =
    record {
      e1 = fixed s.e1 w.i1 (solved1 g u t.t1 p w.i1);
      e2 = fixed s.e2 w.i2 (solved2 g u t.t2 p w.i2);
      e3 = fixed s.e3 w.i3 (solved3 g u t.t3 p w.i3);
    }

-- the entries, the best cost known, and whether the best path was all exact
pub record Seed : Type 0 where
  pub sides : Sides
  pub u : Float
  pub done : Bool

-- f64::min: a, which is never a NaN, or b where that is less
abbrev pub lower : Float → Float → Float
lower a b = cond (lt b a) b a

abbrev pub seed_by : Tables → Rule → Targets → ℕ → Seed → Way → Seed
seed_by g u t p s w =
    cond (all_exact s.sides w) (record { sides = s.sides; u = lower s.u w.cost; done = true })
    (record { sides = seeded g u t p s.sides w; u = s.u; done = false })

-- the first n of them; once a best path is all exact they are over
unfoldable pub seed_to : Tables → Rule → Targets → ℕ → Seed → ℕ → Seed
seed_to g u t p s zero = s
seed_to g u t p s (suc n) =
    cond (seed_to g u t p s n).done (seed_to g u t p s n) (seed_by g u t p (seed_to g u t p s n) (join g p (seed_to g u t p s n).sides))

-- WARM_JOINS of them
abbrev pub seed_of : Tables → Rule → Targets → ℕ → Float → Seed
seed_of g u t p u0 = seed_to g u t p (record { sides = starts g t p; u = u0; done = false }) 2

-- ---- 2. the best path through each entry, and the best all-exact path, over the first n of the 4,096 paths
abbrev pub lowered : List Float → ℕ → Float → List Float
lowered b i c = set b i (lower (get_or b i nan) c)

abbrev pub bound_by : Sides → Bounds → Way → Bounds
bound_by s b w =
    record {
      u = cond (all_exact s w && lt w.cost b.u) w.cost b.u;
      b1 = lowered b.b1 w.i1 w.cost;
      b2 = lowered b.b2 w.i2 w.cost;
      b3 = lowered b.b3 w.i3 w.cost;
    }

unfoldable pub bounds_to : Tables → ℕ → Sides → Float → ℕ → Bounds
bounds_to g p s u zero =
    record { u = u; b1 = tab (λ (i : ℕ). infinity) 128; b2 = tab (λ (i : ℕ). infinity) 256; b3 = tab (λ (i : ℕ). infinity) 128 }
bounds_to g p s u (suc n) = bound_by s (bounds_to g p s u n) (way_at g p s (n / 32) (n % 32))

-- ---- 3. and 4. an exact entry stays; one whose best path is under u is resolved; the rest are dropped
abbrev pub closed : Entry → Bool → Entry → Entry
closed e under new = cond e.exact e (cond under new infeasible)

unfoldable pub closing : Tables → Rule → Targets → ℕ → Sides → Bounds → Sides
closing g u t p s b =
    record {
      e1 = tab (λ (i : ℕ). closed (ent_at s.e1 i) (lt (get_or b.b1 i nan) b.u) (solved1 g u t.t1 p i)) 128;
      e2 = tab (λ (i : ℕ). closed (ent_at s.e2 i) (lt (get_or b.b2 i nan) b.u) (solved2 g u t.t2 p i)) 256;
      e3 = tab (λ (i : ℕ). closed (ent_at s.e3 i) (lt (get_or b.b3 i nan) b.u) (solved3 g u t.t3 p i)) 128;
    }

abbrev pub last_sides : Tables → Rule → Targets → ℕ → Seed → Sides
last_sides g u t p s = closing g u t p s.sides (bounds_to g p s.sides s.u 4096)

-- ---- the winner of a parity: the best path through what is left, found where its cost is finite. The Rust's Winner names r and s8, which are
-- i1 / 64 and i1 % 64, the middle class i2 % 2, and s16, which is i3 % 64
pub record Winner : Type 0 where
  pub found : Bool
  pub cost : Float
  pub p : ℕ
  pub i1 : ℕ
  pub i2 : ℕ
  pub i3 : ℕ
  pub s1 : Entry
  pub s2 : Entry
  pub s3 : Entry

abbrev pub winner_of : ℕ → Sides → Way → Winner
winner_of p s w =
    record {
      found = finite w.cost;
      cost = w.cost;
      p = p;
      i1 = w.i1;
      i2 = w.i2;
      i3 = w.i3;
      s1 = ent_at s.e1 w.i1;
      s2 = ent_at s.e2 w.i2;
      s3 = ent_at s.e3 w.i3;
    }

-- a winner of the code, which tells by its cost whether it was found
abbrev pub winner_by : declared.Winner → Winner
winner_by w =
    record {
      found = finite w.cost;
      cost = w.cost;
      p = w.p;
      i1 = w.i1;
      i2 = w.i2;
      i3 = w.i3;
      s1 = w.s1;
      s2 = w.s2;
      s3 = w.s3;
    }

-- `solve_parity`: u0 is the best cost of the parities before
unfoldable pub parity : Tables → Rule → Targets → ℕ → Float → Winner
parity g u t p u0 = winner_of p (last_sides g u t p (seed_of g u t p u0)) (join g p (last_sides g u t p (seed_of g u t p u0)))

-- ---- the parities searched, in order: a later one must be strictly cheaper
abbrev pub nobody : Winner
nobody =
    record { found = false; cost = infinity; p = 0; i1 = 0; i2 = 0; i3 = 0; s1 = infeasible; s2 = infeasible; s3 = infeasible }

abbrev pub cost_of : Winner → Float
cost_of w = cond w.found w.cost infinity

abbrev pub choose : Winner → Winner → Winner
choose a b = cond (b.found && (not a.found || lt b.cost a.cost)) b a

unfoldable pub search_over : Tables → Rule → Targets → Winner → List ℕ → Winner
search_over g u t best [] = best
search_over g u t best (p ∷ ps) = search_over g u t (choose best (parity g u t p (cost_of best))) ps

-- the full coder searches parity 0, then parity 1; the even profile parity 0 alone
abbrev pub both_parities : List ℕ
both_parities = 0 ∷ 1 ∷ []

abbrev pub even_parities : List ℕ
even_parities = 0 ∷ []

-- which of the two it is: whether odd points are searched
abbrev pub parities_of : Bool → List ℕ
parities_of odd = cond odd both_parities even_parities

unfoldable pub search : Tables → Rule → Targets → List ℕ → Winner
search g u t ps = search_over g u t nobody ps
