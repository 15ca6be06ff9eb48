-- The best path by the entries' values: `join` of encoder.rs. Definitions only.
-- The idea: three sections make a point where their states and classes fit, which they do along 4,096 paths.
-- A path costs the sum of its three entries, and the first of the cheapest wins.
use Rattle.std.specs.Prelude.{Bool, false, cond, ◌&&◌, List, ℕ, zero, suc, ◌+◌, ◌*◌, ◌/◌, ◌%◌, get_or, Float}
use Rattle.std.specs.Float.{nan, binary64}
use Rattle.std.specs.Float.Ieee.{add, lt, le}
use Rattle.search.specs.declared.Entry.{Entry}
use Rattle.search.specs.declared.Way.{Way}
use Rattle.search.specs.declared.Sides.{Sides}
use Rattle.search.specs.Solve.{infinity}
use Rattle.search.specs.Tables.{Tables}

abbrev pub no_entry : Entry
no_entry = record { value = nan; exact = false; byte = 0; key = 0 }

abbrev pub ent_at : List Entry → ℕ → Entry
ent_at e i = get_or e i no_entry

-- path t out of end entry i1 takes branch t / 2 and middle class t % 2: its middle entry, and its last, of class p xor r xor that (the sum of the
-- three modulo 2)
abbrev pub mid_at : Tables → ℕ → ℕ → ℕ
mid_at g i1 t = 2 * get_or g.ix (i1 % 64 * 16 + t / 2) 0 + t % 2

abbrev pub last_at : Tables → ℕ → ℕ → ℕ → ℕ
last_at g p i1 t = (p + i1 / 64 + t % 2) % 2 * 64 + get_or g.nxt (i1 % 64 * 16 + t / 2) 0

abbrev pub cost_at : Tables → ℕ → Sides → ℕ → ℕ → Float
cost_at g p s i1 t =
    add binary64 (add binary64 (ent_at s.e1 i1).value (ent_at s.e2 (mid_at g i1 t)).value) (ent_at s.e3 (last_at g p i1 t)).value

abbrev pub way_at : Tables → ℕ → Sides → ℕ → ℕ → Way
way_at g p s i1 t = record { cost = cost_at g p s i1 t; i1 = i1; i2 = mid_at g i1 t; i3 = last_at g p i1 t }

-- replaced on strictly less
abbrev pub keep : Way → Way → Way
keep new old = cond (lt new.cost old.cost) new old

-- the first n paths out of i1
unfoldable pub row_to : Tables → ℕ → Sides → ℕ → Way → ℕ → Way
row_to g p s i1 w zero = w
row_to g p s i1 w (suc n) = keep (way_at g p s i1 n) (row_to g p s i1 w n)

-- the first n end entries; one whose own value is no less than the best cost is passed over
unfoldable pub join_to : Tables → ℕ → Sides → ℕ → Way
join_to g p s zero = record { cost = infinity; i1 = 0; i2 = 0; i3 = 0 }
join_to g p s (suc n) =
    cond (le (join_to g p s n).cost (ent_at s.e1 n).value) (join_to g p s n) (row_to g p s n (join_to g p s n) 32)

abbrev pub join : Tables → ℕ → Sides → Way
join g p s = join_to g p s 128

-- all three entries of a path are exact
abbrev pub all_exact : Sides → Way → Bool
all_exact s w = (ent_at s.e1 w.i1).exact && ((ent_at s.e2 w.i2).exact && (ent_at s.e3 w.i3).exact)
