-- The entries of the join in the form that the code has: over the bytes of a section in one list or in pairs, the fallbacks and the bases in lists, and any
-- search `sol` of a section (byte, class, bound, shrinks). Laws proves them equal to the definition in crate search.
use Rattle.std.specs.Prelude.{true, false, cond, List, [], ℕ, ◌+◌, ◌*◌, ◌/◌, ◌%◌, get_or, eqb, Float}
use Rattle.std.specs.Float.{nan}
use Rattle.std.specs.Float.Ieee.{lt}
use Rattle.laws.specs.Words.{tab}
use Rattle.search.specs.declared.Best.{Best}
use Rattle.search.specs.declared.Closed.{Closed}
use Rattle.search.specs.declared.Entry.{Entry}
use Rattle.search.specs.declared.Found.{Found}
use Rattle.search.specs.declared.Found.TheVariants.{At, Nothing}
use Rattle.search.specs.Solve.{infinity}
use Rattle.search.specs.Tables.{Tables, tables, class_of}
use Rattle.search.specs.Entries.{infeasible, better, mid_of, with_base, settle}
use Rattle.search.specs.Join.{ent_at}
use Rattle.search.specs.Parity.{closed}
use Rattle.solve.specs.declared.Pair.{Pair}
use Rattle.solve.specs.Inner.Flat.{solve_in, pair_in}
use Rattle.resolve.specs.declared.End.{End}
use Rattle.resolve.specs.declared.Middle.{Middle}

abbrev pub Search : Type 0
Search = ℕ → ℕ → Closed → ℕ → Best

-- ---- resolved in full
-- the better of an entry and what a search answered
abbrev pub better_by : Entry → Found → ℕ → Entry
better_by e (At d k) c = cond (lt d e.value) (record { value = d; exact = true; byte = c; key = k }) e
better_by e Nothing c = e

-- what a search answered, as an entry
abbrev pub mid_by : Found → ℕ → Entry
mid_by (At d k) c = record { value = d; exact = true; byte = c; key = k }
mid_by Nothing c = infeasible

-- an end entry of class r and bytes c0 and c1, whose fallback is f
abbrev pub end_over : Tables → Search → Entry → ℕ → ℕ → ℕ → ℕ → Entry
end_over g sol f r c0 c1 n = better (better f (sol c0 r (class_of g r) n) c0) (sol c1 r (class_of g r) n) c1

-- byte b of state s
abbrev pub byte_in : List (List ℕ) → ℕ → ℕ → ℕ
byte_in bytes s b = get_or (get_or bytes s []) b 0

unfoldable pub end_with : Tables → Search → List (List ℕ) → List Entry → ℕ → ℕ → Entry
end_with g sol bytes fall n i = end_over g sol (ent_at fall i) (i / 64) (byte_in bytes (i % 64) 0) (byte_in bytes (i % 64) 1) n

-- a middle entry of byte c and class d
unfoldable pub mid_over : Tables → Search → ℕ → ℕ → ℕ → Entry
mid_over g sol c d n = cond (sol c d g.mixed n).met (mid_of (sol c d g.mixed n) c) (mid_of (sol c d g.mixed 8) c)

abbrev pub mid_with : Tables → Search → List ℕ → ℕ → ℕ → Entry
mid_with g sol sets n i = mid_over g sol (get_or sets (i / 2) 0) (i % 2) n

-- entry i of those that a bound closes: exact, resolved where its best path is under u, or dropped
abbrev pub closed_with : List Entry → List Float → Float → (ℕ → Entry) → ℕ → Entry
closed_with e b u new i = closed (ent_at e i) (lt (get_or b i nan) u) (new i)

-- ---- as they start
abbrev pub no_best : Best
no_best = record { d = nan; key = 0; met = false }

abbrev pub pair_at : List Pair → ℕ → Pair
pair_at q i = get_or q i (record { even = no_best; odd = no_best })

-- the base for parity r
abbrev pub of_parity : Pair → ℕ → Best
of_parity q r = cond (eqb r 0) q.even q.odd

-- the least distance of a base that is no member
abbrev pub lowered_by : Float → Best → Float
lowered_by lb b = cond b.met lb (cond (lt b.d lb) b.d lb)

-- an end entry whose fallback is f and whose bases are b0 and b1, of bytes c0 and c1
unfoldable pub start_over : Entry → Best → ℕ → Best → ℕ → Entry
start_over f b0 c0 b1 c1 = settle (with_base (with_base (record { ent = f; lb = infinity; loose = false }) b0 c0) b1 c1)

-- the bytes of all states in a row, two to a state, as the bases are made of them
unfoldable pub in_a_row : List (List ℕ) → List ℕ
in_a_row bytes = tab (λ (i : ℕ). byte_in bytes (i / 2) (i % 2)) 128

abbrev pub start_with : List Pair → List (List ℕ) → List Entry → ℕ → Entry
start_with q bytes fall i =
    start_over (ent_at fall i) (of_parity (pair_at q (2 * (i % 64))) (i / 64)) (byte_in bytes (i % 64) 0)
    (of_parity (pair_at q (2 * (i % 64) + 1)) (i / 64)) (byte_in bytes (i % 64) 1)

-- a middle entry: a base that is no member is a bound
abbrev pub base_entry : Best → ℕ → Entry
base_entry b c = record { value = b.d; exact = b.met; byte = c; key = b.key }

abbrev pub mid_start_with : List Pair → List ℕ → ℕ → Entry
mid_start_with q sets i = base_entry (of_parity (pair_at q (i / 2)) (i % 2)) (get_or sets (i / 2) 0)

-- ---- the two kinds of section: the bases of their bytes, entry i as it starts where the bases are q, and entry i resolved in full
abbrev pub end_bases : End → List Pair
end_bases s = tab (λ (j : ℕ). pair_in s.rows (get_or (in_a_row s.bytes) j 0) tables.class0 tables.class1) 128

abbrev pub end_first : End → List Pair → ℕ → Entry
end_first s q i = start_with q s.bytes s.fall i

abbrev pub end_full : End → ℕ → Entry
end_full s i = end_with tables (solve_in s.rows) s.bytes s.fall s.shrinks i

abbrev pub mid_bases : Middle → List Pair
mid_bases s = tab (λ (j : ℕ). pair_in s.rows (get_or s.sets j 0) tables.mixed tables.mixed) 128

abbrev pub mid_first : Middle → List Pair → ℕ → Entry
mid_first s q i = mid_start_with q s.sets i

abbrev pub mid_full : Middle → ℕ → Entry
mid_full s i = mid_with tables (solve_in s.rows) s.sets s.shrinks i
