-- The sections of a block: their entries as they start, and what the flat search over their rows resolves, are those of crate search.
-- Assumes nothing.
use mathlib.Core.Path.{◌≡◌, refl, ◌∙◌}
use mathlib.Core.Bool.{Bool, true, false, cond}
use mathlib.Core.List.{List}
use Prim.Native.Nat.{ℕ, ◌≤◌, ◌/◌, ◌%◌}
use native.Mathlib.Omega.{arith}
use borrow.Author.Tests.{ltb-true}
use lib.Dec.{ltb}
use lib.Ieee.{Float}
use Rattle.laws.specs.Words.{tab}
use Rattle.trellis.specs.Trellis.{middle_sets}
use Rattle.search.specs.declared.Entry.{Entry}
use Rattle.search.specs.declared.Targets.{Targets}
use Rattle.search.specs.Tables.{tables}
use Rattle.search.specs.Entries.{end_resolve, end_start}
use Rattle.search.specs.Parity.{Winner, solved1, solved2, solved3, parity}
use Rattle.search.specs.Block.{rule_of}
use Rattle.coord.specs.Inner.Rows.{table_of, rows_of}
use Rattle.solve.specs.Inner.Flat.{solve_in}
use Rattle.solve.specs.Laws.{solve_flat}
use Rattle.resolve.specs.Inner.Flat.{in_a_row, end_bases, end_first, end_full, mid_bases, mid_first, mid_full}
use Rattle.resolve.specs.Laws.{bytes_of, end_with_lem, mid_with_lem, bases, ends_flat, mids_flat}
use Rattle.resolve.specs.declared.End.{End}
use Rattle.resolve.specs.declared.Middle.{Middle}
use Rattle.parity.specs.Inner.{end_of, middle_of, first_start, mid_starts, last_start, Kept, pass_of}
use Rattle.parity.proofs.Laws.{Agree, pass-eq, pass_is}

-- ---- the setting
least : (n k : ℕ) → cond (ltb n k) n k ≤ k
least n k = go (ltb n k) refl
  where
    go : (b : Bool) → ltb n k ≡ b → cond b n k ≤ k
    go true e = omega (arith, ltb-true n k e)
    go false e = omega arith

-- ---- one section
module _ (ts : List Float) (p n : ℕ) where
  end_agrees : (kind : ℕ)
      → Agree 128 (end_full (end_of kind ts p (rule_of n).ends)) (λ (i : ℕ). end_resolve tables (rule_of n) ts kind p (i / 64) (i % 64))
  end_agrees kind i l =
      end_with_lem (rule_of n) ts p (solve_in (rows_of (table_of ts p))) (λ c w b m h. solve_flat ts p c w b m h) kind i (omega (arith, least n 7)) l

  mid_agrees : Agree 256 (mid_full (middle_of ts p (rule_of n).mids)) (solved2 tables (rule_of n) ts p)
  mid_agrees i l =
      mid_with_lem (rule_of n) ts p (solve_in (rows_of (table_of ts p))) (λ c w b m h. solve_flat ts p c w b m h) middle_sets i (least n 8)

  end_starts : (kind m : ℕ)
      → tab (end_first (end_of kind ts p m) (end_bases (end_of kind ts p m))) 128
      ≡ tab (λ (i : ℕ). end_start tables ts kind p (i / 64) (i % 64)) 128
  end_starts kind m =
      ends_flat ts p kind (end_bases (end_of kind ts p m)) (bases ts p tables.class0 tables.class1 (in_a_row (bytes_of kind)))

  middle_starts : (m : ℕ) → tab (mid_first (middle_of ts p m) (mid_bases (middle_of ts p m))) 256 ≡ mid_starts ts p
  unfolding mid_starts
  middle_starts m = mids_flat ts p middle_sets (mid_bases (middle_of ts p m)) (bases ts p tables.mixed tables.mixed middle_sets)

-- ---- the three
abbrev kept_of : List Entry → List Entry → List Entry → Float → Kept
kept_of e1 e2 e3 u = record { sides = record { e1 = e1; e2 = e2; e3 = e3 }; u = u }

abbrev started : End → Middle → End → Float → Kept
started a b c u =
    kept_of (tab (end_first a (end_bases a)) 128) (tab (mid_first b (mid_bases b)) 256) (tab (end_first c (end_bases c)) 128) u

module _ (t : Targets) (n p : ℕ) (u : Float) where
  abbrev first : End
  first = end_of 0 t.t1 p (rule_of n).ends

  abbrev middle : Middle
  middle = middle_of t.t2 p (rule_of n).mids

  abbrev last : End
  last = end_of 1 t.t3 p (rule_of n).ends

  all_start : started first middle last u ≡ kept_of (first_start t.t1 p) (mid_starts t.t2 p) (last_start t.t3 p) u
  unfolding first_start last_start
  all_start =
      rw (end_starts t.t1 p n 0 (rule_of n).ends, middle_starts t.t2 p n (rule_of n).mids, end_starts t.t3 p n 1 (rule_of n).ends)

  pub over_sections : {a c : End} {b : Middle} {e1 e2 e3 : List Entry} {w : Winner} → a ≡ first → b ≡ middle → c ≡ last
      → e1 ≡ tab (end_first a (end_bases a)) 128 → e2 ≡ tab (mid_first b (mid_bases b)) 256 → e3 ≡ tab (end_first c (end_bases c)) 128
      → w ≡ pass_of (end_full a) (mid_full b) (end_full c) p (kept_of e1 e2 e3 u) → w ≡ parity tables (rule_of n) t p u
  over_sections ha hb hc h1 h2 h3 hw =
      hw ∙ rw (h1, h2, h3, ha, hb, hc)
      (pass-eq (end_full first) (mid_full middle) (end_full last) (solved1 tables (rule_of n) t.t1 p) (solved2 tables (rule_of n) t.t2 p)
      (solved3 tables (rule_of n) t.t3 p) (end_agrees t.t1 p n 0) (mid_agrees t.t2 p n) (end_agrees t.t3 p n 1) p (started first middle last u)
      ∙ rw all_start (pass_is (rule_of n) t p u))
