-- The flat forms are the definition. Assumes nothing.
use Rattle.std.specs.Prelude.{◌≡◌, Bool, true, false, ◌&&◌, not, List, ℕ, zero, suc, ◌+◌, ◌*◌, ◌/◌, ◌%◌, ◌<◌, ◌≤◌, eqb, Float}
use Rattle.std.proofs.Math.Path.{refl, ap, ap₂}
use Rattle.std.proofs.Common.{◌∙◌, arith}
use Rattle.std.proofs.Math.Bool.{cond}
use Rattle.std.proofs.Math.ListN.{get_or}
use Rattle.std.specs.Float.Ieee.{lt}
use Rattle.laws.specs.Words.{tab}
use Rattle.laws.specs.Laws.Lists.{tab_at, tab-eq}
use Rattle.laws.specs.Laws.Tests.{cond_same}
use Rattle.trellis.specs.Tables.{prefixes, suffixes}
use Rattle.trellis.specs.Trellis.{pairs_of}
use Rattle.trellis.specs.Laws.Rows.{pair_at_lem}
use Rattle.search.specs.declared.Best.{Best}
use Rattle.search.specs.declared.Closed.{Closed}
use Rattle.search.specs.declared.Candidate.{Candidate}
use Rattle.search.specs.declared.Entry.{Entry}
use Rattle.search.specs.declared.Found.TheVariants.{At, Nothing}
use Rattle.search.specs.Record.{row}
use Rattle.search.specs.Base.{base_now, base_best}
use Rattle.search.specs.Solve.{solve, infinity, found_of}
use Rattle.search.specs.Tables.{tables, class_of, end_byte}
use Rattle.search.specs.Entries.{Rule, infeasible, fallback, better, end_resolve, mid_of, mid_resolve}
use Rattle.search.specs.Entries.{Start, settle, end_start, mid_start}
use Rattle.search.specs.Join.{no_entry}
use Rattle.coord.specs.Inner.Rows.{table_of, rows_of}
use Rattle.solve.specs.declared.Pair.{Pair}
use Rattle.solve.specs.Inner.Flat.{pair_in}
use Rattle.solve.specs.Laws.{pair_flat}
use Rattle.resolve.specs.Inner.Flat.{Search, better_by, mid_by, byte_in, end_over, end_with, mid_over, mid_with}
use Rattle.resolve.specs.Inner.Flat.{no_best, pair_at, of_parity, lowered_by, start_over, in_a_row, start_with, base_entry, mid_start_with}

-- ---- what a search answered
pub better_by_lem : (e : Entry) (b : Best) (c : ℕ) → better_by e (found_of b) c ≡ better e b c
better_by_lem e b c = go b.met
  where
    go : (m : Bool)
        → better_by e (cond m (At b.d b.key) Nothing) c
        ≡ cond (m && lt b.d e.value) (record { value = b.d; exact = true; byte = c; key = b.key }) e
    go true = refl
    go false = refl

pub mid_by_lem : (b : Best) (c : ℕ) → mid_by (found_of b) c ≡ mid_of b c
mid_by_lem b c = go b.met
  where
    go : (m : Bool)
        → mid_by (cond m (At b.d b.key) Nothing) c ≡ cond m (record { value = b.d; exact = true; byte = c; key = b.key }) infeasible
    go true = refl
    go false = refl

-- ---- as they start
-- two bases, whose order in the three parts does not matter
pub start_over_lem : (f : Entry) (b0 : Best) (c0 : ℕ) (b1 : Best) (c1 : ℕ)
    → settle (record { ent = better (better f b0 c0) b1 c1; lb = lowered_by (lowered_by infinity b0) b1; loose = not (b0.met && b1.met) })
    ≡ start_over f b0 c0 b1 c1
unfolding start_over
start_over_lem f b0 c0 b1 c1 = ap settle (go b0.met b1.met)
  where
    near : Bool → Entry → Best → ℕ → Entry
    near m e b c = cond (m && lt b.d e.value) (record { value = b.d; exact = true; byte = c; key = b.key }) e

    low : Bool → Float → Best → Float
    low m lb b = cond m lb (cond (lt b.d lb) b.d lb)

    base : Bool → Start → Best → ℕ → Start
    base m s b c =
        cond m (record { ent = near m s.ent b c; lb = s.lb; loose = s.loose })
        (record { ent = s.ent; lb = cond (lt b.d s.lb) b.d s.lb; loose = true })

    go : (m0 m1 : Bool)
        → ◌≡◌ {A = Start} (record { ent = near m1 (near m0 f b0 c0) b1 c1; lb = low m1 (low m0 infinity b0) b1; loose = not (m0 && m1) })
        (base m1 (base m0 (record { ent = f; lb = infinity; loose = false }) b0 c0) b1 c1)
    go true true = refl
    go true false = refl
    go false true = refl
    go false false = refl

-- ---- the bytes and the fallbacks of an end
abbrev pub bytes_of : ℕ → List (List ℕ)
bytes_of kind = cond (eqb kind 0) (pairs_of prefixes) (pairs_of suffixes)

byte_at : (kind st b : ℕ) → st < 64 → b < 2 → byte_in (bytes_of kind) st b ≡ end_byte tables kind st b
byte_at kind st b h k = go (eqb kind 0)
  where
    go : (t : Bool) → byte_in (cond t (pairs_of prefixes) (pairs_of suffixes)) st b ≡ cond t (get_or prefixes (2 * st + b) 0) (get_or suffixes (2 * st + b) 0)
    go true = pair_at_lem prefixes st b h k
    go false = pair_at_lem suffixes st b h k

row_byte : (kind st b : ℕ) → st < 64 → b < 2 → get_or (in_a_row (bytes_of kind)) (2 * st + b) 0 ≡ end_byte tables kind st b
unfolding in_a_row
row_byte kind st b h k =
    let s : (2 * st + b) / 2 ≡ st = omega arith in
    let d : (2 * st + b) % 2 ≡ b = omega arith in
    tab_at ℕ 0 (λ (i : ℕ). byte_in (bytes_of kind) (i / 2) (i % 2)) 128 (2 * st + b) (omega arith) ∙ ap₂ (byte_in (bytes_of kind)) s d
    ∙ byte_at kind st b h k

row_first : (kind st : ℕ) → st < 64 → get_or (in_a_row (bytes_of kind)) (2 * st) 0 ≡ end_byte tables kind st 0
row_first kind st h =
    let q : 2 * st ≡ 2 * st + 0 = omega arith in
    ap (λ (k : ℕ). get_or (in_a_row (bytes_of kind)) k 0) q ∙ row_byte kind st 0 h (omega arith)

abbrev pub fallbacks_of : List Float → ℕ → ℕ → List Entry
fallbacks_of ts kind p = tab (λ (i : ℕ). fallback tables ts kind p (i / 64) (i % 64)) 128

-- ---- resolved in full: where sol is the search of a section
abbrev pub Searches : List Float → ℕ → Search → Type 0
Searches ts p sol = (c want : ℕ) (bound : Closed) (n : ℕ) → n ≤ 8 → sol c want bound n ≡ solve ts p c want bound n

module _ (rule : Rule) (ts : List Float) (p : ℕ) (sol : Search) (h : Searches ts p sol) where
  end_over_lem : (f : Entry) (r c0 c1 n : ℕ) → n ≤ 8 → end_over tables sol f r c0 c1 n ≡ end_over tables (solve ts p) f r c0 c1 n
  end_over_lem f r c0 c1 n l =
      ap₂ (λ (a b : Best). better (better f a c0) b c1) (h c0 r (class_of tables r) n l) (h c1 r (class_of tables r) n l)

  pub end_with_lem : (kind i : ℕ) → rule.ends ≤ 8 → i < 128
      → end_with tables sol (bytes_of kind) (fallbacks_of ts kind p) rule.ends i ≡ end_resolve tables rule ts kind p (i / 64) (i % 64)
  unfolding end_with end_resolve
  end_with_lem kind i l hi =
      let fall = tab_at Entry no_entry (λ (k : ℕ). fallback tables ts kind p (k / 64) (k % 64)) 128 i hi in
      ap
      (λ (f : Entry). end_over tables sol f (i / 64) (byte_in (bytes_of kind) (i % 64) 0) (byte_in (bytes_of kind) (i % 64) 1) rule.ends)
      fall
      ∙ (ap₂ (λ (a b : ℕ). end_over tables sol (fallback tables ts kind p (i / 64) (i % 64)) (i / 64) a b rule.ends)
      (byte_at kind (i % 64) 0 (omega arith) (omega arith)) (byte_at kind (i % 64) 1 (omega arith) (omega arith))
      ∙ end_over_lem (fallback tables ts kind p (i / 64) (i % 64)) (i / 64) (end_byte tables kind (i % 64) 0) (end_byte tables kind (i % 64) 1)
      rule.ends l)

  pub mid_with_lem : (sets : List ℕ) (i : ℕ) → rule.mids ≤ 8
      → mid_with tables sol sets rule.mids i ≡ mid_resolve tables rule ts p (get_or sets (i / 2) 0) (i % 2)
  unfolding mid_over mid_resolve
  mid_with_lem sets i l =
      let c = get_or sets (i / 2) 0 in
      ap₂ (λ (a b : Best). cond a.met (mid_of a c) (mid_of b c)) (h c (i % 2) tables.mixed rule.mids l)
      (h c (i % 2) tables.mixed 8 (omega arith))

-- ---- as they start: the bases of a list of bytes, under the bounds b0 and b1 of an even and an odd sum
abbrev pub Bases : List Float → ℕ → Closed → Closed → List ℕ → List Pair → Type 0
Bases ts p b0 b1 bytes q =
    (k : ℕ) → k < 128
    → pair_at q k
    ≡ record { even = base_best b0 (base_now (row ts p (get_or bytes k 0) 0) 0); odd = base_best b1 (base_now (row ts p (get_or bytes k 0) 0) 1) }

-- the pairs of crate solve are such
pub bases : (ts : List Float) (p : ℕ) (b0 b1 : Closed) (bytes : List ℕ)
    → Bases ts p b0 b1 bytes
    (tab (λ (i : ℕ). pair_in (rows_of (table_of ts p)) (get_or bytes i 0) b0 b1) 128)
bases ts p b0 b1 bytes k l =
    tab_at Pair (record { even = no_best; odd = no_best })
    (λ (i : ℕ). pair_in (rows_of (table_of ts p)) (get_or bytes i 0) b0 b1) 128 k l
    ∙ pair_flat ts p (get_or bytes k 0) b0 b1

parity_of_lem : (b0 b1 : Closed) (f : ℕ → Candidate) (r : ℕ) → r < 2
    → of_parity (record { even = base_best b0 (f 0); odd = base_best b1 (f 1) }) r ≡ base_best (cond (eqb r 0) b0 b1) (f r)
parity_of_lem b0 b1 f zero l = refl
parity_of_lem b0 b1 f (suc zero) l = refl
parity_of_lem b0 b1 f (suc (suc r)) l = absurd (omega arith)

module _ (ts : List Float) (p : ℕ) where
  base_at_lem : (b0 b1 : Closed) (bytes : List ℕ) (q : List Pair) → Bases ts p b0 b1 bytes q → (k r c : ℕ) → k < 128 → r < 2 → get_or bytes k 0 ≡ c
      → of_parity (pair_at q k) r ≡ base_best (cond (eqb r 0) b0 b1) (base_now (row ts p c 0) r)
  base_at_lem b0 b1 bytes q h k r c l hr e =
      ap (λ (x : Pair). of_parity x r) (h k l) ∙ (parity_of_lem b0 b1 (λ (s : ℕ). base_now (row ts p (get_or bytes k 0) 0) s) r hr
      ∙ ap (λ (x : ℕ). base_best (cond (eqb r 0) b0 b1) (base_now (row ts p x 0) r)) e)

  start_with_lem : (kind : ℕ) (q : List Pair) → Bases ts p tables.class0 tables.class1 (in_a_row (bytes_of kind)) q → (i : ℕ) → i < 128
      → start_with q (bytes_of kind) (fallbacks_of ts kind p) i ≡ end_start tables ts kind p (i / 64) (i % 64)
  unfolding start_over end_start
  start_with_lem kind q h i hi =
      let c0 = byte_at kind (i % 64) 0 (omega arith) (omega arith) in
      let c1 = byte_at kind (i % 64) 1 (omega arith) (omega arith) in
      let at = base_at_lem tables.class0 tables.class1 (in_a_row (bytes_of kind)) q h in
      let b0 = at (2 * (i % 64)) (i / 64) (end_byte tables kind (i % 64) 0) (omega arith) (omega arith) (row_first kind (i % 64) (omega arith)) in
      let b1 =
      at (2 * (i % 64) + 1) (i / 64) (end_byte tables kind (i % 64) 1) (omega arith) (omega arith)
      (row_byte kind (i % 64) 1 (omega arith) (omega arith)) in
      let fall = tab_at Entry no_entry (λ (k : ℕ). fallback tables ts kind p (k / 64) (k % 64)) 128 i hi in
      ap (λ (f : Entry). start_over f (of_parity (pair_at q (2 * (i % 64))) (i / 64)) (byte_in (bytes_of kind) (i % 64) 0)
      (of_parity (pair_at q (2 * (i % 64) + 1)) (i / 64)) (byte_in (bytes_of kind) (i % 64) 1)) fall
      ∙ (ap₂ (λ (a : Best) (c : ℕ). start_over (fallback tables ts kind p (i / 64) (i % 64)) a c
      (of_parity (pair_at q (2 * (i % 64) + 1)) (i / 64)) (byte_in (bytes_of kind) (i % 64) 1)) b0 c0
      ∙ ap₂ (λ (a : Best) (c : ℕ). start_over (fallback tables ts kind p (i / 64) (i % 64))
      (base_best (class_of tables (i / 64)) (base_now (row ts p (end_byte tables kind (i % 64) 0) 0) (i / 64))) (end_byte tables kind (i % 64) 0) a c)
      b1 c1)

  -- the entries of an end, and the middle ones
  pub ends_flat : (kind : ℕ) (q : List Pair) → Bases ts p tables.class0 tables.class1 (in_a_row (bytes_of kind)) q
      → tab (start_with q (bytes_of kind) (fallbacks_of ts kind p)) 128
      ≡ tab (λ (i : ℕ). end_start tables ts kind p (i / 64) (i % 64)) 128
  ends_flat kind q h =
      tab-eq Entry no_entry (start_with q (bytes_of kind) (fallbacks_of ts kind p))
      (λ (i : ℕ). end_start tables ts kind p (i / 64) (i % 64)) 128 (start_with_lem kind q h)

  mid_start_with_lem : (sets : List ℕ) (q : List Pair) → Bases ts p tables.mixed tables.mixed sets q → (i : ℕ) → i < 256
      → mid_start_with q sets i ≡ mid_start tables ts p (get_or sets (i / 2) 0) (i % 2)
  unfolding mid_start
  mid_start_with_lem sets q h i hi =
      let c = get_or sets (i / 2) 0 in
      ap (λ (b : Best). base_entry b c)
      (base_at_lem tables.mixed tables.mixed sets q h (i / 2) (i % 2) c (omega arith) (omega arith) refl
      ∙ ap (λ (b : Closed). base_best b (base_now (row ts p c 0) (i % 2))) (cond_same Closed (eqb (i % 2) 0) tables.mixed))

  pub mids_flat : (sets : List ℕ) (q : List Pair) → Bases ts p tables.mixed tables.mixed sets q
      → tab (mid_start_with q sets) 256 ≡ tab (λ (i : ℕ). mid_start tables ts p (get_or sets (i / 2) 0) (i % 2)) 256
  mids_flat sets q h =
      tab-eq Entry no_entry (mid_start_with q sets) (λ (i : ℕ). mid_start tables ts p (get_or sets (i / 2) 0) (i % 2)) 256
      (mid_start_with_lem sets q h)
