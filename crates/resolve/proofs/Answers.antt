-- What the calls of each function make together is its flat form. Assumes nothing.
use mathlib.Core.Path.{◌≡◌, refl, ◌∙◌, sym, ap, ap₂}
use mathlib.Core.Bool.{Bool, true, false, cond, ◌&&◌, not}
use mathlib.Core.List.{List}
use Prim.Native.Nat.{ℕ, ◌≤◌, min}
use native.Mathlib.Omega.{arith}
use lib.Ieee.{Float}
use Rattle.rank.specs.declared.Bound.{Bound}
use Rattle.rank.specs.Vector.{bound_cut, middle_cut}
use Rattle.rank.specs.Answers.{packed_of}
use Rattle.search.specs.declared.Best.{Best}
use Rattle.search.specs.declared.Closed.{Closed}
use Rattle.search.specs.declared.Entry.{Entry}
use Rattle.search.specs.declared.Found.{Found}
use Rattle.search.specs.declared.Found.TheVariants.{At, Nothing}
use Rattle.search.specs.Solve.{infinity, found_of}
use Rattle.search.specs.Bound.{lex_num, lex_of}
use Rattle.search.specs.Tables.{tables, closed_of}
use Rattle.search.specs.Entries.{infeasible, better, mid_of, settle}
use Rattle.coord.specs.declared.Rows.{Rows}
use Rattle.solve.specs.Inner.Flat.{solve_in}
use Rattle.resolve.specs.Inner.Flat.{Search, mid_by, mid_over, lowered_by, start_over}
use Rattle.resolve.specs.Laws.{mid_by_lem, start_over_lem}

-- ---- the bounds: a cut packed and turned is the cut read with coordinate 0 most significant
pub closed_is : (cost : ℕ) (cut : List ℕ) → lex_of (packed_of cut) ≡ lex_num 0 cut → {b : Bound} {x : Closed} → (b.cost ≡ cost) × (b.cut ≡ cut)
    → x ≡ record { cost = b.cost; cut = lex_of (packed_of b.cut) } → x ≡ closed_of cost cut
closed_is cost cut e q hx = hx ∙ rw (q.0, q.1, e)

pub turned0 : lex_of (packed_of (bound_cut 0)) ≡ lex_num 0 (bound_cut 0)
unfolding lex_of packed_of lex_num
turned0 = refl

pub turned1 : lex_of (packed_of (bound_cut 1)) ≡ lex_num 0 (bound_cut 1)
unfolding lex_of packed_of lex_num
turned1 = refl

pub turned-middle : lex_of (packed_of middle_cut) ≡ lex_num 0 middle_cut
unfolding lex_of packed_of lex_num
turned-middle = refl

-- ---- as they start
pub started : (f : Entry) (b0 : Best) (c0 : ℕ) (b1 : Best) (c1 : ℕ) {e e' x : Entry} {top l l' : Float}
    → e ≡ better f b0 c0 → e' ≡ better e b1 c1 → top ≡ infinity → l ≡ lowered_by top b0 → l' ≡ lowered_by l b1
    → x ≡ settle (record { ent = e'; lb = l'; loose = not (b0.met && b1.met) }) → x ≡ start_over f b0 c0 b1 c1
started f b0 c0 b1 c1 he he' ht hl hl' hx =
    let near = he' ∙ ap (λ (a : Entry). better a b1 c1) he in
    let low = hl' ∙ ap (λ (z : Float). lowered_by z b1) (hl ∙ ap (λ (z : Float). lowered_by z b0) ht) in
    hx ∙ (ap₂ (λ (a : Entry) (z : Float). settle (record { ent = a; lb = z; loose = not (b0.met && b1.met) })) near low ∙ start_over_lem f b0 c0 b1 c1)

-- ---- resolved in full
-- whether a member was met
is_at : Found → Bool
is_at (At d k) = true
is_at Nothing = false

met_is : (b : Best) → is_at (found_of b) ≡ b.met
unfolding is_at
met_is b = go b.met
  where
    go : (m : Bool) → is_at (cond m (At b.d b.key) Nothing) ≡ m
    go true = refl
    go false = refl

module _ (sol : Search) (c d n : ℕ) {b : Closed} {f : Found} (hb : b ≡ tables.mixed) (hf : f ≡ found_of (sol c d b n)) where
  now_is : f ≡ found_of (sol c d tables.mixed n)
  now_is = hf ∙ ap (λ (z : Closed). found_of (sol c d z n)) hb

  was_met : {v : Float} {k : ℕ} → f ≡ At v k → (sol c d tables.mixed n).met ≡ true
  unfolding is_at
  was_met q = sym (met_is (sol c d tables.mixed n)) ∙ ap is_at (sym now_is ∙ q)

  was_unmet : f ≡ Nothing → (sol c d tables.mixed n).met ≡ false
  unfolding is_at
  was_unmet q = sym (met_is (sol c d tables.mixed n)) ∙ ap is_at (sym now_is ∙ q)

  pub at_once : {v : Float} {k : ℕ} → f ≡ At v k
      → ◌≡◌ {A = Entry} (record { value = v; exact = true; byte = c; key = k }) (mid_over tables sol c d n)
  unfolding mid_over
  at_once q =
      ap (λ (z : Found). mid_by z c) (sym q ∙ now_is) ∙ (mid_by_lem (sol c d tables.mixed n) c
      ∙ sym (ap (λ (m : Bool). cond m (mid_of (sol c d tables.mixed n) c) (mid_of (sol c d tables.mixed 8) c)) (was_met q)))

  pub again : {g : Found} {x : Entry} → f ≡ Nothing → g ≡ found_of (sol c d b 8) → x ≡ mid_by g c → x ≡ mid_over tables sol c d n
  unfolding mid_over
  again q hg hx =
      hx ∙ (ap (λ (z : Found). mid_by z c) (hg ∙ ap (λ (z : Closed). found_of (sol c d z 8)) hb) ∙ (mid_by_lem (sol c d tables.mixed 8) c
      ∙ sym (ap (λ (m : Bool). cond m (mid_of (sol c d tables.mixed n) c) (mid_of (sol c d tables.mixed 8) c)) (was_unmet q))))

  -- with all eight shrinks there is no other rule to try
  pub none_left : {x : Entry} → f ≡ Nothing → sol c d tables.mixed n ≡ sol c d tables.mixed 8 → x ≡ infeasible
      → x ≡ mid_over tables sol c d n
  unfolding mid_over
  none_left q same hx =
      let m = was_unmet q in
      let m8 = ap (λ (s : Best). s.met) (sym same) ∙ m in
      hx ∙ sym (ap (λ (z : Bool). cond z (mid_of (sol c d tables.mixed n) c) (mid_of (sol c d tables.mixed 8) c)) m
      ∙ ap
      (λ (z : Bool). cond z (record { value = (sol c d tables.mixed 8).d; exact = true; byte = c; key = (sol c d tables.mixed 8).key })
      infeasible) m8)

pub solve_eight : (rows : Rows) (c want : ℕ) (bound : Closed) (n : ℕ) → 8 ≤ n
    → solve_in rows c want bound n ≡ solve_in rows c want bound 8
unfolding solve_in
solve_eight rows c want bound n h = let q : min n 8 ≡ 8 = omega arith in rw q
