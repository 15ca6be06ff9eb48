-- The theorem at the constant tables and in natural order, of the lattice and the points that have a word. Assumes nothing.
use Rattle.std.specs.Prelude.{◌≡◌, refl, ◌≢◌, true, ℕ, suc, ◌+◌, ◌*◌, ◌<◌, T, get_or, length, ℤ, pos, Float}
use Rattle.std.proofs.Common.{sym, ap, ap₂, ◌∙◌, subst, arith, ext_get_or}
use mathlib.Core.List.{List, [], ◌∷◌, Memᴰ}
use Rattle.std.specs.Float.{nan, binary64}
use Rattle.std.specs.Float.Ieee.{fits}
use Rattle.std.specs.Float.Ieee.Scale.{finite}
use Rattle.laws.specs.Laws.Lists.{tab_at, tab-length}
use Rattle.float.specs.Distance.{coord_gap, sq_dist, margin}
use Rattle.trellis.specs.Trio.{order}
use Rattle.trellis.specs.Laws.Trio.{trio-fits}
use Rattle.tetra.specs.Lattice.{trio, LatticePoint, HasWord}
use Rattle.tetra.specs.Tetra.{natural}
use Rattle.tetra.specs.Laws.Orders.{trio-at, natural-length, trio-natural}
use Rattle.search.specs.Tables.{tables}
use Rattle.search.specs.Entries.{Rule}
use Rattle.search.specs.Parity.{Winner, search}
use Rattle.search.specs.Block.{coordinate, trio_of, targets_of, winner_at, place, point_from}
use Rattle.nearest.specs.Laws.Forms.{sum_to, RuleOk, at24}
use Rattle.nearest.specs.Laws.Sums.{sum_same, sum_front}
use Rattle.nearest.specs.Laws.Sections.{LeechTrio, sq_dist24}
use Rattle.nearest.proofs.Sections.{point_at_lem, is_found}
use Rattle.nearest.specs.Laws.TableFacts.{tables-bytes, tables-good, tables_more}
use Rattle.nearest.specs.Laws.Link.{leech, leech_parity, has-rows, lattice, lattice_parity}

-- ---- the exact distance, coordinate by coordinate
abbrev sqc : ℤ → Float → ℕ
sqc v x = coord_gap v x * coord_gap v x

pub dist-sum : (z : List ℤ) (t : List Float) → length z ≡ length t → sq_dist z t ≡ sum_to (λ j. sqc (at24 z j) (get_or t j nan)) (length z)
unfolding sq_dist sum_to
dist-sum [] t e = refl
dist-sum (v ∷ z) [] e = absurd (omega arith)
dist-sum (v ∷ z) (x ∷ t) e =
    ap (λ (n : ℕ). sqc v x + n) (dist-sum z t (down e)) ∙ sum_front (λ j. sqc (at24 (v ∷ z) j) (get_or (x ∷ t) j nan)) (length z)
  where
    down : suc (length z) ≡ suc (length t) → length z ≡ length t
    down e = omega arith

-- trio order permutes the 24
sum-trio : (f : ℕ → ℕ) → sum_to f 24 ≡ sum_to (λ j. f (coordinate j)) 24
unfolding sum_to order
sum-trio f = omega arith

module _ (t : List Float) (T24 : length t ≡ 24) where
  dist_trio : (z z' : List ℤ) → length z ≡ 24 → ((j : ℕ) → j < 24 → at24 z (coordinate j) ≡ at24 z' j) → sq_dist z t ≡ sq_dist24 z' (trio_of t)
  dist_trio z z' l a =
      dist-sum z t (l ∙ sym T24) ∙ ap (sum_to (λ j. sqc (at24 z j) (get_or t j nan))) l ∙ sum-trio (λ j. sqc (at24 z j) (get_or t j nan))
      ∙ sum_same (λ j. sqc (at24 z (coordinate j)) (get_or t (coordinate j) nan)) (λ j. sqc (at24 z' j) (get_or (trio_of t) j nan)) 24
      (λ j h. ap₂ sqc (a j h) (sym (tab_at Float nan (λ j. get_or t (coordinate j) nan) 24 j h)))

-- ---- the theorem
-- t is the target, ps the parities searched, y the point, u the setting
module _ (t : List Float) (len : length t ≡ 24) (fit : (j : ℕ) → j < 24 → T (fits binary64 (get_or t j nan)))
    (fin : (j : ℕ) → j < 24 → T (finite (get_or t j nan))) (ps : List ℕ) (PS : (q : ℕ) → Memᴰ q ps → q < 2)
    (y : List ℤ) (W : HasWord y) (I0 : Memᴰ W.point.p ps)
    (H : (z : List ℤ) (Z : LatticePoint z) → Memᴰ Z.p ps → z ≢ y → sq_dist y t + margin < sq_dist z t)
    (u : Rule) (U0 : RuleOk u) where
  t_at_lem : (j : ℕ) → j < 24 → get_or (trio_of t) j nan ≡ get_or t (coordinate j) nan
  t_at_lem j h = tab_at Float nan (λ j. get_or t (coordinate j) nan) 24 j h

  fit' : (j : ℕ) → j < 24 → T (fits binary64 (get_or (trio_of t) j nan))
  fit' j h = subst (λ (x : Float). T (fits binary64 x)) (sym (t_at_lem j h)) (fit (coordinate j) (trio-fits j h).order_lt)

  fin' : (j : ℕ) → j < 24 → T (finite (get_or (trio_of t) j nan))
  fin' j h = subst (λ (x : Float). T (finite x)) (sym (t_at_lem j h)) (fin (coordinate j) (trio-fits j h).order_lt)

  searched : Memᴰ (leech y W.point).p ps
  searched = subst (λ (q : ℕ). Memᴰ q ps) (sym (leech_parity y W.point)) I0

  far : (z : List ℤ) (Z : LeechTrio tables z) → Memᴰ Z.p ps → z ≢ trio y
      → sq_dist24 (trio y) (trio_of t) + margin < sq_dist24 z (trio_of t)
  far z Z m d =
      subst (λ (a : ℕ). a + margin < sq_dist24 z (trio_of t)) (dist_trio t len y (trio y) W.point.size (λ j h. sym (trio-at y j h)))
      (subst (λ (b : ℕ). sq_dist y t + margin < b)
      (dist_trio t len (natural z) z (natural-length z)
      (λ j h. sym (trio-at (natural z) j h) ∙ ap (λ (l : List ℤ). at24 l j) (trio-natural z Z.len)))
      (H (natural z) (lattice z Z) (subst (λ (q : ℕ). Memᴰ q ps) (sym (lattice_parity z Z)) m)
      (λ e. d (sym (trio-natural z Z.len) ∙ ap trio e))))

  abbrev answer : Winner
  answer = search tables u (targets_of t) ps

  at : (j : ℕ) → j < 24 → winner_at answer j ≡ at24 (trio y) j
  at =
      point_at_lem tables tables-bytes (trio_of t) ps PS (trio y) far tables-good tables_more u U0 (leech y W.point) searched (has-rows y W)
      fit' fin'

  is_point : point_from answer ≡ y
  is_point =
      let size = tab-length ℤ (λ i. winner_at answer (place i)) 24 in
      ext_get_or (pos 0) (point_from answer) y (size ∙ sym W.point.size)
      (λ i h.
      let l : i < 24 = subst (λ (n : ℕ). i < n) size h in
      let f = trio-fits i l in
      tab_at ℤ (pos 0) (λ i. winner_at answer (place i)) 24 i l ∙ at (place i) f.place-lt ∙ trio-at y (place i) f.place-lt
      ∙ ap (at24 y) f.order-place)

  pub answered : (answer.found ≡ true) × (point_from answer ≡ y)
  answered = (
    is_found tables tables-bytes (trio_of t) ps PS (trio y) far tables-good tables_more u U0 (leech y W.point) searched (has-rows y W)
        fit' fin',
    is_point,
  )
