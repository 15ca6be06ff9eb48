-- What `solve` meets stands for a section of its pattern and class.
use Rattle.std.specs.Prelude.{◌≡◌, ◌≢◌, List, ℕ, ◌+◌, ◌*◌, ◌≤◌, ◌<◌, get_or, ℤ, nat_abs, Float}
use Rattle.std.proofs.Common.{sym, ap, ap₂, ◌∙◌, subst, lit≤}
use Rattle.std.specs.Float.{binary64}
use Rattle.std.specs.Float.Ieee.{add, sub}
use Rattle.float.specs.Value.{U}
use Rattle.float.specs.Laws.Near.{Near}
use Rattle.search.specs.declared.Coord.{Coord}
use Rattle.search.specs.Record.{coord_at, row, member, sq_to}
use Rattle.search.specs.declared.Closed.{Closed}
use Rattle.search.specs.declared.Candidate.{Candidate}
use Rattle.search.specs.Base.{slot_of, now_to}
use Rattle.search.specs.Solve.{moved_d, moved_c, key_moved, solve}
use Rattle.nearest.specs.Laws.Forms.{sum_to}
use Rattle.nearest.specs.Laws.Coordinate.{Target}
use Rattle.nearest.specs.Laws.Operations.{H}
use Rattle.nearest.specs.Laws.Entries.{SoundB, Stands}
use Rattle.nearest.specs.Laws.Shape.{o_at, slot_lt}
use Rattle.nearest.specs.Laws.Candidate.{Cand, ET, t_at, sq_v, cand-stands}
use Rattle.nearest.specs.Laws.Steps.{Row, slot_small, now_cand}
use Rattle.nearest.specs.Laws.Pairs.{two-cand}
use Rattle.nearest.specs.Laws.Rule.{k_base, k_pair, moved_shape, pair_i, pair_l, pair_off, pair-each, Gives, solve-holds}

module _ (ts : List Float) (p c : ℕ) (P0 : p < 2) (T0 : (j : ℕ) → j < 8 → Target (t_at ts j)) (want : ℕ) (W0 : want < 2) (bound : Closed)
    (B0 : bound.cost ≤ 96) where
  abbrev Q : ℕ → Float → Type 0
  Q key d = Stands p c want ts key d

  module _ (e : List Coord) (R : Row ts p c e) (j0 fix : ℕ) (F0 : fix < 5) where
    abbrev now : Candidate
    now = now_to e j0 fix 8

    base : Cand ts p c (k_base e j0 fix) now.cost now.key now.dist (8 * (ET + H))
    base = now_cand ts p c P0 T0 e R j0 fix F0

    -- one paired step
    module _ (i fj l f2 : ℕ) (I0 : i < 8) (F1 : fj < 5) (L0 : l < 8) (F2 : f2 < 5) (D0 : i ≢ l) where
      abbrev k_m : ℕ → ℤ
      k_m = k_pair e j0 fix i fj l f2

      small : (j : ℕ) → j < 8 → nat_abs (k_m j) < 31
      small j h = pair-each e j0 fix i fj l f2 D0
          (λ (k : ℤ). nat_abs k < 31) (slot_small (coord_at e i).k0 fj (R.small i I0) F1)
          (slot_small (coord_at e l).k0 f2 (R.small l L0) F2) j (base.small j h)

      abbrev D : Float
      D = moved_d (coord_at e i) (coord_at e l) now.dist (slot_of j0 fix i) fj (slot_of j0 fix l) f2

      abbrev C : ℕ
      C = moved_c (coord_at e i) (coord_at e l) now.cost (slot_of j0 fix i) fj (slot_of j0 fix l) f2

      abbrev K : ℕ
      K = key_moved now.key i (get_or (coord_at e i).rank fj 0) l (get_or (coord_at e l).rank f2 0)

      cand : Cand ts p c k_m C K D (8 * (ET + H) + ET + H + ET + H + ET + H + ET + H)
      cand = record {
        small = small;
        shape = moved_shape p c e R.slots j0 fix i fj l f2 F0 I0 F1 L0 F2 D0;
        near =
            subst (λ (d : Float). Near U d (sum_to (λ j. sq_v (member (o_at p c j) (k_m j)) (t_at ts j)) 8) 0
            (8 * (ET + H) + ET + H + ET + H + ET + H + ET + H))
            (sym
            (four_f _ _ _ _ _ _ _ _ (R.d_is i (slot_of j0 fix i) I0 (slot_lt j0 fix i F0)) (R.d_is l (slot_of j0 fix l) L0 (slot_lt j0 fix l F0))
            (R.d_is i fj I0 F1 ∙ ap (λ (z : ℤ). sq_to (member (o_at p c i) z) (t_at ts i)) (sym (pair_i e j0 fix i fj l f2 D0)))
            (R.d_is l f2 L0 F2 ∙ ap (λ (z : ℤ). sq_to (member (o_at p c l) z) (t_at ts l)) (sym (pair_l e j0 fix i fj l f2 D0)))))
            (two-cand ts p c P0 T0 (k_base e j0 fix) k_m i l I0 L0 D0 small (pair_off e j0 fix i fj l f2 D0) now.cost now.key
            now.dist base).near;
      }
        where
          four_f : (x x' y y' u u' v v' : Float) → x ≡ x' → y ≡ y' → u ≡ u' → v ≡ v'
              → add binary64 (add binary64 (sub binary64 (sub binary64 now.dist x) y) u) v
              ≡ add binary64 (add binary64 (sub binary64 (sub binary64 now.dist x') y') u') v'
          four_f x x' y y' u u' v v' p q r s =
              ap₂ (λ (a b : Float). add binary64 (add binary64 (sub binary64 (sub binary64 now.dist a) b) u) v) p q
              ∙ ap₂ (λ (a b : Float). add binary64 (add binary64 (sub binary64 (sub binary64 now.dist x') y') a) b) r s

  gives : (e : List Coord) → Row ts p c e → Gives Q want bound e
  gives e R = record {
    base = λ j0 fix F0 q h. cand-stands ts p c want P0 T0 bound B0 (k_base e j0 fix) (now_to e j0 fix 8).cost (now_to e j0 fix 8).key
        (now_to e j0 fix 8).dist (8 * (ET + H)) (lit≤ tt) (base e R j0 fix F0) q h;
    pair = λ j0 fix i fj l f2 F0 I0 F1 L0 F2 D0 q h. cand-stands ts p c want P0 T0 bound B0 (k_pair e j0 fix i fj l f2)
        (moved_c (coord_at e i) (coord_at e l) (now_to e j0 fix 8).cost (slot_of j0 fix i) fj (slot_of j0 fix l) f2)
        (key_moved (now_to e j0 fix 8).key i (get_or (coord_at e i).rank fj 0) l (get_or (coord_at e l).rank f2 0))
        (moved_d (coord_at e i) (coord_at e l) (now_to e j0 fix 8).dist (slot_of j0 fix i) fj (slot_of j0 fix l) f2)
        (8 * (ET + H) + ET + H + ET + H + ET + H + ET + H) (lit≤ tt) (cand e R j0 fix F0 i fj l f2 I0 F1 L0 F2 D0) q h;
  }

  -- whatever the rule meets stands for its section
  pub solve_ok : ((s : ℕ) → s < 8 → Row ts p c (row ts p c s)) → (n : ℕ) → n ≤ 8 → SoundB p c want ts (solve ts p c want bound n)
  solve_ok R n h = solve-holds Q want W0 bound ts p c (λ s l. gives (row ts p c s) (R s l)) n h
