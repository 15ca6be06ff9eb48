-- With all eight shrinks the middle always meets a member.
use Rattle.std.specs.Prelude.{◌≡◌, Bool, cond, ◌&&◌, List, get_or, Float}
use Rattle.std.proofs.Math.Path.{refl}
use Rattle.std.proofs.Common.{sym, subst}
use Rattle.std.proofs.Math.Bool.{true, false}
use Prim.Native.Nat.{ℕ, zero, suc, ◌-◌, ◌<◌}
use Rattle.std.specs.Float.{nan}
use Rattle.std.specs.Float.Ieee.{lt, le}
use Rattle.search.specs.declared.Coord.{Coord}
use Rattle.search.specs.declared.Closed.{Closed}
use Rattle.search.specs.declared.Candidate.{Candidate}
use Rattle.search.specs.declared.Best.{Best}
use Rattle.search.specs.declared.Top.{Top}
use Rattle.search.specs.Record.{row}
use Rattle.search.specs.Bound.{holds}
use Rattle.search.specs.Base.{now_to}
use Rattle.search.specs.Solve.{infinity, kept_base, step_of, moved_d, moved_c, key_moved, moves_to, top_to, fix_of, layers_to, first_base, unmet, solve}
use Rattle.search.specs.Tables.{tables}
use Rattle.nearest.specs.Laws.Under.{clash, inf-lt}
use Rattle.nearest.specs.Laws.Rule.{mid-lt, fix_mid}
use Rattle.members.specs.Laws.Sizes.{Target}
use Rattle.members.specs.Laws.Candidates.{now_below}
use Rattle.members.specs.Laws.Zero.{zero_held}

-- ---- a best that was not met is at infinity
abbrev Inf : Best → Type 0
Inf b = b.met ≡ false → b.d ≡ infinity

kept_inf : (bound : Closed) (n : Candidate) (best : Best) → Inf best → Inf (kept_base bound n best)
kept_inf bound n best i = go (holds bound n.cost n.key && lt n.dist best.d)
  where
    go : (b : Bool) → Inf (cond b (record { d = n.dist; key = n.key; met = true }) best)
    go true = λ q. absurd (clash refl q)
    go false = i

-- ---- and a best that was met stays met
kept_met : (bound : Closed) (n : Candidate) (best : Best) → best.met ≡ true → (kept_base bound n best).met ≡ true
kept_met bound n best i = go (holds bound n.cost n.key && lt n.dist best.d)
  where
    go : (b : Bool) → (cond b (record { d = n.dist; key = n.key; met = true }) best).met ≡ true
    go true = refl
    go false = i

kept_new : (bound : Closed) (n : Candidate) (best : Best) → holds bound n.cost n.key ≡ true → lt n.dist best.d ≡ true
    → (kept_base bound n best).met ≡ true
kept_new bound n best = go (holds bound n.cost n.key) (lt n.dist best.d)
  where
    go : (a b : Bool) → a ≡ true → b ≡ true → (cond (a && b) (record { d = n.dist; key = n.key; met = true }) best).met ≡ true
    go true true p q = refl
    go true false p q = absurd (clash q refl)
    go false b p q = absurd (clash p refl)

-- any step keeps what its old best and every new one have
module _ (P : Best → Type 0) (N : (d : Float) (k : ℕ) → P (record { d = d; key = k; met = true })) where
  step_keeps : (a b : Coord) (bound : Closed) (n : Candidate) (best : Best) (j f fj j2 g f2 : ℕ) → P best → P (step_of a b bound n best j f fj j2 g f2)
  unfolding step_of
  step_keeps a b bound n best j f fj j2 g f2 h =
      go (le best.d (moved_d a b n.dist f fj g f2))
      (holds bound (moved_c a b n.cost f fj g f2) (key_moved n.key j (get_or a.rank fj 0) j2 (get_or b.rank f2 0)))
    where
      go : (x y : Bool) → P (cond x best
          (cond y (record {
            d = moved_d a b n.dist f fj g f2;
            key = key_moved n.key j (get_or a.rank fj 0) j2 (get_or b.rank f2 0);
            met = true;
          }) best))
      go true y = h
      go false true = N (moved_d a b n.dist f fj g f2) (key_moved n.key j (get_or a.rank fj 0) j2 (get_or b.rank f2 0))
      go false false = h

  moves-keep : (e : List Coord) (top : Top) (fix : ℕ) (bound : Closed) (n : Candidate) (start : Best) → P start → (i : ℕ)
      → P (moves_to e top fix bound n start i)
  unfolding moves_to
  moves-keep e top fix bound n start h zero = h
  moves-keep e top fix bound n start h (suc i) =
      step_keeps _ _ bound n (moves_to e top fix bound n start i) _ _ _ _ _ _ (moves-keep e top fix bound n start h i)

moves_inf : (e : List Coord) (top : Top) (fix : ℕ) (bound : Closed) (n : Candidate) (start : Best) → Inf start → (i : ℕ)
    → Inf (moves_to e top fix bound n start i)
moves_inf = moves-keep Inf (λ d k q. absurd (clash refl q))

moves_met : (e : List Coord) (top : Top) (fix : ℕ) (bound : Closed) (n : Candidate) (start : Best) → start.met ≡ true → (i : ℕ)
    → (moves_to e top fix bound n start i).met ≡ true
moves_met = moves-keep (λ b. b.met ≡ true) (λ d k. refl)

layer_inf : (e : List Coord) (want : ℕ) (bound : Closed) (best : Best) → Inf best
    → Inf (moves_to e (top_to e 6) (fix_of e want (top_to e 6).j0) bound (now_to e (top_to e 6).j0 (fix_of e want (top_to e 6).j0) 8)
    (kept_base bound (now_to e (top_to e 6).j0 (fix_of e want (top_to e 6).j0) 8) best) 16)
layer_inf e want bound best i = moves_inf e (top_to e 6) (fix_of e want (top_to e 6).j0) bound _ _ (kept_inf bound _ best i) 16

layers_inf : (ts : List Float) (p c want : ℕ) (bound : Closed) (n : ℕ) → Inf (layers_to ts p c want bound n)
unfolding layers_to
layers_inf ts p c want bound zero = layer_inf (row ts p c 0) want bound unmet (λ q. refl)
layers_inf ts p c want bound (suc n) = layer_inf (row ts p c (suc n)) want bound (layers_to ts p c want bound n) (layers_inf ts p c want bound n)

-- ---- the last shrink is 0, whose base is within the bound
module _ (ts : List Float) (p c : ℕ) (P0 : p < 2) (T0 : (j : ℕ) → j < 8 → Target (get_or ts j nan)) (want : ℕ) where
  abbrev e : List Coord
  e = row ts p c 7

  abbrev fix : ℕ
  fix = fix_of e want (top_to e 6).j0

  abbrev now : Candidate
  now = now_to e (top_to e 6).j0 fix 8

  last-kept : (best : Best) → Inf best → (kept_base tables.mixed now best).met ≡ true
  last-kept best i = go best.met refl
    where
      go : (b : Bool) → best.met ≡ b → (kept_base tables.mixed now best).met ≡ true
      go true q = kept_met tables.mixed now best q
      go false q =
          kept_new tables.mixed now best (zero_held ts p c P0 T0 want)
          (subst (λ (x : Float). lt now.dist x ≡ true) (sym (i q))
          (inf-lt now.dist (now_below ts p c 7 P0 T0 (top_to e 6).j0 fix (mid-lt (fix_mid e want (top_to e 6).j0))).fin))

  last_met : (layers_to ts p c want tables.mixed 7).met ≡ true
  unfolding layers_to
  last_met = moves_met e (top_to e 6) fix tables.mixed now _
      (last-kept (layers_to ts p c want tables.mixed 6) (layers_inf ts p c want tables.mixed 6)) 16

  pub always_met : (solve ts p c want tables.mixed 8).met ≡ true
  unfolding solve
  always_met = go (first_base (row ts p c 0) want tables.mixed).met refl
    where
      go : (m : Bool) → (first_base (row ts p c 0) want tables.mixed).met ≡ m
          → (cond m (first_base (row ts p c 0) want tables.mixed) (layers_to ts p c want tables.mixed (8 - 1))).met ≡ true
      go true q = q
      go false q = last_met
