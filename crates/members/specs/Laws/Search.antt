-- All parities: at an accepted target the search over any parities finds a path through three members. Assumes nothing.
use Rattle.std.specs.Prelude.{◌≡◌, refl, Bool, true, false, not, cond, ◌&&◌, ◌||◌, ℕ, ◌+◌, ◌<◌, get_or, length, Float}
use Rattle.std.proofs.Common.{sym, subst, arith}
use mathlib.Core.List.{List, [], ◌∷◌, Memᴰ}
use Rattle.std.proofs.Math.Dec.{T}
use Rattle.std.specs.Float.{nan}
use Rattle.std.specs.Float.Ieee.{lt}
use Rattle.laws.specs.Laws.Lists.{tab_at}
use Rattle.trellis.specs.Laws.Trio.{trio-fits}
use Rattle.search.specs.Solve.{infinity}
use Rattle.search.specs.Tables.{tables}
use Rattle.search.specs.Entries.{Rule}
use Rattle.search.specs.declared.Targets.{Targets}
use Rattle.search.specs.Parity.{Winner, parity, nobody, cost_of, choose, search_over, search}
use Rattle.search.specs.Block.{rule_of, coordinate, trio_of, targets_of, winner_for}
use Rattle.nearest.specs.Laws.Parities.{choose-either, over_each}
use Rattle.nearest.specs.Laws.Searched.{rule_ok}
use Rattle.nearest.specs.Laws.Sections.{up8, up16, up24}
use Rattle.members.specs.Accepted.{Accepted}
use Rattle.members.specs.Laws.Sizes.{Target}
use Rattle.members.specs.Laws.Paths.{Through, found-through, first_found}

-- ---- the sections' targets
module _ (t : List Float) (A : Accepted t) where
  trio-target : (j : ℕ) → j < 24 → Target (get_or (trio_of t) j nan)
  trio-target j h =
      let l = (trio-fits j h).order_lt in
      subst Target (sym (tab_at Float nan (λ j. get_or t (coordinate j) nan) 24 j h))
      (record { fit = A.target.double (coordinate j) l; fin = A.target.bounded (coordinate j) l; low = A.low (coordinate j) l })

  target1 : (j : ℕ) → j < 8 → Target (get_or (targets_of t).t1 j nan)
  target1 j h = subst Target (sym (tab_at Float nan (λ j. get_or (trio_of t) j nan) 8 j h)) (trio-target j (up8 h))

  target2 : (j : ℕ) → j < 8 → Target (get_or (targets_of t).t2 j nan)
  target2 j h = subst Target (sym (tab_at Float nan (λ j. get_or (trio_of t) (8 + j) nan) 8 j h)) (trio-target (8 + j) (up16 h))

  target3 : (j : ℕ) → j < 8 → Target (get_or (targets_of t).t3 j nan)
  target3 j h = subst Target (sym (tab_at Float nan (λ j. get_or (trio_of t) (16 + j) nan) 8 j h)) (trio-target (16 + j) (up24 h))

  -- ---- the parities in order
  module _ (n : ℕ) where
    abbrev u : Rule
    u = rule_of n

    abbrev ts : Targets
    ts = targets_of t

    -- what a winner that was found is
    abbrev Good : Winner → Type 0
    Good w = w.found ≡ true → (w.p < 2) × Through w.p w.s1 w.s2 w.s3

    parity-good : (p : ℕ) → p < 2 → (u0 : Float) → Good (parity tables u ts p u0)
    unfolding parity
    parity-good p h u0 f = (h, found-through u (rule_ok n) ts target1 target2 target3 p h u0 f)

    over_good : (ps : List ℕ) → ((q : ℕ) → Memᴰ q ps → q < 2) → (best : Winner) → Good best → Good (search_over tables u ts best ps)
    over_good ps i =
        over_each tables u ts Good ps
        (λ q m best f. choose-either Good best (parity tables u ts q (cost_of best)) f (parity-good q (i q m) (cost_of best)))

    -- a path once found is kept
    choose-found : (a b : Winner) → a.found ≡ true → (choose a b).found ≡ true
    choose-found a b x = go b.found refl (not a.found || lt b.cost a.cost)
      where
        go : (c : Bool) → b.found ≡ c → (d : Bool) → (cond (c && d) b a).found ≡ true
        go true q true = q
        go true q false = x
        go false q d = x

    over_found : (ps : List ℕ) (best : Winner) → best.found ≡ true → (search_over tables u ts best ps).found ≡ true
    over_found ps = over_each tables u ts (λ w. w.found ≡ true) ps (λ q m best f. choose-found best (parity tables u ts q (cost_of best)) f)

    choose-first : (b : Winner) → b.found ≡ true → (choose nobody b).found ≡ true
    choose-first b f = subst (λ (c : Bool). (cond (c && true) b nobody).found ≡ true) (sym f) f

    -- ---- any parities, at least one of them
    pub finds : (ps : List ℕ) → 0 < length ps → ((q : ℕ) → Memᴰ q ps → q < 2) → (winner_for ps n t).found ≡ true
    unfolding search search_over
    finds [] l i = absurd (omega arith)
    finds (q ∷ qs) l i =
        over_found qs (choose nobody (parity tables u ts q infinity))
        (choose-first (parity tables u ts q infinity) (first_found u (rule_ok n) ts target1 target2 target3 q (i q (Memᴰ.head refl))))

    -- so its winner goes through three members (its point has a word: proofs/Search)
    pub winner-good : (ps : List ℕ) → 0 < length ps → ((q : ℕ) → Memᴰ q ps → q < 2)
        → ((winner_for ps n t).p < 2) × Through (winner_for ps n t).p (winner_for ps n t).s1 (winner_for ps n t).s2 (winner_for ps n t).s3
    unfolding search
    winner-good ps l i = over_good ps i nobody (λ q. absurd (subst T (sym q) tt)) (finds ps l i)
