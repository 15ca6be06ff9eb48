-- The constants of the search by what they are: the shrinks by their decimals, how many of them a setting runs, the
-- two seed joins, the order of the parities, the last of the sixteen paired steps. Were one of them changed in the
-- definition and in the code together, the statement here would be false. Assumes nothing.
use Rattle.std.specs.Prelude.{◌≡◌, Bool, true, false, cond, not, ◌&&◌, ◌||◌, List, [], ◌∷◌, map, ℕ, ◌≤◌, ltb, pos, Float}
use Rattle.std.proofs.Math.Path.{refl, ap}
use Rattle.std.proofs.Common.{ap₂, sym, subst, ◌∙◌, arith, lt-ltb, le-ltb, ltb-false}
use Rattle.std.specs.Float.{fin, binary64}
use Rattle.std.specs.Float.Ieee.{of_bits, of_int, add, sub, mul, div, sum, lt, le, round, size}
use Rattle.laws.specs.Words.{tab}
use Rattle.rank.specs.Coord.{rank_of}
use Rattle.rank.specs.Answers.{mark_of}
use Rattle.float.specs.Value.{mag_units, zero64}
use Rattle.float.specs.Calls.{abs_of, half_up, round_away, clamped, rounded}
use Rattle.search.specs.Record.{shrinks, coord_of, row}
use Rattle.search.specs.Bound.{lex_num, lex_of}
use Rattle.search.specs.Base.{par_to, now_to}
use Rattle.search.specs.Solve.{infinity, top_to, key_moved, step_of, moves_to, layers_to, solve}
use Rattle.search.specs.Tables.{Tables, tables}
use Rattle.search.specs.Entries.{Rule}
use Rattle.search.specs.Join.{join}
use Rattle.search.specs.declared.Targets.{Targets}
use Rattle.search.specs.Parity.{Winner, starts, Seed, seed_by, seed_to, seed_of}
use Rattle.search.specs.Parity.{parity, nobody, cost_of, choose, search_over, both_parities, search}
use Rattle.search.specs.Block.{rule_of}

-- ---- the shrinks are the doubles nearest to 1, .85, .7, .55, .4, .25, .1 and 0
-- n hundredths, rounded to the nearest double, at a tie to the even one
abbrev hundredths : ℕ → Float
hundredths n = round binary64 false n 100

pub shrinks-nearest : shrinks ≡ map hundredths (100 ∷ 85 ∷ 70 ∷ 55 ∷ 40 ∷ 25 ∷ 10 ∷ 0 ∷ [])
unfolding shrinks of_bits round size
shrinks-nearest = refl

-- ---- setting n runs n of them, up to 7 at the ends and up to 8 in the middle
pub few_shrinks : (n : ℕ) → n ≤ 7 → rule_of n ≡ record { ends = n; mids = n }
few_shrinks n h = go (ltb n 7) refl
  where
    go : (b : Bool) → ltb n 7 ≡ b → rule_of n ≡ record { ends = n; mids = n }
    go true e = rw (e, lt-ltb n 8 (omega arith))
    go false e =
        let q : n ≡ 7 = omega (arith, ltb-false n 7 e) in
        subst (λ (z : ℕ). rule_of z ≡ record { ends = z; mids = z }) (sym q) refl

pub all_shrinks_lem : (n : ℕ) → 8 ≤ n → rule_of n ≡ record { ends = 7; mids = 8 }
all_shrinks_lem n h = rw (le-ltb n 7 (omega arith), le-ltb n 8 h)

-- a winner that was found stays where the next is not strictly cheaper
stays : (w v : Winner) → w.found ≡ true → lt v.cost w.cost ≡ false → choose w v ≡ w
stays w v f h = ap₂ (λ (a b : Bool). cond (v.found && (not a || b)) v w) f h ∙ go v.found
  where
    go : (b : Bool) → cond (b && (not true || false)) v w ≡ w
    go true = refl
    go false = refl

-- ---- two seed joins, of which the second is left out where the first found a path that is all exact
module _ (g : Tables) (u : Rule) (t : Targets) where
  abbrev again : ℕ → Seed → Seed
  again p s = cond s.done s (seed_by g u t p s (join g p s.sides))

  pub two-seed_joins : (p : ℕ) (u0 : Float)
      → seed_of g u t p u0 ≡ again p (again p (record { sides = starts g t p; u = u0; done = false }))
  unfolding seed_to
  two-seed_joins p u0 = refl

  -- ---- parity 0 goes first: where parity 1 is not strictly cheaper, its winner stays
  pub parity_0-first : (parity g u t 0 infinity).found ≡ true
      → lt (parity g u t 1 (parity g u t 0 infinity).cost).cost (parity g u t 0 infinity).cost ≡ false
      → search g u t both_parities ≡ parity g u t 0 infinity
  unfolding search search_over
  parity_0-first f h =
      ap (λ (w : Winner). choose w (parity g u t 1 (cost_of w))) start
      ∙ ap (λ (c : Float). choose even (parity g u t 1 c)) known
      ∙ stays even (parity g u t 1 even.cost) f h
    where
      even : Winner
      even = parity g u t 0 infinity

      start : choose nobody even ≡ even
      start = ap (λ (b : Bool). cond (b && true) even nobody) f

      known : cost_of even ≡ even.cost
      known = ap (λ (b : Bool). cond b even.cost infinity) f

-- ---- the sixteenth paired step, coordinate 7 upward, is tried. Of the target 0, 7, 0, 0, 0, 0, 0, -8 at parity 0 and
-- the byte 10 the first fifteen find rank 4 at coordinate 7, at distance 29; the last finds rank 2 at coordinates 1
-- and 7, at distance 21
abbrev last_step_target : List Float
last_step_target =
    zero64 ∷ fin false 7 (pos 0) ∷ zero64 ∷ zero64 ∷ zero64 ∷ zero64 ∷ zero64 ∷ fin true 1 (pos 3) ∷ []

pub sixteenth_step : solve last_step_target 0 10 0 tables.class1 1
    ≡ record { d = fin false 21 (pos 0); key = 0x20000020; met = true }
unfolding solve layers_to moves_to step_of key_moved top_to par_to now_to row coord_of shrinks tab mark_of rank_of lex_of
    lex_num
sixteenth_step =
    unfold clamped rounded round_away half_up abs_of mag_units of_bits of_int add sub mul div sum lt le round size in refl
