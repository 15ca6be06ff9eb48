-- `rank::mark`: what the lookup in y's own o + 4Z answers, as a mark. Assumes nothing.
use mathlib.Core.Path.{◌≡◌, refl, ap, ap₂, ◌∙◌}
use mathlib.Core.Bool.{Bool, true, false, cond}
use Prim.Native.Nat.{ℕ}
use borrow.Author.Tests.{lt-ltb, eq-eqb}
use lib.Dec.{ltb}
use lib.IntN.{ℤ}
use mir.Facts.{to_z-of_z}
use Rattle.std.proofs.Common.{rules, arith}
use Rattle.std.specs.Prelude.{Option, Some, None, Result, Ok, Err}
use Rattle.std.specs.Option.{unwrap_or, option_flatten}
use Rattle.std.specs.Result.{result_ok}
use Rattle.refusal.specs.declared.Refusal.{Refusal}
use Rattle.laws.specs.Words.{mod_z}
use Rattle.laws.specs.Laws.Whole.{mod4-lt}
use Rattle.rank.specs.Coord.{rank_of}
use Rattle.rank.specs.Answers.{reach, no_rank, Ranked, Rank, Nothing, Refused, ranked_by, ranked_of, mark_of}
use Rattle.rank.specs.Laws.Lookup.{mark-lt}
use Rattle.rank.proofs.mark.Goals as goal

abbrev mark_in : Ranked → ℕ
mark_in (Rank r) = r
mark_in Nothing = no_rank
mark_in Refused = no_rank

mark_in_lem : (y : ℤ) → mark_in (ranked_of (mod_z y 4) y) ≡ mark_of y
unfolding ranked_of mark_of
mark_in_lem y = rw (lt-ltb (mod_z y 4) 4 (mod4-lt y), eq-eqb (mod_z y 4) (mod_z y 4) refl) (go (ltb (rank_of y) reach))
  where
    go : (b : Bool) → mark_in (cond b (Rank (rank_of y)) Nothing) ≡ cond b (rank_of y) no_rank
    go true = refl
    go false = refl

-- the mark that is read off an answer
mark_by : (a : Result (Option ℕ) Refusal) → unwrap_or (option_flatten (result_ok a)) no_rank ≡ mark_in (ranked_by a)
mark_by (Ok (Some r)) = refl
mark_by (Ok None) = refl
mark_by (Err r) = refl

pub returns : goal.returns
returns c =
    let y = c.args.y in
    let back = to_z-of_z c.ranges.y in
    let told : c.unwrap_or.result ≡ unwrap_or (option_flatten (result_ok c.rank_of.result)) no_rank = search rules in
    let is : c.unwrap_or.result ≡ mark_of y =
    told ∙ mark_by c.rank_of.result ∙ ap mark_in (c.rank_of.ensures.0 ∙ ap₂ ranked_of (c.residue.ensures.0 ∙ ap (λ (x : ℤ). mod_z x 4) back) back) ∙ mark_in_lem y in
    (is, omega (arith, is, mark-lt y))
