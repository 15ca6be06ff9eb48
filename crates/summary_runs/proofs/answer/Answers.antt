-- `answer` is safe: a summary is of 64 blocks at most.
use Rattle.std.proofs.Common.{◌≡◌, ◌≤◌, ◌==◌, ℕ, Bool, true, false, cond, List, length, refl, arith}
use Rattle.page.specs.Answer.{words_in}
use Rattle.page.specs.Reader.{reading_of}
use Rattle.page.specs.Laws.Answer.{few_words}
use Rattle.std.specs.Prelude.{Result, Ok, Err}
use Rattle.std.specs.Result.{result_unwrap_or}
use Rattle.refusal.specs.declared.Refusal.{Refusal}
use Rattle.summary.specs.Answer.{Summed, summed_by, summarise_number, summarised}
use Rattle.summary_runs.proofs.answer.Goals as goal

few : (text : List ℕ) (cells : ℕ) (r : Summed) → r ≡ summarised (reading_of text) cells → r.count ≤ 64
unfolding summarised
few text cells r e = rw e (go (summarise_number (reading_of text) cells == 0))
  where
    go : (b : Bool) → cond b (length (words_in (reading_of text))) 0 ≤ 64
    go true = few_words text
    go false = omega arith

count : (r : Result ℕ Refusal) → result_unwrap_or r 0 ≡ (summed_by r).count
count (Ok n) = refl
count (Err e) = refl

most : (text : List ℕ) (cells n : ℕ) (r : Result ℕ Refusal) → summed_by r ≡ summarised (reading_of text) cells → n ≡ result_unwrap_or r 0 → n ≤ 64
most text cells n r e u = omega (arith, u, count r, few text cells (summed_by r) e)

pub shown-requires : goal.shown-requires
shown-requires g c = most _ _ _ _ c.summarise-summed.ensures.value c.unwrap_or-count.ensures

pub show_checks-requires : goal.show_checks-requires
show_checks-requires g c = most _ _ _ _ c.summarise-summed.ensures.value c.unwrap_or-count.ensures

pub show_adds-requires : goal.show_adds-requires
show_adds-requires g c = most _ _ _ _ c.summarise-summed.ensures.value c.unwrap_or-count.ensures
