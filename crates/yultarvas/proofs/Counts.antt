-- What a call answers and leaves that answers a count: the number k, and a cell that held `old`. Assumes nothing.
use mathlib.Core.Path.{◌≡◌, ap, sym, ◌∙◌}
use Prim.Native.Nat.{ℕ}
use borrow.Author.Tests.{eq-eqb}
use Rattle.std.specs.Prelude.{Result, Ok, Err}
use Rattle.std.specs.Result.{result_unwrap_or}
use Rattle.refusal.specs.declared.Refusal.{Refusal}
use Rattle.refusal.specs.Refusal.{number_in}
use Rattle.refusal.specs.Laws.{never_0}
use Rattle.page.specs.Answer.{PageRead, read_by}
use Rattle.summary.specs.Answer.{Summed, summed_by, summed}
use Rattle.yultarvas.specs.Calls.{left}
use Rattle.yultarvas.specs.Laws.Room.{left_new, left_old}

-- of a page that is read
pub read_cell : (r : Result ℕ Refusal) (p : PageRead) (k old : ℕ) → read_by r ≡ p → k ≡ number_in r
    → (k ≡ p.number) × (result_unwrap_or r old ≡ left p.number p.count old)
read_cell (Ok count) p k old e h =
    let n : 0 ≡ p.number = ap (λ (x : PageRead). x.number) e in
    (h ∙ n, ap (λ (x : PageRead). x.count) e ∙ left_new ℕ p.number p.count old (sym n))
read_cell (Err r) p k old e h =
    let n = ap (λ (x : PageRead). x.number) e in
    (h ∙ n, left_old ℕ p.number p.count old (λ z. never_0 r (n ∙ z)))

-- of a summary that is made
pub summed_cell : (r : Result ℕ Refusal) (number count k old : ℕ) → summed_by r ≡ summed number count → k ≡ number_in r
    → (k ≡ number) × (result_unwrap_or r old ≡ left k count old)
summed_cell (Ok n) number count k old e h =
    let z : 0 ≡ number = ap (λ (x : Summed). x.number) e in
    (h ∙ z, ap (λ (x : Summed). x.count) e ∙ rw (eq-eqb number 0 (sym z)) (left_new ℕ k count old h))
summed_cell (Err r) number count k old e h =
    (h ∙ ap (λ (x : Summed). x.number) e, left_old ℕ k count old (λ z. never_0 r (sym h ∙ z)))
