-- `score::doubles` meets its contract: each place by its own call. Assumes nothing.
use Rattle.std.proofs.Common.{◌≡◌, ℕ, ℤ, List, length, get_or, pos, sym, ap, ◌∙◌, arith, rules}
use Rattle.std.specs.Prelude.{Float}
use Rattle.std.specs.Float.{nan, binary64}
use Rattle.std.specs.Float.Ieee.{of_int}
use Rattle.laws.specs.Laws.Lists.{tab-length, tab_at}
use Rattle.laws.specs.Laws.Made.{made}
use Rattle.score.proofs.Lists.{doubles-filled}
use Rattle.score.proofs.doubles.Goals as goal

pub returns : goal.returns
returns c =
    let y = c.args.y in
    let n : length y ≡ 24 = search rules in
    let h : ℕ → Float = λ i. of_int binary64 (get_or y i (pos 0)) in
    let e = made _ _ h c.from_fn.result 24 (λ i z q l e. search rules) nan c.from_fn.ensures.items in
    doubles-filled y c.from_fn.result (ap length e ∙ tab-length Float h 24 ∙ sym n)
    (λ k l. ap (λ (t : List Float). get_or t k nan) e ∙ tab_at Float nan h 24 k (omega (arith, n)))
