-- `float::quotients` meets its contract: every place holds its quotient. Assumes nothing.
use Rattle.std.proofs.Common.{◌≡◌, ℕ, List, length, get_or, sym, ap, ◌∙◌, arith, rules}
use Rattle.std.specs.Prelude.{Float}
use Rattle.std.specs.Float.{nan, binary64}
use Rattle.std.specs.Float.Ieee.{div}
use Rattle.laws.specs.Laws.Lists.{tab-length, tab_at}
use Rattle.laws.specs.Laws.Made.{made}
use Rattle.float.proofs.Lists.{quotients-filled}
use Rattle.float.proofs.quotients.Goals as goal

pub returns : goal.returns
returns c =
    let x = c.args.x in
    let n : length x ≡ 24 = search rules in
    let h : ℕ → Float = λ i. div binary64 (get_or x i nan) c.args.s in
    let e = made _ _ h c.from_fn.result 24 (λ i y q l e. search rules) nan c.from_fn.ensures.items in
    quotients-filled x c.args.s c.from_fn.result (ap length e ∙ tab-length Float h 24 ∙ sym n)
    (λ k l. ap (λ (t : List Float). get_or t k nan) e ∙ tab_at Float nan h 24 k (omega (arith, n)))
