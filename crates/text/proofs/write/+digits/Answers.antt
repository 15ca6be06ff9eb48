-- `write::digits` meets its contract: it calls itself on n / 10, and writes the last digit behind. Assumes nothing.
use Rattle.std.proofs.Common.{refl, sym, arith, [], ◌∷◌, ℕ, ◌+◌, ◌/◌, ◌%◌, ◌≤◌}
use Rattle.laws.specs.Laws.Lists.{sets-append}
use Rattle.text.specs.Text.{decimal}
use Rattle.text.specs.Laws.Text.{decimal-small, decimal_more, decimal-longer, decimal-some}
use Rattle.text.proofs.write.+digits.Goals as goal

pub bounds-out-at : goal.bounds-out-at
bounds-out-at t c = omega (arith, c.requires, decimal-some c.args.n)

pub returns-then-n-lt10 : goal.returns-then-n-lt10
returns-then-n-lt10 t c = rw (decimal-small c.args.n c.if-n-lt10.true) (refl, refl)

pub digits-next-requires : goal.digits-next-requires
digits-next-requires t c =
    let l : 10 ≤ c.args.n = c.if-n-lt10.false in
    (omega arith, omega (arith, decimal-longer c.args.n l))

pub bounds-out-next : goal.bounds-out-next
bounds-out-next t c =
    let l : 10 ≤ c.args.n = c.if-n-lt10.false in
    omega (arith, c.digits-next.ensures.0, c.digits-next.auto.out, decimal-longer c.args.n l)

pub overflow_add-result-2 : goal.overflow_add-result-2
overflow_add-result-2 t c =
    let l : 10 ≤ c.args.n = c.if-n-lt10.false in
    omega (arith, c.digits-next.ensures.0, decimal-longer c.args.n l)

pub returns : goal.returns
returns t c =
    let n = c.args.n in
    let q = c.digits-next.ensures in
    let l : 10 ≤ n = c.if-n-lt10.false in (
      omega (arith, q.0, decimal-longer n l),
      rw (q.0, q.1, decimal_more n l) (sym (sets-append ℕ (decimal (n / 10)) ((48 + n % 10) ∷ []) c.args.out.now c.args.at)),
    )
