-- `write::hex_digits` meets its contract. Assumes nothing.
use native.Mathlib.Omega.{arith}
use mathlib.Core.Path.{◌≡◌, refl, sym, ap, ◌∙◌}
use Prim.Native.Nat.{ℕ, suc, ◌+◌, ◌-◌}
use lib.ListN.{length-set}
use lib.Seq.{sets}
use Rattle.text.specs.Text.{hex}
use Rattle.text.proofs.Digits.{digit-next}
use Rattle.text.proofs.write.hex_digits.Goals as goal

pub loop-j-preserved : goal.loop-j-preserved
loop-j-preserved c =
    let l = c.loop-j in
    let a = c.args in
    let i = a.k - 1 - l.j in
    let left : a.k - l.j ≡ suc i = omega arith in
    let next : a.k - (l.j + 1) ≡ i = omega arith in (
      omega arith,
      simp length-set l.invariant.1,
      rw (c.hex_digit.ensures, next) (digit-next l.out a.at i l.v ∙ ap (λ (k : ℕ). sets l.out a.at (hex k l.v)) (sym left) ∙ l.invariant.2),
    )

pub returns : goal.returns
unfolding hex
returns c =
    let l = c.loop-j in
    let none : c.args.k - l.j ≡ 0 = omega arith in
    (refl, rw none at l.invariant.2)
