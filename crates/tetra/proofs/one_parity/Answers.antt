-- `tetra::one_parity`: what is left of the row says what the whole row says. Assumes nothing.
use mathlib.Core.Path.{◌≡◌, ap, sym, ◌∙◌}
use mathlib.Core.Bool.{Bool, ◌&&◌}
use Prim.Native.Nat.{ℕ, ◌+◌}
use native.Mathlib.Omega.{arith}
use borrow.Author.Tests.{eq-eqb, ne_eqb}
use borrow.Author.Rules.{rules}
use mir.Syntax.{w32}
use mir.Val.{SFits}
use mir.Facts.{to_z-of_z}
use lib.ListN.{length, get_or, drop}
use lib.IntN.{pos}
use Rattle.rank.specs.Coord.{parity_of}
use Rattle.rank.specs.Section.{uniform}
use Rattle.tetra.proofs.Rows.{uniform-next, uniform_end}
use Rattle.tetra.proofs.one_parity.Goals as goal

pub returns-then-parity-p : goal.returns-then-parity-p
returns-then-parity-p c =
    let l = c.loop-j in
    let a = c.args in
    let e : length a.y ≡ 24 = search rules in
    let f : SFits w32 (get_or a.y l.j (pos 0)) = record { sfits = c.parity-arg-1.given } in
    sym (sym l.invariant.1 ∙ uniform-next a.y a.p l.j (omega arith)
    ∙ ap (λ (b : Bool). b && uniform a.p (drop (l.j + 1) a.y))
    (ne_eqb _ a.p (λ q. c.if-parity-p.true (c.parity.ensures.0 ∙ ap parity_of (to_z-of_z f) ∙ q))))

pub loop-j-preserved : goal.loop-j-preserved
loop-j-preserved c =
    let l = c.loop-j in
    let a = c.args in
    let e : length a.y ≡ 24 = search rules in
    let f : SFits w32 (get_or a.y l.j (pos 0)) = record { sfits = c.parity-arg-1.given } in
    let q : parity_of (get_or a.y l.j (pos 0)) ≡ a.p = sym (c.parity.ensures.0 ∙ ap parity_of (to_z-of_z f)) ∙ c.if-parity-p.false in (
      omega arith,
      sym (uniform-next a.y a.p l.j (omega arith)
          ∙ ap (λ (b : Bool). b && uniform a.p (drop (l.j + 1) a.y)) (eq-eqb _ a.p q)) ∙ l.invariant.1,
    )

pub returns : goal.returns
returns c =
    let l = c.loop-j in
    let a = c.args in
    let e : length a.y ≡ 24 = search rules in
    let n : l.j ≡ 24 = omega arith in
    sym (uniform_end a.y e a.p) ∙ ap (λ (m : ℕ). uniform a.p (drop m a.y)) (sym n) ∙ l.invariant.1
