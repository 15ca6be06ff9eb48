-- `solve::moves` meets its contract. The invariant: the best is that after the turns of the first j coordinates. Assumes nothing.
use mathlib.Core.Bool.{false, cond}
use mathlib.Core.List.{List}
use native.Mathlib.Numerals.{add-one}
use lib.ListN.{get_or}
use lib.Dec.{eqb}
use Rattle.search.specs.declared.Closed.{Closed}
use Rattle.search.specs.declared.Best.{Best}
use Rattle.search.specs.declared.Candidate.{Candidate}
use Rattle.search.specs.declared.Top.{Top}
use Rattle.search.specs.Base.{slot_of}
use Rattle.search.specs.Solve.{other_of}
use Prim.Native.Nat.{ℕ, suc, ◌≤◌, ◌+◌, ◌*◌}
use mathlib.Core.Path.{◌≡◌}
use Rattle.coord.specs.declared.Rows.{Rows}
use Rattle.solve.specs.Inner.Flat.{spot, turn_in, moves_in}
use borrow.Author.Rules.{rules}
use native.Mathlib.Omega.{arith}
use Rattle.solve.proofs.moves.Goals as goal

covered : (rows : Rows) (at : List ℕ) (top : Top) (fix j cost : ℕ) {o q f g q2 : ℕ}
    → get_or rows.weight (spot at j (slot_of top.j0 fix j)) 0 + get_or rows.weight
    (spot at (other_of j top.j0 top.j1) (slot_of top.j0 fix (other_of j top.j0 top.j1))) 0 ≤ cost
    → o ≡ other_of j top.j0 top.j1 → q ≡ get_or at j 0 → f ≡ slot_of top.j0 fix j → g ≡ slot_of top.j0 fix o → q2 ≡ get_or at o 0
    → get_or rows.weight (5 * q + f) 0 + get_or rows.weight (5 * q2 + g) 0 ≤ cost
covered rows at top fix j cost h ho hq hf hg h2 = rw (hq, hf, h2, hg, ho) h

moved : (rows : Rows) (at : List ℕ) (top : Top) (fix : ℕ) (bound : Closed) (n : Candidate) (start : Best)
    (j : ℕ)
    {best x : Best} {o q f g q2 t t2 : ℕ}
    → best ≡ moves_in rows at top fix bound n start j → o ≡ other_of j top.j0 top.j1 → q ≡ get_or at j 0 → f ≡ slot_of top.j0 fix j
    → g ≡ slot_of top.j0 fix o → q2 ≡ get_or at o 0 → t ≡ cond (get_or rows.up q2 false) 3 1 → t2 ≡ cond (eqb g 2) t 2
    → x ≡ turn_in rows bound n best j (5 * q + f) o (5 * q2 + g) (5 * q2 + t2)
    → x ≡ moves_in rows at top fix bound n start (suc j)
unfolding moves_in
moved rows at top fix bound n start j hb ho hq hf hg h2 ht ht2 e = rw (e, ht2, ht, h2, hg, hf, hq, ho, hb)

pub loop-j-init : goal.loop-j-init
unfolding moves_in
loop-j-init c = search rules

pub turn-best-requires-clause-covered : goal.turn-best-requires-clause-covered
turn-best-requires-clause-covered c =
    let s = c.args in
    covered s.rows.now s.at.now.at s.top s.fix c.loop-j.j s.n.cost (c.requires.covered c.loop-j.j c.loop-j-test.true)
    c.other-j2.ensures.0 c.place.ensures.0 c.slot.ensures.0 c.slot-g.ensures.0 c.place-i2.ensures.0

pub loop-j-preserved : goal.loop-j-preserved
loop-j-preserved c =
    let s = c.args in (
      omega arith,
      rw add-one (moved s.rows.now s.at.now.at s.top s.fix s.bound s.n s.start
          c.loop-j.j c.loop-j.invariant.1 c.other-j2.ensures.0 c.place.ensures.0 c.slot.ensures.0 c.slot-g.ensures.0 c.place-i2.ensures.0
          c.toward.ensures.0 c.second.ensures.0 c.turn-best.ensures),
    )

pub returns : goal.returns
returns c = let e : c.loop-j.j ≡ 8 = omega arith in rw e at c.loop-j.invariant.1
