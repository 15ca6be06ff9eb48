-- `count::put_block` meets its contract. The invariant: storing the counts that are left leaves what storing all of them at the start would.
-- Assumes nothing.
use borrow.Author.Rules.{rules}
use native.Mathlib.Omega.{arith}
use mathlib.Core.Path.{◌≡◌, sym, ap, ◌∙◌}
use mathlib.Core.List.{List, map}
use Prim.Native.Nat.{◌≤◌}
use lib.IntN.{ℤ, pos, nat_abs}
use lib.ListN.{length, get_or, length-set, length-map, get_or-map}
use lib.Seq.{sets}
use mir.Syntax.{w32}
use mir.Val.{SFits, to_z, of_z}
use mir.Facts.{to_z-of_z}
use Rattle.laws.specs.Laws.Lists.{store_next, store_end}
use Rattle.tetra.specs.Demand2.{coordinate-small}
use Rattle.page.specs.Counts.{count_of, block_counts}
use Rattle.page.proofs.Counting.{small-fits}
use Rattle.page.proofs.count.put_block.Goals as goal
use Rattle.page.proofs.count.put_block.Goals.{In-loop-j}

-- the coordinate at j is one of the word's point
coordinate : (c : In-loop-j) → nat_abs (get_or c.decode.result c.loop-j.j (pos 0)) ≤ 10
coordinate c = rw c.decode.ensures (coordinate-small c.args.word c.loop-j.j (omega arith))

back : (c : In-loop-j)
    → let y = get_or c.decode.result c.loop-j.j (pos 0) in
    to_z w32 (of_z w32 y) ≡ y
back c = to_z-of_z (small-fits _ (coordinate c))

pub count_by-requires : goal.count_by-requires
count_by-requires c = (
  rw (back (goal.at.count_by-requires c).In-loop-j) (coordinate (goal.at.count_by-requires c).In-loop-j),
  omega (arith, c.requires.1),
  omega arith,
)

pub loop-j-preserved : goal.loop-j-preserved
loop-j-preserved c =
    let l = c.loop-j in
    let p = c.decode.result in
    let a = c.args in
    let n : length p ≡ 24 = search rules in
    let f : SFits w32 c.count_by.result = search rules in
    let vs = map (count_of a.num) p in
    let m : length vs ≡ 24 = length-map p (count_of a.num) ∙ n in
    let e : to_z w32 (of_z w32 c.count_by.result) ≡ get_or vs l.j (count_of a.num (pos 0)) =
    to_z-of_z f ∙ c.count_by.ensures ∙ ap (count_of a.num) (back (goal.at.loop-j-preserved c).In-loop-j)
    ∙ sym (get_or-map (count_of a.num) p l.j (pos 0)) in (
      simp length-set l.invariant.0,
      rw e (sym (store_next ℤ (count_of a.num (pos 0)) vs l.out a.at l.j (omega arith)) ∙ l.invariant.1),
    )

pub returns : goal.returns
unfolding block_counts
returns c =
    let l = c.loop-j in
    let p = c.decode.result in
    let a = c.args in
    let n : length p ≡ 24 = search rules in
    let m : length (map (count_of a.num) p) ≡ 24 = length-map p (count_of a.num) ∙ n in
    sym (store_end ℤ (map (count_of a.num) p) l.out a.at l.j (omega arith)) ∙ l.invariant.1
    ∙ ap (λ (q : List ℤ). sets a.out.now a.at (map (count_of a.num) q)) c.decode.ensures
