-- `solve::base_at` meets its contract. The invariant: cost, key and distance are those of the first j coordinates, and each adds less than 65,536
-- to the cost. Assumes nothing.
use Prim.Native.Nat.{ℕ, suc, ◌+◌, ◌*◌, ◌%◌, ◌^◌}
use mathlib.Core.Path.{◌≡◌}
use mathlib.Core.List.{List}
use native.Mathlib.Numerals.{add-one}
use lib.ListN.{get_or}
use lib.Bits.{bit_or}
use lib.Ieee.{Float, binary64, add, nan, of_bits}
use Rattle.search.specs.declared.Candidate.{Candidate}
use Rattle.search.specs.Base.{slot_of}
use Rattle.coord.specs.declared.Rows.{Rows}
use Rattle.solve.specs.Inner.Flat.{base_in}
use borrow.Author.Rules.{rules}
use native.Mathlib.Omega.{arith}
use Rattle.solve.proofs.base_at.Goals as goal

more : (rows : Rows) (at : List ℕ) (j0 fix n : ℕ) {c k q f w r m : ℕ} {d : Float}
    → ◌≡◌ {A = Candidate} (record { cost = c; key = k; dist = d }) (base_in rows at j0 fix n) → q ≡ get_or at n 0 → f ≡ slot_of j0 fix n
    → w ≡ get_or rows.weight (5 * q + f) 0 → r ≡ get_or rows.rank (5 * q + f) 0 → m ≡ r * 2 ^ (4 * n) % 2 ^ 32
    → ◌≡◌ {A = Candidate} (record { cost = c + w; key = bit_or k m; dist = add binary64 d (get_or rows.dist (5 * q + f) nan) })
    (base_in rows at j0 fix (suc n))
unfolding base_in
more rows at j0 fix n h hq hf hw hr hm = rw (← h, hm, hw, hr, hf, hq)

pub loop-j-init : goal.loop-j-init
unfolding base_in of_bits
loop-j-init c = search rules

pub loop-j-preserved : goal.loop-j-preserved
loop-j-preserved c =
    let s = c.args in (
      omega arith,
      (
        omega arith,
        rw add-one (more s.rows.now s.at.now.at s.j0 s.fix c.loop-j.j c.loop-j.invariant.1.1
            c.place.ensures.0 c.slot.ensures.0 c.weight_at-cost.ensures.0 c.rank_at.ensures.0 c.nibble-key.ensures),
      ),
    )

pub returns : goal.returns
returns c = let e : c.loop-j.j ≡ 8 = omega arith in (rw e at c.loop-j.invariant.1.1, omega arith)
