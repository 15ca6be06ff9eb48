-- `solve::stepped` meets its contract. What is taken out of the cost lies in it. Assumes nothing.
use Prim.Native.Nat.{ℕ, ◌+◌, ◌-◌, ◌*◌}
use mathlib.Core.Path.{◌≡◌}
use mathlib.Core.Bool.{false, cond}
use mathlib.Core.List.{List}
use lib.ListN.{get_or}
use lib.Ieee.{binary64, add, sub, nan}
use Rattle.search.specs.declared.Candidate.{Candidate}
use Rattle.search.specs.Base.{key_set}
use Rattle.coord.specs.declared.Rows.{Rows}
use Rattle.solve.specs.Inner.Flat.{stepped_in}
use Rattle.solve.proofs.stepped.Goals as goal

made : (rows : Rows) (at : List ℕ) (s : Candidate) (j : ℕ) {i f a b x k : ℕ} → i ≡ get_or at j 0
    → f ≡ cond (get_or rows.up i false) 3 1 → a ≡ get_or rows.weight (5 * i + 2) 0 → b ≡ get_or rows.weight (5 * i + f) 0 → x ≡ get_or rows.rank (5 * i + f) 0
    → k ≡ key_set s.key j x
    → ◌≡◌ {A = Candidate}
    (record { cost = s.cost - a + b; key = k; dist = add binary64 (sub binary64 s.dist (get_or rows.dist (5 * i + 2) nan)) (get_or rows.dist (5 * i + f) nan) })
    (stepped_in rows at s j)
unfolding stepped_in
made rows at s j hi hf ha hb hx hk = rw (hk, hx, hb, ha, hf, hi)

pub returns : goal.returns
returns c =
    let s = c.args in
    made s.rows.now s.at.now.at s.s s.j c.place-i.ensures.0
    c.toward.ensures.0 c.weight_at.ensures.0 c.weight_at-2.ensures.0
    c.rank_at.ensures.0 c.key_set-key.ensures
