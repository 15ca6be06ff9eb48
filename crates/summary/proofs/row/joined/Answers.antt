-- `row::joined` meets its contract. Assumes nothing.
use Rattle.std.proofs.Common.{rules, ◌≡◌, ◌∙◌, ◌^◌, ◌≤◌, ne_eqb, ℤ, nat_abs, ◌+ℤ◌, w32, SFits, to_z, of_z, to_z-of_z}
use Rattle.summary.proofs.Blocks.{sum_fits}
use Rattle.summary.proofs.Orders.{max_is}
use Rattle.summary.proofs.row.joined.Goals as goal

-- the sum of two cells through the 32 bits that the code reads
cells-fit : (x y : ℤ) → SFits w32 x → SFits w32 y → nat_abs x ≤ 2 ^ 29 → nat_abs y ≤ 2 ^ 29
    → SFits w32 (to_z w32 (of_z w32 x) +ℤ to_z w32 (of_z w32 y))
cells-fit x y f g h k = rw (to_z-of_z f, to_z-of_z g) (sum_fits x y h k)

through : (x y : ℤ) → SFits w32 x → SFits w32 y → nat_abs x ≤ 2 ^ 29 → nat_abs y ≤ 2 ^ 29
    → to_z w32 (of_z w32 (to_z w32 (of_z w32 x) +ℤ to_z w32 (of_z w32 y))) ≡ x +ℤ y
through x y f g h k = to_z-of_z (cells-fit x y f g h k) ∙ rw (to_z-of_z f, to_z-of_z g)

pub overflow_add-result : goal.overflow_add-result
overflow_add-result c =
    let x : SFits w32 c.args.page.sum = search rules in
    let y : SFits w32 c.args.block.sum = search rules in
    cells-fit _ _ x y c.requires.0 c.requires.1

pub overflow_add-result-2 : goal.overflow_add-result-2
overflow_add-result-2 c =
    let x : SFits w32 c.args.page.odd = search rules in
    let y : SFits w32 c.args.block.odd = search rules in
    cells-fit _ _ x y c.requires.2 c.requires.3

pub returns : goal.returns
returns c =
    let x = c.args.page in
    let y = c.args.block in
    let f : SFits w32 c.max.result = search rules in
    let g : SFits w32 c.min.result = search rules in
    let x0 : SFits w32 x.sum = search rules in
    let y0 : SFits w32 y.sum = search rules in
    let x1 : SFits w32 x.largest = search rules in
    let y1 : SFits w32 y.largest = search rules in
    let x2 : SFits w32 x.smallest = search rules in
    let y2 : SFits w32 y.smallest = search rules in
    let x3 : SFits w32 x.odd = search rules in
    let y3 : SFits w32 y.odd = search rules in
    let high = to_z-of_z f ∙ c.max.ensures.value ∙ max_is (to_z w32 (of_z w32 x.largest)) (to_z w32 (of_z w32 y.largest)) in
    let low = to_z-of_z g ∙ c.min.ensures.value in
    let some = ne_eqb c.args.count 0 c.if-count-eq0.false in
    rw (through _ _ x0 y0 c.requires.0 c.requires.1, through _ _ x3 y3 c.requires.2 c.requires.3, high, low, to_z-of_z x1, to_z-of_z y1, to_z-of_z x2, to_z-of_z y2, some)
