-- `rows::place_of` meets its contract: the last of the rows of its class that come no later is w, if any row is. Assumes nothing.
use Rattle.std.proofs.Common.{rules, ◌≡◌, ◌∙◌, sym, ap, subst, arith, ℕ, ◌+◌, ◌*◌, ◌<◌, List}
use Rattle.std.specs.List.{slice_range}
use Rattle.std.specs.List.Sorted.{IsPartitionedBy}
use Rattle.std.proofs.lemmas.List.Sorted.{IsPartitionPoint-from_clause}
use Rattle.rank.specs.Vector.{cost, unpack}
use Rattle.rank.specs.Answers.{Costed, costed_of}
use Rattle.rank.specs.Laws.Vector.{unpack-below, cost-accepted, cost_or_zero, class_or_zero}
use Rattle.rows.proofs.Search.{class_of, comes, parted, found}
use Rattle.rows.proofs.place_of.Goals as goal

pub overflow_mul-from : goal.overflow_mul-from
overflow_mul-from c = omega (arith, (class_of c.args.w c.unpack-rho.ensures c.rank_class.ensures (c.unwrap_or-class.ensures ∙ class_or_zero c.rank_class.result)).1)

pub slice_bounds-of_class-end : goal.slice_bounds-of_class-end
slice_bounds-of_class-end c =
    let two : c.unwrap_or-class.result < 2 = (class_of c.args.w c.unpack-rho.ensures c.rank_class.ensures (c.unwrap_or-class.ensures ∙ class_or_zero c.rank_class.result)).1 in
    search rules

pub returns : goal.returns
returns c =
    let w = c.args.w in
    let u = c.unpack-rho in
    let side = c.unwrap_or-class.result in
    let C = c.unwrap_or-cost.result in
    let n = c.partition_point-upto.result in
    let k = class_of w u.ensures c.rank_class.ensures (c.unwrap_or-class.ensures ∙ class_or_zero c.rank_class.result) in
    let dear : C ≡ cost (unpack 8 w) =
    c.unwrap_or-cost.ensures ∙ cost_or_zero c.cost.result
    ∙ ap (λ (r : Costed). r.cost) (c.cost.ensures ∙ ap costed_of u.ensures)
    ∙ cost-accepted (unpack 8 w) (unpack-below 8 w) in
    let part : List ℕ → List ℕ = λ (l : List ℕ). slice_range l (2048 * side) (2048 * side + 2048) in
    let p = IsPartitionPoint-from_clause (comes C u.result) (part c.args.t.now) n c.partition_point-upto.ensures.partitioned
    (subst (λ (l : List ℕ). IsPartitionedBy (comes C u.result) (part l)) (sym c.requires) (parted side k.1 C u.result))
    (λ a r f e. search rules) in
    let f = found w side C u.result n c.args.t.now c.requires k.0 k.1 dear u.ensures c.partition_point-upto.ensures.bound p in
    (omega (arith, f.0), λ i h e. f.1 i h e ∙ ap (λ (m : ℕ). 2048 * side + m) (sym c.saturating_sub.ensures))
