-- `rank::rank_of`: the first rank of the reach whose member is y, or none. Assumes nothing.
use Rattle.std.proofs.Common.{rules, ◌≡◌, refl, ℕ}
use Rattle.std.proofs.lemmas.Iterator.{YieldsList-from_range, first_from_find}
use borrow.Author.Tests.{tests}
use Rattle.rank.specs.Coord.{val_of}
use Rattle.rank.proofs.Lookup.{promised_refused, promised_found}
use Rattle.rank.proofs.rank_of.Goals as goal

pub returns-then-o-ge4 : goal.returns-then-o-ge4
returns-then-o-ge4 c = promised_refused c.args.o c.args.y c.if-o-ge4.true

pub returns : goal.returns
returns c =
    let a = c.args in
    promised_found a.o a.y c.find.result c.if-o-ge4.false
    (first_from_find _ _ c.find.result (λ (r : ℕ). val_of a.o r ≡ a.y) (λ (r : ℕ). val_of a.o r ≡ a.y → ⊥) c.find.ensures.ran
    (YieldsList-from_range 0 8 8 refl refl) (λ x q k. search (rules, tests)) (λ x q k. search (rules, tests)))
