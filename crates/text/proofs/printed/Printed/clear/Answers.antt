-- `Printed::clear` meets its contract: zeros stand where the text did, and behind it. Assumes nothing.
use Rattle.text.proofs.Held.{cleared}
use Rattle.text.proofs.printed.Printed.clear.Goals as goal

pub invariant_of-self : goal.invariant_of-self
invariant_of-self g c = cleared g.row.N c.self.inside c.self.invariant c.fill.new.self (c.fill.ensures.after (λ y e. e))
