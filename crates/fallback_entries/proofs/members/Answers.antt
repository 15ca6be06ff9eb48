-- `fallback_entries::members` meets its contract: each call gives a member. Assumes nothing.
use Rattle.std.proofs.Common.{rules}
use Rattle.std.specs.Float.{nan}
use Rattle.laws.specs.Laws.Made.{made}
use Rattle.fallback_entries.specs.Inner.Flat.{member_at, members_of}
use Rattle.fallback_entries.proofs.members.Goals as goal

pub returns : goal.returns
unfolding members_of
returns c = made _ _ (member_at c.args.p) c.from_fn.result 8 (λ i y q l e. search rules) nan c.from_fn.ensures.items
