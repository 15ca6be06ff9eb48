-- `listing::under_cap`: the measure of the calls is the number of open coordinates. The loop's invariant says what is left: to store the rest of the
-- listing from `at` on gives what to store all of it from the start on would have given. Assumes nothing.
use Rattle.std.proofs.Common.{◌≡◌, ◌+◌, ◌≤◌, length}
use Rattle.std.proofs.lemmas.List.Edits.{sets}
use Rattle.listing.specs.Listing.{under}
use Rattle.listing.proofs.Rest.{rest_of}
use Rattle.listing.proofs.+under_cap.Given as goal

abbrev pub decreases-under_cap : goal.decreases-under_cap
decreases-under_cap l = l.left

abbrev pub invariant-loop-r : goal.invariant-loop-r
invariant-loop-r l =
    (l.r ≤ 6) × (length l.out ≡ length l.initial.out) × (l.at + length (rest_of l.rest l.row l.spent l.r) ≡ length (under l.left l.row l.spent))
    × (sets l.out l.at (rest_of l.rest l.row l.spent l.r) ≡ sets l.initial.out 0 (under l.left l.row l.spent))
