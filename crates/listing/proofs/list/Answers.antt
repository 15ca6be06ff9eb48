-- `listing::list`: a buffer with room for all is handed to `under_cap`, another is left alone. Assumes nothing.
use Rattle.std.proofs.Common.{◌≡◌, ap, ◌∙◌, List, ◌++◌, ℕ, ◌≤◌, arith, length, drop}
use Rattle.std.proofs.lemmas.List.Edits.{sets}
use lib.Seq.{sets-eq}
use borrow.Author.Tests.{le-ltb}
use Rattle.listing.specs.Listing.{listing, under}
use Rattle.listing.specs.Lent.{cells, Listed}
use Rattle.listing.specs.Laws.Listed.{count}
use Rattle.listing.proofs.list.Goals as goal

many : length (under 8 0 0) ≡ cells
unfolding listing
many = count

-- the stores of the listing from cell 0 on
stored : (buf : List ℕ) → cells ≤ length buf → sets buf 0 (under 8 0 0) ≡ listing ++ drop cells buf
unfolding listing
stored buf h = sets-eq (under 8 0 0) buf 0 (omega (arith, many)) ∙ rw many

pub under_cap-count-requires : goal.under_cap-count-requires
under_cap-count-requires c = (omega arith, omega arith, omega arith, omega (arith, many))

pub returns : goal.returns
returns c =
    let buf = c.args.out.now in
    let f = c.under_cap-count in
    let room : cells ≤ length buf = omega arith in
    let e = le-ltb (length buf) cells room in
    let all : f.result ≡ cells = omega (arith, f.ensures.0, many) in
    let accepted : ℕ → Listed = λ n. record { number = 0; count = n } in
    (rw e (ap accepted all), rw e (f.ensures.1 ∙ stored buf room))
