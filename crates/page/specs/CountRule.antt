-- The count rule: a count is coordinate times num divided by 256 as the nearest whole number, a half to the even one, and no other number is
-- that. Said for every numerator and divisor. Assumes nothing.
use Rattle.std.specs.Prelude.{◌≡◌, List, ℕ, ◌+◌, ◌*◌, ◌<◌, ℤ, pos, ◌*ℤ◌, length, get_or}
use Rattle.std.proofs.Common.{arith}
use Rattle.tetra.specs.Tetra.{point_of}
use Rattle.page.specs.Counts.{count_by, page_counts, ToEven}
use Rattle.page.specs.Laws.Nearest.{quotient_is, quotient_only}
use Rattle.page.specs.Laws.Count.{page-at}

pub count_is : (a d : ℕ) (y : ℤ) → 0 < d → ToEven (y *ℤ pos a) d (count_by a d y)
unfolding count_by
count_is a d y D = quotient_is (y *ℤ pos a) d D

pub count_only : (a d : ℕ) (y c : ℤ) → 0 < d → ToEven (y *ℤ pos a) d c → c ≡ count_by a d y
unfolding count_by
count_only a d y c D h = quotient_only (y *ℤ pos a) d c D h

-- so it is of a page: the count of coordinate j of block i stands at 24 i + j
pub counts_are : (num : ℕ) (words : List ℕ) (i j : ℕ) → i < length words → j < 24
    → ToEven (get_or (point_of (get_or words i 0)) j (pos 0) *ℤ pos num) 256 (get_or (page_counts num words) (24 * i + j) (pos 0))
counts_are num words i j h k =
    rw (page-at num words i j h k) (count_is num 256 (get_or (point_of (get_or words i 0)) j (pos 0)) (omega arith))
