-- The table of fallbacks holds the point of least norm of each end region, ties to the smaller point (Region), and no other entry would do.
-- There is an entry for each end (kind 0 is the first section, kind 1 the third), parity, class and state of the trellis, and no more
-- (specs/Fallbacks). Assumes nothing.
use Rattle.std.specs.Prelude.{◌≡◌, ℕ, ◌<◌}
use Rattle.std.proofs.Common.{sym, ◌∙◌}
use Rattle.fallbacks.specs.Region.{LeastOf, point, byte_of, key_of}
use Rattle.fallbacks.specs.Laws.Member.{point_size, point-names}
use Rattle.fallbacks.specs.Laws.Entries.{entry-member}
use Rattle.fallbacks.proofs.Entries.{entry_first}
use Rattle.fallbacks.proofs.Order.{after_both}

-- an entry names the least point of its region
pub fallback_least : (kind p r st : ℕ) → kind < 2 → p < 2 → r < 2 → st < 64 → LeastOf kind p r st (byte_of kind p r st) (key_of kind p r st)
fallback_least kind p r st hk hp hr hs =
    record { member = entry-member kind p r st hk hp hr hs; least = entry_first kind p r st hk hp hr hs }

-- a region has one least point, named by one byte and one row
pub least_one : (kind p r st c key d k : ℕ) → p < 2 → r < 2 → LeastOf kind p r st c key → LeastOf kind p r st d k → (c ≡ d) × (key ≡ k)
least_one kind p r st c key d k hp hr l m =
    point-names kind p r st c key d k hp hr l.member m.member
    (after_both (point p c key) (point p d k) (point_size p c key ∙ sym (point_size p d k)) (l.least d k m.member) (m.least c key l.member))

-- so a byte and a row that name the least point of a region are the entry of the table
pub fallback_only : (kind p r st c key : ℕ) → kind < 2 → p < 2 → r < 2 → st < 64 → LeastOf kind p r st c key
    → (c ≡ byte_of kind p r st) × (key ≡ key_of kind p r st)
fallback_only kind p r st c key hk hp hr hs l =
    least_one kind p r st c key (byte_of kind p r st) (key_of kind p r st) hp hr l (fallback_least kind p r st hk hp hr hs)
