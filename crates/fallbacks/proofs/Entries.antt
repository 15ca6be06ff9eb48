-- No member of a region comes before the region's entry in the table. Assumes nothing.
use Rattle.std.specs.Prelude.{◌≡◌, ℕ, ◌≤◌, ◌<◌}
use Rattle.std.proofs.Common.{sym, ap₂, arith}
use Rattle.fallbacks.specs.Region.{InRegion, NotAfter, point, byte_of, key_of}
use Rattle.fallbacks.specs.Laws.Lower.{of_class, lower}
use Rattle.fallbacks.specs.Laws.Member.{member-class, member-ranks, point_size}
use Rattle.fallbacks.specs.Laws.Entries.{offsets, good-at, low_at, point-fits, point-above, entry-member}
use Rattle.fallbacks.proofs.Order.{grade_order}

pub entry_first : (kind p r st : ℕ) → kind < 2 → p < 2 → r < 2 → st < 64 → (d k : ℕ) → InRegion kind r st d k
    → NotAfter (point p (byte_of kind p r st) (key_of kind p r st)) (point p d k)
entry_first kind p r st hk hp hr hs d k n =
    let c = byte_of kind p r st in
    let key = key_of kind p r st in
    let m = entry-member kind p r st hk hp hr hs in
    grade_order (point p c key) (point p d k) (point_size p c key) (point_size p d k)
    (point-fits p c key hp (member-ranks kind r st c key hr m)) (point-fits p d k hp (member-ranks kind r st d k hr n))
    (over (low_at kind p r st c key n.b n.b_lt (good-at kind p r st hk hp hr hs).2)
    (ap₂ (λ (x y : ℕ). of_class (lower (offsets p x)) y) (sym n.byte) (sym (member-class kind r st d k hr n)))
    (point-above p d k hp (member-ranks kind r st d k hr n)))
  where
    over : {a b c d : ℕ} → a ≤ b → b ≡ c → c ≤ d → a ≤ d
    over h e l = omega arith
