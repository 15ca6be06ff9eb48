-- The flat forms of the fallbacks are the definition. Assumes nothing.
use Rattle.std.specs.Prelude.{◌≡◌, refl, Bool, List, ℕ, zero, suc, ◌+◌, ◌*◌, ◌/◌, ◌%◌, ◌^◌, ◌<◌, ◌≤◌, length, get_or, T, Float}
use Rattle.std.proofs.Common.{◌∙◌, ap, ap₂, subst, mod-lt, zero-lt-suc, arith}
use Rattle.std.specs.Float.{nan, binary64}
use Rattle.std.specs.Float.Ieee.{add, sub, mul, of_int}
use Rattle.laws.specs.Words.{tab}
use Rattle.laws.specs.Laws.Lists.{tab_at}
use Rattle.laws.specs.Laws.Tables.{every, at}
use Rattle.rank.specs.Coord.{val_of}
use Rattle.rank.specs.Vector.{ranks_below, unpack}
use Rattle.rank.specs.Laws.Vector.{below_at_lem, unpack-at, unpack-length}
use Rattle.search.specs.Record.{bit_at, sq_to}
use Rattle.search.specs.Tables.{tables, fallback_at, fallback_bytes, fallback_keys}
use Rattle.search.specs.Entries.{rank_at, section_at, dist_to, fallback}
use Rattle.fallback_entries.specs.Inner.Flat.{member_at, members_of, square_at, squares_of, square_place, sum_to, fallback_in}

-- the place of a square says its coordinate, and the bit and the rank of its member
spot : (j b r : ℕ) → j < 8 → b < 2 → r < 4
    → (8 * j + 4 * b + r % 4 < 64) × ((8 * j + 4 * b + r % 4) / 8 ≡ j) × ((8 * j + 4 * b + r % 4) % 8 / 4 ≡ b)
    × ((8 * j + 4 * b + r % 4) % 8 % 4 ≡ r)
spot j b r h k l = (omega arith, omega arith, omega arith, omega arith)

square_is : (ts : List Float) (p c key j : ℕ) → j < 8 → rank_at key j < 4
    → get_or (squares_of (members_of p) ts) (square_place c key j) nan ≡ sq_to (section_at p c key j) (get_or ts j nan)
unfolding squares_of members_of
square_is ts p c key j h l =
    let i = square_place c key j in
    let q = spot j (bit_at c j) (rank_at key j) h (mod-lt (c / 2 ^ j) (zero-lt-suc 1)) l in
    tab_at Float nan (square_at (tab (member_at p) 8) ts) 64 i q.0
    ∙ ap₂ (λ (m t : Float). mul binary64 (sub binary64 m t) (sub binary64 m t))
    (tab_at Float nan (member_at p) 8 (i % 8) (mod-lt i (zero-lt-suc 7))
    ∙ ap₂ (λ (b r : ℕ). of_int binary64 (val_of (p + 2 * b) r)) q.2 q.3)
    (ap (λ (n : ℕ). get_or ts n nan) q.1)

sum_is : (ts : List Float) (p c key : ℕ) → ((j : ℕ) → j < 8 → rank_at key j < 4) → (n : ℕ) → n ≤ 8
    → sum_to (squares_of (members_of p) ts) c key n ≡ dist_to (section_at p c key) ts n
unfolding sum_to dist_to
sum_is ts p c key low zero h = refl
sum_is ts p c key low (suc n) h =
    ap₂ (add binary64) (sum_is ts p c key low n (omega arith)) (square_is ts p c key n (omega arith) (low n (omega arith)))

-- the ranks of the fallbacks, by one computed test
small : ℕ → ℕ → Bool
small i key = ranks_below 4 (unpack 8 key)

all_small : T (every small 0 fallback_keys)
unfolding small ranks_below fallback_keys
all_small = tt

keys_length : length fallback_keys ≡ 512
unfolding fallback_keys
keys_length = refl

rank_small : (i : ℕ) → i < 512 → (j : ℕ) → j < 8 → rank_at (get_or fallback_keys i 0) j < 4
unfolding small
rank_small i h j l =
    let key = get_or fallback_keys i 0 in
    subst (λ (r : ℕ). r < 4) (unpack-at 8 key j l)
    (below_at_lem 4 (unpack 8 key) (at small fallback_keys all_small i (omega (arith, keys_length))) j (omega (arith, unpack-length 8 key)))

-- place i of the 128 fallbacks of an end and a parity
pub fallback_flat : (ts : List Float) (kind p i : ℕ) → kind < 2 → p < 2 → i < 128
    → fallback_in fallback_bytes fallback_keys (squares_of (members_of p) ts) ((kind * 2 + p) * 128 + i) ≡ fallback tables ts kind p (i / 64) (i % 64)
fallback_flat ts kind p i hk hp hi =
    let n = fallback_at kind p (i / 64) (i % 64) in
    let q : (kind * 2 + p) * 128 + i ≡ n = omega arith in
    rw (q, sum_is ts p (get_or fallback_bytes n 0) (get_or fallback_keys n 0) (rank_small n (omega arith)) 8 (omega arith))
