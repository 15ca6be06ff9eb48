-- How the listing grows: one turn of `grow` and its end, and that `under` reaches every way to fill the open coordinates that stays below
-- the cap. Assumes nothing.
use Rattle.std.specs.Prelude.{◌≡◌, Bool, length}
use Rattle.std.proofs.Math.Path.{refl, ap}
use Rattle.std.proofs.Math.Bool.{cond}
use mathlib.Core.List.Memᴰ
use mathlib.Core.List.{List, [], ◌∷◌, ◌++◌, Memᴰ}
use Prim.Native.Nat.{ℕ, zero, suc, ◌+◌, ◌*◌, ◌-◌, ◌^◌, ◌<◌, ◌≤◌}
use Rattle.std.proofs.Common.{add-zero, zero-add, add_assoc, add-mul, mul-add, mul_comm, mul_assoc, not-suc-le-zero, arith, lt-ltb, le-ltb, pow-add}
use Rattle.rank.specs.Vector.{sq, cost, pack}
use Rattle.rank.specs.Laws.Vector.{sq_mono, length≤cost, rank_small}
use Rattle.listing.specs.Listing.{cap, grow, under}

-- a rank of 6 or more costs 169
pub below_six : (r k : ℕ) → k + sq r < cap → r < 6
below_six r k h = rank_small 6 r (omega arith)

-- ---- the ranks of one coordinate
module _ (f : ℕ → List ℕ) (base r n : ℕ) where
  pub grow-more : base + sq r < cap → grow f base r (suc n) ≡ f r ++ grow f base (r + 1) n
  unfolding grow
  grow-more h =
      ap (λ (b : Bool). cond b (f r ++ grow f base (r + 1) n) []) (lt-ltb (base + sq r) cap h)

  pub grow_stop : cap ≤ base + sq r → grow f base r n ≡ []
  unfolding grow
  grow_stop h = go n
    where
      go : (m : ℕ) → grow f base r m ≡ []
      go zero = refl
      go (suc m) = ap (λ (b : Bool). cond b (f r ++ grow f base (r + 1) m) []) (le-ltb (base + sq r) cap h)

-- what f lists for the rank r + d is among what is listed from the rank r on: a rank below it costs less, so none ends the branch before
grown : (f : ℕ → List ℕ) (base x n d r : ℕ) → d < n → base + sq (r + d) < cap → Memᴰ x (f (r + d)) → Memᴰ x (grow f base r n)
grown f base x zero d r h k m = absurd (not-suc-le-zero h)
grown f base x (suc n) zero r h k m =
    rw (grow-more f base r n (rw add-zero at k)) (Memᴰ.append_left (grow f base (r + 1) n) (rw add-zero at m))
grown f base x (suc n) (suc d) r h k m =
    let e : r + suc d ≡ r + 1 + d = omega arith in
    rw (grow-more f base r n (omega (arith, sq_mono r (r + suc d) (omega arith))))
    (Memᴰ.append_right (f r) (grown f base x n d (r + 1) (omega arith) (rw e at k) (rw e at m)))

-- ---- the open coordinates
-- packed ranks, four bits up for each coordinate below them
pack_up : (r p k : ℕ) → (r + 16 * p) * 2 ^ (4 * k) ≡ r * 2 ^ (4 * k) + p * 2 ^ (4 * (k + 1))
pack_up r p k =
    rw (mul-add, pow-add 2 (4 * k) 4, add-mul r (16 * p), mul_comm 16 p, mul_assoc p 16, mul_comm 16 (2 ^ (4 * k)))

-- the row with its open coordinates filled by v is listed
pub reach : (v : List ℕ) (row spent : ℕ) → length v ≤ 8 → spent + cost v < cap
    → Memᴰ (row + pack v * 2 ^ (4 * (8 - length v))) (under (length v) row spent)
unfolding under
reach [] row spent h k = let e : row + 0 * 2 ^ (4 * (8 - 0)) ≡ row = omega arith in Memᴰ.head {x = row} e
reach (r ∷ v) row spent h k =
    let j = 7 - length v in
    let up : 8 - length v ≡ j + 1 = omega arith in
    let here : 8 - suc (length v) ≡ j = omega arith in
    let next = row + r * 2 ^ (4 * j) in
    let same : row + (r + 16 * pack v) * 2 ^ (4 * (8 - suc (length v))) ≡ next + pack v * 2 ^ (4 * (8 - length v)) =
    rw (here, up, pack_up r (pack v) j, add_assoc) in
    let f : ℕ → List ℕ = λ x. under (length v) (row + x * 2 ^ (4 * j)) (spent + sq x) in
    let low : spent + length v + sq r < cap = omega (arith, length≤cost v) in
    Memᴰ.cast same
    (grown f (spent + length v) (next + pack v * 2 ^ (4 * (8 - length v))) 6 r 0 (below_six r (spent + length v) low) (rw zero-add low)
    (rw zero-add (reach v next (spent + sq r) (omega arith) (omega arith))))
