-- Laws of coordinates: o = p + 2c, the rank of the member at a rank, the member at the rank of y, the parity of k by rank. Assumes nothing.
use Rattle.std.specs.Prelude.{◌≡◌, Bool, ◌&&◌, ℕ, ◌+◌, ◌*◌, ◌/◌, ◌%◌, ◌<◌, T, ltb, eqb, ℤ, pos, negsuc}
use Rattle.std.proofs.Common.{ap, ap₂, sym, ◌∙◌, arith, shr-shr, eqb→eq, lt→ltb}
use Rattle.laws.specs.Laws.Tests.{and_left, and_right, split4, implies, modus, upto, below, below2}
use Rattle.laws.specs.Words.{mod_z, eq_z}
use Rattle.laws.specs.Laws.Whole.{mod4-lt, eq_z→eq}
use Rattle.rank.specs.Coord.{parity_of, bit_of, k_of, rank_of, val_of}
use Rattle.rank.specs.Laws.RankOrder.{rank_is_lem}

-- ---- o = p + 2c
quarter : (n : ℕ) → n % 2 + 2 * (n / 2 % 2) ≡ n % 4
quarter n = omega (arith, q)
  where
    q : n / 2 / 2 ≡ n / 4
    q = shr-shr n 1 1

pub residue : (y : ℤ) → parity_of y + 2 * bit_of y ≡ mod_z y 4
residue (pos n) = quarter n
residue (negsuc n) = omega (arith, quarter n)

pub halves : (y : ℤ) → (mod_z y 4 % 2 ≡ parity_of y) × (mod_z y 4 / 2 ≡ bit_of y)
halves (pos n) = (omega arith, omega arith)
halves (negsuc n) = (omega arith, omega arith)

-- ---- the member at a rank: its parity, its bit, its rank, the parity of its k
good : ℕ → ℕ → Bool
good o r =
    eqb (parity_of (val_of o r)) (o % 2)
    && (eqb (bit_of (val_of o r)) (o / 2)
    && (eqb (rank_of (val_of o r)) r && eqb (mod_z (k_of (val_of o r)) 2) (((r + 1) / 2 + o % 2 * (o / 2)) % 2)))

all-good : T (upto 4 (λ (o : ℕ). upto 8 (good o)))
unfolding good val_of rank_of
all-good = tt

pub record Member (o r : ℕ) : Type 0 where
  pub parity : parity_of (val_of o r) ≡ o % 2
  pub bit : bit_of (val_of o r) ≡ o / 2
  pub rank : rank_of (val_of o r) ≡ r
  pub k : mod_z (k_of (val_of o r)) 2 ≡ ((r + 1) / 2 + o % 2 * (o / 2)) % 2

pub member : (o r : ℕ) → o < 4 → r < 8 → Member o r
unfolding good
member o r ho hr =
    let t =
    split4 (eqb (parity_of (val_of o r)) (o % 2)) (eqb (bit_of (val_of o r)) (o / 2)) (eqb (rank_of (val_of o r)) r)
    (eqb (mod_z (k_of (val_of o r)) 2) (((r + 1) / 2 + o % 2 * (o / 2)) % 2)) (below2 4 8 good all-good o r ho hr) in
    record { parity = eqb→eq _ _ t.0; bit = eqb→eq _ _ t.1; rank = eqb→eq _ _ t.2; k = eqb→eq _ _ t.3 }

-- it leaves o
pub member_of : (o r : ℕ) → o < 4 → r < 8 → mod_z (val_of o r) 4 ≡ o
member_of o r ho hr =
    sym (residue (val_of o r)) ∙ ap₂ (λ (a b : ℕ). a + 2 * b) (member o r ho hr).parity (member o r ho hr).bit ∙ back o
  where
    back : (o : ℕ) → o % 2 + 2 * (o / 2) ≡ o
    back o = omega arith

-- ---- and the member at the rank of y is y
same : ℤ → Bool
same y = implies (ltb (rank_of y) 8) (eq_z (val_of (mod_z y 4) (rank_of y)) y)

both_same : ℕ → Bool
both_same n = same (pos n) && same (negsuc n)

all_same : T (upto 18 both_same)
unfolding both_same same val_of rank_of
all_same = tt

same_at : (y : ℤ) → rank_of y < 8 → T (same y)
unfolding both_same
same_at (pos n) h = and_left (same (pos n)) (same (negsuc n)) (below 18 both_same all_same n (omega (arith, rank_is_lem (pos n))))
same_at (negsuc n) h =
    and_right (same (pos n)) (same (negsuc n)) (below 18 both_same all_same n (omega (arith, rank_is_lem (negsuc n))))

pub val_rank : (y : ℤ) → rank_of y < 8 → val_of (mod_z y 4) (rank_of y) ≡ y
unfolding same
val_rank y h = eq_z→eq _ _ (modus (ltb (rank_of y) 8) _ (lt→ltb (rank_of y) 8 h) (same_at y h))

-- ---- the parity of k by rank: under o = 3 the other one, under all others that under o = 0
pub k_parity : (y : ℤ) → rank_of y < 8 → mod_z (k_of y) 2 ≡ ((rank_of y + 1) / 2 + parity_of y * bit_of y) % 2
k_parity y h =
    ap (λ (z : ℤ). mod_z (k_of z) 2) (sym (val_rank y h)) ∙ (member (mod_z y 4) (rank_of y) (mod4-lt y) h).k
    ∙ ap₂ (λ (a b : ℕ). ((rank_of y + 1) / 2 + a * b) % 2) (halves y).0 (halves y).1
