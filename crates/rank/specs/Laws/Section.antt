-- Laws of coordinates in a row, of any length. Assumes nothing.
use Rattle.std.specs.Prelude.{◌≡◌, ℕ, suc, ◌+◌, ◌*◌, ◌/◌, ◌%◌, ◌^◌, ◌<◌, T, eqb, ℤ, length}
use Rattle.std.proofs.Math.Path.{refl, ap₂}
use Rattle.std.proofs.Common.{ap, sym, ◌∙◌, mul-zero, mul-add, add-one, eqb→eq}
use mathlib.Core.List.{List, [], ◌∷◌, map}
use native.Mathlib.Omega.{arith}
use Rattle.std.proofs.lemmas.Nat.{mod-pow-add}
use Rattle.laws.specs.Laws.Tests.{and_left, and_right, and_in, eq→eqb}
use Rattle.laws.specs.Words.{mod_z, div_z}
use Rattle.laws.specs.Laws.Whole.{mod2-lt, low_bit, high_bits}
use Rattle.laws.proofs.Whole.{parity-add}
use Rattle.laws.specs.Words.{weight}
use Rattle.rank.specs.Coord.{parity_of, bit_of, k_of, rank_of, val_of}
use Rattle.rank.specs.Laws.Coord.{Member, member, val_rank, k_parity, residue}
use Rattle.rank.specs.Vector.{ranks_below, k_zero, class}
use Rattle.rank.specs.Laws.Vector.{rank_first, rank_rest}
use Rattle.rank.specs.Section.{point_at, uniform, bits_of, ranks_of, k_sum}

-- of coordinates of parity p the first has parity p, and so have the rest
uniform-first : (p : ℕ) (y : ℤ) (t : List ℤ) → T (uniform p (y ∷ t)) → parity_of y ≡ p
unfolding uniform
uniform-first p y t u = eqb→eq _ _ (and_left (eqb (parity_of y) p) (uniform p t) u)

uniform_rest : (p : ℕ) (y : ℤ) (t : List ℤ) → T (uniform p (y ∷ t)) → T (uniform p t)
unfolding uniform
uniform_rest p y t u = and_right (eqb (parity_of y) p) (uniform p t) u

-- ---- the point of parity p, bits c and ranks v has that parity, those bits and those ranks
module _ (p : ℕ) (hp : p < 2) where
  first : (c r : ℕ) (v : List ℕ) → T (ranks_below 8 (r ∷ v)) → Member (p + 2 * (c % 2)) r
  first c r v t = member (p + 2 * (c % 2)) r (omega arith) (rank_first 8 r v t)

  pub point-uniform : (c : ℕ) (v : List ℕ) → T (ranks_below 8 v) → T (uniform p (point_at p c v))
  unfolding uniform point_at
  point-uniform c [] t = tt
  point-uniform c (r ∷ v) t =
      and_in (eqb (parity_of (val_of (p + 2 * (c % 2)) r)) p) (uniform p (point_at p (c / 2) v))
      (eq→eqb (parity_of (val_of (p + 2 * (c % 2)) r)) p ((first c r v t).parity ∙ low))
      (point-uniform (c / 2) v (rank_rest 8 r v t))
    where
      low : (p + 2 * (c % 2)) % 2 ≡ p
      low = omega arith

  pub point-bits : (c : ℕ) (v : List ℕ) → T (ranks_below 8 v) → bits_of (point_at p c v) ≡ c % 2 ^ length v
  unfolding bits_of point_at
  point-bits c [] t = omega arith
  point-bits c (r ∷ v) t =
      ap₂ (λ (a b : ℕ). a + 2 * b) ((first c r v t).bit ∙ top) (point-bits (c / 2) v (rank_rest 8 r v t)) ∙ digit (length v)
    where
      top : (p + 2 * (c % 2)) / 2 ≡ c % 2
      top = omega arith

      turn : (a b : ℕ) → b + 2 * a ≡ a * 2 + b
      turn a b = omega arith

      digit : (n : ℕ) → c % 2 + 2 * (c / 2 % 2 ^ n) ≡ c % 2 ^ suc n
      digit n = turn (c / 2 % 2 ^ n) (c % 2) ∙ sym (mod-pow-add c n 1) ∙ ap (λ (m : ℕ). c % 2 ^ m) (add-one n)

  pub point-ranks : (c : ℕ) (v : List ℕ) → T (ranks_below 8 v) → ranks_of (point_at p c v) ≡ v
  unfolding point_at
  point-ranks c [] t = refl
  point-ranks c (r ∷ v) t =
      ap₂ {C = List ℕ} (λ a l. a ∷ l) (first c r v t).rank (point-ranks (c / 2) v (rank_rest 8 r v t))

pub point-length : (p c : ℕ) (v : List ℕ) → length (point_at p c v) ≡ length v
unfolding point_at
point-length p c [] = refl
point-length p c (r ∷ v) = ap suc (point-length p (c / 2) v)

-- ---- and coordinates of one parity are the point of their bits and ranks
-- the bits of a row, taken apart
bits_low : (y : ℤ) (t : List ℤ) → bits_of (y ∷ t) % 2 ≡ bit_of y
unfolding bits_of
bits_low y t = low_bit (bit_of y) (bits_of t) (mod2-lt (div_z y 2))

bits_high : (y : ℤ) (t : List ℤ) → bits_of (y ∷ t) / 2 ≡ bits_of t
unfolding bits_of
bits_high y t = high_bits (bit_of y) (bits_of t) (mod2-lt (div_z y 2))

pub point-back : (p : ℕ) (t : List ℤ) → T (uniform p t) → T (ranks_below 8 (ranks_of t)) → point_at p (bits_of t) (ranks_of t) ≡ t
unfolding point_at
point-back p [] u s = refl
point-back p (y ∷ t) u s =
    ap₂ {C = List ℤ} (λ z l. z ∷ l)
    (ap (λ (o : ℕ). val_of o (rank_of y))
    (ap₂ (λ (a b : ℕ). a + 2 * b) (sym (uniform-first p y t u)) (bits_low y t) ∙ residue y)
    ∙ val_rank y (rank_first 8 (rank_of y) (ranks_of t) s))
    (ap (λ (c : ℕ). point_at p c (ranks_of t)) (bits_high y t)
    ∙ point-back p t (uniform_rest p y t u) (rank_rest 8 (rank_of y) (ranks_of t) s))

-- ---- the parity of the sum of k: that of the ranks read under o = 0, and one more for each set bit where p = 1
pub k_sum_lem : (p : ℕ) (t : List ℤ) → T (uniform p t) → T (ranks_below 8 (ranks_of t))
    → mod_z (k_sum t) 2 ≡ (k_zero (ranks_of t) + p * weight (length t) (bits_of t)) % 2
unfolding k_sum
k_sum_lem p [] u s = ap (λ (x : ℕ). (0 + x) % 2) (sym (mul-zero p))
k_sum_lem p (y ∷ t) u s =
    parity-add (k_of y) (k_sum t)
    ∙ ap₂ (λ (a b : ℕ). (a + b) % 2) (k_parity y (rank_first 8 (rank_of y) (ranks_of t) s))
    (k_sum_lem p t (uniform_rest p y t u) (rank_rest 8 (rank_of y) (ranks_of t) s))
    ∙ collect ((rank_of y + 1) / 2) (parity_of y * bit_of y) (k_zero (ranks_of t)) (p * weight (length t) (bits_of t))
    ∙ ap (λ (x : ℕ). ((rank_of y + 1) / 2 + k_zero (ranks_of t) + x) % 2)
    (ap (λ (q : ℕ). q * bit_of y + p * weight (length t) (bits_of t)) (uniform-first p y t u)
    ∙ sym (mul-add p (bit_of y) (weight (length t) (bits_of t)))
    ∙ ap₂ (λ (a b : ℕ). p * (a + weight (length t) b)) (sym (bits_low y t)) (sym (bits_high y t)))
  where
    collect : (a b c d : ℕ) → ((a + b) % 2 + (c + d) % 2) % 2 ≡ (a + c + (b + d)) % 2
    collect a b c d = omega arith

-- the class of document 01: the parity of the sum of k of the coordinates that have the ranks v under o = 0
pub class-under_zero : (v : List ℕ) → T (ranks_below 8 v) → mod_z (k_sum (map (val_of 0) v)) 2 ≡ class v
unfolding k_sum
class-under_zero [] t = refl
class-under_zero (r ∷ v) t =
    parity-add (k_of (val_of 0 r)) (k_sum (map (val_of 0) v))
    ∙ ap₂ (λ (a b : ℕ). (a + b) % 2) (member 0 r (omega arith) (rank_first 8 r v t)).k (class-under_zero v (rank_rest 8 r v t))
    ∙ collect ((r + 1) / 2) (k_zero v)
  where
    collect : (a b : ℕ) → ((a + 0) % 2 + b % 2) % 2 ≡ (a + b) % 2
    collect a b = omega arith
