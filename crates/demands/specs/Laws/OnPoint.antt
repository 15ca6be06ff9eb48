-- A point that has a word, taken for the samples at the scale 1: the call is accepted, and the point is its own target. Assumes nothing.
use Rattle.std.specs.Prelude.{◌≡◌, refl, ◌≢◌, Bool, ◌&&◌, List, [], ◌∷◌, ℕ, suc, ◌*◌, ◌≤◌, ◌<◌, T, eqb, get_or, length, ℤ, pos, negsuc, nat_abs, Float}
use Rattle.std.proofs.Common.{sym, ap, ap₂, ◌∙◌, subst, suc-le-suc, le_trans, lt_of_le_of_lt, zero-lt-suc, arith, ne_eqb, eqb→eq, lit≤}
use Rattle.std.specs.Float.{binary64}
use Rattle.std.specs.Float.Ieee.{of_int, div, lt, to_bits, of_bits}
use Rattle.std.specs.Float.Ieee.Fits.{div-fits, of_int-fits}
use Rattle.std.specs.Float.Ieee.Bits.{of_bits-to_bits}
use Rattle.laws.specs.Laws.Tests.{and_left, and_right, upto, below}
use Rattle.tetra.specs.Lattice.{HasWord}
use Rattle.float.specs.Value.{U, mag_units, one64}
use Rattle.float.specs.Calls.{quotients_of}
use Rattle.float.specs.Laws.Exact.{of_int_whole}
use Rattle.score.specs.Samples.{limit64, scale_number}
use Rattle.score.specs.Laws.Sample.{UpTo, Each, none, more, sample_number_zero, scale_number_zero}
use Rattle.encoder.specs.Encode.{number_at}
use Rattle.nearest.specs.Nearest.{doubles}
use Rattle.nearest.specs.Laws.Coordinate.{int_mg}
use Rattle.nearest.specs.Laws.OnPoint.{small}

-- ---- a small whole number over 1 is itself
plain : ℤ → Bool
plain v = eqb (to_bits binary64 (div binary64 (of_int binary64 v) one64)) (to_bits binary64 (of_int binary64 v))

all_plain : T (upto 11 (λ n. plain (pos n) && plain (negsuc n)))
unfolding plain div of_int to_bits
all_plain = tt

plain_at : (v : ℤ) → nat_abs v ≤ 10 → T (plain v)
plain_at (pos n) h =
    and_left (plain (pos n)) (plain (negsuc n)) (below 11 (λ n. plain (pos n) && plain (negsuc n)) all_plain n (omega arith))
plain_at (negsuc n) h =
    and_right (plain (pos n)) (plain (negsuc n)) (below 11 (λ n. plain (pos n) && plain (negsuc n)) all_plain n (omega arith))

over_one : (v : ℤ) → nat_abs v ≤ 10 → div binary64 (of_int binary64 v) one64 ≡ of_int binary64 v
unfolding plain
over_one v h =
    let x = of_int binary64 v in
    let q = div binary64 x one64 in
    sym (of_bits-to_bits binary64 q (div-fits binary64 x one64))
    ∙ ap (of_bits binary64) (eqb→eq (to_bits binary64 q) (to_bits binary64 x) (plain_at v h)) ∙ of_bits-to_bits binary64 x (of_int-fits binary64 v)

-- ---- a list of such numbers
abbrev Small : List ℤ → Type 0
Small y = (i : ℕ) → i < length y → nat_abs (get_or y i (pos 0)) ≤ 10

own : (y : List ℤ) → Small y → quotients_of (doubles y) one64 ≡ doubles y
unfolding quotients_of
own [] h = refl
own (v ∷ y) h = ap₂ {C = List Float} (λ a b. a ∷ b) (over_one v (h 0 (zero-lt-suc (length y)))) (own y (λ i l. h (suc i) (suc-le-suc l)))

-- each is a finite double, of at most 10 in size
up_to : (g : ℕ) → 10 * U ≤ g → (y : List ℤ) → Small y → Each (UpTo g) (doubles y)
up_to g k [] h = none
up_to g k (v ∷ y) h =
    let l = h 0 (zero-lt-suc (length y)) in
    let w = of_int_whole v (lt_of_le_of_lt l (lit≤ tt)) in
    more (record { fit = w.fit; fin = w.fin; le = le_trans (int_mg v 10 l (lit≤ tt)) k })
    (up_to g k y (λ i l. h (suc i) (suc-le-suc l)))

-- ---- a point that has a word
module _ (y : List ℤ) (W : HasWord y) where
  all_small : Small y
  all_small i h = small y W i (subst (λ (n : ℕ). i < n) W.point.size h)

  pub own_target : quotients_of (doubles y) one64 ≡ doubles y
  own_target = own y all_small

  accepted_here : scale_number (doubles y) one64 ≡ 0
  unfolding lt mag_units
  accepted_here =
      scale_number_zero (doubles y) one64 tt (sample_number_zero (doubles y) (up_to (mag_units limit64) (lit≤ tt) y all_small))
      (subst (Each (UpTo (1000000 * U))) (sym own_target) (up_to (1000000 * U) (lit≤ tt) y all_small))

  pub number_here : (n : ℕ) → n ≢ 0 → number_at (doubles y) one64 n ≡ 0
  number_here n d = rw (ne_eqb n 0 d) accepted_here
