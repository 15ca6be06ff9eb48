-- The rank in closed form: rank_of, which counts, is rank_by, which divides. Assumes nothing.
use Rattle.std.specs.Prelude.{◌≡◌, refl, Bool, true, false, cond, List, [], ◌∷◌, ℕ, zero, suc, ◌+◌, ◌*◌, ◌-◌, ◌/◌, ◌%◌, ◌<◌, T, eqb, ℤ, pos, negsuc, get_or}
use Rattle.std.proofs.Common.{ap, ap₂, sym, ◌∙◌, arith, eqb→eq}
use Rattle.std.proofs.Math.Pow.{field, mod-mod-pow}
use Rattle.laws.specs.Laws.Tests.{upto, below, below2}
use Rattle.laws.specs.Words.{mod_z}
use Rattle.laws.specs.Laws.Whole.{mod4-lt}
use Rattle.rank.specs.Coord.{outward, count_to, rank_of}

-- half the magnitude, whichever the residue
abbrev pub rank_by : ℤ → ℕ
rank_by (pos n) = (n + 1) / 2 - 1
rank_by (negsuc n) = (n + 1) / 2

-- ---- the residues of 0, 1, -1, 2, -2, .. repeat after eight
pattern : List ℕ
pattern = 0 ∷ 1 ∷ 3 ∷ 2 ∷ 2 ∷ 3 ∷ 1 ∷ 0 ∷ []

abbrev turned : ℕ → ℕ → ℕ
turned b h = cond (eqb b 0) ((h + 1) % 4) (3 - h)

residue-turned : (m : ℕ) → mod_z (outward (suc m)) 4 ≡ turned (m % 2) (m / 2 % 4)
residue-turned m = go (eqb (m % 2) 0)
  where
    go : (b : Bool) → mod_z (cond b (pos (m / 2 + 1)) (negsuc (m / 2))) 4
        ≡ cond b ((m / 2 % 4 + 1) % 4) (3 - m / 2 % 4)
    go true = omega arith
    go false = omega arith

same_turn : ℕ → Bool
same_turn i = eqb (turned (i % 2) (i / 2)) (get_or pattern ((i + 1) % 8) 0)

all-turn : T (upto 8 same_turn)
unfolding same_turn pattern
all-turn = tt

mod8-lt : (n : ℕ) → n % 8 < 8
mod8-lt n = omega arith

mod8_next : (n : ℕ) → (n % 8 + 1) % 8 ≡ suc n % 8
mod8_next n = omega arith

residue-at : (n : ℕ) → mod_z (outward n) 4 ≡ get_or pattern (n % 8) 0
unfolding same_turn pattern
residue-at zero = refl
residue-at (suc m) =
    residue-turned m ∙ ap₂ turned (sym (mod-mod-pow m 2 1)) (sym (field m 2 1))
    ∙ eqb→eq _ _ (below 8 same_turn all-turn (m % 8) (mod8-lt m)) ∙ ap (λ (j : ℕ). get_or pattern j 0) (mod8_next m)

-- ---- so the count is two for each whole eight, and those of the eight that is begun
parts : List ℕ
parts =
    0 ∷ 1 ∷ 1 ∷ 1 ∷ 1 ∷ 1 ∷ 1 ∷ 1 ∷ 0 ∷ 0 ∷ 1 ∷ 1 ∷ 1 ∷ 1 ∷ 1 ∷ 2
    ∷ 0 ∷ 0 ∷ 0 ∷ 0 ∷ 1 ∷ 2 ∷ 2 ∷ 2 ∷ 0 ∷ 0 ∷ 0 ∷ 1 ∷ 1 ∷ 1 ∷ 2 ∷ 2 ∷ []

begun : ℕ → ℕ → ℕ
begun o j = get_or parts (8 * o + j) 0

abbrev hit : ℕ → ℕ → ℕ
hit r o = cond (eqb r o) 1 0

steps : ℕ → ℕ → Bool
steps o j = eqb (hit (get_or pattern j 0) o + begun o j) (2 * ((j + 1) / 8) + begun o ((j + 1) % 8))

all_steps : T (upto 4 (λ (o : ℕ). upto 8 (steps o)))
unfolding steps pattern begun parts
all_steps = tt

none-begun : ℕ → Bool
none-begun o = eqb (count_to o 0) (2 * (0 / 8) + begun o (0 % 8))

all_none : T (upto 4 none-begun)
unfolding none-begun begun parts
all_none = tt

count_is : (o : ℕ) → o < 4 → (n : ℕ) → count_to o n ≡ 2 * (n / 8) + begun o (n % 8)
unfolding steps none-begun
count_is o h zero = eqb→eq _ _ (below 4 none-begun all_none o h)
count_is o h (suc n) =
    ap₂ (λ (a b : ℕ). a + b) (ap (λ (r : ℕ). hit r o) (residue-at n)) (count_is o h n)
    ∙ carry (hit (get_or pattern (n % 8) 0) o) (begun o (n % 8)) (begun o ((n % 8 + 1) % 8)) (n / 8) ((n % 8 + 1) / 8)
    (eqb→eq _ _ (below2 4 8 steps all_steps o (n % 8) h (mod8-lt n)))
    ∙ ap₂ (λ (a b : ℕ). 2 * a + begun o b) (whole n) (mod8_next n)
  where
    whole : (m : ℕ) → m / 8 + (m % 8 + 1) / 8 ≡ suc m / 8
    whole m = omega arith

    carry : (x b c q s : ℕ) → x + b ≡ 2 * s + c → x + (2 * q + b) ≡ 2 * (q + s) + c
    carry x b c q s e = omega arith

-- ---- and the count at a number's own place is its rank in closed form
upper : ℕ → Bool
upper j = eqb (begun ((j + 1) % 4) (2 * j + 1)) (j / 2)

lower : ℕ → Bool
lower j = eqb (2 * ((2 * j + 2) / 8) + begun (3 - j) ((2 * j + 2) % 8)) ((j + 1) / 2)

all_upper : T (upto 4 upper)
unfolding upper begun parts
all_upper = tt

all-lower : T (upto 4 lower)
unfolding lower begun parts
all-lower = tt

quarter : (n : ℕ) → n % 4 < 4
quarter n = omega arith

pub rank_is_lem : (y : ℤ) → rank_of y ≡ rank_by y
unfolding rank_of upper lower
rank_is_lem (pos zero) = refl
rank_is_lem (pos (suc n)) =
    count_is (suc n % 4) (quarter (suc n)) (2 * n + 1)
    ∙ ap₂ (λ (a b : ℕ). 2 * a + b) (whole n)
    (ap₂ begun (next n) (part n) ∙ eqb→eq _ _ (below 4 upper all_upper (n % 4) (quarter n)))
    ∙ sum n
  where
    whole : (n : ℕ) → (2 * n + 1) / 8 ≡ n / 4
    whole n = omega arith

    part : (n : ℕ) → (2 * n + 1) % 8 ≡ 2 * (n % 4) + 1
    part n = omega arith

    next : (n : ℕ) → suc n % 4 ≡ (n % 4 + 1) % 4
    next n = omega arith

    sum : (n : ℕ) → 2 * (n / 4) + n % 4 / 2 ≡ (suc n + 1) / 2 - 1
    sum n = omega arith
rank_is_lem (negsuc n) =
    count_is (3 - n % 4) (mod4-lt (negsuc n)) (2 * n + 2)
    ∙ ap₂ (λ (a b : ℕ). 2 * a + begun (3 - n % 4) b) (whole n) (part n)
    ∙ regroup (n / 4) ((2 * (n % 4) + 2) / 8) (begun (3 - n % 4) ((2 * (n % 4) + 2) % 8)) ((n % 4 + 1) / 2)
    (eqb→eq _ _ (below 4 lower all-lower (n % 4) (quarter n)))
    ∙ sum n
  where
    whole : (n : ℕ) → (2 * n + 2) / 8 ≡ n / 4 + (2 * (n % 4) + 2) / 8
    whole n = omega arith

    part : (n : ℕ) → (2 * n + 2) % 8 ≡ (2 * (n % 4) + 2) % 8
    part n = omega arith

    regroup : (a b c d : ℕ) → 2 * b + c ≡ d → 2 * (a + b) + c ≡ 2 * a + d
    regroup a b c d e = omega arith

    sum : (n : ℕ) → 2 * (n / 4) + (n % 4 + 1) / 2 ≡ (n + 1) / 2
    sum n = omega arith
