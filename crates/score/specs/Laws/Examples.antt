-- Worked examples, computed: the constants by the decimals that they are nearest to, and by their bits; the order of the refusals.
-- Assumes nothing.
use Rattle.std.specs.Prelude.{◌≡◌, false, true, [], ◌∷◌, ℕ, zero, suc, ◌^◌, ◌<◌, pos}
use Rattle.std.proofs.Math.Path.{refl}
use Rattle.std.proofs.Common.{subst, lt_irrefl, lit≤}
use Rattle.std.specs.Float.{nan, inf, fin, binary64}
use Rattle.std.specs.Float.Ieee.{of_bits, round, size, div, mul, add, sum, lt, le, eq, of_int, fits}
use Rattle.float.specs.Value.{zero64, one64, mag_units}
use Rattle.float.specs.Calls.{abs_of, million64, quotients_of, sum_from}
use Rattle.float.specs.Laws.Exact.{some-digits}
use Rattle.root.specs.Root.{whole_root, root_units, root_of, rooted}
use Rattle.score.specs.declared.Choice.TheVariants.{Zero, Scale, Divide}
use Rattle.score.specs.Samples.{AllFit, limit64, some, sample_number, scale_number}
use Rattle.score.specs.Score.{products, doubles_of, t_of}
use Rattle.score.specs.Scale.{alpha64, ratio64, least_normal64, root24, largest_from, unit_norm, lower_scale, choice_of}
use Rattle.score.specs.Laws.Quotient.{KeepsBoth, choice-keeps, zero_choice}

-- ---- each constant is the double nearest to its decimal
limit_nearest : limit64 ≡ round binary64 false (10 ^ 290) 1
unfolding round size
limit_nearest = refl

alpha_nearest : alpha64 ≡ round binary64 false 3218 10000
unfolding round size
alpha_nearest = refl

ratio_nearest : ratio64 ≡ round binary64 false 114 100
unfolding round size
ratio_nearest = refl

limit_bits : limit64 ≡ of_bits binary64 0x7c24_85ce_9e7a_065f
unfolding of_bits
limit_bits = refl

alpha_bits : alpha64 ≡ of_bits binary64 0x3fd4_985f_06f6_9446
unfolding of_bits
alpha_bits = refl

ratio_bits : ratio64 ≡ of_bits binary64 0x3ff2_3d70_a3d7_0a3d
unfolding of_bits
ratio_bits = refl

least_bits : least_normal64 ≡ of_bits binary64 0x0010_0000_0000_0000
unfolding of_bits
least_bits = refl

-- ---- 1e290 is accepted and the next double is not; an infinity gives 1, whatever stands beside it
limit_accepted : sample_number (limit64 ∷ []) ≡ 0
unfolding sample_number some abs_of lt
limit_accepted = refl

beyond_limit : sample_number (of_bits binary64 0x7c24_85ce_9e7a_0660 ∷ []) ≡ 2
unfolding sample_number some abs_of lt of_bits
beyond_limit = refl

one_before-two : sample_number (of_bits binary64 0x7c24_85ce_9e7a_0660 ∷ inf false ∷ []) ≡ 1
unfolding sample_number some abs_of lt of_bits
one_before-two = refl

-- ---- a quotient of 1000000 is accepted and 1000001 is not; scale 0 with a NaN sample gives 3
million_accepted : scale_number (million64 ∷ []) one64 ≡ 0
unfolding scale_number sample_number some abs_of lt quotients_of div round size
million_accepted = refl

beyond_million : scale_number (fin false 1000001 (pos 0) ∷ []) one64 ≡ 4
unfolding scale_number sample_number some abs_of lt quotients_of div round size
beyond_million = refl

zero_scale : scale_number (nan ∷ []) zero64 ≡ 3
unfolding scale_number lt
zero_scale = refl

-- ---- the origin scores minus infinity; 3 and 4 at the point (3, 4) score 5; zeros of both signs are the choice for zeros
origin : t_of (one64 ∷ []) (pos 0 ∷ []) ≡ inf true
unfolding t_of products doubles_of of_int sum_from mul add sum round size lt
origin = refl

three_four_five : t_of (fin false 3 (pos 0) ∷ fin false 1 (pos 2) ∷ []) (pos 3 ∷ pos 4 ∷ []) ≡ fin false 5 (pos 0)
unfolding t_of products doubles_of of_int sum_from mul add sum div round size lt rooted root_of root_units whole_root mag_units
three_four_five = refl

all_zero : choice_of (zero64 ∷ fin true 0 (pos 0) ∷ []) ≡ Zero
unfolding choice_of lower_scale largest_from abs_of lt eq
all_zero = refl

-- ---- 1.0 alone has the scale 0.3218 over the root of 24; the least double is divided by itself first
one_scale : choice_of (one64 ∷ []) ≡ Scale (of_bits binary64 0x3fb0_d0df_80bd_b263)
unfolding choice_of lower_scale largest_from abs_of lt eq le unit_norm root24 products quotients_of sum_from of_bits
one_scale = unfold mul add sum div round size rooted root_of root_units whole_root mag_units in refl

least_divided : choice_of (of_bits binary64 1 ∷ []) ≡ Divide (of_bits binary64 1) (of_bits binary64 0x3fb0_d0df_80bd_b263)
unfolding choice_of lower_scale largest_from abs_of lt eq le unit_norm root24 products quotients_of sum_from of_bits
least_divided = unfold mul add sum div round size rooted root_of root_units whole_root mag_units in refl

-- ---- what the theorem on quotients asks can be met: of one sample, 1.0
one-fits : AllFit (one64 ∷ [])
unfolding fits
one-fits zero = tt
one-fits (suc k) = tt

one_accepted : sample_number (one64 ∷ []) ≡ 0
unfolding sample_number some abs_of lt
one_accepted = refl

one_keeps : KeepsBoth (one64 ∷ []) (choice_of (one64 ∷ []))
one_keeps =
    choice-keeps (one64 ∷ []) one-fits (lit≤ tt) one_accepted
    (λ h. some_units (zero_choice (one64 ∷ []) one-fits one_accepted h 0 (lit≤ tt)))
  where
    some_units : mag_units one64 ≡ 0 → ⊥
    some_units e = lt_irrefl 0 (subst (λ (z : ℕ). 0 < z) e (some-digits false 0 (pos 0)))
