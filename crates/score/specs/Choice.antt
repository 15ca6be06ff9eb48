-- A choice of scale, made by one call and coded at by another, on the same samples or on others: request 2026-07 of document 02. The choice that
-- samples give is `choice_of` (Scale.antt). Definitions only.
use Rattle.std.specs.Prelude.{Bool, false, cond, not, ◌&&◌, List, ℕ, T, eqb, negsuc, Float, Result, Ok, Err}
use Rattle.std.specs.Float.{fin, binary64}
use Rattle.std.specs.Float.Ieee.{fits, lt, le, eq}
use Rattle.refusal.specs.declared.Refusal.{Refusal}
use Rattle.refusal.specs.Refusal.{no_scale, number_of}
use Rattle.float.specs.Value.{zero64}
use Rattle.float.specs.Calls.{quotients_of}
use Rattle.score.specs.declared.Choice.{Choice}
use Rattle.score.specs.declared.Choice.TheVariants.{Zero, Scale, Divide}
use Rattle.score.specs.Samples.{some, sample_number, is_scale, or_else, quotient_number}
use Rattle.score.specs.Scale.{choice_of, first_scale, second_scale}

-- ---- the doubles of a choice: its magnitude, where it has one, and its scale (`first_scale`)
abbrev pub magnitude_of : Choice → Float
magnitude_of Zero = zero64
magnitude_of (Scale s) = zero64
magnitude_of (Divide m s) = m

-- each is one that the format holds
abbrev pub ChoiceFits : Choice → Type 0
ChoiceFits h = T (fits binary64 (magnitude_of h)) × T (fits binary64 (first_scale h))

-- ---- the call `choose`: 1 or 2, with the all-zero choice, or number 0 and the choice that the samples give
pub record Chosen : Type 0 where
  pub number : ℕ
  pub choice : Choice

abbrev pub chosen_by : Result Choice Refusal → Chosen
chosen_by (Ok c) = record { number = 0; choice = c }
chosen_by (Err r) = record { number = number_of r; choice = Zero }

abbrev pub chosen_as : ℕ → Choice → Chosen
chosen_as n c = cond (eqb n 0) (record { number = 0; choice = c }) (record { number = n; choice = Zero })

unfoldable pub chosen : List Float → Chosen
chosen xs = chosen_as (sample_number xs) (choice_of xs)

-- ---- what is refused of a choice, with 3
-- 2 ^ -1000: no magnitude to divide by is larger
abbrev pub most_magnitude64 : Float
most_magnitude64 = fin false 1 (negsuc 999)

-- the doubles nearest 0.06 and 0.33, bits 0x3fae_b851_eb85_1eb8 and 0x3fd5_1eb8_51eb_851f: a scale beside a magnitude lies between, ends included
abbrev pub least_beside64 : Float
least_beside64 = fin false 1080863910568919 (negsuc 53)

abbrev pub most_beside64 : Float
most_beside64 = fin false 5944751508129055 (negsuc 53)

-- a number other than 0: a NaN equals nothing, so it is one, and -0.0 is none
abbrev pub nonzero : Float → Bool
nonzero x = not (eq x zero64)

-- the scale and 1.14 times it are finite numbers above 0
abbrev pub is_pair : Float → Bool
is_pair s = is_scale s && is_scale (second_scale s)

-- a magnitude that samples are divided by, and the scale for afterwards
abbrev pub is_division : Float → Float → Bool
is_division m s = lt zero64 m && (le m most_magnitude64 && (le least_beside64 s && le s most_beside64))

-- ---- the number of samples at a choice: 3, then 1 and 2 on the samples as given, then 4 at either of the two scales
-- 4 where a quotient exceeds a million in magnitude at s or at 1.14 times it
abbrev pub pair_number : List Float → Float → ℕ
pair_number zs s = or_else (quotient_number (quotients_of zs s)) (quotient_number (quotients_of zs (second_scale s)))

-- samples xs that are coded as zs, which are xs or xs divided
abbrev pub number_for : Bool → List Float → List Float → Float → ℕ
number_for good xs zs s = cond good (or_else (sample_number xs) (pair_number zs s)) no_scale

unfoldable pub choice_number : Choice → List Float → ℕ
choice_number Zero xs = cond (some nonzero xs) no_scale 0
choice_number (Scale s) xs = number_for (is_pair s) xs xs s
choice_number (Divide m s) xs = number_for (is_division m s) xs (quotients_of xs m) s
