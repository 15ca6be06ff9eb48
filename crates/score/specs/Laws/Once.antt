-- No second answer fits: what a contract says of an answer of this crate leaves one. Assumes nothing.
use Rattle.std.specs.Prelude.{◌≡◌, refl, Bool, List, ℕ, eqb, ℤ, Float, Result}
use Rattle.std.proofs.Common.{ap}
use Rattle.refusal.specs.declared.Refusal.{Refusal}
use Rattle.refusal.specs.Refusal.{number_in}
use Rattle.refusal.proofs.Once.{Tells, tells, tells-either, tells-record, once, checked_once}
use Rattle.std.specs.Float.Ieee.{eq}
use Rattle.float.specs.Value.{zero64}
use Rattle.float.specs.Calls.{million64, quotients_of}
use Rattle.score.specs.declared.Scales.{Scales}
use Rattle.score.specs.declared.Choice.{Choice}
use Rattle.score.specs.declared.Choice.TheVariants.{Zero, Scale, Divide}
use Rattle.score.specs.Samples.{limit64, unbounded, exceeds, some, sample_number, is_scale, or_else, quotient_number, scale_number}
use Rattle.score.specs.Score.{Scored, t_of, scored_by, scored}
use Rattle.score.specs.Scale.{Measured, measured_by, largest_of, lower_scale, scales, choice_of, second_scale}
use Rattle.score.specs.Choice.{Chosen, chosen_by, chosen, nonzero, is_pair, is_division, number_for, choice_number}

-- ---- the numbers: 1 to 4, so each tells its reason
pub sample-tells : (xs : List Float) → Tells (sample_number xs)
unfolding sample_number
sample-tells xs = tells-either (some unbounded xs) _ _ (tells 1 refl) (tells-either (some (exceeds limit64) xs) _ _ (tells 2 refl) (tells 0 refl))

quotient-tells : (qs : List Float) → Tells (quotient_number qs)
quotient-tells qs = tells-either (some (exceeds million64) qs) _ _ (tells 4 refl) (tells 0 refl)

else-tells : (m n : ℕ) → Tells m → Tells n → Tells (or_else m n)
else-tells m n h k = tells-either (eqb m 0) n m k h

pub scale-tells : (xs : List Float) (s : Float) → Tells (scale_number xs s)
unfolding scale_number
scale-tells xs s =
    tells-either (is_scale s) _ _ (else-tells _ _ (sample-tells xs) (quotient-tells (quotients_of xs s))) (tells 3 refl)

for-tells : (good : Bool) (xs zs : List Float) (s : Float) → Tells (number_for good xs zs s)
for-tells good xs zs s =
    tells-either good _ _
    (else-tells _ _ (sample-tells xs)
    (else-tells _ _ (quotient-tells (quotients_of zs s)) (quotient-tells (quotients_of zs (second_scale s))))) (tells 3 refl)

pub choice-tells : (h : Choice) (xs : List Float) → Tells (choice_number h xs)
unfolding choice_number
choice-tells Zero xs = tells-either (some nonzero xs) _ _ (tells 3 refl) (tells 0 refl)
choice-tells (Scale s) xs = for-tells (is_pair s) xs xs s
choice-tells (Divide m s) xs = for-tells (is_division m s) xs (quotients_of xs m) s

-- ---- check_samples, check_scale, check_choice
pub one_sample_check : (xs : List Float) (a b : Result (Unit {0}) Refusal) → number_in a ≡ sample_number xs → number_in b ≡ sample_number xs → a ≡ b
one_sample_check xs = checked_once (sample_number xs) (sample-tells xs)

pub one_scale_check : (xs : List Float) (s : Float) (a b : Result (Unit {0}) Refusal)
    → number_in a ≡ scale_number xs s → number_in b ≡ scale_number xs s → a ≡ b
one_scale_check xs s = checked_once (scale_number xs s) (scale-tells xs s)

pub one_choice_check : (h : Choice) (xs : List Float) (a b : Result (Unit {0}) Refusal)
    → number_in a ≡ choice_number h xs → number_in b ≡ choice_number h xs → a ≡ b
one_choice_check h xs = checked_once (choice_number h xs) (choice-tells h xs)

-- ---- t_of
score-tells : (xs : List Float) (ys : List ℤ) → Tells (scored xs ys).number
score-tells xs ys =
    tells-record (λ (r : Scored). r.number) (eqb (sample_number xs) 0) (record { number = 0; score = t_of xs ys })
    (record { number = sample_number xs; score = zero64 }) (tells 0 refl) (sample-tells xs)

pub one_score : (xs : List Float) (ys : List ℤ) (a b : Result Float Refusal) → scored_by a ≡ scored xs ys → scored_by b ≡ scored xs ys → a ≡ b
one_score xs ys =
    once scored_by (λ (r : Scored). r.number)
    (record { accepted = λ v. refl; refused = λ r. refl; same = λ v w e. ap (λ (r : Scored). r.score) e }) (scored xs ys) (score-tells xs ys)

-- ---- lower_scale
measure-tells : (xs : List Float) → Tells (lower_scale xs).number
unfolding lower_scale
measure-tells xs = tells-record (λ (r : Measured). r.number) (eq (largest_of xs) zero64) _ _ (tells 0 refl) (tells 0 refl)

scales-tell : (xs : List Float) → Tells (scales xs).number
scales-tell xs =
    tells-record (λ (r : Measured). r.number) (eqb (sample_number xs) 0) (lower_scale xs)
    (record { number = sample_number xs; largest = zero64; scale = zero64 }) (measure-tells xs) (sample-tells xs)

pub one_pair_of_scales : (xs : List Float) (a b : Result Scales Refusal) → measured_by a ≡ scales xs → measured_by b ≡ scales xs → a ≡ b
one_pair_of_scales xs =
    once measured_by (λ (r : Measured). r.number)
    (record { accepted = λ v. refl; refused = λ r. refl; same = λ v w e. ap scales_in e }) (scales xs) (scales-tell xs)
  where
    scales_in : Measured → Scales
    scales_in r = record { largest = r.largest; scale = r.scale }

-- ---- choose
chosen-tells : (xs : List Float) → Tells (chosen xs).number
unfolding chosen
chosen-tells xs =
    tells-record (λ (r : Chosen). r.number) (eqb (sample_number xs) 0) (record { number = 0; choice = choice_of xs })
    (record { number = sample_number xs; choice = Zero }) (tells 0 refl) (sample-tells xs)

pub one_choice : (xs : List Float) (a b : Result Choice Refusal) → chosen_by a ≡ chosen xs → chosen_by b ≡ chosen xs → a ≡ b
one_choice xs =
    once chosen_by (λ (r : Chosen). r.number)
    (record { accepted = λ v. refl; refused = λ r. refl; same = λ v w e. ap (λ (r : Chosen). r.choice) e }) (chosen xs) (chosen-tells xs)
