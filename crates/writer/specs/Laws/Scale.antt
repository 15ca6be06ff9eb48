-- The scale of a page is the exact quotient of num by 256. Assumes nothing.
use Rattle.std.specs.Prelude.{◌≡◌, refl, Bool, false, ℕ, ◌*◌, ◌^◌, ◌<◌, ◌≤◌, T, pos, Float}
use Rattle.std.proofs.Common.{ap, sym, subst, ◌∙◌, le_of_eq, mul-le-mul_right, mul_assoc, mul_comm, mul_left_comm, mul-one, lt_of_le_of_lt, lt_of_lt_of_le, mul-lt-mul_of_pos_right, mul-pos, zero-lt-suc, lit≤, pow_pos}
use Rattle.std.proofs.Math.Nat.{eq_of_mul-eq-mul_right}
use Rattle.std.specs.Float.{fin, binary64}
use Rattle.std.specs.Float.Ieee.{fits, of_int, round, lt, unlike}
use Rattle.std.specs.Float.Ieee.Scale.{finite}
use Rattle.laws.specs.Laws.Tests.{and_in}
use Rattle.float.specs.Value.{U, mag_units, is_minus, zero64}
use Rattle.float.specs.Laws.Exact.{Exactly, round-exactly}
use Rattle.float.specs.Laws.Arithmetic.{div-fraction}
use Rattle.score.specs.Samples.{is_scale}
use Rattle.score.specs.Laws.Largest.{Plain, above_zero}
use Rattle.writer.specs.Writer.{scale_of}

-- a num as a double
num_exactly : (num : ℕ) → num ≤ 65535 → Exactly (of_int binary64 (pos num)) false (num * U)
unfolding of_int
num_exactly num h = round-exactly false num 1 num 1074 (zero-lt-suc 0) small room (sym (mul-one (num * U)))
  where
    small : num < 2 ^ 53
    small = lt_of_le_of_lt h (lit≤ tt)

    room : num * 2 ^ 1074 < 2 ^ 2098
    room = lt_of_lt_of_le (mul-lt-mul_of_pos_right small (pow_pos 1074)) (lit≤ tt)

-- 256.0
abbrev whole256 : Float
whole256 = fin false 1 (pos 8)

-- 2 ^ 1066 units are a 256th
cancel : (k a n d t u w : ℕ) → 0 < w → w ≡ k * u → u ≡ t * k → a * w ≡ n * u * u * d → a ≡ n * t * d
cancel k a n d t u w p e f h = eq_of_mul-eq-mul_right w p a (n * t * d) (h ∙ shape)
  where
    turn : n * (t * k) * u * d ≡ n * t * d * (k * u)
    turn = simp (mul_assoc, mul_comm, mul_left_comm)

    shape : n * u * u * d ≡ n * t * d * w
    shape = ap (λ (z : ℕ). n * z * u * d) f ∙ turn ∙ ap (λ (z : ℕ). n * t * d * z) (sym e)

pub scale-exactly : (num : ℕ) → num ≤ 65535 → Exactly (scale_of num) false (num * 2 ^ 1066)
unfolding scale_of fits mag_units
scale-exactly num h =
    let x = of_int binary64 (pos num) in
    let i = num_exactly num h in
    let f = div-fraction x whole256 i.fit tt i.fin tt (pow_pos 1082) in
    let s : unlike (is_minus x) false ≡ false = ap (λ (b : Bool). unlike b false) i.sign in
    let v : f.num * U * 2 ^ 1082 ≡ num * U * U * f.den = f.same ∙ ap (λ (m : ℕ). m * U * f.den) i.mag in
    let e = cancel 256 (f.num * U) num f.den (2 ^ 1066) U (2 ^ 1082) (pow_pos 1082) refl refl v in
    subst (λ (z : Float). Exactly z false (num * 2 ^ 1066)) (sym f.is)
    (subst (λ (b : Bool). Exactly (round binary64 b f.num f.den) false (num * 2 ^ 1066)) (sym s)
    (round-exactly false f.num f.den num 1066 f.den_pos (lt_of_le_of_lt h (lit≤ tt)) room e))
  where
    room : num * 2 ^ 1066 < 2 ^ 2098
    room = lt_of_le_of_lt (mul-le-mul_right (2 ^ 1066) h) (lit≤ tt)

-- it is a scale, where num is not 0
pub scale-accepted : (num : ℕ) → 1 ≤ num → num ≤ 65535 → T (is_scale (scale_of num))
scale-accepted num a b =
    let e = scale-exactly num b in
    let p : Plain (scale_of num) = record { fit = e.fit; fin = e.fin; sign = e.sign } in
    and_in (finite (scale_of num)) (lt zero64 (scale_of num)) e.fin
    (above_zero (scale_of num) p (lt_of_lt_of_le (mul-pos a (pow_pos 1066)) (le_of_eq (sym e.mag))))
