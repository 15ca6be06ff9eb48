-- Worked examples, computed; and the margin and the million by what they are. Assumes nothing.
use Rattle.std.specs.Prelude.{◌≡◌, ◌*◌, ◌^◌, ◌<◌, true, false, T, [], ◌∷◌, ℤ, pos, negsuc, unsigned_abs, refl}
use Rattle.std.proofs.Math.Dec.{lit≤}
use Rattle.std.specs.Float.{nan, inf, binary64}
use Rattle.std.specs.Float.Ieee.{of_bits, round, size, lt}
use Rattle.float.specs.Value.{U, mag_units, zero64}
use Rattle.float.specs.Calls.{million64, half_up, round_away, clamped, rounded}
use Rattle.float.specs.Distance.{margin, sq_dist, float_dist}
use Rattle.float.specs.Laws.Exact.{zero-fits}
use Rattle.float.specs.Laws.Margin.{Tame, AllTame, margin_decides}

-- ---- the least double is one unit
least_units : mag_units (of_bits binary64 1) ≡ 1
unfolding mag_units of_bits
least_units = refl

-- ---- 2 ^ 20 margins are one, in units of 2 ^ -2148: the square of one in units of 2 ^ -1074
margin_is : margin * 2 ^ 20 ≡ U * U
margin_is = refl

-- ---- a million is the double nearest to 10 ^ 6
million_nearest : million64 ≡ round binary64 false (10 ^ 6) 1
unfolding round size
million_nearest = refl

-- ---- halves go away from zero: -0.5, 0.5, 2.5 and -2.5
minus_half : rounded (of_bits binary64 0xbfe0_0000_0000_0000) ≡ negsuc 0
unfolding rounded clamped round_away half_up mag_units of_bits lt
minus_half = refl

half : rounded (of_bits binary64 0x3fe0_0000_0000_0000) ≡ pos 1
unfolding rounded clamped round_away half_up mag_units of_bits lt
half = refl

two-and_half : rounded (of_bits binary64 0x4004_0000_0000_0000) ≡ pos 3
unfolding rounded clamped round_away half_up mag_units of_bits lt
two-and_half = refl

minus-two-and_half : rounded (of_bits binary64 0xc004_0000_0000_0000) ≡ negsuc 2
unfolding rounded clamped round_away half_up mag_units of_bits lt
minus-two-and_half = refl

-- 0.49999999999999994, the double below a half; a half added to it would be rounded to 1
below_half : rounded (of_bits binary64 0x3fdf_ffff_ffff_ffff) ≡ pos 0
unfolding rounded clamped round_away half_up mag_units of_bits lt
below_half = refl

-- ---- beyond a million, and a NaN
million-and_half : rounded (of_bits binary64 0x412e_8480_8000_0000) ≡ pos 1000000
unfolding rounded clamped round_away half_up mag_units of_bits lt
million-and_half = refl

minus-infinity : rounded (inf true) ≡ negsuc 999999
unfolding rounded clamped round_away half_up mag_units lt
minus-infinity = refl

no_number : rounded nan ≡ pos 0
unfolding rounded clamped round_away half_up mag_units lt
no_number = refl

-- ---- what the margin asks can be met: of 0 and 1, 0 is the nearer to 0.0
tame_zero : (y : ℤ) → unsigned_abs y < 32 → Tame y zero64
tame_zero y h = record { fit = zero-fits; fin = tt; small_y = h; small_t = unfold mag_units in lit≤ tt }

zero_nearer : T (lt (float_dist (pos 0 ∷ []) (zero64 ∷ [])) (float_dist (pos 1 ∷ []) (zero64 ∷ [])))
unfolding AllTame
zero_nearer =
    margin_decides (pos 0 ∷ []) (pos 1 ∷ []) (zero64 ∷ []) (lit≤ tt) (tame_zero (pos 0) (lit≤ tt), tt) (tame_zero (pos 1) (lit≤ tt), tt)
    (unfold sq_dist mag_units in lit≤ tt)
