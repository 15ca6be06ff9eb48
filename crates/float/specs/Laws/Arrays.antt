-- Arrays of doubles: each element is one that the format holds, and the quotients place by place. Assumes nothing.
use Rattle.std.specs.Prelude.{◌≡◌, ℕ, zero, suc, ◌<◌, T, List, [], ◌∷◌, length, slice_index_or, refl, Float}
use Rattle.std.proofs.Common.{sym, ap, subst, not-suc-le-zero, le_of_suc-le-suc}
use Rattle.std.specs.Float.{nan, Format, binary64}
use Rattle.std.specs.Float.Ieee.{fits, div}
use Rattle.std.specs.Float.Ieee.Fits.{nan-fits}
use mir.Val.{Val}
use denote.Array.{each}
use denote.Floats.{FloatOf}
use denote.Shadow.{shadow}
use Rattle.float.specs.Calls.{quotients_of}

-- in a proof: search (each-held, rules)
pub each-held : (f : Format) (xs : List Float) (us : List Val) (i : ℕ) → shadow (each Float (FloatOf f).own_val xs us) → T (fits f (slice_index_or xs i nan))
each-held f [] us i p = nan-fits f
each-held f (x ∷ xs) [] i p = absurd p
each-held f (x ∷ xs) (u ∷ us) zero p = subst T (sym p.0.1) tt
each-held f (x ∷ xs) (u ∷ us) (suc i) p = each-held f xs us i p.1

pub quotients-length : (xs : List Float) (s : Float) → length (quotients_of xs s) ≡ length xs
unfolding quotients_of
quotients-length [] s = refl
quotients-length (x ∷ xs) s = ap suc (quotients-length xs s)

pub quotients-at : (xs : List Float) (s : Float) (k : ℕ) → k < length xs → slice_index_or (quotients_of xs s) k nan ≡ div binary64 (slice_index_or xs k nan) s
unfolding quotients_of
quotients-at [] s k h = absurd (not-suc-le-zero h)
quotients-at (x ∷ xs) s zero h = refl
quotients-at (x ∷ xs) s (suc k) h = quotients-at xs s k (le_of_suc-le-suc h)
