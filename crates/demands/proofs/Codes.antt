-- DEMAND 2, for samples: the code of an accepted call is a word below 2 ^ 47 and a point, the word decodes to the point and the point encodes to
-- the word (`Coded`). So it is at a scale of the caller's, and at the scale that the samples give, the zero vector among them. An array of
-- samples holds 24 doubles, which is what `length` and `AllFit` say; number 0 is what `encode_at_scale` and `encode_with` answer where they
-- accept. It is proved once over the parities searched (Coded): the full coder and the even profile are two instances. Assumes nothing.
use Rattle.std.specs.Prelude.{◌≡◌, List, ℕ, T, length, Float}
use Rattle.std.proofs.Common.{subst}
use Rattle.std.specs.Float.{binary64}
use Rattle.std.specs.Float.Ieee.{fits}
use Rattle.tetra.specs.Lattice.{HasWord}
use Rattle.tetra.specs.Demand2.{decodes, parity_is}
use Rattle.tetra.specs.Points.{P}
use Rattle.score.specs.Samples.{AllFit}
use Rattle.search.specs.Parity.{both_parities, even_parities}
use Rattle.nearest.specs.OnPoint.{origin}
use Rattle.members.proofs.Members.{has_word, has_word-even, is_even}
use Rattle.encoder.specs.Encode.{number_at, encode_at_over, encode_at_scale, number_of, encode_over, encode_with}
use Rattle.demands.specs.Promised.{Even, Coded}
use Rattle.demands.proofs.Coded.{at_scale_over, samples_over}

-- ---- the full coder
zero_word : HasWord origin
zero_word = subst HasWord P.0 (decodes 0)

pub at_scale_lem : (x : List Float) (s : Float) (n : ℕ) → length x ≡ 24 → AllFit x → T (fits binary64 s) → number_at x s n ≡ 0
    → Coded (encode_at_scale x s n)
at_scale_lem x s n l f d e = (at_scale_over both_parities HasWord zero_word has_word has_word x s n l f d e).0

pub samples : (x : List Float) (n : ℕ) → length x ≡ 24 → AllFit x → number_of x n ≡ 0 → Coded (encode_with x n)
samples x n l f e = (samples_over both_parities HasWord zero_word has_word has_word x n l f e).0

-- ---- the even profile: and there the point is even
zero_even : Even origin
zero_even = subst Even P.0 (parity_is 0)

pub even_at_scale_lem : (x : List Float) (s : Float) (n : ℕ) → length x ≡ 24 → AllFit x → T (fits binary64 s) → number_at x s n ≡ 0
    → Coded (encode_at_over even_parities x s n) × Even (encode_at_over even_parities x s n).point
even_at_scale_lem = at_scale_over even_parities Even zero_even has_word-even is_even

pub even-samples : (x : List Float) (n : ℕ) → length x ≡ 24 → AllFit x → number_of x n ≡ 0
    → Coded (encode_over even_parities x n) × Even (encode_over even_parities x n).point
even-samples = samples_over even_parities Even zero_even has_word-even is_even
