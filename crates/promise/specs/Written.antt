-- THE DEMANDS OVER THE PAGE WRITER: where `write` accepts, demand 2 and demand 3 hold at each block, whose code is taken at the page's scale and
-- the setting 8. Assumes nothing.
use Rattle.std.specs.Prelude.{◌≡◌, List, [], ◌∷◌, ℕ, zero, suc, ◌+◌, ◌*◌, ◌<◌, T, ℤ, pos, length, get_or}
use Rattle.std.proofs.Common.{◌∙◌}
use Rattle.std.specs.Float.{binary64}
use Rattle.std.specs.Float.Ieee.{fits}
use Rattle.std.specs.Float.Ieee.Fits.{of_int-fits}
use Rattle.laws.specs.Laws.Lists.{tab-length}
use Rattle.tetra.specs.Lattice.{HasWord}
use Rattle.tetra.specs.Block.{block_at}
use Rattle.float.specs.Calls.{quotients_of}
use Rattle.score.specs.Samples.{AllFit}
use Rattle.score.specs.Score.{doubles_of}
use Rattle.score.specs.Laws.Score.{doubles-length}
use Rattle.writer.specs.Writer.{scale_of, written_of}
use Rattle.writer.specs.WriterRule.{block-accepted, good_num}
use Rattle.writer.specs.Laws.Scale.{scale-exactly}
use Rattle.demands.specs.Promised.{Coded, Returns}
use Rattle.demands.proofs.Codes.{at_scale_lem}
use Rattle.demands.specs.Demand3.{nearest-at_scale}
use Rattle.promise.specs.Demands.{NearestBy, block_of, block_code}

-- whole numbers as doubles are doubles
doubles_fit : (ys : List ℤ) → AllFit (doubles_of ys)
unfolding doubles_of fits
doubles_fit [] k = tt
doubles_fit (y ∷ ys) zero = of_int-fits binary64 y
doubles_fit (y ∷ ys) (suc k) = doubles_fit ys k

module _ (num count : ℕ) (x : List ℤ) (old : List ℕ) (zero : (written_of num count x (length old)).number ≡ 0) (i : ℕ) (h : i < count) where
  block-length : length (block_of x i) ≡ 24
  block-length = doubles-length (block_at x (24 * i)) ∙ tab-length ℤ (λ (j : ℕ). get_or x (24 * i + j) (pos 0)) 24

  scale-fits : T (fits binary64 (scale_of num))
  scale-fits = (scale-exactly num (good_num num count x old zero).1).fit

  -- demand 2: the word of block i decodes to the point of its code, and the point encodes to the word
  pub block-coded : Coded (block_code num x i)
  block-coded =
      at_scale_lem (block_of x i) (scale_of num) 8 block-length (doubles_fit (block_at x (24 * i))) scale-fits (block-accepted num count x old zero i h)

  -- demand 3: a point that has a word and is so much the nearest is the point of that code
  pub block-nearest : (y : List ℤ) → HasWord y → NearestBy y (quotients_of (block_of x i) (scale_of num)) → Returns y (block_code num x i)
  block-nearest y W N =
      nearest-at_scale (block_of x i) (scale_of num) 8 block-length (doubles_fit (block_at x (24 * i))) scale-fits
      (block-accepted num count x old zero i h) y W N
