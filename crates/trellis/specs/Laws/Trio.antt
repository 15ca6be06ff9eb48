-- Trio order is a permutation of the 24 coordinates; the three octads are disjoint, cover them, and are codewords. Assumes nothing.
use Rattle.std.specs.Prelude.{◌≡◌, refl, Bool, ◌&&◌, ℕ, ◌<◌, T, eqb, ltb, length, get_or}
use Rattle.std.proofs.Common.{eqb→eq, ltb→lt}
use Rattle.std.specs.Int.Bits.{bit_and, bit_or}
use Rattle.laws.specs.Laws.Tests.{split4, upto, below}
use Rattle.laws.specs.Words.{tab, seek}
use Rattle.laws.specs.Laws.Lists.{tab-length}
use Rattle.laws.specs.Words.{weight}
use Rattle.trellis.specs.Code.{codeword_of, columns}
use Rattle.trellis.specs.Trio.{octad1, octad2, octad3, order, places}

pub order-length : length order ≡ 24
unfolding order
order-length = refl

pub places-length : length places ≡ 24
unfolding places
places-length = tab-length ℕ (λ (i : ℕ). seek i order) 24

fits : ℕ → Bool
fits k =
    ltb (get_or order k 0) 24
    && (ltb (get_or places k 0) 24 && (eqb (get_or places (get_or order k 0) 0) k && eqb (get_or order (get_or places k 0) 0) k))

all_fit : T (upto 24 fits)
unfolding fits order places tab
all_fit = tt

-- the coordinate at place k, the place of coordinate k, and that each undoes the other
pub record Fits (k : ℕ) : Type 0 where
  pub order_lt : get_or order k 0 < 24
  pub place-lt : get_or places k 0 < 24
  pub place-order : get_or places (get_or order k 0) 0 ≡ k
  pub order-place : get_or order (get_or places k 0) 0 ≡ k

pub trio-fits : (k : ℕ) → k < 24 → Fits k
unfolding fits
trio-fits k h =
    let a = get_or order k 0 in
    let b = get_or places k 0 in
    let t = split4 (ltb a 24) (ltb b 24) (eqb (get_or places a 0) k) (eqb (get_or order b 0) k) (below 24 fits all_fit k h) in
    record {
      order_lt = ltb→lt a 24 t.0;
      place-lt = ltb→lt b 24 t.1;
      place-order = eqb→eq (get_or places a 0) k t.2;
      order-place = eqb→eq (get_or order b 0) k t.3;
    }

-- eight coordinates each, none in two of them, and all 24 in one
pub octad_weights : (weight 24 octad1 ≡ 8) × (weight 24 octad2 ≡ 8) × (weight 24 octad3 ≡ 8)
octad_weights = (refl, refl, refl)

pub octads_disjoint : (bit_and octad1 octad2 ≡ 0) × (bit_and octad1 octad3 ≡ 0) × (bit_and octad2 octad3 ≡ 0)
octads_disjoint = (refl, refl, refl)

pub octads_cover : bit_or octad1 (bit_or octad2 octad3) ≡ 0xffffff
octads_cover = refl

-- in trio order the octads are the three whole sections, and these are codewords
pub octads_in : (codeword_of columns 64 ≡ 0x0000ff) × (codeword_of columns 1920 ≡ 0x00ff00) × (codeword_of columns 2048 ≡ 0xff0000)
unfolding columns
octads_in = (refl, refl, refl)
