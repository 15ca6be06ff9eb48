-- What is printed for document 01's example of a page, and for a text that is no page, written out. Assumes nothing.
use Rattle.std.specs.Prelude.{◌≡◌, refl, List, [], ◌∷◌, ◌++◌, map, ℤ}
use Rattle.std.proofs.Common.{ap}
use Rattle.laws.specs.Words.{tab}
use Rattle.text.specs.Text.{bytes, decimal, signed, commas, listed, refused_text}
use Rattle.tetra.specs.Points.{P}
use Rattle.page.specs.Counts.{count_by, count_of, block_counts, page_counts}
use Rattle.page.specs.Answer.{page, malformed, number_in, words_in, counts_in}
use Rattle.shown.specs.Shown.{block_text, block_texts, printed}

pub example_prints : printed (page 128 (1 ∷ []))
    ≡ bytes "block=0\ncounts=0,0,0,0,0,0,0,0,0,0,0,0,0,0,0,0,0,0,0,0,0,0,0,-2\n"
unfolding printed number_in words_in counts_in block_texts block_text listed commas signed decimal page_counts block_counts count_by tab
example_prints = ap (λ (y : List ℤ). block_texts 0 1 (map (count_of 128) y ++ [])) P.1

-- a text that is no page
pub refusal_prints : printed malformed ≡ bytes "refused=9\n"
unfolding printed number_in refused_text decimal
refusal_prints = refl
