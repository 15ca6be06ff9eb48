-- What is printed for document 01's example of a page, for an empty page, and for a text that is no page, written out. Assumes nothing.
use Rattle.std.specs.Prelude.{◌≡◌, refl, List, [], ◌∷◌, ◌++◌, ℤ}
use Rattle.std.proofs.Common.{ap}
use Rattle.laws.specs.Words.{norm, tab}
use Rattle.text.specs.Text.{bytes, decimal, signed, refused_text}
use Rattle.tetra.specs.Points.{P}
use Rattle.page.specs.Answer.{page, malformed, number_in, words_in}
use Rattle.summary.specs.Summary.{taken, row_of, block_row, points, odds, page_row, block_rows, summary_of}
use Rattle.sized.specs.Sized.{row_text, block_text, block_texts, summary_text, printed}

pub example_prints : printed (page 128 (1 ∷ []))
    ≡ bytes "blocks=1\nsum=32\nlargest=1\nsmallest=-3\nodd=1\nblock=0\nsum=32\nlargest=1\nsmallest=-3\nodd=1\n"
unfolding printed number_in words_in summary_text block_texts block_text row_text signed decimal summary_of page_row block_rows block_row row_of points odds
    taken norm tab
example_prints = ap (λ (y : List ℤ). summary_text 1 (row_of (y ++ []) 1 ++ (row_of y 1 ++ []))) P.1

-- an empty page
pub empty_prints : printed (page 1 []) ≡ bytes "blocks=0\nsum=0\nlargest=0\nsmallest=0\nodd=0\n"
unfolding printed number_in words_in summary_text block_texts row_text signed decimal summary_of page_row block_rows row_of points odds taken norm
empty_prints = refl

-- a text that is no page
pub refusal_prints : printed malformed ≡ bytes "refused=9\n"
unfolding printed number_in refused_text decimal
refusal_prints = refl
