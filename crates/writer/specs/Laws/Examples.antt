-- Calls worked out from the definitions: an empty page, the order of the refusals, the block that is named, and where 2 and 4 begin. So no
-- limit can become another in the definitions and in the code together. Assumes nothing.
use Rattle.std.specs.Prelude.{◌≡◌, refl, false, [], ◌∷◌, ◌++◌, pos, negsuc, replicate}
use Rattle.std.specs.Float.Ieee.{div, of_int, round, size, lt}
use Rattle.laws.specs.Words.{tab}
use Rattle.text.specs.Text.{bytes, decimal}
use Rattle.float.specs.Calls.{abs_of, quotients_of}
use Rattle.score.specs.Samples.{some, sample_number, scale_number}
use Rattle.score.specs.Score.{doubles_of}
use Rattle.page.specs.Page.{format_line, num_line, count_line, word_lines, page_text}
use Rattle.page.specs.Form.{is_num}
use Rattle.writer.specs.Writer.{scale_of, is_wide, is_far, first_of, text_of, refused_at, written_of, text_after, Gives}

-- ---- no blocks: the page of num 256, in a text of one byte more, which stays
pub empty_page : Gives 256 0 [] (replicate 35 7) (record { number = 0; block = 0; length = 34 })
    (bytes "format=tetra-page\nnum=256\ncount=0\n" ++ (7 ∷ []))
unfolding written_of text_after text_of is_num first_of tab page_text format_line num_line count_line word_lines decimal
empty_page = (refl, refl)

pub empty_page_short : Gives 256 0 [] (replicate 33 7) (refused_at 8 0) (replicate 33 7)
unfolding written_of text_after text_of is_num first_of tab page_text format_line num_line count_line word_lines decimal
empty_page_short = (refl, refl)

-- ---- num 0 and num 65536, 65 blocks, 23 samples, each with all that is refused behind it
pub bad_nums : Gives 0 65 [] [] (refused_at 3 0) [] × Gives 65536 65 [] [] (refused_at 3 0) []
unfolding written_of text_after is_num
bad_nums = ((refl, refl), (refl, refl))

pub too_many : Gives 1 65 [] [] (refused_at 9 0) []
unfolding written_of text_after is_num
too_many = (refl, refl)

pub samples_23 : Gives 1 1 (replicate 23 (pos 40000)) [] (refused_at 8 0) []
unfolding written_of text_after is_num
samples_23 = (refl, refl)

-- ---- at num 1 a first sample of 32767 is too far for the scale, yet the -32768 at the end of block 2 is told first
pub two-before_four : Gives 1 3 (pos 32767 ∷ replicate 70 (pos 0) ++ (negsuc 32767 ∷ [])) [] (refused_at 2 2) []
unfolding written_of text_after is_num first_of is_wide tab
two-before_four = (refl, refl)

-- ---- 256 * 3907 exceeds a million, so at num 1 block 1 is refused with 4; block 2, which is worse, is not named
pub lowest_four : Gives 1 3 (replicate 24 (pos 3906) ++ (pos 3907 ∷ replicate 23 (pos 0) ++ replicate 24 (pos 5000))) [] (refused_at 4 1) []
unfolding written_of text_after is_num first_of is_wide is_far tab scale_of doubles_of scale_number sample_number some quotients_of abs_of lt div of_int round
    size
lowest_four = (refl, refl)

-- ---- what stands behind the last block is not looked at
pub behind : first_of is_wide (replicate 24 (pos 32767) ++ (pos 40000 ∷ [])) 0 1 ≡ 1
unfolding first_of is_wide tab
behind = refl

-- ---- at num 9 no sample is too far
pub nine_is_near : is_far (scale_of 9) (replicate 24 (pos 32767)) ≡ false
unfolding is_far scale_of doubles_of scale_number sample_number some quotients_of abs_of lt div of_int round size
nine_is_near = refl
