-- Document 01's example of a page, and the limits of a page, computed from texts written out: so no key, figure or limit can become another in
-- the definitions and in the code together. Assumes nothing.
use Rattle.std.specs.Prelude.{◌≡◌, refl, List, [], ◌∷◌, ◌++◌, map, ℕ, zero, suc, ◌-◌, ◌^◌, pos, negsuc, replicate}
use Rattle.text.specs.Text.{bytes, decimal, hex}
use Rattle.text.specs.Lines.{begins, digit_at, hex_at, decimal_at, decimal_line_at}
use Rattle.page.specs.Page.{format_line, num_line, count_line, word_line, word_lines, page_text}
use Rattle.page.specs.Counts.{count_by, count_of}
use Rattle.page.specs.Answer.{page, malformed}
use Rattle.page.specs.Form.{is_num, form_text, form_number, formed_of, form_in}
use Rattle.page.specs.Reader.{format_at, word_line_at, words_at, count_at, num_at, reading_of}

-- ---- the example: the text is the page of num 128 and the word 1
abbrev pub example : List ℕ
example = bytes "format=tetra-page\nnum=128\ncount=1\nword=000000000001\n"

pub example_reads : reading_of example ≡ page 128 (1 ∷ [])
unfolding reading_of num_at count_at words_at word_line_at decimal_line_at format_at format_line decimal_at hex_at digit_at
    begins
example_reads = refl

-- and it is what `form` makes of them, in a buffer of one byte more, which stays
pub example_formed : formed_of 128 1 (1 ∷ replicate 63 0) 53 ≡ record { number = 0; length = 52 }
unfolding formed_of form_number is_num form_text page_text format_line num_line count_line word_lines word_line decimal hex
example_formed = refl

pub example_in : form_in 128 1 (1 ∷ replicate 63 0) (replicate 53 7) ≡ example ++ (7 ∷ [])
unfolding form_in form_number is_num form_text page_text format_line num_line count_line word_lines word_line decimal hex
example_in = refl

-- ---- halves of either sign go to the even number: 0.5, 1.5, 2.5, 3.5 and their opposites
pub halves : map (count_of 128) (pos 1 ∷ pos 3 ∷ pos 5 ∷ pos 7 ∷ negsuc 0 ∷ negsuc 2 ∷ negsuc 4 ∷ negsuc 6 ∷ [])
    ≡ pos 0 ∷ pos 2 ∷ pos 2 ∷ pos 4 ∷ pos 0 ∷ negsuc 1 ∷ negsuc 1 ∷ negsuc 3 ∷ []
unfolding count_by
halves = refl

-- ---- num is 1 to 65535
pub least_num : reading_of (bytes "format=tetra-page\nnum=1\ncount=0\n") ≡ page 1 []
unfolding reading_of num_at count_at words_at decimal_line_at format_at format_line decimal_at begins
least_num = refl

pub no_num : reading_of (bytes "format=tetra-page\nnum=0\ncount=0\n") ≡ malformed
unfolding reading_of num_at decimal_line_at format_at format_line decimal_at begins
no_num = refl

pub most_num : reading_of (bytes "format=tetra-page\nnum=65535\ncount=0\n") ≡ page 65535 []
unfolding reading_of num_at count_at words_at decimal_line_at format_at format_line decimal_at begins
most_num = refl

pub beyond_num : reading_of (bytes "format=tetra-page\nnum=65536\ncount=0\n") ≡ malformed
unfolding reading_of num_at decimal_line_at format_at format_line decimal_at begins
beyond_num = refl

-- ---- count is up to 64: n lines of the largest word behind it
abbrev lines : ℕ → List ℕ
lines zero = []
lines (suc n) = bytes "word=ffffffffffff\n" ++ lines n

pub most_words : reading_of (bytes "format=tetra-page\nnum=1\ncount=64\n" ++ lines 64)
    ≡ page 1 (replicate 64 (2 ^ 48 - 1))
unfolding reading_of num_at count_at words_at word_line_at decimal_line_at format_at format_line decimal_at hex_at digit_at
    begins
most_words = refl

pub beyond_words : reading_of (bytes "format=tetra-page\nnum=1\ncount=65\n" ++ lines 65) ≡ malformed
unfolding reading_of num_at count_at decimal_line_at format_at format_line decimal_at begins
beyond_words = refl
