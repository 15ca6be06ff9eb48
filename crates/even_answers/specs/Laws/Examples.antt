-- Answers written out: to an even word and an odd one, to two lines that are no requests, and to a request of the full coder. Assumes nothing.
use Rattle.std.specs.Prelude.{◌≡◌, refl}
use Rattle.std.proofs.Common.{ap, ◌∙◌, arith}
use Rattle.laws.specs.Words.{tab}
use Rattle.word.specs.Word.{field_at}
use Rattle.text.specs.Text.{bytes, decimal, signed, commas, listed, refused_text}
use Rattle.text.specs.Lines.{begins, digit_at}
use Rattle.tetra.specs.Points.{P}
use Rattle.even.specs.Even.{word_number, even_decoded}
use Rattle.request.specs.Words.{after_name, lowered, digit_in, more_of, counted_of, number_from, hex_after}
use Rattle.answers.specs.Answers.{point_line, of_samples, answer_of}
use Rattle.answers.specs.Laws.Examples.{decode_one}
use Rattle.even_answers.specs.EvenAnswers.{decoded_line, even_decode_answer, even_answer_of}
use Rattle.even_answers.specs.Laws.Others.{other-line}

pub even_word : even_answer_of (bytes "edecode 3800") ≡ bytes "point=4,4,0,0,0,0,0,0,0,0,0,0,0,0,0,0,0,0,0,0,0,0,0,0\n"
unfolding even_answer_of after_name begins even_decode_answer hex_after number_from counted_of more_of digit_in lowered digit_at decoded_line even_decoded
    word_number field_at point_line listed commas signed decimal tab
even_word = ap point_line P.4

-- an odd word
pub odd_word : even_answer_of (bytes "edecode 1") ≡ bytes "refused=13\n"
unfolding even_answer_of after_name begins even_decode_answer hex_after number_from counted_of more_of digit_in lowered digit_at decoded_line even_decoded
    word_number field_at refused_text decimal
odd_word = refl

-- the full coder has a point for it
pub full_word : even_answer_of (bytes "decode 1") ≡ bytes "point=1,1,1,1,1,1,1,1,1,1,1,1,1,1,1,1,1,1,1,1,1,1,1,-3\n"
full_word = other-line 100 (bytes "ecode 1") (λ e. omega (arith, e)) ∙ decode_one

-- another name
pub no_name : even_answer_of (bytes "edecod 1") ≡ bytes "refused=9\n"
unfolding even_answer_of answer_of of_samples after_name begins refused_text decimal
no_name = refl

-- a word left over
pub left_over : even_answer_of (bytes "edecode 2 2") ≡ bytes "refused=9\n"
unfolding even_answer_of after_name begins even_decode_answer hex_after number_from counted_of more_of digit_in lowered digit_at refused_text decimal
left_over = refl
