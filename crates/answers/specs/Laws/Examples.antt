-- Answers written out: to a word, and to three lines that are no requests. Assumes nothing.
use Rattle.std.specs.Prelude.{◌≡◌, refl}
use Rattle.std.proofs.Common.{ap}
use Rattle.laws.specs.Words.{tab}
use Rattle.text.specs.Text.{bytes, decimal, signed, commas, listed, refused_text}
use Rattle.text.specs.Lines.{begins, digit_at}
use Rattle.tetra.specs.Points.{P}
use Rattle.request.specs.Words.{after_name, lowered, digit_in, more_of, counted_of, number_from, hex_after}
use Rattle.answers.specs.Answers.{point_line, decode_answer, of_samples, answer_of}

pub decode_one : answer_of (bytes "decode 1") ≡ bytes "point=1,1,1,1,1,1,1,1,1,1,1,1,1,1,1,1,1,1,1,1,1,1,1,-3\n"
unfolding answer_of after_name begins decode_answer hex_after number_from counted_of more_of digit_in lowered digit_at point_line listed commas signed decimal tab
decode_one = ap point_line P.1

-- another name
pub no_name : answer_of (bytes "decod 1") ≡ bytes "refused=9\n"
unfolding answer_of of_samples after_name begins refused_text decimal
no_name = refl

-- a word left over
pub left_over : answer_of (bytes "decode 1 1") ≡ bytes "refused=9\n"
unfolding answer_of after_name begins decode_answer hex_after number_from counted_of more_of digit_in lowered digit_at refused_text decimal
left_over = refl

-- a space too many
pub two_spaces : answer_of (bytes "decode  1") ≡ bytes "refused=9\n"
unfolding answer_of after_name begins decode_answer hex_after number_from counted_of refused_text decimal
two_spaces = refl
