-- The answer to a request line, where the even profile has requests of its own: a line of text for every line of bytes. Lines, readers and the
-- full coder's requests are those of answers/specs/Answers. Definitions only.
use Rattle.std.specs.Prelude.{List, ℕ}
use Rattle.std.specs.Option.{option_map_or}
use Rattle.request.specs.Words.{last_of, hex_after}
use Rattle.search.specs.Parity.{even_parities}
use Rattle.even.specs.Even.{Decoded, even_decoded, even_encoded}
use Rattle.answers.specs.Answers.{no_request, by_number, point_line, encoded_line, on_point, scale_over, auto_over, named, answer_of}

-- ---- lines
unfoldable pub decoded_line : Decoded → List ℕ
decoded_line d = by_number d.number (point_line d.point)

-- ---- requests: s is the line, and the arguments stand from the place `at` to its end. Any other line is no request
-- edecode W
unfoldable pub even_decode_answer : List ℕ → ℕ → List ℕ
even_decode_answer s at = option_map_or (λ w. decoded_line (even_decoded w)) (last_of s (hex_after s at)) no_request

-- epoint C0 .. C23
unfoldable pub even_point_answer : List ℕ → ℕ → List ℕ
even_point_answer s at = on_point s at (λ y. encoded_line (even_encoded y))

-- ---- any line: escale N S X0 .. X23 and eauto N X0 .. X23 search the even points alone, and what is no request here is answered as by the
-- full coder
unfoldable pub even_answer_of : List ℕ → List ℕ
even_answer_of s =
    named "edecode" even_decode_answer s
    (named "epoint" even_point_answer s (named "escale" (scale_over even_parities) s (named "eauto" (auto_over even_parities) s (answer_of s))))
