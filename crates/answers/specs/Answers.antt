-- The answer to a request line: a line of text for every line of bytes. Assumes nothing.
use Rattle.std.specs.Prelude.{cond, List, ◌++◌, ℕ, ltb, eqb, ℤ, Float}
use Rattle.std.specs.Option.{option_map_or}
use Prim.Native.String.{String}
use Rattle.refusal.specs.Refusal.{no_page}
use Rattle.text.specs.Text.{bytes, line, decimal, listed, hex, refused_text}
use Rattle.text.specs.Doubles.{bits_shown}
use Rattle.text.specs.Lines.{onRead}
use Rattle.tetra.specs.Tetra.{point_of}
use Rattle.tetra.specs.Encode.{encode_of}
use Rattle.tetra.specs.Encode.{Encoded}
use Rattle.score.specs.Score.{Scored, scored}
use Rattle.score.specs.Scale.{Measured, scales}
use Rattle.search.specs.Parity.{both_parities}
use Rattle.encoder.specs.Encode.{Coding, encode_at_over, encode_over}
use Rattle.request.specs.Words.{after_name, last_of, hex_after, decimal_after, double_after}
use Rattle.request.specs.Rows.{samples_after, point_after}

-- ---- lines
-- a line that is no request is refused as a text that is no page is: with 9
abbrev pub no_request : List ℕ
no_request = refused_text no_page

-- an answer by its number: the text where that is 0
abbrev pub by_number : ℕ → List ℕ → List ℕ
by_number number text = cond (eqb number 0) text (refused_text number)

-- the 16 digits of a double
abbrev pub double_text : Float → List ℕ
double_text x = hex 16 (bits_shown x)

unfoldable pub point_line : List ℤ → List ℕ
point_line y = line (bytes "point=") (listed y)

-- a refusal that is about a section names it
unfoldable pub refused_point : ℕ → ℕ → List ℕ
refused_point number section =
    cond (eqb section 0) (refused_text number) (bytes "refused=" ++ (decimal number ++ line (bytes " section=") (decimal section)))

unfoldable pub encoded_line : Encoded → List ℕ
encoded_line e = cond (eqb e.number 0) (line (bytes "word=") (hex 12 e.word)) (refused_point e.number e.section)

unfoldable pub code_line : Coding → List ℕ
code_line c =
    by_number c.number
    (bytes "word=" ++ (hex 12 c.word ++ (bytes " score=" ++ (double_text c.score ++ line (bytes " point=") (listed c.point)))))

unfoldable pub scales_line : Measured → List ℕ
scales_line l = by_number l.number (bytes "max=" ++ (double_text l.largest ++ line (bytes " scale=") (double_text l.scale)))

unfoldable pub score_line : Scored → List ℕ
score_line t = by_number t.number (line (bytes "score=") (double_text t.score))

-- ---- requests: s is the line, and the arguments stand from the place `at` to its end. Any other line is no request
-- the answer f to a row of 24 samples
abbrev pub on_samples : List ℕ → ℕ → (List Float → List ℕ) → List ℕ
on_samples s at f = option_map_or f (last_of s (samples_after s at)) no_request

-- the answer f to a row of 24 coordinates
abbrev pub on_point : List ℕ → ℕ → (List ℤ → List ℕ) → List ℕ
on_point s at f = option_map_or f (last_of s (point_after s at)) no_request

-- decode W
unfoldable pub decode_answer : List ℕ → ℕ → List ℕ
decode_answer s at = option_map_or (λ w. point_line (point_of w)) (last_of s (hex_after s at)) no_request

-- point C0 .. C23
unfoldable pub point_answer : List ℕ → ℕ → List ℕ
point_answer s at = on_point s at (λ y. encoded_line (encode_of y))

-- a setting of the shrinks: from 8 on all are the same
abbrev pub setting_of : ℕ → ℕ
setting_of n = cond (ltb n 8) n 8

-- scale N S X0 .. X23: the code where the parities ps are searched,
unfoldable pub scale_over : List ℕ → List ℕ → ℕ → List ℕ
scale_over ps s at =
    onRead (decimal_after s at) no_request (λ n after.
    onRead (double_after s after) no_request (λ by next.
    on_samples s next (λ x. code_line (encode_at_over ps x by (setting_of n)))))

-- and over both, the full coder's
abbrev pub scale_answer : List ℕ → ℕ → List ℕ
scale_answer = scale_over both_parities

-- auto N X0 .. X23, likewise
unfoldable pub auto_over : List ℕ → List ℕ → ℕ → List ℕ
auto_over ps s at =
    onRead (decimal_after s at) no_request (λ n next. on_samples s next (λ x. code_line (encode_over ps x (setting_of n))))

abbrev pub auto_answer : List ℕ → ℕ → List ℕ
auto_answer = auto_over both_parities

-- lower X0 .. X23
unfoldable pub lower_answer : List ℕ → ℕ → List ℕ
lower_answer s at = on_samples s at (λ x. scales_line (scales x))

-- score X0 .. X23 C0 .. C23
unfoldable pub score_answer : List ℕ → ℕ → List ℕ
score_answer s at =
    onRead (samples_after s at) no_request (λ x row. on_point s row (λ y. score_line (scored x y)))

-- ---- any line
-- the request f where the line begins with its name, and else the answer `other`
abbrev pub named : String → (List ℕ → ℕ → List ℕ) → List ℕ → List ℕ → List ℕ
named name f s other = option_map_or (f s) (after_name s (bytes name)) other

-- the requests auto, lower and score
unfoldable pub of_samples : List ℕ → List ℕ
of_samples s = named "auto" auto_answer s (named "lower" lower_answer s (named "score" score_answer s no_request))

unfoldable pub answer_of : List ℕ → List ℕ
answer_of s = named "decode" decode_answer s (named "point" point_answer s (named "scale" scale_answer s (of_samples s)))
