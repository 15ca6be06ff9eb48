-- THE DEMANDS, each said of what the public calls answer. Definitions only: src/lib.rt makes the calls and
-- ensures what stands here, for every input. In order: words, points, samples, what samples give besides,
-- roots, pages, pages that are made, summaries beside pages, the even profile. Where the definitions stand that this file and the contracts
-- cite, below crates/:
--   a lattice point, a point that has a word   `LatticePoint`, `HasWord`              tetra/specs/Lattice
--   why a point has no word, the four numbers  `Why`, `Refused`                       tetra/specs/Why
--   all 24 coordinates have one parity         `OfParity`                             tetra/specs/Why
--   the point that a word's fields define      `point_of`                              tetra/specs/Tetra
--   the numbers 1 and 2 of samples             `sample_number`                         score/specs/Samples
--   the numbers of a call, in their order      `number_at`: 7, 3, 1, 2, 4              encoder/specs/Encode
--                                              `number_of`: 7, 1, 2                    encoder/specs/Encode
--   the empty code                             `empty_code`                            encoder/specs/Encode
--   the Rust's answers                         `encode_at_scale`, `encode_with`,         encoder/specs/Encode,
--                                              `encode_samples`                        over search/specs
--   the 24 doubles x / s, each rounded once    `quotients_of`                          float/specs/Calls
--   exact squared distance, and 2 ^ -20 in it  `sq_dist`, `margin`                     float/specs/Distance
--   a double's exact magnitude, its sign, +0.0 `mag_units`, `is_minus`, `zero64`        float/specs/Value
--   the Rust's score of a point                `t_of`                                  score/specs/Score
--   the Rust's largest magnitude, lower scale  `lower_scale`                           score/specs/Scale
--   the double nearest to an exact root        `NearestRoot`                          root/specs/Root
--   a page: its text, its num and its words    `Page`                                 page/specs/Page
--   its counts                                 `page_counts`                           page/specs/Counts
--   z / d as the nearest whole number          `ToEven`                               page/specs/Counts
--   what is printed                            `block_texts`                            shown/specs/Shown
--   a text in an array, with zeros behind it   `in_array`                               text/specs/Held
--   and of a refusal                           `refused_text`                          text/specs/Text
--   the text of a page                         `page_text`                             page/specs/Page
--   a page's scale, num / 256                  `scale_of`                              writer/specs/Writer
--   block i of samples, as doubles             `block_at`, `doubles_of`                 tetra/specs/Block, score/specs/Score
--   a block that is refused with 2 or with 4   `Wide`, `Far`, `NoneBelow`             writer/specs/Writer
--   a trace: its text, its num and its samples `Trace`                                trace/specs/Trace
--   the lines of a refusal                     `refused_lines`                         made/specs/Made
--   a page's summary, and how many cells       `summary_of`, `cells_for`                summary/specs/Summary
--   all coordinates of words, how many are odd `points`, `odds`                       summary/specs/Summary
--   the words with one more                    `longer`                               summary/specs/Answer
--   rows that begin with a summary             `Agrees`, `Kept`                       summary/specs/SummaryRule
--   what the cells of a row say                `RowIs`                                summary/specs/SummaryRule
--   all 24 coordinates are even                `Even`                                 demands/specs/Promised
--   the Rust's answers over the even points    `encode_at_over`, `encode_over`,          encoder/specs/Encode
--                                              `encode_samples_over`
--   the parities that they search              `even_parities`                         search/specs/Parity
-- The answers are told as records of document 01 (`Coding`, `Encoded`, `Scored`, ..): each stands in specs/ of its crate, with what maps an answer to
-- it (`coded_by`, ..). What is printed is told by the fields that hold it, `Inside` (text/specs/Held).
use Rattle.score.specs.Scale.{Measured}
use Rattle.even.specs.Even.{Decoded}
use Rattle.std.specs.Prelude.{◌≡◌, true, false, ◌≢◌, ◌↔◌, ◌⊎◌, List, ◌++◌, map, ℕ, ◌+◌, ◌*◌, ◌-◌, ◌%◌, ◌^◌, ◌<◌, ◌≤◌, T, ℤ, pos, ◌*ℤ◌, Float, length, get_or, take, drop, replicate}
use Rattle.std.specs.Float.Ieee.Scale.{finite}
use Rattle.tetra.specs.Lattice.{LatticePoint, HasWord}
use Rattle.tetra.specs.Why.{OfParity, Why, Refused}
use Rattle.tetra.specs.Tetra.{point_of}
use Rattle.tetra.specs.Block.{block_at}
use Rattle.tetra.specs.Encode.{Encoded}
use Rattle.float.specs.Value.{mag_units, is_minus, zero64}
use Rattle.float.specs.Calls.{quotients_of}
use Rattle.float.specs.Distance.{sq_dist, margin}
use Rattle.root.specs.Root.{NearestRoot, Rooted}
use Rattle.score.specs.Score.{Scored, doubles_of}
use Rattle.encoder.specs.Encode.{Coding, empty_code, encode_at_scale}
use Rattle.text.specs.declared.printed.Printed.TheInside.{Inside}
use Rattle.text.specs.Held.{in_array}
use Rattle.page.specs.Page.{Page, page_text}
use Rattle.page.specs.Counts.{page_counts, ToEven}
use Rattle.page.specs.Answer.{Parsed, PageRead}
use Rattle.page.specs.Form.{Formed}
use Rattle.text.specs.Text.{refused_text}
use Rattle.shown.specs.Shown.{block_texts}
use Rattle.writer.specs.Writer.{Written, scale_of, words_for, written_of, Wide, Far, NoneBelow}
use Rattle.summary.specs.Summary.{points, odds, summary_of, cells_for}
use Rattle.summary.specs.Answer.{Summed, longer}
use Rattle.summary.specs.SummaryRule.{Agrees, Kept, RowIs}
use Rattle.demands.specs.Promised.{Even, Coded}
use Rattle.trace.specs.Trace.{Trace}
use Rattle.made.specs.Made.{refused_lines}

-- ---- WORDS (demand 2): `decode` of the word w answers y, `encode` of y answers e
-- Every word decodes to the point that its fields define, and that is a lattice point that has a word.
abbrev pub PointOfWord : ℕ → List ℤ → Type 0
PointOfWord w y = (y ≡ point_of w) × HasWord y

-- That point encodes to the low 47 bits of the word: without the gain and what stands above it.
abbrev pub BackToWord : ℕ → Encoded → Type 0
BackToWord w e = e ≡ record { number = 0; section = 0; word = w % 2 ^ 47 }

-- ---- POINTS (demand 2): `encode` of the point y answers e, `decode` of e's word answers z
-- no 64-bit word decodes to y
abbrev pub NoWord : List ℤ → Type 0
NoWord y = (w : ℕ) → w < 2 ^ 64 → point_of w ≢ y

-- A point is refused, by any of the four numbers 5, 10, 11 and 12, exactly where no word decodes to it,
abbrev pub RefusesOthers : List ℤ → Encoded → Type 0
RefusesOthers y e = Refused e.number ↔ NoWord y

-- and accepted, with number 0, exactly where it is a lattice point that has a word.
abbrev pub AcceptsMembers : List ℤ → Encoded → Type 0
AcceptsMembers y e = (e.number ≡ 0) ↔ HasWord y

-- The word of an accepted point is below 2 ^ 47 and decodes back to the point.
abbrev pub KeepsPoint : List ℤ → Encoded → List ℤ → Type 0
KeepsPoint y e z = e.number ≡ 0 → (e.word < 2 ^ 47) × (z ≡ y)

-- (demand 1) Every number but 0 is one of the four, and the word beside it is 0.
abbrev pub RefusesByFour : Encoded → Type 0
RefusesByFour e = e.number ≢ 0 → Refused e.number × (e.word ≡ 0)

-- The number, and the section beside 11, say why: they are a reason that holds of the point, and no other
-- number or section is one.
abbrev pub SaysWhy : List ℤ → Encoded → Type 0
SaysWhy y e = Why y e.number e.section
    × ((n s : ℕ) → Why y n s → (n ≡ e.number) × (s ≡ e.section))

-- ---- SAMPLES: the call answers c, `decode` of c's word answers y, `encode` of c's point answers e
-- (demand 1) The call answers its number k, and where that is not 0 the empty code: word 0, 24 zeros, score
-- +0.0.
abbrev pub Numbered : ℕ → Coding → Type 0
Numbered k c = (c.number ≡ k) × (k ≢ 0 → c ≡ empty_code k)

-- (demand 2) The word of an accepted call is below 2 ^ 47 and decodes to its point, and the point encodes to
-- the word. That the code is the Rust's is an equation in the contract itself.
abbrev pub KeepsCode : Coding → List ℤ → Encoded → Type 0
KeepsCode c y e = c.number ≡ 0
    → (c.word < 2 ^ 47) × (y ≡ c.point) × (e ≡ record { number = 0; section = 0; word = c.word })

-- (demand 3) The point y is nearer to the target t than every other lattice point, by more than 2 ^ -20 in
-- exact squared distance, which is counted in units of 2 ^ -2148.
abbrev pub NearestBy : List ℤ → List Float → Type 0
NearestBy y t = (z : List ℤ) → LatticePoint z → z ≢ y → sq_dist y t + margin < sq_dist z t

-- Where samples x, a scale s and a setting are accepted, and a point that has a word is so much the nearest
-- to the rounded quotients x / s, the call answers that point.
abbrev pub ReturnsNearest : List Float → Float → Coding → Type 0
ReturnsNearest x s c = c.number ≡ 0
    → (y : List ℤ) → HasWord y → NearestBy y (quotients_of x s) → c.point ≡ y

-- ---- WHAT SAMPLES GIVE BESIDES (demand 1): the call answers r, and the samples have the number k
-- `t_of`, where the Rust's score is t: a refusal has the score +0.0.
abbrev pub Scores : ℕ → Float → Scored → Type 0
Scores k t r = (k ≡ 0 → r ≡ record { number = 0; score = t })
    × (k ≢ 0 → r ≡ record { number = k; score = zero64 })

-- `lower_scale`, where the Rust's largest magnitude and lower scale are those of s: a refusal has +0.0 in
-- each.
abbrev pub Scaled : ℕ → Measured → Measured → Type 0
Scaled k s r = (k ≡ 0 → r ≡ record { number = 0; largest = s.largest; scale = s.scale })
    × (k ≢ 0 → r ≡ record { number = k; largest = zero64; scale = zero64 })

-- ---- ROOTS: `root` of x answers r
-- The root of a finite double above zero is the double nearest to the exact one,
abbrev pub RootIsNearest : Float → Rooted → Type 0
RootIsNearest x r = T (finite x) → is_minus x ≡ false → 0 < mag_units x
    → (r.number ≡ 0) × NearestRoot x r.root

-- either zero is its own root,
abbrev pub RootOfZero : Float → Rooted → Type 0
RootOfZero x r = T (finite x) → mag_units x ≡ 0 → r ≡ record { number = 0; root = x }

-- (demand 1) and a NaN, an infinity and a negative are refused by number 7 and +0.0.
abbrev pub RootRefused : Float → Rooted → Type 0
RootRefused x r = ((T (finite x) → ⊥) → r ≡ record { number = 7; root = zero64 })
    × (T (finite x) → is_minus x ≡ true → 0 < mag_units x → r ≡ record { number = 7; root = zero64 })

-- ---- PAGES: the call answers r for the text; of `read`, the buffer that held `old` then holds `new`
-- the text is no page, with any num and words
abbrev pub NoPage : List ℕ → Type 0
NoPage text = (num : ℕ) (words : List ℕ) → Page text num words → ⊥

-- `parse` answers a page by number 0, its num, its count of words, and the words, with zeros behind them up
-- to 64,
abbrev pub ParsesPages : List ℕ → Parsed → Type 0
ParsesPages text r = (num : ℕ) (words : List ℕ) → Page text num words
    → r ≡ record {
      number = 0;
      num = num;
      count = length words;
      words = words ++ replicate (64 - length words) 0;
    }

-- (demand 1) and every other text by number 9 and zeros.
abbrev pub ParsesNoOther : List ℕ → Parsed → Type 0
ParsesNoOther text r = NoPage text → r ≡ record { number = 9; num = 0; count = 0; words = replicate 64 0 }

-- `read` answers a page that has room by number 0 and its count of words; its counts stand at the buffer's
-- start, and the rest of it stays.
abbrev pub ReadsPages : List ℕ → List ℤ → List ℤ → PageRead → Type 0
ReadsPages text old new r = (num : ℕ) (words : List ℕ) → Page text num words → 24 * length words ≤ length old
    → (r ≡ record { number = 0; count = length words })
    × (new ≡ page_counts num words ++ drop (24 * length words) old)

-- Each count is coordinate times num divided by 256 as the nearest whole number, a half to the even one (request
-- 2026-03): that of coordinate j of block i stands at place 24 i + j of the buffer.
abbrev pub RoundsToEven : List ℕ → List ℤ → PageRead → Type 0
RoundsToEven text new r = r.number ≡ 0 → (num : ℕ) (words : List ℕ) → Page text num words
    → (i j : ℕ) → i < length words → j < 24
    → ToEven (get_or (point_of (get_or words i 0)) j (pos 0) *ℤ pos num) 256 (get_or new (24 * i + j) (pos 0))

-- (demand 1) It answers a text that is no page by number 9 and count 0, and the buffer is untouched;
abbrev pub RefusesNoPage : List ℕ → List ℤ → List ℤ → PageRead → Type 0
RefusesNoPage text old new r = NoPage text → (r ≡ record { number = 9; count = 0 }) × (new ≡ old)

-- then a page that has more counts than the buffer has places by number 8 and count 0, and the buffer is
-- untouched.
abbrev pub RefusesShort : List ℕ → List ℤ → List ℤ → PageRead → Type 0
RefusesShort text old new r = (num : ℕ) (words : List ℕ) → Page text num words
    → length old < 24 * length words → (r ≡ record { number = 8; count = 0 }) × (new ≡ old)

-- There is no third kind of text: what is not answered by number 9 is a page.
abbrev pub AcceptsPagesOnly : List ℕ → PageRead → Type 0
AcceptsPagesOnly text r = r.number ≢ 9 → (num : ℕ) × (words : List ℕ) × Page text num words

-- `unpage` prints the blocks of a page, from index 0 on, which are none for an empty page,
abbrev pub PrintsPages : List ℕ → Inside 20672 → Type 0
PrintsPages text r = (num : ℕ) (words : List ℕ) → Page text num words
    → r ≡ in_array 20672 (block_texts 0 (length words) (page_counts num words))

-- and for every other text the line of the refusal alone.
abbrev pub PrintsRefusal : List ℕ → Inside 20672 → Type 0
PrintsRefusal text r = NoPage text → r ≡ in_array 20672 (refused_text 9)

-- ---- PAGES THAT ARE FORMED (request 2026-01): `form` of num and the first `count` of 64 words answers r, and
-- the buffer that held `old` then holds `new`
-- a num of a page
abbrev pub GoodNum : ℕ → Type 0
GoodNum num = (1 ≤ num) × (num ≤ 65535)

-- A good call answers number 0 and the length of the page's text, which stands at the buffer's start; the
-- rest of the buffer stays.
abbrev pub FormsPages : ℕ → ℕ → List ℕ → List ℕ → List ℕ → Formed → Type 0
FormsPages num count words old new r = GoodNum num → count ≤ 64
    → length (page_text num (take count words)) ≤ length old
    → (r ≡ record { number = 0; length = length (page_text num (take count words)) })
    × (new ≡ page_text num (take count words) ++ drop (length (page_text num (take count words))) old)

-- What it wrote is the page of that num and of the low 48 bits of each word.
abbrev pub FormsPage : ℕ → ℕ → List ℕ → List ℕ → Formed → Type 0
FormsPage num count words new r = r.number ≡ 0
    → Page (take r.length new) num (map (λ w. w % 2 ^ 48) (take count words))

-- (demand 1) It refuses with 3 a num that no page has, then with 9 more than 64 words, then with 8 a buffer
-- that is shorter than the text; length 0, and the buffer is untouched.
pub record RefusesToForm (num count : ℕ) (words old new : List ℕ) (r : Formed) : Type 0 where
  pub bad_num : (GoodNum num → ⊥) → (r ≡ record { number = 3; length = 0 }) × (new ≡ old)
  pub many_words : GoodNum num → 64 < count → (r ≡ record { number = 9; length = 0 }) × (new ≡ old)
  pub short_text : GoodNum num → count ≤ 64 → length old < length (page_text num (take count words))
      → (r ≡ record { number = 8; length = 0 }) × (new ≡ old)

-- ---- PAGES THAT ARE WRITTEN (request 2026-01): `write` of num, count and the samples x answers r, and the
-- text that held `old` then holds `new`. Block i is the 24 samples from place 24 i on.
-- its samples as doubles, and its code at the scale num / 256 and the setting 8
abbrev pub block_of : List ℤ → ℕ → List Float
block_of x i = doubles_of (block_at x (24 * i))

abbrev pub block_code : ℕ → List ℤ → ℕ → Coding
block_code num x i = encode_at_scale (block_of x i) (scale_of num) 8

-- An accepted call writes a page from the text's start on, and the rest of the text stays. It is a page by
-- document 01, so the reader accepts it: with that num, and with a word for each block, that of its code.
pub record PageOfBlocks (num count : ℕ) (x : List ℤ) (old new : List ℕ) (r : Written) : Type 0 where
  pub words : List ℕ
  pub page : Page (take r.length new) num words
  pub count_is : length words ≡ count
  pub word_is : (i : ℕ) → i < count → get_or words i 0 ≡ (block_code num x i).word
  pub rest : new ≡ take r.length new ++ drop r.length old

abbrev pub WritesPage : ℕ → ℕ → List ℤ → List ℕ → List ℕ → Written → Type 0
WritesPage num count x old new r = r.number ≡ 0 → PageOfBlocks num count x old new r

-- (demand 2) Each block of an accepted call has a code: its word decodes to its point, and the point encodes
-- to the word.
abbrev pub CodesBlocks : ℕ → ℕ → List ℤ → Written → Type 0
CodesBlocks num count x r = r.number ≡ 0 → (i : ℕ) → i < count → Coded (block_code num x i)

-- (demand 3) Where a point that has a word is nearest to a block's rounded quotients by more than 2 ^ -20, it
-- is the point of the block's code.
abbrev pub WritesNearest : ℕ → ℕ → List ℤ → Written → Type 0
WritesNearest num count x r = r.number ≡ 0 → (i : ℕ) → i < count
    → (y : List ℤ) → HasWord y → NearestBy y (quotients_of (block_of x i) (scale_of num)) → (block_code num x i).point ≡ y

-- the text of the page of the blocks' words
abbrev pub page_of : ℕ → ℕ → List ℤ → List ℕ
page_of num count x = page_text num (words_for (scale_of num) x count)

-- (demand 1) A call is refused by number, block and length 0, and the text is untouched: with 3 for a bad
-- num; then with 9 for more than 64 blocks; then with 8 for fewer than 24 samples a block; then with 2 for
-- the lowest block that has a sample beyond 32767; then with 4 for the lowest block that is refused with 4
-- at the scale; then with 8 for a text that is shorter than the page.
abbrev pub RefusedBy : ℕ → ℕ → List ℕ → List ℕ → Written → Type 0
RefusedBy number block old new r = (r ≡ record { number = number; block = block; length = 0 }) × (new ≡ old)

pub record RefusesToWrite (num count : ℕ) (x : List ℤ) (old new : List ℕ) (r : Written) : Type 0 where
  pub bad_num : (num ≡ 0) ⊎ (65535 < num) → RefusedBy 3 0 old new r
  pub many_blocks : GoodNum num → 64 < count → RefusedBy 9 0 old new r
  pub few_samples : GoodNum num → count ≤ 64 → length x < 24 * count → RefusedBy 8 0 old new r
  pub wide : GoodNum num → count ≤ 64 → 24 * count ≤ length x
      → (b : ℕ) → b < count → Wide x b → NoneBelow b (Wide x) → RefusedBy 2 b old new r
  pub far : GoodNum num → count ≤ 64 → 24 * count ≤ length x → NoneBelow count (Wide x)
      → (b : ℕ) → b < count → Far num x b → NoneBelow b (Far num x) → RefusedBy 4 b old new r
  pub short_text : GoodNum num → count ≤ 64 → 24 * count ≤ length x → NoneBelow count (Wide x)
      → NoneBelow count (Far num x) → length old < length (page_of num count x) → RefusedBy 8 0 old new r

-- Every other call is accepted.
abbrev pub WritesOthers : ℕ → ℕ → List ℤ → List ℕ → Written → Type 0
WritesOthers num count x old r = GoodNum num → count ≤ 64 → 24 * count ≤ length x → NoneBelow count (Wide x)
    → NoneBelow count (Far num x) → length (page_of num count x) ≤ length old → r.number ≡ 0

-- ---- PAGES OF TRACES (request 2026-01): `mkpage` of a text prints r
-- the text is no trace, of any num and samples
abbrev pub NoTrace : List ℕ → Type 0
NoTrace text = (num count : ℕ) (x : List ℤ) → Trace text num count x → ⊥

-- It prints for a trace the page of its num and samples, where `write` accepts them and has room for any page,
-- and else the lines of the refusal, with the block of a 2 and of a 4;
abbrev pub MakesPages : List ℕ → Inside 1189 → Type 0
MakesPages text r = (num count : ℕ) (x : List ℤ) → Trace text num count x
    → ((written_of num count x 1189).number ≡ 0 → r ≡ in_array 1189 (page_of num count x))
    × ((written_of num count x 1189).number ≢ 0
    → r ≡ in_array 1189 (refused_lines (written_of num count x 1189).number (written_of num count x 1189).block))

-- and for every other text the line of the refusal 9 alone.
abbrev pub MakesNoOther : List ℕ → Inside 1189 → Type 0
MakesNoOther text r = NoTrace text → r ≡ in_array 1189 (refused_text 9)

-- ---- SUMMARIES BESIDE PAGES (request 2026-04): rows of four cells, the page's first and then one for each block. A call
-- answers r, and the rows that held `old` then hold `new`.
-- `summarise` answers a page that has room by number 0 and its count of blocks; its summary stands at the rows'
-- start, and the rest of them stays.
abbrev pub SummarisesPages : List ℕ → List ℤ → List ℤ → Summed → Type 0
SummarisesPages text old new r = (num : ℕ) (words : List ℕ) → Page text num words
    → cells_for (length words) ≤ length old
    → (r ≡ record { number = 0; count = length words })
    × (new ≡ summary_of words ++ drop (cells_for (length words)) old)

-- Each row holds the sum of the squares of its coordinates, the largest and the smallest of them, and how many of
-- its blocks are odd: the first row those of the whole page, which are zeros where it has no block, and the row
-- from place 4 (i + 1) on those of block i, of which the last is its parity p.
abbrev pub RowsSay : List ℕ → List ℤ → Summed → Type 0
RowsSay text new r = r.number ≡ 0 → (num : ℕ) (words : List ℕ) → Page text num words
    → (1 ≤ length words → RowIs (points words) (odds words) (take 4 new))
    × ((i : ℕ) → i < length words
    → RowIs (point_of (get_or words i 0)) (get_or words i 0 % 2) (take 4 (drop (4 * (i + 1)) new)))

-- (demand 1) It refuses with 9 a text that is no page, then with 8 rows that are too short; count 0, and the rows
-- are untouched.
pub record RefusesToSummarise (text : List ℕ) (old new : List ℤ) (r : Summed) : Type 0 where
  pub no_page : NoPage text → (r ≡ record { number = 9; count = 0 }) × (new ≡ old)
  pub short : (num : ℕ) (words : List ℕ) → Page text num words → length old < cells_for (length words)
      → (r ≡ record { number = 8; count = 0 }) × (new ≡ old)

-- `check` answers 0 just where the text is a page and the rows begin with its summary;
abbrev pub ChecksSummary : List ℕ → List ℤ → ℕ → Type 0
ChecksSummary text rows n = (n ≡ 0) ↔ Kept text rows

-- (demand 1) else 9 where it is no page, then 8 where the rows are too short, then 14.
pub record RefusesToCheck (text : List ℕ) (rows : List ℤ) (n : ℕ) : Type 0 where
  pub no_page : NoPage text → n ≡ 9
  pub short : (num : ℕ) (words : List ℕ) → Page text num words → length rows < cells_for (length words) → n ≡ 8
  pub other : (num : ℕ) (words : List ℕ) → Page text num words → cells_for (length words) ≤ length rows
      → (Agrees words rows → ⊥) → n ≡ 14

-- `add` of the word w answers a page below 64 blocks whose summary stands in rows with room for one block more by
-- number 0 and the longer page's count; the longer page's summary stands at the rows' start, and the rest stays.
abbrev pub AddsWord : List ℕ → ℕ → List ℤ → List ℤ → Summed → Type 0
AddsWord text w old new r = (num : ℕ) (words : List ℕ) → Page text num words → length words < 64
    → cells_for (length words + 1) ≤ length old → Agrees words old
    → (r ≡ record { number = 0; count = length words + 1 })
    × (new ≡ summary_of (longer words w) ++ drop (cells_for (length words + 1)) old)

-- Where it answers 0, `check` of the longer page's text and the rows answers 0; and of the old rows only the page's
-- has changed.
abbrev pub KeepsSummary : List ℕ → ℕ → List ℤ → List ℤ → Summed → Type 0
KeepsSummary text w old new r = r.number ≡ 0 → (num : ℕ) (words : List ℕ) → Page text num words
    → Kept (page_text num (longer words w)) new
    × (take (4 * length words) (drop 4 new) ≡ take (4 * length words) (drop 4 old))

-- (demand 1) It refuses with 9 a text that is no page or has 64 blocks, then with 8 rows that are too short for the
-- longer summary, then with 14 rows that are not the summary of the page; count 0, and the rows are untouched.
pub record RefusesToAdd (text : List ℕ) (old new : List ℤ) (r : Summed) : Type 0 where
  pub no_page : NoPage text → (r ≡ record { number = 9; count = 0 }) × (new ≡ old)
  pub full : (num : ℕ) (words : List ℕ) → Page text num words → 64 ≤ length words
      → (r ≡ record { number = 9; count = 0 }) × (new ≡ old)
  pub short : (num : ℕ) (words : List ℕ) → Page text num words → length words < 64
      → length old < cells_for (length words + 1) → (r ≡ record { number = 8; count = 0 }) × (new ≡ old)
  pub other : (num : ℕ) (words : List ℕ) → Page text num words → length words < 64
      → cells_for (length words + 1) ≤ length old → (Agrees words old → ⊥)
      → (r ≡ record { number = 14; count = 0 }) × (new ≡ old)

-- ---- THE EVEN PROFILE (request 2026-06): words whose p, bit 0, is 0, and points whose 24 coordinates are all even
-- all 24 coordinates are odd
abbrev pub Odd : List ℤ → Type 0
Odd y = OfParity y 1

-- `check` of the word w answers n: 0 where its p is 0, and 13 where it is 1.
abbrev pub ChecksWord : ℕ → ℕ → Type 0
ChecksWord w n = (w % 2 ≡ 0 → n ≡ 0) × (w % 2 ≡ 1 → n ≡ 13)

-- `decode` of it answers d: a word with p = 0 decodes as in the full coder, and the point is even; any other is
-- refused, with 24 zeros.
abbrev pub DecodesEven : ℕ → Decoded → Type 0
DecodesEven w d = (w % 2 ≡ 0 → (d ≡ record { number = 0; point = point_of w }) × Even (point_of w))
    × (w % 2 ≡ 1 → d ≡ record { number = 13; point = replicate 24 (pos 0) })

-- `encode_point` of d's point answers e: that of a word with p = 0 encodes to the low 47 bits of the word.
abbrev pub BackToEven : ℕ → Encoded → Type 0
BackToEven w e = w % 2 ≡ 0 → e ≡ record { number = 0; section = 0; word = w % 2 ^ 47 }

-- `encode_point` of the point y answers e, where `encode` of the full coder answers f, and `decode` of e's word
-- answers d. A point is accepted exactly where it has a word and is even,
abbrev pub AcceptsEven : List ℤ → Encoded → Type 0
AcceptsEven y e = (e.number ≡ 0) ↔ (HasWord y × Even y)

-- and refused with 13 exactly where all of its coordinates are odd. Every other one is answered as by the full
-- coder: mixed parities by 5, and then 10, 11, 12.
abbrev pub RefusesOdd : List ℤ → Encoded → Encoded → Type 0
RefusesOdd y e f = ((e.number ≡ 13) ↔ Odd y) × (Odd y → e ≡ record { number = 13; section = 0; word = 0 })
    × ((Odd y → ⊥) → e ≡ f)

-- The word of an accepted point is below 2 ^ 47, and the profile decodes it back to the point.
abbrev pub KeepsEvenPoint : List ℤ → Encoded → Decoded → Type 0
KeepsEvenPoint y e d = e.number ≡ 0 → (e.word < 2 ^ 47) × (d ≡ record { number = 0; point = y })

-- Samples: the call answers c, `decode` of c's word d, and `encode_point` of c's point e. The word of an accepted
-- call is below 2 ^ 47 and decodes to its point, and the point encodes to the word, all in the profile: so both
-- are even.
abbrev pub KeepsEvenCode : Coding → Decoded → Encoded → Type 0
KeepsEvenCode c d e = c.number ≡ 0
    → (c.word < 2 ^ 47) × (d ≡ record { number = 0; point = c.point })
    × (e ≡ record { number = 0; section = 0; word = c.word })

-- (demand 3) The point y is nearer to the target t than every other lattice point with even coordinates, by more
-- than 2 ^ -20.
abbrev pub NearestEvenBy : List ℤ → List Float → Type 0
NearestEvenBy y t = (z : List ℤ) → LatticePoint z → Even z → z ≢ y → sq_dist y t + margin < sq_dist z t

abbrev pub ReturnsNearestEven : List Float → Float → Coding → Type 0
ReturnsNearestEven x s c = c.number ≡ 0
    → (y : List ℤ) → HasWord y → Even y → NearestEvenBy y (quotients_of x s) → c.point ≡ y

-- At a scale, where the full coder's answer f has an even point, it is the profile's answer c.
abbrev pub AgreesWhereEven : Coding → Coding → Type 0
AgreesWhereEven c f = Even f.point → c ≡ f

-- Pages: `read_page` of a text answers r, and the buffer that held `old` then holds `new`.
-- no word has p = 1
abbrev pub EvenWords : List ℕ → Type 0
EvenWords words = (i : ℕ) → i < length words → get_or words i 0 % 2 ≡ 0

-- A page of such words that has room is read as by the full coder,
abbrev pub ReadsEvenPages : List ℕ → List ℤ → List ℤ → PageRead → Type 0
ReadsEvenPages text old new r = (num : ℕ) (words : List ℕ) → Page text num words → EvenWords words
    → 24 * length words ≤ length old
    → (r ≡ record { number = 0; count = length words }) × (new ≡ page_counts num words ++ drop (24 * length words) old)

-- (demand 1) and no other text is. It is refused with 9 where it is no page, then with 13 where a word has p = 1,
-- then with 8 for a buffer that is too short; count 0, and the buffer is untouched.
pub record RefusesToReadEven (text : List ℕ) (old new : List ℤ) (r : PageRead) : Type 0 where
  pub no_page : NoPage text → (r ≡ record { number = 9; count = 0 }) × (new ≡ old)
  pub odd_word : (num : ℕ) (words : List ℕ) → Page text num words → (i : ℕ) → i < length words
      → get_or words i 0 % 2 ≡ 1 → (r ≡ record { number = 13; count = 0 }) × (new ≡ old)
  pub short : (num : ℕ) (words : List ℕ) → Page text num words
      → EvenWords words → length old < 24 * length words → (r ≡ record { number = 8; count = 0 }) × (new ≡ old)
