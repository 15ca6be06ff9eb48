-- The writer's rule: the scale is exact; what each call answers and leaves, in the order of the refusals; which block a refusal names; each
-- block that is written was accepted; the reader accepts what is written, with the same num and the same words. Assumes nothing.
use Rattle.std.specs.Prelude.{◌≡◌, false, List, ◌++◌, ◌⊎◌, ℤ, Float, length, take, drop, get_or}
use Rattle.std.proofs.Common.{ap, ap₂, sym, subst, ◌∙◌, inl, inr, mul_assoc, arith}
use Prim.Native.Nat.{ℕ, ◌*◌, ◌^◌, ◌<◌, ◌≤◌}
use borrow.Author.Tests.{eq-eqb, ne_eqb}
use Rattle.std.proofs.Math.Seq.{take-append_seam}
use Rattle.laws.specs.Laws.Lists.{tab-length, tab_at}
use Rattle.float.specs.Value.{U, mag_units}
use Rattle.tetra.specs.Block.{block_at}
use Rattle.score.specs.Score.{doubles_of}
use Rattle.encoder.specs.Encode.{number_at, encode_at_scale}
use Rattle.page.specs.Page.{Page, page_text}
use Rattle.page.specs.Answer.{page}
use Rattle.page.specs.Form.{is_num}
use Rattle.page.specs.Reader.{reading_of}
use Rattle.page.specs.PageRule.{page_of_lem, accepted, longest}
use Rattle.page.specs.Laws.Form.{is_num_lem, num_is, num_not}
use Rattle.writer.specs.Writer.{scale_of, is_wide, is_far, first_wide, first_far, word_for, words_for, text_of, written_of, text_after}
use Rattle.writer.specs.Writer.{Wide, Far, NoneBelow, Gives}
use Rattle.writer.specs.Laws.Scale.{scale-exactly, scale-accepted}
use Rattle.writer.specs.Laws.First.{first_least, lowest_is, lowest-none, lowest-has}
use Rattle.writer.specs.Laws.Blocks.{wide-block, block-wide, far_block, block_far, scaled_number, words_fit}
use Rattle.writer.specs.Laws.Answers.{bad_num, many, few_samples, wide, far, short_text, wrote}
use Rattle.writer.specs.Laws.Answers.{when_0, when_2, when_4, when_other, when_refused, when_any}

-- ---- the scale is num / 256, with no rounding: in units of 2 ^ -1074, of which U are one
pub scale_exact : (num : ℕ) → num ≤ 65535 → mag_units (scale_of num) * 256 ≡ num * U
scale_exact num h = ap (λ (m : ℕ). m * 256) (scale-exactly num h).mag ∙ mul_assoc num (2 ^ 1066) 256

-- ---- the words are those that `encode_at_scale` answers at the setting 8, one for each block and in their order
pub words_are : (s : Float) (xs : List ℤ) (count : ℕ) → (length (words_for s xs count) ≡ count)
    × ((i : ℕ) → i < count → get_or (words_for s xs count) i 0 ≡ (encode_at_scale (doubles_of (block_at xs (24 * i))) s 8).word)
unfolding word_for
words_are s xs count = (tab-length ℕ (word_for s xs) count, tab_at ℕ 0 (word_for s xs) count)

-- ---- what `write` answers and leaves in a text that held `old`
bad : (num : ℕ) → (num ≡ 0) ⊎ (65535 < num) → is_num num ≡ false
bad num (inl e) = num_not num (λ a b. omega arith)
bad num (inr h) = num_not num (λ a b. omega arith)

module _ (num count : ℕ) (xs : List ℤ) (old : List ℕ) where
  -- 3 for num 0 or above 65535
  pub on_bad_num : (num ≡ 0) ⊎ (65535 < num) → Gives num count xs old (record { number = 3; block = 0; length = 0 }) old
  on_bad_num h = bad_num num count xs old (bad num h)

  module _ (least : 1 ≤ num) (most : num ≤ 65535) where
    -- then 9 for more than 64 blocks
    pub on_many : 64 < count → Gives num count xs old (record { number = 9; block = 0; length = 0 }) old
    on_many h = many num count xs old (num_is num least most) h

    module _ (few : count ≤ 64) where
      -- then 8 for fewer than 24 samples a block
      pub on_few_samples : length xs < 24 * count → Gives num count xs old (record { number = 8; block = 0; length = 0 }) old
      on_few_samples h = few_samples num count xs old (num_is num least most) few h

      module _ (enough : 24 * count ≤ length xs) where
        -- then 2 for a sample beyond 32767, with the lowest block that has one
        pub on_wide : (b : ℕ) → b < count → Wide xs b → NoneBelow b (Wide xs)
            → Gives num count xs old (record { number = 2; block = b; length = 0 }) old
        on_wide b h w none =
            let f = lowest_is is_wide xs (Wide xs) (wide-block xs) (block-wide xs) count b h w none in
            rw f at (wide num count xs old (num_is num least most) few enough (omega arith))

        module _ (narrow : NoneBelow count (Wide xs)) where
          none-wide : count ≤ first_wide xs count
          none-wide = lowest-none is_wide xs (Wide xs) (wide-block xs) (block-wide xs) count narrow

          -- then 4 for a block that is refused with 4 at the scale, with the lowest such block
          pub on_far : (b : ℕ) → b < count → Far num xs b → NoneBelow b (Far num xs)
              → Gives num count xs old (record { number = 4; block = b; length = 0 }) old
          on_far b h w none =
              let f = lowest_is (is_far (scale_of num)) xs (Far num xs) (far_block num xs) (block_far num xs) count b h w none in
              rw f at (far num count xs old (num_is num least most) few enough none-wide (omega arith))

          module _ (near : NoneBelow count (Far num xs)) where
            none_far : count ≤ first_far (scale_of num) xs count
            none_far = lowest-none (is_far (scale_of num)) xs (Far num xs) (far_block num xs) (block_far num xs) count near

            -- then 8 for a text that is shorter than the page
            pub on_short_text : length old < length (page_text num (words_for (scale_of num) xs count))
                → Gives num count xs old (record { number = 8; block = 0; length = 0 }) old
            unfolding text_of
            on_short_text h = short_text num count xs old (num_is num least most) few enough none-wide none_far h

            -- any other call gives the page's length and its text, and what stands behind it stays
            pub on_written : length (page_text num (words_for (scale_of num) xs count)) ≤ length old
                → Gives num count xs old
                (record { number = 0; block = 0; length = length (page_text num (words_for (scale_of num) xs count)) })
                (page_text num (words_for (scale_of num) xs count) ++ drop (length (page_text num (words_for (scale_of num) xs count))) old)
            unfolding text_of
            on_written h = wrote num count xs old (num_is num least most) few enough none-wide none_far h

  -- ---- what an answer says
  -- a refusal writes nothing
  pub refusal_writes_nothing : ((written_of num count xs (length old)).number ≡ 0 → ⊥)
      → ((written_of num count xs (length old)).length ≡ 0) × (text_after num count xs old ≡ old)
  unfolding text_after
  refusal_writes_nothing h = (when_refused num count xs (length old) h, rw (ne_eqb _ 0 h))

  -- 2 and 4 name the lowest block that has them, the others block 0
  pub lowest-wide : (written_of num count xs (length old)).number ≡ 2
      → Wide xs (written_of num count xs (length old)).block × NoneBelow (written_of num count xs (length old)).block (Wide xs)
  lowest-wide h =
      let w = when_2 num count xs (length old) h in
      rw w.1 (lowest-has is_wide xs (Wide xs) (wide-block xs) (block-wide xs) count w.0)

  pub lowest_far : (written_of num count xs (length old)).number ≡ 4
      → Far num xs (written_of num count xs (length old)).block × NoneBelow (written_of num count xs (length old)).block (Far num xs)
  lowest_far h =
      let w = when_4 num count xs (length old) h in
      rw w.1 (lowest-has (is_far (scale_of num)) xs (Far num xs) (far_block num xs) (block_far num xs) count w.0)

  pub no_other-block : ((written_of num count xs (length old)).number ≡ 2 → ⊥) → ((written_of num count xs (length old)).number ≡ 4 → ⊥)
      → (written_of num count xs (length old)).block ≡ 0
  no_other-block h k = when_other num count xs (length old) h k

  -- a block is one of a page
  pub block-lt : (written_of num count xs (length old)).block < 64
  block-lt = when_any num count xs (length old)

  -- ---- number 0
  module _ (zero : (written_of num count xs (length old)).number ≡ 0) where
    pub good_num : (1 ≤ num) × (num ≤ 65535)
    good_num = is_num_lem num (when_0 num count xs (length old) zero).good

    -- each block was accepted at the scale, so its word is that of a code and not of a refusal
    pub block-accepted : (i : ℕ) → i < count → number_at (doubles_of (block_at xs (24 * i))) (scale_of num) 8 ≡ 0
    block-accepted i h =
        let s = when_0 num count xs (length old) zero in
        let n = is_num_lem num s.good in
        scaled_number (block_at xs (24 * i)) (scale_of num) (scale-accepted num n.0 n.1)
        (first_least is_wide xs 0 count i (omega arith) (omega (arith, s.narrow)))
        (first_least (is_far (scale_of num)) xs 0 count i (omega arith) (omega (arith, s.near)))

    -- the text from its start on is a page, of num and the words
    written : Page (text_of num count xs) num (words_for (scale_of num) xs count)
    unfolding text_of
    written =
        let s = when_0 num count xs (length old) zero in
        let n = is_num_lem num s.good in
        page_of_lem num (words_for (scale_of num) xs count) n.0 n.1 (omega (arith, s.few, tab-length ℕ (word_for (scale_of num) xs) count))
        (words_fit (scale_of num) xs count)

    front : take (written_of num count xs (length old)).length (text_after num count xs old) ≡ text_of num count xs
    unfolding text_after
    front = rw ((when_0 num count xs (length old) zero).size, eq-eqb _ 0 zero) (take-append_seam (text_of num count xs) _)

    behind : text_after num count xs old ≡ text_of num count xs ++ drop (length (text_of num count xs)) old
    unfolding text_after
    behind = rw (eq-eqb _ 0 zero)

    -- and what stands behind it stays
    pub rest_stays : text_after num count xs old
        ≡ take (written_of num count xs (length old)).length (text_after num count xs old) ++ drop (written_of num count xs (length old)).length old
    rest_stays = behind ∙ ap₂ (λ (t : List ℕ) (n : ℕ). t ++ drop n old) (sym front) (sym (when_0 num count xs (length old) zero).size)

    pub is_page : Page (take (written_of num count xs (length old)).length (text_after num count xs old)) num (words_for (scale_of num) xs count)
    is_page = subst (λ (t : List ℕ). Page t num (words_for (scale_of num) xs count)) (sym front) written

    -- so the reader accepts it, with the same num and the same words
    pub reader_accepts : reading_of (take (written_of num count xs (length old)).length (text_after num count xs old))
        ≡ page num (words_for (scale_of num) xs count)
    reader_accepts = accepted _ num (words_for (scale_of num) xs count) is_page

    -- and it has 1,189 bytes at most
    pub written-longest : (written_of num count xs (length old)).length ≤ 1189
    written-longest =
        omega (
          arith,
          (when_0 num count xs (length old) zero).size,
          longest (text_of num count xs) num (words_for (scale_of num) xs count) written,
        )
