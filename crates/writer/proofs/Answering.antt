-- What `write` answers, from what its calls answer. Assumes nothing.
use mathlib.Core.Path.{◌≡◌, refl, ap, sym, ◌∙◌}
use mathlib.Core.Bool.{Bool, true, false, ◌||◌, true≢false}
use mathlib.Core.List.{List}
use Prim.Native.Nat.{ℕ, ◌*◌, ◌≤◌}
use native.Mathlib.Omega.{arith}
use borrow.Author.Tests.{ltb-true, ltb-false, eqb-true, eqb-false}
use lib.Dec.{ltb, eqb}
use lib.IntN.{ℤ}
use lib.ListN.{length, take}
use Rattle.page.specs.Page.{page_text}
use Rattle.page.specs.Form.{Formed, is_num, formed_of, form_in}
use Rattle.page.specs.FormRule.{on_short_text, on_formed}
use Rattle.page.specs.Laws.Form.{is_num_lem, num_is, num_not}
use Rattle.writer.specs.Writer.{Written, scale_of, first_wide, first_far, words_for, text_of, written_of, text_after, Gives}
use Rattle.writer.specs.Laws.Answers.{short_text, wrote}

-- ---- the test of num
pub num_refused : (num : ℕ) → eqb num 0 || ltb 65535 num ≡ true → is_num num ≡ false
num_refused num e = num_not num (go (eqb num 0) (ltb 65535 num) refl refl e)
  where
    go : (p q : Bool) → eqb num 0 ≡ p → ltb 65535 num ≡ q → p || q ≡ true → 1 ≤ num → num ≤ 65535 → ⊥
    go true q i j e a b = omega (arith, eqb-true num 0 i)
    go false true i j e a b = omega (arith, ltb-true 65535 num j)
    go false false i j e a b = true≢false (sym e)

pub num_kept : (num : ℕ) → eqb num 0 || ltb 65535 num ≡ false → is_num num ≡ true
num_kept num e = go (eqb num 0) (ltb 65535 num) refl refl e
  where
    go : (p q : Bool) → eqb num 0 ≡ p → ltb 65535 num ≡ q → p || q ≡ false → is_num num ≡ true
    go true q i j e = absurd (true≢false e)
    go false true i j e = absurd (true≢false e)
    go false false i j e = num_is num (omega (arith, eqb-false num 0 i)) (ltb-false 65535 num j)

-- ---- a refusal
pub met : (num count : ℕ) (xs : List ℤ) (old : List ℕ) (r s : Written) → Gives num count xs old s old → r ≡ s
    → record { value : r ≡ written_of num count xs (length old); text_after : old ≡ text_after num count xs old }
met num count xs old r s g e = record { value = e ∙ sym g.0; text_after = sym g.1 }

-- ---- where no refusal is left but that of the text, it is as `form` answers
module _ (num count : ℕ) (xs : List ℤ) (old : List ℕ) (good : is_num num ≡ true) (few : count ≤ 64) (enough : 24 * count ≤ length xs)
    (narrow : count ≤ first_wide xs count) (near : count ≤ first_far (scale_of num) xs count) where
  pub formed : (words : List ℕ) → take count words ≡ words_for (scale_of num) xs count → (f : Formed) (after : List ℕ)
      → f ≡ formed_of num count words (length old) → after ≡ form_in num count words old
      → record {
        value : record { number = f.number; block = 0; length = f.length } ≡ written_of num count xs (length old);
        text_after : after ≡ text_after num count xs old;
      }
  unfolding text_of
  formed words w f after e g = go (ltb (length old) (length (text_of num count xs))) refl
    where
      same : page_text num (take count words) ≡ text_of num count xs
      same = ap (page_text num) w

      go : (b : Bool) → ltb (length old) (length (text_of num count xs)) ≡ b
          → record {
            value : record { number = f.number; block = 0; length = f.length } ≡ written_of num count xs (length old);
            text_after : after ≡ text_after num count xs old;
          }
      go true h =
          let l = ltb-true (length old) (length (text_of num count xs)) h in
          let n = is_num_lem num good in
          let p = on_short_text num count words old n.0 n.1 few (omega (arith, ap length same)) in
          let q = short_text num count xs old good few enough narrow near l in
          record {
            value = ap {B = Written} (λ (x : Formed). record { number = x.number; block = 0; length = x.length }) (e ∙ p.0) ∙ sym q.0;
            text_after = g ∙ p.1 ∙ sym q.1;
          }
      go false h =
          let l = ltb-false (length old) (length (text_of num count xs)) h in
          let n = is_num_lem num good in
          let p = rw same at (on_formed num count words old n.0 n.1 few (omega (arith, ap length same))) in
          let q = wrote num count xs old good few enough narrow near l in
          record {
            value = ap {B = Written} (λ (x : Formed). record { number = x.number; block = 0; length = x.length }) (e ∙ p.0) ∙ sym q.0;
            text_after = g ∙ p.1 ∙ sym q.1;
          }
