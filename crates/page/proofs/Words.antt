-- The word lines taken one by one, and the words kept in an array with zeros behind them. Assumes nothing.
use mathlib.Core.Path.{◌≡◌, refl, ap, sym, ◌∙◌}
use mathlib.Core.List.{List, [], ◌∷◌, ◌++◌}
use Prim.Native.Nat.{ℕ, suc, ◌+◌, ◌-◌, ◌<◌, ◌≤◌}
use native.Mathlib.Omega.{arith}
use native.Mathlib.Numerals.{add-one}
use lib.ListN.{length, get_or, set, take, drop, replicate, length-set, take-append-drop, drop_of_length-le}
use lib.Seq.{take-suc-set, drop-set-lt, drop-drop, length-take-le}
use Rattle.laws.specs.Laws.Lists.{drop-next}
use Rattle.std.specs.Prelude.{Some, None}
use Rattle.page.specs.Answer.{Reading, page, malformed, parsed_of}
use Rattle.page.specs.Reader.{word_line_at, with_word, words_at}

-- words in front of those that are read
abbrev pub with_words : List ℕ → Reading → Reading
with_words [] R = R
with_words (w ∷ ws) R = with_word w (with_words ws R)

pub with_none : (ws : List ℕ) → with_words ws malformed ≡ malformed
with_none [] = refl
with_none (w ∷ ws) = rw (with_none ws)

with_more : (ws : List ℕ) (w : ℕ) (R : Reading) → with_words (ws ++ (w ∷ [])) R ≡ with_words ws (with_word w R)
with_more [] w R = refl
with_more (x ∷ ws) w R = ap (with_word x) (with_more ws w R)

with_all : (ws : List ℕ) (num : ℕ) → with_words ws (page num []) ≡ page num ws
with_all [] num = refl
with_all (w ∷ ws) num = rw (with_all ws num)

module _ (text : List ℕ) (num count : ℕ) (words : List ℕ) (at i : ℕ) where
  -- what the loop knows at word i, which stands at `at`
  pub record Kept : Type 0 where
    pub few : i ≤ count
    pub inside : at ≤ length text
    pub size : length words ≡ 64
    pub zeros : drop i words ≡ replicate (64 - i) 0
    pub same : words_at num count text ≡ with_words (take i words) (words_at num (count - i) (drop at text))

  -- no word line stands there
  pub kept-bad : Kept → i < count → word_line_at (drop at text) ≡ None → words_at num count text ≡ malformed
  unfolding words_at
  kept-bad k h e =
      let n : count - i ≡ suc (count - suc i) = omega arith in
      k.same ∙ rw (n, e) (with_none (take i words))

  -- something stands behind the last one
  pub kept_long : Kept → count ≤ i → (at ≡ length text → ⊥) → words_at num count text ≡ malformed
  unfolding words_at
  kept_long k h d =
      let n : count - i ≡ 0 = omega arith in
      k.same ∙ rw (n, drop-next ℕ 0 text at (omega (arith, k.inside, d))) (with_none (take i words))

  -- nothing does: these are the page's words
  pub kept_end : Kept → count ≤ 64 → count ≤ i → at ≡ length text
      → record { number = 0; num = num; count = count; words = words } ≡ parsed_of (words_at num count text)
  unfolding words_at parsed_of
  kept_end k c h e =
      let n : count - i ≡ 0 = omega arith in
      let j : i ≡ count = omega (arith, k.few) in
      let l : length (take i words) ≡ count = length-take-le i words (omega (arith, k.size)) ∙ j in
      let w : words ≡ take i words ++ replicate (64 - count) 0 =
      sym (take-append-drop i words) ∙ rw (k.zeros, j) in
      let p : words_at num count text ≡ page num (take i words) =
      k.same ∙ rw (n, drop_of_length-le text {i = at} (omega (arith, e))) (with_all (take i words) num) in
      rw (p, l, ← w)

-- one more word
pub kept_next : (text : List ℕ) (num count : ℕ) (words : List ℕ) (at i w n : ℕ) → Kept text num count words at i → i < count → count ≤ 64
    → word_line_at (drop at text) ≡ Some (w, n) → at + n ≤ length text → Kept text num count (set words i w) (at + n) (i + 1)
unfolding words_at
kept_next text num count words at i w n k h c e r =
    let left : count - i ≡ suc (count - (i + 1)) = omega arith in
    let zero_left : 64 - i ≡ suc (64 - (i + 1)) = omega arith in
    let head : get_or words i 0 ∷ drop (i + 1) words ≡ 0 ∷ replicate (64 - (i + 1)) 0 =
    sym (drop-next ℕ 0 words i (omega (arith, k.size))) ∙ k.zeros ∙ rw zero_left in
    let behind : drop (i + 1) words ≡ replicate (64 - (i + 1)) 0 = cc in
    let front : take (i + 1) (set words i w) ≡ take i words ++ (w ∷ []) =
    rw add-one (take-suc-set words i w (omega (arith, k.size))) in
    record {
      few = omega arith;
      inside = r;
      size = length-set words i w ∙ k.size;
      zeros = drop-set-lt (i + 1) words i w (omega arith) ∙ behind;
      same =
          k.same
          ∙ rw (left, e, drop-drop n at text) (sym (rw front (with_more (take i words) w (words_at num (count - (i + 1)) (drop (at + n) text)))));
    }
