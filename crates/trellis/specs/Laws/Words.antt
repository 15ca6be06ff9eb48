-- All words of some columns as one list, made with one exclusive-or each, so that a computed test can walk them. Assumes nothing.
use Rattle.std.specs.Prelude.{◌≡◌, refl, Bool, List, [], ◌∷◌, ℕ, zero, suc, ◌*◌, ◌/◌, ◌%◌, ◌^◌, ◌<◌, T, length, get_or}
use Rattle.std.proofs.Common.{◌∙◌, subst, sym, ap, ap₂, mul-zero, mul-one, pow-suc, arith}
use Rattle.std.specs.Int.Bits.{bit_xor}
use Rattle.laws.specs.Laws.Tables.{every, at, every2, at2}
use Rattle.laws.specs.Laws.Lists.{filled}
use Rattle.trellis.specs.Code.{codeword_of, columns, codewords}

-- each word, and after it the word with c
abbrev weave : ℕ → List ℕ → List ℕ
weave c [] = []
weave c (w ∷ ws) = w ∷ bit_xor c w ∷ weave c ws

abbrev pub words_of : List ℕ → List ℕ
words_of [] = 0 ∷ []
words_of (c ∷ cs) = weave c (words_of cs)

weave-length : (c : ℕ) (ws : List ℕ) → length (weave c ws) ≡ 2 * length ws
weave-length c [] = refl
weave-length c (w ∷ ws) = omega (arith, weave-length c ws)

weave_at : (c : ℕ) (ws : List ℕ) (x : ℕ) → x < 2 * length ws
    → get_or (weave c ws) x 0 ≡ bit_xor (c * (x % 2)) (get_or ws (x / 2) 0)
weave_at c [] x h = absurd (omega arith)
weave_at c (w ∷ ws) zero h = sym (ap (λ (z : ℕ). bit_xor z w) (mul-zero c))
weave_at c (w ∷ ws) (suc zero) h = sym (ap (λ (z : ℕ). bit_xor z w) (mul-one c))
weave_at c (w ∷ ws) (suc (suc x)) h =
    weave_at c ws x (omega arith) ∙ sym (ap₂ (λ (u v : ℕ). bit_xor (c * u) (get_or (w ∷ ws) v 0)) odd half)
  where
    odd : suc (suc x) % 2 ≡ x % 2
    odd = omega arith

    half : suc (suc x) / 2 ≡ suc (x / 2)
    half = omega arith

pub words-length : (cs : List ℕ) → length (words_of cs) ≡ 2 ^ length cs
words-length [] = refl
words-length (c ∷ cs) = weave-length c (words_of cs) ∙ ap (λ (n : ℕ). 2 * n) (words-length cs) ∙ omega (arith, pow-suc 2 (length cs))

pub words_at_lem : (cs : List ℕ) (x : ℕ) → x < 2 ^ length cs → get_or (words_of cs) x 0 ≡ codeword_of cs x
words_at_lem [] zero h = refl
words_at_lem [] (suc x) h = absurd (omega arith)
words_at_lem (c ∷ cs) x h =
    weave_at c (words_of cs) x (omega (arith, words-length cs, pow-suc 2 (length cs)))
    ∙ ap (λ (z : ℕ). bit_xor (c * (x % 2)) z) (words_at_lem cs (x / 2) (omega (arith, pow-suc 2 (length cs))))

-- ---- the codewords
unfoldable pub words : List ℕ
words = words_of columns

pub codewords_are : codewords ≡ words
unfolding codewords words columns
codewords_are = sym (filled ℕ 0 4096 (codeword_of columns) (words_of columns) (words-length columns) (words_at_lem columns))

-- a test that passes along the words passes at each label
pub at_word : (f : ℕ → ℕ → Bool) → T (every f 0 words) → (x : ℕ) → x < 4096 → T (f x (codeword_of columns x))
unfolding words columns
at_word f t x h =
    subst (λ (w : ℕ). T (f x w)) (words_at_lem columns x h) (at f (words_of columns) t x (subst (λ (n : ℕ). x < n) (sym (words-length columns)) h))

-- and one along the words and those of twelve other columns
pub at_words : (f : ℕ → ℕ → ℕ → Bool) (cs : List ℕ) → length cs ≡ 12 → T (every2 f 0 words (words_of cs)) → (x : ℕ) → x < 4096
    → T (f x (codeword_of columns x) (codeword_of cs x))
unfolding words columns
at_words f cs e t x h =
    subst (λ (v : ℕ). T (f x (codeword_of columns x) v)) (words_at_lem cs x (subst (λ (n : ℕ). x < 2 ^ n) (sym e) h))
    (subst (λ (w : ℕ). T (f x w (get_or (words_of cs) x 0))) (words_at_lem columns x h)
    (at2 f (words_of columns) (words_of cs) t x (subst (λ (n : ℕ). x < n) (sym (words-length columns)) h)))
