-- The word lines, taken off the front of a text one by one. Assumes nothing.
use Rattle.std.specs.Prelude.{◌≡◌, refl, List, [], ◌∷◌, ◌++◌, ℕ, zero, suc, ◌*◌, ◌^◌, ◌<◌, length}
use Rattle.std.proofs.Common.{ap, ◌∙◌, suc-le-suc, arith, zero-lt-suc, le_of_suc-le-suc, not-suc-le-zero, length-append}
use Rattle.text.specs.Laws.Lines.{step, taken}
use Rattle.page.specs.Page.{Fit, word_line, word_lines}
use Rattle.page.specs.Answer.{Reading, page, malformed}
use Rattle.page.specs.Reader.{word_line_at, with_word, words_at}
use Rattle.page.specs.Laws.Reader.{word_rule, word-length}

-- what is malformed is no page
pub differ : {num : ℕ} {words : List ℕ} → malformed ≡ page num words → ⊥
differ e = let z : ◌≡◌ {A = ℕ} 0 1 = cc in omega arith

-- ---- the word lines
pub words_back : (num : ℕ) (words : List ℕ) → Fit words → words_at num (length words) (word_lines words) ≡ page num words
unfolding words_at word_lines
words_back num [] f = refl
words_back num (w ∷ ws) f =
    step malformed word_line_at _ word_line word_rule w (f zero (zero-lt-suc (length ws))) (word_lines ws) (λ x t. with_word x (words_at num (length ws) t))
    ∙ ap (with_word w) (words_back num ws (λ k l. f (suc k) (suc-le-suc l)))

fit_cons : (w : ℕ) (ws : List ℕ) → w < 2 ^ 48 → Fit ws → Fit (w ∷ ws)
fit_cons w ws h f zero l = h
fit_cons w ws h f (suc k) l = f k (le_of_suc-le-suc l)

pub words_only : (num count : ℕ) (s : List ℕ) (x : ℕ) (words : List ℕ) → words_at num count s ≡ page x words
    → (num ≡ x) × (count ≡ length words) × Fit words × (s ≡ word_lines words)
unfolding words_at word_lines
words_only num zero [] x words e =
    let y : num ≡ x = cc in
    let z : [] ≡ words = cc in
    (y, ap length z, rw (← z) (λ k l. absurd (not-suc-le-zero l)), ap word_lines z)
words_only num zero (b ∷ s) x words e = let z : ◌≡◌ {A = ℕ} 0 1 = cc in absurd (omega arith)
words_only num (suc count) s x words e =
    let t = taken malformed word_line_at _ word_line word_rule s (λ w r. with_word w (words_at num count r)) (page x words) differ e in
    go t.0 t.1 t.2 t.3 (words_at num count t.1) refl t.4 (words_only num count t.1)
  where
    go : (w : ℕ) (r : List ℕ) → w < 2 ^ 48 → s ≡ word_line w ++ r → (R : Reading) → words_at num count r ≡ R → with_word w R ≡ page x words
        → ((y : ℕ) (ws : List ℕ) → words_at num count r ≡ page y ws → (num ≡ y) × (count ≡ length ws) × Fit ws × (r ≡ word_lines ws))
        → (num ≡ x) × (suc count ≡ length words) × Fit words × (s ≡ word_lines words)
    go w r h q (page y ws) k e ih =
        let i = ih y ws k in
        let m : y ≡ x = cc in
        let n : w ∷ ws ≡ words = cc in
        (i.0 ∙ m, ap suc i.1 ∙ ap length n, rw (← n) (fit_cons w ws h i.2), q ∙ ap (λ (l : List ℕ). word_line w ++ l) i.3 ∙ ap word_lines n)
    go w r h q malformed k e ih = let z : ◌≡◌ {A = ℕ} 0 1 = cc in absurd (omega arith)

pub lines-length : (words : List ℕ) → length (word_lines words) ≡ 18 * length words
unfolding word_lines
lines-length [] = refl
lines-length (w ∷ ws) = length-append (word_line w) (word_lines ws) ∙ omega (arith, word-length w, lines-length ws)
