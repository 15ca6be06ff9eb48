-- The num that `form` takes; the text that it makes: the lines in front of the words, and the word lines; and that a word line shows the low
-- 48 bits of its word. Assumes nothing.
use Rattle.std.specs.Prelude.{◌≡◌, refl, Bool, true, false, ℕ, zero, suc, ◌+◌, ◌*◌, ◌%◌, ◌^◌, ◌<◌, ◌≤◌, leb, length, take}
use Rattle.std.proofs.Math.Path.{ap}
use Rattle.std.proofs.Common.{ap₂, sym, ◌∙◌, suc-le-suc, arith, mod-lt, mod-eq_of_lt, zero-lt-suc, le-leb, leb-true, lit≤, length-append, length-take, length-take-le}
use Rattle.std.proofs.Math.Bool.{and-eq-true_iff}
use mathlib.Core.List.{List, [], ◌∷◌, ◌++◌, append_assoc, map}
use Rattle.std.proofs.lemmas.List.{length-map}
use Rattle.laws.specs.Laws.Lists.{map_at}
use Rattle.text.specs.Text.{bytes, line}
use Rattle.text.specs.Laws.Text.{hex_low}
use Rattle.page.specs.Page.{Fit, format_line, num_line, count_line, word_line, word_lines, page_text}
use Rattle.page.specs.Form.{is_num, form_text}
use Rattle.page.specs.Laws.Lines.{lines-length}

-- ---- a num that a page can have
pub is_num_lem : (num : ℕ) → is_num num ≡ true → (1 ≤ num) × (num ≤ 65535)
unfolding is_num
is_num_lem num e =
    let p = (and-eq-true_iff (leb 1 num) (leb num 65535)).0 e in
    (leb-true 1 num p.0, leb-true num 65535 p.1)

pub num_is : (num : ℕ) → 1 ≤ num → num ≤ 65535 → is_num num ≡ true
unfolding is_num
num_is num a b = rw (le-leb 1 num a, le-leb num 65535 b)

pub no_num : (num : ℕ) → is_num num ≡ false → 1 ≤ num → num ≤ 65535 → ⊥
no_num num e a b =
    let t = num_is num a b in
    let z : ◌≡◌ {A = ℕ} 0 1 = cc in
    omega arith

pub num_not : (num : ℕ) → (1 ≤ num → num ≤ 65535 → ⊥) → is_num num ≡ false
num_not num h = go (is_num num) refl
  where
    go : (b : Bool) → is_num num ≡ b → b ≡ false
    go true e =
        let p = is_num_lem num e in
        absurd (h p.0 p.1)
    go false e = refl

-- ---- no more words are taken than `count`
pub few_taken : (count : ℕ) (words : List ℕ) → count ≤ 64 → length (take count words) ≤ 64
few_taken count words h = rw length-take (omega arith)

-- ---- the lines in front of the words, and the word lines
unfoldable pub head_lines : ℕ → ℕ → List ℕ
head_lines num count = format_line ++ (num_line num ++ count_line count)

module _ (num count : ℕ) (words : List ℕ) (few : count ≤ length words) where
  pub form_lines : form_text num count words ≡ head_lines num count ++ word_lines (take count words)
  unfolding form_text page_text head_lines
  form_lines =
      let w = word_lines (take count words) in
      rw (length-take-le count words few)
      (sym
      (append_assoc format_line (num_line num ++ count_line count) w
      ∙ ap (λ (l : List ℕ). format_line ++ l) (append_assoc (num_line num) (count_line count) w)))

  pub form-length : length (form_text num count words) ≡ length (head_lines num count) + 18 * count
  form-length =
      ap length form_lines
      ∙ length-append (head_lines num count) (word_lines (take count words))
      ∙ omega (arith, lines-length (take count words), length-take-le count words few)

-- ---- a word line shows the low 48 bits of its word
line_low : (word : ℕ) → word_line (word % 2 ^ 48) ≡ word_line word
unfolding word_line
line_low word = ap (λ (digits : List ℕ). line (bytes "word=") digits) (hex_low 12 word)

lines_low : (words : List ℕ) → word_lines (map (λ w. w % 2 ^ 48) words) ≡ word_lines words
unfolding word_lines
lines_low [] = refl
lines_low (w ∷ ws) = ap₂ {C = List ℕ} (λ a b. a ++ b) (line_low w) (lines_low ws)

pub text_low : (num : ℕ) (words : List ℕ) → page_text num (map (λ w. w % 2 ^ 48) words) ≡ page_text num words
unfolding page_text
text_low num words = rw (length-map words (λ (w : ℕ). w % 2 ^ 48), lines_low words)

-- the low bits fit; and where the words fit, they are the words
pub low_fit : (words : List ℕ) → Fit (map (λ w. w % 2 ^ 48) words)
low_fit words k h =
    let l : k < length words = omega (arith, length-map words (λ (w : ℕ). w % 2 ^ 48)) in
    rw (map_at ℕ ℕ (λ (w : ℕ). w % 2 ^ 48) 0 0 words k l) (mod-lt _ (lit≤ tt))

pub low_same : (words : List ℕ) → Fit words → map (λ w. w % 2 ^ 48) words ≡ words
low_same [] f = refl
low_same (w ∷ ws) f =
    ap₂ {C = List ℕ} (λ a b. a ∷ b) (mod-eq_of_lt (f zero (zero-lt-suc (length ws)))) (low_same ws (λ k l. f (suc k) (suc-le-suc l)))
