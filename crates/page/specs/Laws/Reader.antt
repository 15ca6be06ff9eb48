-- The readers of the format line and of a word line accept just these lines. Assumes nothing.
use Rattle.std.specs.Prelude.{◌≡◌, refl, Bool, true, false, cond, List, [], ◌∷◌, ◌++◌, ℕ, ◌^◌, ◌<◌, eqb, length, get_or, drop, Option, Some, None}
use Rattle.std.proofs.Common.{ap, sym, ◌∙◌, append_assoc, arith, eqb-true, length-append, take-append-drop, drop-cons, drop-drop}
use Rattle.std.proofs.lemmas.List.{get_or_at}
use Rattle.std.proofs.lemmas.Option.{some_pair_parts}
use Rattle.text.specs.Text.{bytes, hex}
use Rattle.text.specs.Lines.{onDigit, begins, hex_at}
use Rattle.text.specs.Laws.Text.{hex-length}
use Rattle.text.specs.Laws.Lines.{ReadRule, begins-back, begins_only, hex-back, hex_only, there}
use Rattle.page.specs.Page.{format_line, word_line}
use Rattle.page.specs.Reader.{format_at, word_line_at}

-- ---- the format line
format_back : (v : ℕ) → v ≡ 0 → (rest : List ℕ) → format_at (format_line ++ rest) ≡ Some (v, length format_line)
unfolding format_at format_line
format_back v e rest = rw (begins-back format_line rest, e)

format_only : (s : List ℕ) (v n : ℕ) → format_at s ≡ Some (v, n) → (v ≡ 0) × (n ≡ length format_line) × (s ≡ format_line ++ drop n s)
unfolding format_at format_line
format_only s v n e = go (begins s format_line) refl e
  where
    go : (p : Bool) → begins s format_line ≡ p → cond {A = Option (ℕ × ℕ)} p (Some (0, 18)) None ≡ Some (v, n)
        → (v ≡ 0) × (n ≡ 18) × (s ≡ format_line ++ drop n s)
    go true h e =
        let q = some_pair_parts 0 v 18 n e in
        (sym q.0, sym q.1, rw (← q.1) (begins_only s format_line h))
    go false h e = let z : ◌≡◌ {A = ℕ} 0 1 = cc in absurd (omega arith)

pub format_rule : ReadRule format_at (λ v. v ≡ 0) (λ v. format_line)
format_rule = record { back = format_back; only = format_only }

-- ---- a word line
pub word-length : (w : ℕ) → length (word_line w) ≡ 18
unfolding word_line
word-length w = simp (length-append, hex-length)

word_back : (w : ℕ) → w < 2 ^ 48 → (rest : List ℕ) → word_line_at (word_line w ++ rest) ≡ Some (w, length (word_line w))
unfolding word_line_at word_line
word_back w h rest =
    rw (
      append_assoc (hex 12 w) (10 ∷ []) rest,
      begins-back (bytes "word=") (hex 12 w ++ (10 ∷ rest)),
      hex-back 12 w (10 ∷ rest) h,
      get_or_at (hex 12 w) 10 rest 0 12 (hex-length 12 w),
    ) (ap (λ (n : ℕ). Some (w, n)) (sym (word-length w)))

word_only : (s : List ℕ) (w n : ℕ) → word_line_at s ≡ Some (w, n) → (w < 2 ^ 48) × (n ≡ length (word_line w)) × (s ≡ word_line w ++ drop n s)
unfolding word_line_at word_line
word_only s w n e = go (begins s (bytes "word=")) (hex_at 12 (drop 5 s)) (eqb (get_or s 17 0) 10) refl refl refl e
  where
    go : (p : Bool) (d : Option ℕ) (q : Bool) → begins s (bytes "word=") ≡ p → hex_at 12 (drop 5 s) ≡ d → eqb (get_or s 17 0) 10 ≡ q
        → cond {A = Option (ℕ × ℕ)} p (onDigit d None (λ x. cond q (Some (x, 18)) None)) None ≡ Some (w, n)
        → (w < 2 ^ 48) × (n ≡ length (word_line w)) × (s ≡ word_line w ++ drop n s)
    go true (Some x) true hb hd hq e =
        let q = some_pair_parts x w 18 n e in
        let y = q.0 in
        let z = q.1 in
        let o = hex_only 12 (drop 5 s) w (hd ∙ ap Some y) in
        let t = eqb-true (get_or s 17 0) 10 hq in
        let k : n ≡ length (word_line w) = sym z ∙ sym (word-length w) in
        let f : drop 17 s ≡ 10 ∷ drop 18 s = drop-cons s 17 0 (there s 17 10 t (omega arith)) ∙ rw t in
        let g : drop 5 s ≡ (hex 12 w ++ (10 ∷ [])) ++ drop 18 s =
        sym (take-append-drop 12 (drop 5 s)) ∙ rw (o.1, drop-drop 12 5 s, f) (sym (append_assoc (hex 12 w) (10 ∷ []) (drop 18 s))) in
        (o.0, k, rw (← z) (begins_only s (bytes "word=") hb ∙ ap (λ (l : List ℕ). bytes "word=" ++ l) g))
    go true (Some x) false hb hd hq e = let z : ◌≡◌ {A = ℕ} 0 1 = cc in absurd (omega arith)
    go true None q hb hd hq e = let z : ◌≡◌ {A = ℕ} 0 1 = cc in absurd (omega arith)
    go false d q hb hd hq e = let z : ◌≡◌ {A = ℕ} 0 1 = cc in absurd (omega arith)

pub word_rule : ReadRule word_line_at (λ w. w < 2 ^ 48) word_line
word_rule = record { back = word_back; only = word_only }
