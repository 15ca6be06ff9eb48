-- `word_line` meets its contract: no reason has the number 0. Assumes nothing.
use Rattle.std.proofs.Common.{◌≡◌, ◌∙◌, sym, ap, ℕ, Result, Ok, Err, lit≤, append_assoc, ne_eqb}
use Rattle.text.specs.Text.{bytes}
use Rattle.text.specs.Laws.Printed.{said-none, said-text, said-hex}
use Rattle.refusal.specs.declared.Refusal.{Refusal}
use Rattle.refusal.proofs.Apart.{never_0}
use Rattle.tetra.specs.Encode.{encoded_by}
use Rattle.answers.specs.Answers.{encoded_line}
use Rattle.answers.proofs.word_line.Goals as goal

pub returns-in-Err : goal.returns-in-Err
unfolding encoded_line
returns-in-Err c =
    let r = c.in-Err.reason in
    let line : c.refused_point.result ≡ encoded_line (encoded_by (Err r)) = rw (ne_eqb _ 0 (never_0 r)) c.refused_point.ensures in
    line ∙ ap (λ (k : Result ℕ Refusal). encoded_line (encoded_by k)) (sym c.in-Err.is)

pub returns-in-Ok : goal.returns-in-Ok
unfolding encoded_line
returns-in-Ok c =
    let w = c.in-Ok.word in
    let l1 = said-text (said-none c.new-line.ensures) (bytes "word=") (lit≤ tt) c.put.ensures in
    let l2 = said-hex l1 12 w (lit≤ tt) c.put_hex.ensures in
    let l3 = said-text l2 (bytes "\n") (lit≤ tt) c.put-in-Ok.ensures in
    let line : c.put-in-Ok.new.self ≡ encoded_line (encoded_by (Ok w)) = l3.is ∙ simp append_assoc in
    line ∙ ap (λ (k : Result ℕ Refusal). encoded_line (encoded_by k)) (sym c.in-Ok.is)
