-- Pieces at the end of a text in an array of n bytes, one behind another, where there is room for all of them. Assumes nothing.
use Rattle.std.specs.Prelude.{◌≡◌, List, [], ◌++◌, ℕ, suc, ◌+◌, ◌^◌, ◌<◌, ◌≤◌, length}
use Rattle.std.proofs.Common.{ap, ◌∙◌, arith, length-append}
use borrow.Author.Tests.{le-leb}
use Rattle.text.specs.Text.{bytes, line, decimal, hex}
use Rattle.text.specs.Printed.{appended}
use Rattle.text.specs.Laws.Text.{decimal-fits, hex-length}

-- one piece
pub appended_is : (n : ℕ) (text piece : List ℕ) → length text + length piece ≤ n → appended n text piece ≡ text ++ piece
unfolding appended
appended_is n text piece room = rw (le-leb (length text + length piece) n room)

-- the text so far, written out, and that it has at most `most` bytes. So whether the next piece fits is a question of numbers alone
pub record Said (text : List ℕ) (most : ℕ) (said : List ℕ) : Type 0 where
  pub is : text ≡ said
  pub near : length said ≤ most

-- no piece yet
pub said-none : {text : List ℕ} → text ≡ [] → Said text 0 []
said-none e = record { is = e; near = omega arith }

-- one more piece, of at most k bytes
pub said-more : {n most : ℕ} {text said next : List ℕ} → Said text most said → (piece : List ℕ) (k : ℕ) → length piece ≤ k → most + k ≤ n
    → next ≡ appended n text piece → Said next (most + k) (said ++ piece)
said-more {n} {most} {text} {said} {next} t piece k few fits e =
    record {
      is = e ∙ ap (λ (l : List ℕ). appended n l piece) t.is ∙ appended_is n said piece (omega (arith, t.near));
      near = omega (arith, length-append said piece, t.near);
    }

-- a text that is known, and hexadecimal digits
pub said-text : {n most : ℕ} {text said next : List ℕ} → Said text most said → (piece : List ℕ) → most + length piece ≤ n
    → next ≡ appended n text piece → Said next (most + length piece) (said ++ piece)
said-text t piece fits e = said-more t piece (length piece) (omega arith) fits e

pub said-hex : {n most : ℕ} {text said next : List ℕ} → Said text most said → (k v : ℕ) → most + k ≤ n
    → next ≡ appended n text (hex k v) → Said next (most + k) (said ++ hex k v)
said-hex t k v fits e = said-more t (hex k v) k (omega (arith, hex-length k v)) fits e

-- a line of a key and a number of at most suc k digits: the key, the digits and LF
pub said-line : {n most : ℕ} {text said next : List ℕ} → Said text most said → (key : List ℕ) (k v : ℕ) → v < 10 ^ suc k
    → most + (length key + (k + 2)) ≤ n → next ≡ appended n text (line key (decimal v))
    → Said next (most + (length key + (k + 2))) (said ++ line key (decimal v))
said-line t key k v below fits e =
    let l : length (line key (decimal v)) ≤ length key + (k + 2) =
    omega (arith, decimal-fits k v below, length-append key (decimal v ++ bytes "\n"), length-append (decimal v) (bytes "\n")) in
    said-more t (line key (decimal v)) (length key + (k + 2)) l fits e
