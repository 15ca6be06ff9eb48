-- One more piece at the end of a text in an array of n bytes. Assumes nothing.
use Rattle.std.proofs.Common.{◌≡◌, refl, sym, ap, ap₂, ◌∙◌, Bool, true, false, cond, List, ◌++◌, ℕ, ◌+◌, ◌-◌, ◌≤◌, length, take, drop, replicate, length-append, zero-add, arith}
use Rattle.std.proofs.Math.Dec.{leb}
use Rattle.std.proofs.lemmas.List.{length-replicate, replicate-append-replicate}
use Rattle.std.proofs.lemmas.List.Edits.{sets}
use Rattle.std.proofs.Math.Seq.{take-append_seam, drop-append_seam}
use borrow.Author.Tests.{lt-leb, leb-true}
use Rattle.laws.specs.Laws.Lists.{sets-append}
use Rattle.text.specs.declared.printed.Printed.TheInside.{Inside}
use Rattle.text.specs.Placed.{placed, place_behind}
use Rattle.text.specs.Printed.{appended}
use Rattle.text.specs.Held.{held, in_array, IsHeld}
use Rattle.text.specs.Laws.Placed.{into_zeros}

-- the fields that hold a text hold it
text_back : (n : ℕ) (text : List ℕ) → held (in_array n text) ≡ text
text_back n text = take-append_seam text (replicate (n - length text) 0)

is_held : (n : ℕ) (text : List ℕ) → length text ≤ n → IsHeld (in_array n text)
is_held n text h = (h, ap (in_array n) (sym (text_back n text)))

-- a piece written behind the text
behind_text : (n : ℕ) (text piece : List ℕ) → length text + length piece ≤ n
    → sets (in_array n text).bytes (length text) piece ≡ (in_array n (text ++ piece)).bytes
behind_text n text piece h =
    let l = length-append text piece in
    ap (λ (b : List ℕ). sets b (length text) piece) (sym (into_zeros n text (omega arith)))
    ∙ ap (λ (k : ℕ). sets (sets (replicate n 0) 0 text) k piece) (sym (zero-add (length text)))
    ∙ sym (sets-append ℕ text piece (replicate n 0) 0)
    ∙ into_zeros n (text ++ piece) (omega (arith, l))

-- the fields afterwards
fields_after : (n : ℕ) (text piece : List ℕ) → length text ≤ n → (behind : ℕ) (array : List ℕ)
    → behind ≡ place_behind (in_array n text).bytes (length text) piece → array ≡ placed (in_array n text).bytes (length text) piece
    → ◌≡◌ {A = Inside n} (record { length = cond (leb behind n) behind (length text); bytes = array }) (in_array n (appended n text piece))
unfolding placed place_behind appended
fields_after n text piece h behind array e s = rw (e, s, size) (go (leb (length text + length piece) n) refl)
  where
    size : length (in_array n text).bytes ≡ n
    size = length-append text (replicate (n - length text) 0) ∙ omega (arith, length-replicate {A = ℕ} (n - length text) 0)

    go : (b : Bool) → leb (length text + length piece) n ≡ b
        → ◌≡◌ {A = Inside n}
        (record { length = cond (leb (cond b (length text + length piece) (n + 1)) n) (cond b (length text + length piece) (n + 1)) (length text); bytes = cond b (sets (in_array n text).bytes (length text) piece) (in_array n text).bytes })
        (in_array n (cond b (text ++ piece) text))
    go true room = rw (room, behind_text n text piece (leb-true _ _ room), length-append text piece) refl
    go false room = rw (lt-leb (n + 1) n (omega arith)) refl

-- no text: zeros in the place of the one that was held
pub cleared : (n : ℕ) (p : Inside n) → IsHeld p → (front : List ℕ) → front ≡ replicate (length (held p)) 0
    → IsHeld {n = n} (record { length = 0; bytes = front ++ drop p.length p.bytes })
cleared n p ok front e = (omega arith, ap (λ (b : List ℕ). record { length = 0; bytes = b }) zeros)
  where
    text : List ℕ
    text = held p

    a : p.length ≡ length text
    a = ap (λ (q : Inside n). q.length) ok.1

    behind : drop p.length p.bytes ≡ replicate (n - length text) 0
    behind =
        ap₂ (λ (k : ℕ) (m : List ℕ). drop k m) a (ap (λ (q : Inside n). q.bytes) ok.1)
        ∙ drop-append_seam text (replicate (n - length text) 0)

    all_of : length text + (n - length text) ≡ n - 0
    all_of = omega (arith, a, ok.0)

    zeros : front ++ drop p.length p.bytes ≡ replicate (n - 0) 0
    zeros =
        ap₂ (λ (s t : List ℕ). s ++ t) e behind
        ∙ replicate-append-replicate (length text) (n - length text) 0
        ∙ ap (λ (k : ℕ). replicate k 0) all_of

-- the text stays within the array
appended-fits : (n : ℕ) (text piece : List ℕ) → length text ≤ n → length (appended n text piece) ≤ n
unfolding appended
appended-fits n text piece h = go (leb (length text + length piece) n) refl
  where
    go : (b : Bool) → leb (length text + length piece) n ≡ b → length (cond b (text ++ piece) text) ≤ n
    go true room = omega (arith, length-append text piece, leb-true _ _ room)
    go false room = h

module _ (n : ℕ) (p : Inside n) (ok : IsHeld p) (piece : List ℕ) (behind end : ℕ) (array : List ℕ)
    (e : behind ≡ place_behind p.bytes p.length piece) (s : array ≡ placed p.bytes p.length piece) (l : end ≡ cond (leb behind n) behind p.length) where
  abbrev pub fields : Inside n
  fields = record { length = end; bytes = array }

  all : fields ≡ in_array n (appended n (held p) piece)
  all =
      let text = held p in
      let a : p.length ≡ length text = ap (λ (q : Inside n). q.length) ok.1 in
      let b : p.bytes ≡ (in_array n text).bytes = ap (λ (q : Inside n). q.bytes) ok.1 in
      let e' : behind ≡ place_behind (in_array n text).bytes (length text) piece =
      e ∙ ap (λ (k : ℕ). place_behind p.bytes k piece) a ∙ ap (λ (m : List ℕ). place_behind m (length text) piece) b in
      let s' : array ≡ placed (in_array n text).bytes (length text) piece =
      s ∙ ap (λ (k : ℕ). placed p.bytes k piece) a ∙ ap (λ (m : List ℕ). placed m (length text) piece) b in
      let l' : end ≡ cond (leb behind n) behind (length text) = l ∙ ap (cond (leb behind n) behind) a in
      ap (λ (k : ℕ). record { length = k; bytes = array }) l' ∙ fields_after n text piece (omega (arith, a, ok.0)) behind array e' s'

  pub more_text : take end array ≡ appended n (held p) piece
  more_text = ap held all ∙ text_back n (appended n (held p) piece)

  pub more_held : (end ≤ n) × (fields ≡ in_array n (take end array))
  more_held =
      let text = held p in
      let a : p.length ≡ length text = ap (λ (q : Inside n). q.length) ok.1 in
      let m : end ≡ length (appended n text piece) = ap (λ (q : Inside n). q.length) all in
      (omega (arith, m, appended-fits n text piece (omega (arith, a, ok.0))), all ∙ ap (in_array n) (sym more_text))
