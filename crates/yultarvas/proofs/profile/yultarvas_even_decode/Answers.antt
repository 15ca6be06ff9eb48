-- `yultarvas::profile::yultarvas_even_decode` meets its contract. Assumes nothing.
use Rattle.std.specs.Prelude.{◌≡◌, refl, cond, List, ℕ, zero, suc, eqb, ℤ}
use Rattle.std.proofs.Common.{sym, ap, ◌∙◌}
use Rattle.std.proofs.lemmas.Bool.{eqb-false}
use lib.Dec.{eqb-suc-zero}
use Rattle.refusal.proofs.Apart.{never_zero}
use Rattle.tetra.specs.Tetra.{point_of}
use Rattle.even.specs.Even.{Decoded, word_number, even_decoded}
use Rattle.even.specs.EvenRule.{even_decoded_lem}
use Rattle.yultarvas.specs.Calls.{at_front}
use Rattle.yultarvas.specs.EvenCalls.{even_decode_number}
use Rattle.yultarvas.specs.Laws.Room.{room}
use Rattle.yultarvas.proofs.Answers.{refused, written}
use Rattle.yultarvas.proofs.profile.yultarvas_even_decode.Goals as goal

-- the number that goes with a word's point is the word's
same_number : (w : ℕ) → (even_decoded w).number ≡ word_number w
unfolding even_decoded
same_number w = go (word_number w) _
  where
    go : (n : ℕ) (y : List ℤ)
        → (cond {A = Decoded} (eqb n 0) (record { number = 0; point = point_of w }) (record { number = n; point = y })).number ≡ n
    go zero y = refl
    go (suc n) y = rw (eqb-suc-zero n)

pub returns-in-Ok : goal.returns-in-Ok
returns-in-Ok c =
    let w = c.args.word in
    let old = c.args.point.now in
    let d = rw c.in-Ok.is at c.decode.ensures in
    let n : 0 ≡ word_number w = ap (λ (a : Decoded). a.number) d ∙ same_number w in
    let y = ap (λ (a : Decoded). a.point) (d ∙ even_decoded_lem w (sym n)) in
    let r = written (List ℤ) (even_decode_number w old) (at_front (point_of w) old) old 0 (n ∙ room ℤ old (word_number w) c.if-point-lt24.false) refl in
    record { value = r.0; point_after = c.put_point.ensures ∙ ap (λ (x : List ℤ). at_front x old) y ∙ r.1 }

pub returns-in-Err : goal.returns-in-Err
returns-in-Err c =
    let w = c.args.word in
    let old = c.args.point.now in
    let d = rw c.in-Err.is at c.decode.ensures in
    let n = c.number.ensures ∙ ap (λ (a : Decoded). a.number) d ∙ same_number w in
    let r =
    refused (List ℤ) (even_decode_number w old) (at_front (point_of w) old) old c.number.result (n ∙ room ℤ old (word_number w) c.if-point-lt24.false)
    (λ z. eqb-false _ 0 (never_zero c.in-Err.r) (sym c.number.ensures ∙ z)) in
    record { value = r.0; point_after = r.1 }
