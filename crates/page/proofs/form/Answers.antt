-- `form` meets its contract: the text is made apart, and put where it fits. Assumes nothing.
use native.Mathlib.Omega.{arith}
use native.Mathlib.Nat.{zero-add}
use mathlib.Core.List.{List, ◌++◌}
use mathlib.Core.Path.{◌≡◌, ap, sym, ◌∙◌}
use Prim.Native.Nat.{ℕ, ◌≤◌}
use lib.ListN.{length, take, drop, replicate}
use lib.Seq.{sets, sets-eq}
use Rattle.text.specs.Placed.{placed, place_behind}
use Rattle.text.specs.Laws.Placed.{placed-fits, placed_past, place_tells, place_past, front_back}
use Rattle.page.specs.Form.{Formed, form_text}
use Rattle.page.specs.FormRule.{on_bad_num, on_many_words, on_short_text, on_formed}
use Rattle.page.specs.Laws.Form.{is_num_lem, no_num}
use Rattle.page.proofs.form.Goals as goal

-- a text at an array's front, whose length is n
front : (n : ℕ) (old array text : List ℕ) → n ≡ length text → array ≡ sets old 0 text → length text ≤ length old
    → take n array ≡ text
front n old array text e s h = rw (e, s) (front_back old text h)

-- the text that is put is the one made
piece : (n : ℕ) (array text : List ℕ) → n ≡ length text → n ≤ 1189 → array ≡ sets (replicate 1189 0) 0 text → take n array ≡ text
piece n array text e l s =
    let h : length text ≤ length (replicate {A = ℕ} 1189 0) = omega arith in
    front n (replicate 1189 0) array text e s h

pub returns-then-not-is_num : goal.returns-then-not-is_num
returns-then-not-is_num c =
    let a = c.args in
    let h = no_num a.num (sym c.is_num.ensures ∙ c.if-not-is_num.true) in
    let r = on_bad_num a.num a.count a.words a.out.now h in
    record { value = sym r.0; out_after = sym r.1 }

pub returns-then-count-gt64 : goal.returns-then-count-gt64
returns-then-count-gt64 c =
    let a = c.args in
    let n = is_num_lem a.num (sym c.is_num.ensures ∙ c.if-not-is_num.false) in
    let r = on_many_words a.num a.count a.words a.out.now n.0 n.1 (omega (arith, c.if-count-gt64.true)) in
    record { value = sym r.0; out_after = sym r.1 }

pub invariant_of-page : goal.invariant_of-page
invariant_of-page c =
    let n = is_num_lem c.args.num (sym c.is_num.ensures ∙ c.if-not-is_num.false) in
    record { good_num = n; few = omega (arith, c.if-count-gt64.false) }

pub returns-then-out-end : goal.returns-then-out-end
unfolding form_text
returns-then-out-end c =
    let a = c.args in
    let p = c.put_page-length in
    let n = is_num_lem a.num (sym c.is_num.ensures ∙ c.if-not-is_num.false) in
    let text = form_text a.num a.count a.words in
    let e = piece p.result p.new.out text p.ensures.0 p.ensures.1 p.ensures.2 in
    let place : c.put-end.result ≡ place_behind a.out.now 0 text = rw e at c.put-end.ensures.value in
    let bytes : c.put-end.new.out ≡ placed a.out.now 0 text = rw e at c.put-end.ensures.out_after in
    let h = place_past a.out.now 0 text (omega (arith, c.if-out-end.true, place, c.put-end.auto.out)) in
    let r = on_short_text a.num a.count a.words a.out.now n.0 n.1 c.if-count-gt64.false (omega (arith, h)) in
    record { value = sym r.0; out_after = bytes ∙ placed_past a.out.now 0 text h ∙ sym r.1 }

pub returns : goal.returns
unfolding form_text
returns c =
    let a = c.args in
    let p = c.put_page-length in
    let n = is_num_lem a.num (sym c.is_num.ensures ∙ c.if-not-is_num.false) in
    let text = form_text a.num a.count a.words in
    let e = piece p.result p.new.out text p.ensures.0 p.ensures.1 p.ensures.2 in
    let place : c.put-end.result ≡ place_behind a.out.now 0 text = rw e at c.put-end.ensures.value in
    let bytes : c.put-end.new.out ≡ placed a.out.now 0 text = rw e at c.put-end.ensures.out_after in
    let h = place_tells a.out.now 0 text (omega (arith, c.if-out-end.false, place, c.put-end.auto.out)) in
    let r = on_formed a.num a.count a.words a.out.now n.0 n.1 c.if-count-gt64.false (omega (arith, h)) in
    record {
      value = ap {B = Formed} (λ k. record { number = 0; length = k }) p.ensures.0 ∙ sym r.0;
      out_after = bytes ∙ placed-fits a.out.now 0 text h ∙ sets-eq text a.out.now 0 h
          ∙ ap (λ (k : ℕ). text ++ drop k a.out.now) (zero-add (length text)) ∙ sym r.1;
    }
