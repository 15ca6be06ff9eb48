-- `piece::put_line` meets its contract: the value and LF are written into an array, and key and value put one behind the other. Assumes nothing.
use borrow.Author.Tests.{leb-true}
use Rattle.std.proofs.Common.{◌≡◌, sym, ap, ◌∙◌, arith, false, leb, List, ◌++◌, ℕ, ◌+◌, ◌≤◌, length, take, replicate, length-append}
use Rattle.std.proofs.lemmas.List.{length-take-le}
use Rattle.std.proofs.lemmas.List.Edits.{sets}
use Rattle.laws.specs.Laws.Lists.{sets-append}
use Rattle.text.specs.Text.{bytes, line, decimal}
use Rattle.text.specs.Placed.{placed, place_behind}
use Rattle.text.specs.Laws.Placed.{placed-fits, behind-fits, front_back}
use Rattle.text.proofs.Digits.{twenty}
use Rattle.text.proofs.piece.put_line.Goals as goal
use Rattle.text.proofs.piece.put_line.Goals.{After-copy-k, Else-not-has_room}

pub digits-d-requires : goal.digits-d-requires
digits-d-requires c = omega (arith, twenty c.args.n (omega arith))

pub copy-k-requires : goal.copy-k-requires
copy-k-requires c = omega (arith, c.digits-d.ensures.0, c.digits-d.auto.out, twenty c.args.n (omega arith))

-- then the array holds the value and LF
record Held (n : ℕ) (array : List ℕ) (k : ℕ) : Type 0 where
  size : k ≡ length (decimal n) + 1
  front : take k array ≡ decimal n ++ bytes "\n"
  most : k ≤ 21
  fits : k ≤ length array

held : (c : After-copy-k) → Held c.args.n c.copy-k.new.out c.copy-k.result
held c =
    let d = c.digits-d in
    let q = c.copy-k in
    let w = twenty c.args.n (omega arith) in
    let v = decimal c.args.n in
    let t = v ++ bytes "\n" in
    let l : length t ≡ length v + 1 = length-append v (bytes "\n") in
    let k : q.result ≡ length t = omega (arith, q.ensures.0, d.ensures.0, l) in
    let a : q.new.out ≡ sets (replicate 21 0) 0 t =
    q.ensures.1 ∙ rw (d.ensures.1, d.ensures.0) (sym (sets-append ℕ v (bytes "\n") (replicate 21 0) 0)) in
    record {
      size = k ∙ l;
      front = rw (k, a) (front_back _ t (omega (arith, l, w)));
      most = omega (arith, k, l, w);
      fits = omega (arith, k, l, w, q.auto.out, d.auto.out);
    }

-- so the line is as long as the key and the value
whole : (key : List ℕ) (n : ℕ) (array : List ℕ) (k : ℕ) → Held n array k → length (line key (decimal n)) ≡ length key + k
whole key n array k h =
    let v = decimal n in
    omega (arith, h.size, length-append key (v ++ bytes "\n"), length-append v (bytes "\n"))

pub overflow_add-key : goal.overflow_add-key
overflow_add-key c =
    let h = held (goal.at.overflow_add-key c).After-copy-k in
    omega (arith, h.most, c.well_formed)

pub returns-then-not-has_room : goal.returns-then-not-has_room
unfolding placed place_behind
returns-then-not-has_room c =
    let a = c.args in
    let h = held (goal.at.returns-then-not-has_room c).After-copy-k in
    let e : leb (a.at + length (line a.key.now (decimal a.n))) (length a.out.now) ≡ false =
    ap (λ (m : ℕ). leb (a.at + m) (length a.out.now)) (whole a.key.now a.n _ _ h) ∙ sym c.has_room.ensures ∙ c.if-not-has_room.true in
    record { value = rw e; out_after = rw e }

-- there is room
room : (c : Else-not-has_room)
    → let a = c.args in
    Held a.n c.copy-k.new.out c.copy-k.result → a.at + length (line a.key.now (decimal a.n)) ≤ length a.out.now
room c h =
    let a = c.args in
    let n = length a.key.now + c.copy-k.result in
    let r = leb-true (a.at + n) (length a.out.now) (sym c.has_room.ensures ∙ c.if-not-has_room.false) in
    omega (arith, r, whole a.key.now a.n _ _ h)

pub slice_bounds-value-end : goal.slice_bounds-value-end
slice_bounds-value-end c = (held (goal.at.slice_bounds-value-end c).After-copy-k).fits

pub slice_bounds-copy-end-3 : goal.slice_bounds-copy-end-3
slice_bounds-copy-end-3 c = sym (length-take-le _ _ (held (goal.at.slice_bounds-copy-end-3 c).After-copy-k).fits)

pub returns : goal.returns
returns c =
    let at = goal.at.returns c in
    let a = c.args in
    let h = held at.After-copy-k in
    let r = room at.Else-not-has_room h in
    let key = a.key.now in
    let v = decimal a.n ++ bytes "\n" in
    let first = c.copy-behind.ensures in
    let last = c.copy.ensures in
    record {
      value = rw h.front at last.0 ∙ omega (arith, first.0, length-append key v) ∙ sym (behind-fits _ _ (key ++ v) r);
      out_after = rw (h.front, first.1, first.0) at last.1 ∙ sym (sets-append ℕ key v a.out.now a.at) ∙ sym (placed-fits _ _ (key ++ v) r);
    }
