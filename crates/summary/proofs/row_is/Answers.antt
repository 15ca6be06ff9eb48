-- `row_is` meets its contract: the library's test of a start is the definition's. Assumes nothing.
use native.Mathlib.Omega.{arith}
use mathlib.Core.Path.{◌≡◌, refl, ap, sym, ◌∙◌}
use mathlib.Core.Bool.{Bool, true, false}
use mathlib.Core.List.{List, ◌++◌}
use lib.IntN.{ℤ}
use lib.ListN.{length, take, drop, length-drop, take-append-drop}
use lib.Seq.{take_all}
use Prim.Native.Nat.{◌-◌}
use Rattle.std.specs.Cmp.Lexicographic.{pointwise}
use Rattle.std.specs.Ordering.{int_eq}
use Rattle.std.specs.List.{starts_with}
use Rattle.std.proofs.lemmas.Bool.Decides.{Decides-int_eq}
use Rattle.std.proofs.lemmas.Slice.Eq.{starts_is}
use Rattle.summary.specs.Answer.{begin}
use Rattle.summary.specs.Laws.Cells.{begin_is, begin_self}
use Rattle.summary.proofs.row_is.Goals as goal

same : (a b : Bool) → (a ≡ true → b ≡ true) → (b ≡ true → a ≡ true) → a ≡ b
same true true h k = refl
same true false h k = sym (h refl)
same false true h k = k refl
same false false h k = refl

begin_by : (rows row : List ℤ) (r : Bool) → r ≡ pointwise int_eq row (take (length row) rows) → r ≡ begin rows row
begin_by rows row r e =
    let t = starts_is Decides-int_eq rows row r e in
    same r (begin rows row)
    (λ h. ap (λ (l : List ℤ). begin l row) (t.0 h) ∙ begin_self row (drop (length row) rows))
    (λ h. t.1 (drop (length row) rows)
    (sym (take-append-drop (length row) rows) ∙ ap (λ (l : List ℤ). l ++ drop (length row) rows) (begin_is rows row h)))

pub returns : goal.returns
returns c =
    let a = c.args in
    let whole = take_all (length a.rows.now - a.at) (drop a.at a.rows.now) (omega (arith, length-drop a.at a.rows.now)) in
    begin_by (drop a.at a.rows.now) c.cells.result c.starts_with.result
    (c.starts_with.ensures.value ∙ ap (λ (l : List ℤ). starts_with int_eq l c.cells.result) whole)
    ∙ ap (begin (drop a.at a.rows.now)) c.cells.ensures
