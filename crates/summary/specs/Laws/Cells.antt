-- Cells compared: with one list after another, cell by cell, and what it says that rows begin with a summary. Assumes nothing.
use Rattle.std.specs.Prelude.{◌≡◌, refl, Bool, true, false, ◌&&◌, List, [], ◌∷◌, ◌++◌, ℕ, ◌+◌, ◌<◌, ℤ, pos, length, get_or, take, drop}
use Rattle.std.proofs.Common.{ap, ap₂, sym, arith}
use Rattle.laws.specs.Words.{eq_z}
use Rattle.laws.specs.Laws.Lists.{drop-next}
use Rattle.laws.specs.Laws.Tests.{is_true, true_is, and_left, and_right}
use Rattle.laws.specs.Laws.Whole.{eq_z→eq, eq_z-refl}
use Rattle.summary.specs.Answer.{begin}

pub begin-none : (rows : List ℤ) → begin rows [] ≡ true
unfolding begin
begin-none [] = refl
begin-none (r ∷ rows) = refl

-- one list after another
pub begin-append : (rows xs ys : List ℤ) → begin rows (xs ++ ys) ≡ begin rows xs && begin (drop (length xs) rows) ys
unfolding begin
begin-append rows [] ys = ap (λ (b : Bool). b && begin rows ys) (sym (begin-none rows))
begin-append [] (x ∷ xs) ys = refl
begin-append (r ∷ rows) (x ∷ xs) ys = go (eq_z r x) (begin-append rows xs ys)
  where
    go : (b : Bool) → begin rows (xs ++ ys) ≡ begin rows xs && begin (drop (length xs) rows) ys
        → b && begin rows (xs ++ ys) ≡ (b && begin rows xs) && begin (drop (length xs) rows) ys
    go true e = e
    go false e = refl

-- what is left to compare at cell j: that cell, and what is left at j + 1
pub begin-next : (rows xs : List ℤ) (at j : ℕ) → at + j < length rows → j < length xs
    → begin (drop (at + j) rows) (drop j xs)
    ≡ eq_z (get_or rows (at + j) (pos 0)) (get_or xs j (pos 0)) && begin (drop (at + (j + 1)) rows) (drop (j + 1) xs)
unfolding begin
begin-next rows xs at j h k =
    let e : at + (j + 1) ≡ at + j + 1 = omega arith in
    rw (drop-next ℤ (pos 0) rows (at + j) h, drop-next ℤ (pos 0) xs j k, e)

-- rows that begin with some cells have them at their start, and only such
pub begin_is : (rows xs : List ℤ) → begin rows xs ≡ true → take (length xs) rows ≡ xs
unfolding begin
begin_is [] [] e = refl
begin_is (r ∷ rows) [] e = refl
begin_is [] (x ∷ xs) e = let z : ◌≡◌ {A = Bool} false true = e in absurd (true_is false e)
begin_is (r ∷ rows) (x ∷ xs) e =
    let t = true_is (eq_z r x && begin rows xs) e in
    ap₂ {C = List ℤ} (λ a l. a ∷ l) (eq_z→eq r x (and_left (eq_z r x) (begin rows xs) t))
    (begin_is rows xs (is_true (begin rows xs) (and_right (eq_z r x) (begin rows xs) t)))

pub begin_self : (xs rest : List ℤ) → begin (xs ++ rest) xs ≡ true
unfolding begin
begin_self [] rest = begin-none rest
begin_self (x ∷ xs) rest = rw (is_true (eq_z x x) (eq_z-refl x)) (begin_self xs rest)
