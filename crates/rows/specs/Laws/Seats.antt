-- Answers: their numbers and values, the seat of a row's number, and the middle's index. Assumes nothing.
use Rattle.std.specs.Prelude.{◌≡◌, refl, Bool, true, false, cond, ℕ, ◌+◌, ◌*◌, ◌/◌, ◌%◌, ◌<◌, ◌≤◌, ltb, get_or, Option, Some, None, unwrap_or, option_map}
use Rattle.std.proofs.Common.{◌∙◌, ap, ap₂, sym, arith, lt-ltb, le-ltb}
use Rattle.std.proofs.Math.Decide.{dec_lt}
use lib.ListN.{get_or-eq_default}
use Rattle.rows.specs.Rows.{rows}
use Rattle.rows.specs.Laws.Rule.{count}
use Rattle.rows.specs.Table.{number_of, row_of, At, seat_of, seat_at, middle_rows, middle_seat, seated_number, values_of}
use Rattle.rows.specs.declared.Seat.{Seat}

-- no answer is a refusal
pub number_zero : (r : Option Seat) → seated_number r ≡ 0
number_zero (Some s) = refl
number_zero None = refl

-- the values decide the answer
pub same_values : (r s : Option Seat) → values_of r ≡ values_of s → r ≡ s
same_values (Some a) (Some b) e =
    let c : a.class ≡ b.class = cc in
    let i : a.index ≡ b.index = cc in
    ap₂ At c i
same_values (Some a) None e = cc
same_values None (Some b) e = cc
same_values None None e = refl

-- an answer is not both
pub not_both : (c i : ℕ) → None ≡ At c i → ⊥
not_both c i e = let z : ◌≡◌ {A = ℕ} 0 1 = cc in omega arith

-- the class and the index of a seat are its own
pub seat-same : {c i d j : ℕ} → At c i ≡ At d j → (c ≡ d) × (i ≡ j)
seat-same {c} {i} {d} {j} e =
    let q : ◌≡◌ {A = Seat} (record { class = c; index = i }) (record { class = d; index = j }) = cc in
    (ap (λ (s : Seat). s.class) q, ap (λ (s : Seat). s.index) q)

-- ---- row p is row p % 2048 of class p / 2048
pub number-row : (p : ℕ) → p < 4096 → number_of p ≡ Some p
number-row p h = ap (λ (b : Bool). cond b (Some p) None) (lt-ltb p 4096 h)

pub row-or-zero : (x : ℕ) → unwrap_or (row_of x) 0 ≡ get_or rows x 0
row-or-zero x = go (dec_lt x 4096)
  where
    go : Dec (x < 4096) → unwrap_or (row_of x) 0 ≡ get_or rows x 0
    go (yes h) = ap (λ (b : Bool). unwrap_or (cond b (Some (get_or rows x 0)) None) 0) (lt-ltb x 4096 h)
    go (no h) =
        ap (λ (b : Bool). unwrap_or (cond b (Some (get_or rows x 0)) None) 0) (le-ltb x 4096 (omega arith))
        ∙ sym (get_or-eq_default rows 0 (omega (arith, count)))

pub seat-number : (p : ℕ) → option_map seat_of (number_of p) ≡ seat_at p
unfolding seat_at
seat-number p = go (ltb p 4096)
  where
    go : (b : Bool) → option_map seat_of (cond b (Some p) None) ≡ cond b (Some (seat_of p)) None
    go true = refl
    go false = refl

pub seat-row : (p : ℕ) → p < 4096 → seat_at p ≡ At (p / 2048) (p % 2048)
unfolding seat_at
seat-row p h = ap (λ (b : Bool). cond b (At (p / 2048) (p % 2048)) None) (lt-ltb p 4096 h)

pub seat-none : (p : ℕ) → 4096 ≤ p → seat_at p ≡ None
unfolding seat_at
seat-none p h = ap (λ (b : Bool). cond b (At (p / 2048) (p % 2048)) None) (le-ltb p 4096 h)

pub seat-fits : (p c i : ℕ) → seat_at p ≡ At c i → (c < 2) × (i < 2048)
seat-fits p c i e = go (dec_lt p 4096)
  where
    go : Dec (p < 4096) → (c < 2) × (i < 2048)
    go (yes h) =
        let q : At (p / 2048) (p % 2048) ≡ At c i = sym (seat-row p h) ∙ e in
        let s = seat-same q in
        (omega (arith, s.0), omega (arith, s.1))
    go (no h) = absurd (not_both c i (sym (seat-none p (omega arith)) ∙ e))

-- ---- the rows of a class that the middle uses have an index in it, and the others none
pub middle_used : (c j : ℕ) → j < middle_rows c → middle_seat (At c j) ≡ At c (j + 1240 * c)
unfolding middle_seat
middle_used c j h = ap (λ (b : Bool). cond b (At c (j + 1240 * c)) None) (lt-ltb j (middle_rows c) h)

pub middle_unused : (c j : ℕ) → middle_rows c ≤ j → middle_seat (At c j) ≡ None
unfolding middle_seat
middle_unused c j h = ap (λ (b : Bool). cond b (At c (j + 1240 * c)) None) (le-ltb j (middle_rows c) h)
