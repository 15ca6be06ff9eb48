-- The table's rule, one computed test over all rows, and what it says of each row. Assumes nothing.
use Rattle.std.specs.Prelude.{◌≡◌, refl, Bool, true, false, ◌&&◌, List, ℕ, ◌+◌, ◌/◌, ◌%◌, ◌<◌, T, ltb, eqb, length, get_or}
use Rattle.std.proofs.Common.{sym, subst, arith, eqb→eq}
use Rattle.std.specs.Bool.{beq}
use Rattle.laws.specs.Laws.Tests.{split4}
use Rattle.laws.specs.Laws.Tables.{every, at}
use Rattle.rank.specs.Vector.{ranks_below, class, pack, unpack, in_class, in_middle}
use Rattle.rank.specs.Laws.Vector.{class-ranks}
use Rattle.rows.specs.Rows.{rows}
use Rattle.rows.specs.Table.{row_ranks, max_rank, middle_rows}

-- row i of class c has the ranks v, packed in w: its class is c, it meets the bound of c, it meets the middle's bound exactly where
-- the middle uses it, and it is packed
abbrev rule : ℕ → ℕ → List ℕ → ℕ → Bool
rule c i v w = eqb (class v) c && (in_class c v && (beq (in_middle v) (ltb i (middle_rows c)) && eqb (pack v) w))

right : ℕ → ℕ → Bool
right i w = rule (i / 2048) (i % 2048) (unpack 8 w) w

-- the test
tested : T (every right 0 rows)
unfolding right rows
tested = tt

pub count : length rows ≡ 4096
unfolding rows
count = refl

-- the rule as facts
abbrev Rule : ℕ → ℕ → List ℕ → ℕ → Type 0
Rule c i v w = T (eqb (class v) c) × T (in_class c v) × T (beq (in_middle v) (ltb i (middle_rows c))) × T (eqb (pack v) w)

right_at : (i : ℕ) → i < 4096 → Rule (i / 2048) (i % 2048) (unpack 8 (get_or rows i 0)) (get_or rows i 0)
unfolding right
right_at i h =
    go (i / 2048) (i % 2048) (unpack 8 (get_or rows i 0)) (get_or rows i 0)
    (at right rows tested i (omega (arith, count)))
  where
    go : (c i : ℕ) (v : List ℕ) (w : ℕ) → T (rule c i v w) → Rule c i v w
    go c i v w t = split4 (eqb (class v) c) (in_class c v) (beq (in_middle v) (ltb i (middle_rows c))) (eqb (pack v) w) t

-- ---- at each row
pub row-length : (i : ℕ) → length (row_ranks i) ≡ 8
unfolding row_ranks
row-length i = refl

pub row-class : (i : ℕ) → i < 4096 → class (row_ranks i) ≡ i / 2048
unfolding row_ranks
row-class i h = eqb→eq _ _ (right_at i h).0

pub row_within : (i : ℕ) → i < 4096 → T (in_class (i / 2048) (row_ranks i))
unfolding row_ranks
row_within i h = (right_at i h).1

-- each row meets the bound of its own class
pub row_in : (i : ℕ) → i < 4096 → T (in_class (class (row_ranks i)) (row_ranks i))
row_in i h = subst (λ (c : ℕ). T (in_class c (row_ranks i))) (sym (row-class i h)) (row_within i h)

beq-eq : (a b : Bool) → T (beq a b) → a ≡ b
beq-eq true true t = refl
beq-eq true false t = absurd t
beq-eq false true t = absurd t
beq-eq false false t = refl

pub row-middle : (i : ℕ) → i < 4096 → in_middle (row_ranks i) ≡ ltb (i % 2048) (middle_rows (i / 2048))
unfolding row_ranks
row-middle i h = beq-eq (in_middle (unpack 8 (get_or rows i 0))) (ltb (i % 2048) (middle_rows (i / 2048))) (right_at i h).2

pub row_packed : (i : ℕ) → i < 4096 → pack (row_ranks i) ≡ get_or rows i 0
unfolding row_ranks
row_packed i h = eqb→eq _ _ (right_at i h).3

-- no rank is above 4
pub row_ranks_lem : (i : ℕ) → i < 4096 → T (ranks_below (max_rank + 1) (row_ranks i))
row_ranks_lem i h = class-ranks (i / 2048) (row_ranks i) (row_within i h)

-- and a row reaches 4
pub rank_four : get_or (row_ranks 1256) 7 0 ≡ max_rank
unfolding row_ranks rows
rank_four = refl
