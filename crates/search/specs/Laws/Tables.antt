-- What the tables of the search are: its bounds those of document 01, its middle entries the branches' bytes. Assumes nothing.
use Rattle.std.specs.Prelude.{◌≡◌, refl, ℕ, ◌+◌, ◌*◌, ◌/◌, ◌%◌, ◌<◌, get_or}
use Rattle.std.proofs.Common.{◌∙◌, sym, ap, ap₂, arith}
use Rattle.std.specs.Int.Bits.{bit_xor}
use Rattle.laws.specs.Laws.Lists.{tab_at}
use Rattle.rank.specs.Vector.{bound_cost, bound_cut, middle_cost, middle_cut}
use Rattle.trellis.specs.Tables.{middles}
use Rattle.trellis.specs.Trellis.{middle_of, middle_sets}
use Rattle.trellis.specs.Laws.Rows.{zero_middles, set_firsts, middle-sum, middle-read}
use Rattle.search.specs.Bound.{lex_num}
use Rattle.search.specs.Tables.{tables, branch_entries}

-- the bounds: the costs of document 01, and its cuts as numbers with coordinate 0 most significant
pub class0_is : tables.class0 ≡ record { cost = bound_cost 0; cut = lex_num 0 (bound_cut 0) }
class0_is = refl

pub class1_is : tables.class1 ≡ record { cost = bound_cost 1; cut = lex_num 0 (bound_cut 1) }
class1_is = refl

pub mixed_is : tables.mixed ≡ record { cost = middle_cost; cut = lex_num 0 middle_cut }
mixed_is = refl

-- ---- the middle entry of a branch, the byte of an entry, and that the entry holds the branch's byte
pub entry_at : (k : ℕ) → k < 1024 → get_or branch_entries k 0 ≡ 16 * (k / 128) + k % 16
unfolding branch_entries
entry_at k h = tab_at ℕ 0 (λ (i : ℕ). 16 * (i / 128) + i % 16) 1024 k h

pub set_at : (m : ℕ) → m < 128 → get_or middle_sets m 0 ≡ middle_of (8 * (m / 16)) (m % 16)
unfolding middle_sets
set_at m h = tab_at ℕ 0 (λ (i : ℕ). middle_of (8 * (i / 16)) (i % 16)) 128 m h

-- eight states in a row have the same middle bytes
same_set : (s b : ℕ) → s < 64 → b < 16 → middle_of (8 * (s / 8)) b ≡ middle_of s b
same_set s b h k =
    let q : 8 * (s / 8) / 8 ≡ s / 8 = omega arith in
    sym (middle-sum (8 * (s / 8)) b (omega arith) k) ∙ ap (λ (n : ℕ). bit_xor (get_or zero_middles b 0) (get_or set_firsts n 0)) q ∙ middle-sum s b h k

middle-at : (i : ℕ) → middle_of (i / 16) (i % 16) ≡ get_or middles i 0
middle-at i =
    let q : i / 16 * 16 + i % 16 ≡ i = omega arith in
    middle-read (i / 16) (i % 16) (omega arith) ∙ ap (λ (n : ℕ). get_or middles n 0) q

pub entry_byte : (i : ℕ) → i < 1024 → get_or middle_sets (get_or branch_entries i 0) 0 ≡ get_or middles i 0
entry_byte i h =
    let e = 16 * (i / 128) + i % 16 in
    let s : 8 * (e / 16) ≡ 8 * (i / 16 / 8) = omega arith in
    let b : e % 16 ≡ i % 16 = omega arith in
    ap (λ (m : ℕ). get_or middle_sets m 0) (entry_at i h) ∙ set_at e (omega arith) ∙ ap₂ middle_of s b
    ∙ same_set (i / 16) (i % 16) (omega arith) (omega arith) ∙ middle-at i
