-- `rank::value_at`: the table that the code holds passes the listing rule at each of the 32. Assumes nothing.
use Rattle.std.proofs.Common.{rules, ◌≡◌, ◌∙◌, ◌<◌, ℕ, ◌+◌, ◌*◌, List, slice_index_or, w8, w32, ℤ, pos, to_z, of_z}
use Rattle.std.specs.Prelude.{T}
use Rattle.std.proofs.Math.Facts.{to_z-of_z}
use mir.Val.{SFits}
use Rattle.laws.specs.Words.{eq_z}
use Rattle.laws.specs.Laws.Tests.{upto, below2}
use Rattle.laws.specs.Laws.Whole.{eq_z→eq}
use Rattle.rank.specs.Coord.{val_of}
use Rattle.rank.proofs.value_at.Goals as goal

-- an entry of the table, through the 8 bits that the code reads
abbrev entry : List ℤ → ℕ → ℕ → ℤ
entry l o rho = to_z w8 (of_z w8 (slice_index_or l (o * 8 + rho) (pos 0)))

-- a table that passes the test at each of the 32 is the listing rule
rule : (l : List ℤ) (o rho : ℕ) → o < 4 → rho < 8
    → T (upto 4 (λ (a : ℕ). upto 8 (λ (b : ℕ). eq_z (entry l a b) (val_of a b)))) → entry l o rho ≡ val_of o rho
rule l o rho ho hr t =
    eq_z→eq (entry l o rho) (val_of o rho) (below2 4 8 (λ (a b : ℕ). eq_z (entry l a b) (val_of a b)) t o rho ho hr)

pub returns : goal.returns
unfolding val_of
returns c =
    let f : SFits w32 c.from.result = search rules in
    to_z-of_z f ∙ rw c.from.ensures (search (rule, c.requires.0, c.requires.1))
