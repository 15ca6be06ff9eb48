-- A block of 24 at one scale: what goes into the search and what comes out, as in `encode_at_scale` and `code_of` of encoder.rs. Definitions
-- only.
-- The idea: on the way in, 24 quotients are put into trio order and cut into three sections; on the way out,
-- the winner's three sections are put back into one point.
use Rattle.std.specs.Prelude.{cond, List, ℕ, ◌+◌, ◌-◌, ltb, ℤ, get_or, Float}
use Rattle.std.specs.Float.{nan}
use Rattle.laws.specs.Words.{tab}
use Rattle.trellis.specs.Trio.{order, places}
use Rattle.search.specs.Record.{all_shrinks, end_shrinks}
use Rattle.search.specs.Tables.{tables}
use Rattle.search.specs.Entries.{Rule, section_at}
use Rattle.search.specs.declared.Targets.{Targets}
use Rattle.search.specs.Parity.{Winner, search}

-- ---- a setting of the shrinks: n of them, but no more than 7 at the ends and 8 in the middle
abbrev pub rule_of : ℕ → Rule
rule_of n = record { ends = cond (ltb n end_shrinks) n end_shrinks; mids = cond (ltb n all_shrinks) n all_shrinks }

-- ---- in: 24 doubles in natural order
-- the coordinate that stands at place j of trio order
abbrev pub coordinate : ℕ → ℕ
coordinate j = get_or order j 0

-- in trio order,
abbrev pub trio_of : List Float → List Float
trio_of t = tab (λ j. get_or t (coordinate j) nan) 24

-- and cut into three sections
abbrev pub sections : List Float → Targets
sections t = record { t1 = tab (λ j. get_or t j nan) 8; t2 = tab (λ j. get_or t (8 + j) nan) 8; t3 = tab (λ j. get_or t (16 + j) nan) 8 }

abbrev pub targets_of : List Float → Targets
targets_of t = sections (trio_of t)

-- ---- out: the point of a winner in trio order, section by section,
abbrev pub winner_at : Winner → ℕ → ℤ
winner_at w j =
    cond (ltb j 8) (section_at w.p w.s1.byte w.s1.key j)
    (cond (ltb j 16) (section_at w.p w.s2.byte w.s2.key (j - 8)) (section_at w.p w.s3.byte w.s3.key (j - 16)))

-- and in natural order: coordinate i is the one that stands at its place
abbrev pub place : ℕ → ℕ
place i = get_or places i 0

abbrev pub point_from : Winner → List ℤ
point_from w = tab (λ i. winner_at w (place i)) 24

-- ---- the winner at a target over the parities ps, at setting n
abbrev pub winner_for : List ℕ → ℕ → List Float → Winner
winner_for ps n t = search tables (rule_of n) (targets_of t) ps
