-- `encoder::winner_for` meets its contract: the three sections of the target in trio order. Assumes nothing.
use mathlib.Core.Path.{◌≡◌, ap, ap₂, ◌∙◌}
use mathlib.Core.List.{List}
use Prim.Native.Nat.{ℕ, ◌+◌}
use native.Mathlib.Nat.{zero-add}
use lib.ListN.{get_or}
use lib.Ieee.{Float, nan}
use Rattle.laws.specs.Words.{tab}
use Rattle.laws.specs.Laws.Lists.{tab-eq}
use Rattle.search.specs.Tables.{tables}
use Rattle.search.specs.declared.Targets.{Targets}
use Rattle.search.specs.Parity.{parities_of}
use Rattle.search.specs.Parity as parity
use Rattle.search.specs.Block.{rule_of, trio_of, sections}
use Rattle.encoder.proofs.winner_for.Goals as goal

abbrev at : List Float → ℕ → List Float
at u k = tab (λ (j : ℕ). get_or u (k + j) nan) 8

-- the first section starts at place 0
front : (u : List Float) → at u 0 ≡ tab (λ (j : ℕ). get_or u j nan) 8
front u = tab-eq Float nan (λ (j : ℕ). get_or u (0 + j) nan) (λ (j : ℕ). get_or u j nan) 8 (λ k h. ap (λ (j : ℕ). get_or u j nan) (zero-add k))

cut : (t u a b d : List Float) → u ≡ trio_of t → a ≡ at u 0 → b ≡ at u 8 → d ≡ at u 16
    → ◌≡◌ {A = Targets} (record { t1 = a; t2 = b; t3 = d }) (sections (trio_of t))
cut t u a b d e p q r =
    ap (λ (l : List Float). record { t1 = l; t2 = b; t3 = d }) (p ∙ front u)
    ∙ ap₂ {C = Targets} (λ (l m : List Float). record { t1 = tab (λ (j : ℕ). get_or u j nan) 8; t2 = l; t3 = m }) q r ∙ ap sections e

pub returns : goal.returns
returns c =
    let a = c.args in
    c.search.ensures
    ∙ ap (λ (t : Targets). parity.search tables (rule_of a.setting) t (parities_of a.odd))
    (cut a.t c.trio-u.result _ _ _ c.trio-u.ensures c.section.ensures
    c.section-2.ensures c.section-3.ensures)
