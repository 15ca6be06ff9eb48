-- `parity::search` meets its contract: parity 0, and then parity 1 where that is searched too. Assumes nothing.
use mathlib.Core.Path.{◌≡◌, ◌∙◌, ap, ap₂}
use lib.Ieee.{Float}
use Rattle.search.specs.Parity.{Winner}
use Rattle.search.specs.Tables.{tables}
use Rattle.search.specs.Entries.{Rule}
use Rattle.search.specs.Parity as def
use Rattle.search.specs.declared.Targets.{Targets}
use Rattle.search.specs.Block.{rule_of}
use Rattle.parity.proofs.search.Goals as goal

module _ (rule : Rule) (t : Targets) {none a even : Winner} {x : Float} (hn : none ≡ def.nobody) (hx : x ≡ def.cost_of none)
    (ha : a ≡ def.parity tables rule t 0 x) (he : even ≡ def.choose none a) where
  first : even ≡ def.search tables rule t def.even_parities
  unfolding def.search def.search_over
  first = he ∙ ap₂ def.choose hn (ha ∙ ap (def.parity tables rule t 0) (hx ∙ ap def.cost_of hn))

  both : {b w : Winner} {y : Float} → y ≡ def.cost_of even → b ≡ def.parity tables rule t 1 y → w ≡ def.choose even b
      → w ≡ def.search tables rule t def.both_parities
  unfolding def.search def.search_over
  both hy hb hw = hw ∙ ap₂ def.choose first (hb ∙ ap (def.parity tables rule t 1) (hy ∙ ap def.cost_of first))

pub returns-then-not-odd : goal.returns-then-not-odd
returns-then-not-odd c =
    let s = c.args in
    rw c.if-not-odd.true
    (first (rule_of s.setting) s.targets.now c.nobody-none.ensures c.cost_of.ensures c.parity.ensures c.choose-even.ensures)

pub returns : goal.returns
returns c =
    let s = c.args in
    rw c.if-not-odd.false
    (both (rule_of s.setting) s.targets.now c.nobody-none.ensures c.cost_of.ensures c.parity.ensures c.choose-even.ensures
    c.cost_of-2.ensures c.parity-2.ensures c.choose.ensures)
