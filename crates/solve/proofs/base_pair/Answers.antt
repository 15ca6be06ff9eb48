-- `solve::base_pair` meets its contract. The parity is 0 or 1, so the base unrepaired serves one parity and the stepped one the other. Assumes
-- nothing.
use Prim.Native.Nat.{ℕ}
use mathlib.Core.Path.{◌≡◌, ◌∙◌, sym}
use mathlib.Core.List.{List}
use lib.Dec.{eqb}
use Rattle.laws.specs.Laws.Tests.{cond_same}
use Rattle.search.specs.declared.Top.{Top}
use Rattle.search.specs.declared.Candidate.{Candidate}
use Rattle.search.specs.declared.Best.{Best}
use Rattle.search.specs.declared.Closed.{Closed}
use Rattle.search.specs.Base.{base_best}
use Rattle.coord.specs.declared.Rows.{Rows}
use Rattle.solve.specs.declared.Pair.{Pair}
use Rattle.solve.specs.Inner.Flat.{places_of, top_in, par_in, base_in, stepped_in, base_for, pair_in}
use Rattle.solve.proofs.Sums.{one}
use native.Mathlib.Omega.{arith}
use Rattle.solve.proofs.base_pair.Goals as goal

module _ (rows : Rows) (pattern : ℕ)
    (b0 b1 : Closed) {at : List ℕ} {t : Top} {n m : Candidate} {p : ℕ} {x y : Best}
    (ha : at ≡ places_of pattern 0) (ht : t ≡ top_in rows at 6) (hn : n ≡ base_in rows at 0 2 8)
    (hm : m ≡ stepped_in rows at n t.j0) (hp : p ≡ par_in rows at 8) where
  even : p ≡ 0 → x ≡ base_best b0 n → y ≡ base_best b1 m
      → ◌≡◌ {A = Pair} (record { even = x; odd = y }) (pair_in rows pattern b0 b1)
  unfolding pair_in base_for
  even h hx hy = let q : par_in rows at 8 ≡ 0 = sym hp ∙ h in rw (← ha) (rw q (rw (hx, hy, hm, hn, ht)))

  other : p ≡ 1 → x ≡ base_best b0 m → y ≡ base_best b1 n
      → ◌≡◌ {A = Pair} (record { even = x; odd = y }) (pair_in rows pattern b0 b1)
  unfolding pair_in base_for
  other h hx hy = let q : par_in rows at 8 ≡ 1 = sym hp ∙ h in rw (← ha) (rw q (rw (hx, hy, hm, hn, ht)))

pub stepped-m-requires-clause-j_bound_2 : goal.stepped-m-requires-clause-j_bound_2
stepped-m-requires-clause-j_bound_2 c =
    let s = c.args in
    let j = c.top_two-top.result.j0 in
    let h = one s.rows.now c.new-at.result.at 0 2 8 j c.top_two-top.ensures.1.0 in
    (rw c.base_at-n.ensures.0 (rw (cond_same ℕ (eqb j 0) 2) at h), c.base_at-n.ensures.1)

pub returns-then-parity_of-eq0 : goal.returns-then-parity_of-eq0
returns-then-parity_of-eq0 c =
    let s = c.args in
    even s.rows.now s.pattern s.b0 s.b1
    c.new-at.ensures c.top_two-top.ensures.0 c.base_at-n.ensures.0
    c.stepped-m.ensures c.parity_of.ensures.0 c.if-parity_of-eq0.true c.base_best.ensures
    c.base_best-then-parity_of-eq0.ensures

pub returns : goal.returns
returns c =
    let s = c.args in
    let h : c.parity_of.result ≡ 1 = omega
    (arith, c.if-parity_of-eq0.false, c.parity_of.ensures.1) in
    other s.rows.now s.pattern s.b0 s.b1
    c.new-at.ensures c.top_two-top.ensures.0 c.base_at-n.ensures.0
    c.stepped-m.ensures c.parity_of.ensures.0 h c.base_best-2.ensures c.base_best-3.ensures
