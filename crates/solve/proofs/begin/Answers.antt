-- `solve::begin` meets its contract. What its three callees answer is the start; the cost of the base holds the weights of any two different
-- coordinates. Assumes nothing.
use Prim.Native.Nat.{ℕ}
use mathlib.Core.Path.{◌≡◌, ◌∙◌, sym, subst, refl}
use mathlib.Core.Bool.{Bool, true, false, cond}
use mathlib.Core.List.{List}
use lib.Dec.{T, eqb, eqb→eq}
use borrow.Author.Tests.{eq-eqb}
use Rattle.search.specs.declared.Top.{Top}
use Rattle.search.specs.declared.Candidate.{Candidate}
use Rattle.search.specs.Solve.{other_of}
use Rattle.coord.specs.declared.Rows.{Rows}
use Rattle.solve.specs.declared.Start.{Start}
use Rattle.solve.specs.Inner.Flat.{top_in, fix_in, base_in, start_in}
use Rattle.solve.specs.Laws.{other-lt}
use Rattle.solve.specs.Inner.{Apart, Covered}
use Rattle.solve.proofs.Sums.{two}
use Rattle.solve.proofs.begin.Goals as goal

differ : (j j0 j1 : ℕ) (b : Bool) → b ≡ eqb j j0 → (j0 ≡ j1 → ⊥) → j ≡ cond b j1 j0 → ⊥
differ j j0 j1 true e h q = h (sym (eqb→eq j j0 (subst T e tt)) ∙ q)
differ j j0 j1 false e h q = subst T (sym (e ∙ eq-eqb j j0 q)) tt

covered : (rows : Rows) (at : List ℕ) (t : Top) (fix : ℕ) {n : Candidate} → Apart t 8 → n ≡ base_in rows at t.j0 fix 8
    → Covered rows at t fix n.cost
covered rows at t fix a e j h =
    rw e
    (two rows at t.j0 fix 8 j (other_of j t.j0 t.j1) h (other-lt (eqb j t.j0) t.j0 t.j1 a.0 a.1.0)
    (differ j t.j0 t.j1 (eqb j t.j0) refl a.1.1))

begun : (rows : Rows) (at : List ℕ) (want : ℕ) {t : Top} {f : ℕ} {n : Candidate}
    → t ≡ top_in rows at 6 → f ≡ fix_in rows at want t.j0 → n ≡ base_in rows at t.j0 f 8
    → ◌≡◌ {A = Start} (record { top = t; fix = f; n = n }) (start_in rows at want)
unfolding start_in
begun rows at want ht hf hn = rw (hn, hf, ht)

pub returns : goal.returns
returns c =
    let s = c.args in
    let a = c.top_two-top.ensures.1 in (
      begun s.rows.now s.at.now.at s.want
          c.top_two-top.ensures.0 c.fix_of-fix.ensures.0 c.base_at-n.ensures.0,
      (
        (a.0, a.1.0),
        (
          c.fix_of-fix.ensures.1,
          (
            covered s.rows.now s.at.now.at c.top_two-top.result c.fix_of-fix.result a
                c.base_at-n.ensures.0,
            c.base_at-n.ensures.1,
          ),
        ),
      ),
    )
