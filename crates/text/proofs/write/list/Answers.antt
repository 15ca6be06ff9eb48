-- `write::list` meets its contract. Assumes nothing.
use borrow.Author.Rules.{rules}
use mir.Syntax.{w32}
use mir.Val.{SFits}
use mir.Facts.{to_z-of_z}
use native.Mathlib.Omega.{arith}
use mathlib.Core.Path.{◌≡◌, sym, ap, ◌∙◌}
use mathlib.Core.List.{[], ◌∷◌}
use Prim.Native.Nat.{ℕ, ◌+◌, ◌<◌}
use lib.IntN.{pos}
use lib.ListN.{length, get_or, drop, length-append}
use lib.Seq.{sets}
use Rattle.laws.specs.Laws.Lists.{sets-append}
use Rattle.text.specs.Text.{signed, commas}
use Rattle.text.proofs.Rows.{row-length, row_next, commas_end, listed-first}
use Rattle.text.proofs.write.list.Goals as goal

pub loop-j-preserved : goal.loop-j-preserved
loop-j-preserved c =
    let l = c.loop-j in
    let zs = c.args.counts in
    let p = c.copy-comma.ensures in
    let s = c.signed-next-in-loop-j in
    let q = s.ensures in
    let h : l.j < length zs = omega arith in
    let f : SFits w32 (get_or zs l.j (pos 0)) = search rules in
    let e = to_z-of_z f in
    let w : s.result ≡ l.next + 1 + length (signed (get_or zs l.j (pos 0))) = rw (e, p.0) at q.0 in
    let v : s.new.out ≡ sets (sets l.out l.next (44 ∷ [])) (l.next + 1) (signed (get_or zs l.j (pos 0))) = rw (e, p.0, p.1) at q.2 in (
      omega arith,
      s.auto.out ∙ c.copy-comma.auto.out ∙ l.invariant.1,
      omega (arith, q.1, p.0, l.invariant.2),
      omega (arith, w, l.invariant.3, row-length zs l.j h),
      rw (v, w) (sym (row_next zs l.j h l.out l.next) ∙ l.invariant.4),
    )

pub returns : goal.returns
returns c =
    let l = c.loop-j in
    let a = c.args in
    let zs = a.counts in
    let first = c.signed-next in
    let q = first.ensures in
    let f : SFits w32 (get_or zs 0 (pos 0)) = search rules in
    let e = to_z-of_z f in
    let none = commas_end zs l.j (omega arith) in
    let all = listed-first zs (omega arith) in
    let w : first.result ≡ a.at + length (signed (get_or zs 0 (pos 0))) = rw e at q.0 in
    let v : first.new.out ≡ sets a.out.now a.at (signed (get_or zs 0 (pos 0))) = rw e at q.2 in
    let m : l.next + 0 ≡ first.result + length (commas (drop 1 zs)) = rw none at l.invariant.3 in (
      omega (arith, m, w, ap length all, length-append (signed (get_or zs 0 (pos 0))) (commas (drop 1 zs))),
      omega (arith, l.invariant.2, l.invariant.0),
      (rw none at l.invariant.4)
          ∙ rw (v, w, all) (sym (sets-append ℕ (signed (get_or zs 0 (pos 0))) (commas (drop 1 zs)) a.out.now a.at)),
    )
