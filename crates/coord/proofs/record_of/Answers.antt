-- `coord::record_of` meets its contract. Assumes nothing.
use mathlib.Core.Path.{◌≡◌, ◌∙◌, ap, sym}
use mathlib.Core.Bool.{cond}
use mathlib.Core.List.{[], ◌∷◌}
use Prim.Native.Nat.{ℕ, ◌+◌}
use native.Mathlib.Omega.{arith}
use lib.IntN.{ℤ, pos, negsuc}
use lib.Ieee.{Float, binary64, sub, lt, of_int}
use mir.Syntax.{w32}
use mir.ValLaws.{to_z-of_z}
use Rattle.float.specs.Calls.{abs_of}
use Rattle.search.specs.declared.Coord.{Coord}
use Rattle.search.specs.Record.{slot_k, coord_from}
use Rattle.coord.specs.declared.Slot.{Slot}
use Rattle.coord.specs.Inner.{unbiased, slot_of}
use Rattle.coord.proofs.Numbers.{slot_0, slot_1, slot_up}
use Rattle.coord.proofs.record_of.Goals as goal

-- the slot found at n is slot f of k
slot_at : (t : Float) (o : ℕ) (k : ℤ) (kk f n : ℕ) {s : Slot} → k ≡ unbiased (kk + 2) → unbiased n ≡ slot_k (unbiased (kk + 2)) f
    → s ≡ slot_of t o (unbiased n) → s ≡ slot_of t o (slot_k k f)
slot_at t o k kk f n hk q p = p ∙ ap (slot_of t o) (q ∙ ap (λ (m : ℤ). slot_k m f) (sym hk))

made : (t : Float) (o : ℕ) (z : Float) (k : ℤ) {k1 k2 dir dir1 : ℤ} {g : Float} {a b c d e : Slot} → k1 ≡ k → k2 ≡ k
    → dir1 ≡ dir → dir ≡ cond (lt (of_int binary64 k2) z) (pos 1) (negsuc 0) → g ≡ abs_of (sub binary64 z (of_int binary64 k2))
    → a ≡ slot_of t o (slot_k k 0) → b ≡ slot_of t o (slot_k k 1) → c ≡ slot_of t o (slot_k k 2) → d ≡ slot_of t o (slot_k k 3) → e ≡ slot_of t o (slot_k k 4)
    → ◌≡◌ {A = Coord} (record {
      k0 = k1;
      dir = dir1;
      regret = g;
      rank = a.rank ∷ b.rank ∷ c.rank ∷ d.rank ∷ e.rank ∷ [];
      w = a.w ∷ b.w ∷ c.w ∷ d.w ∷ e.w ∷ [];
      d = a.d ∷ b.d ∷ c.d ∷ d.d ∷ e.d ∷ [];
    }) (coord_from t o z k)
unfolding slot_of
made t o z k h1 h2 h3 h4 h5 ha hb hc hd he = rw (h1, h3, h4, h5, h2, ha, hb, hc, hd, he)

pub returns : goal.returns
returns c =
    let found = c.first-kk in
    let side = c.side-dir in
    let n = found.result in
    let t = c.args.t in
    let o = c.args.o in
    let k = c.args.k in
    let back = to_z-of_z w32 k c.ranges.k in
    let hk = sym back ∙ found.ensures.0 in
    made t o c.args.z k back back (to_z-of_z w32 side.result (record { sfits = side.type_inv })) side.ensures
    c.abs-off.ensures
    (slot_at t o k n 0 n hk (slot_0 n) c.slot_of-a.ensures)
    (slot_at t o k n 1 (n + 1) hk (slot_1 n) c.slot_of-b.ensures)
    (slot_at t o k n 2 (n + 2) hk (slot_up n (n + 2) 0 (omega arith)) c.slot_of-c.ensures)
    (slot_at t o k n 3 (n + 3) hk (slot_up n (n + 3) 1 (omega arith)) c.slot_of-d.ensures)
    (slot_at t o k n 4 (n + 4) hk (slot_up n (n + 4) 2 (omega arith)) c.slot_of-e.ensures)
