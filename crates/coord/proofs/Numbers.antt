-- Whole numbers counted from -1048576 on: the member o + 4k of such a k, and the five slots of a rounding. Assumes nothing.
use mathlib.Core.Path.{◌≡◌, ap, sym, ◌∙◌}
use Prim.Native.Nat.{ℕ, suc, ◌+◌, ◌*◌, ◌-◌, ◌<◌}
use native.Mathlib.Omega.{arith}
use lib.IntN.{ℤ, pos, negsuc, neg_ℤ, sub_ℕ, ◌+ℤ◌}
use Rattle.laws.specs.Laws.Whole.{sub_by}
use Rattle.search.specs.Record.{member, slot_k}
use Rattle.coord.specs.Inner.{unbiased}
use Rattle.coord.proofs.Differences.{sub-below, sub-above, sub_up, sub_down}

-- ---- the member o + 4k, by the sign of k
pub member-neg : (o n : ℕ) → o < 4 → member o (negsuc n) ≡ negsuc (4 * n + 3 - o)
member-neg o n h =
    ap (λ (m : ℕ). pos o +ℤ neg_ℤ (pos m)) next ∙ sub-below o (suc (4 * n + 3)) (omega arith) ∙ ap negsuc (omega arith)
  where
    next : 4 * suc n ≡ suc (4 * n + 3)
    next = omega arith

-- and of k counted from -1048576 on
pub member_is : (o kk : ℕ) → o < 4 → sub_ℕ (o + 4 * kk) 4194304 ≡ member o (unbiased kk)
member_is o kk ho =
    sub_by (λ (k : ℤ). sub_ℕ (o + 4 * kk) 4194304 ≡ member o k) kk 1048576
    (λ h. sub-below (o + 4 * kk) 4194304 (omega arith) ∙ ap negsuc (omega arith) ∙ sym (member-neg o (1048576 - suc kk) ho))
    (λ h. sub-above (o + 4 * kk) 4194304 (omega arith) ∙ ap pos (omega arith))

-- the five slots stand at kk, kk + 1, .., kk + 4
pub slot_0 : (kk : ℕ) → unbiased kk ≡ slot_k (unbiased (kk + 2)) 0
slot_0 kk =
    let e : kk + 2 - 2 ≡ kk = omega arith in
    sym (sub_down (kk + 2) 1048576 1 (omega arith) ∙ ap (λ (n : ℕ). unbiased n) e)

pub slot_1 : (kk : ℕ) → unbiased (kk + 1) ≡ slot_k (unbiased (kk + 2)) 1
slot_1 kk =
    let e : kk + 2 - 1 ≡ kk + 1 = omega arith in
    sym (sub_down (kk + 2) 1048576 0 (omega arith) ∙ ap (λ (n : ℕ). unbiased n) e)

pub slot_up : (kk n f : ℕ) → n ≡ kk + 2 + f → unbiased n ≡ unbiased (kk + 2) +ℤ pos f
slot_up kk n f e = ap (λ (m : ℕ). unbiased m) e ∙ sym (sub_up (kk + 2) 1048576 f)
