-- The first 24 of a list, taken out one by one, and a list put at the start of another. Assumes nothing.
use mathlib.Core.Path.{◌≡◌, sym, ◌∙◌}
use mathlib.Core.List.{List, ◌++◌}
use Prim.Native.Nat.{ℕ, ◌+◌, ◌<◌, ◌≤◌}
use native.Mathlib.Omega.{arith}
use lib.ListN.{length, get_or, take, drop}
use lib.Seq.{ext_get_or, length-take-le, get_or-take, sets, sets-eq}

pub taken : (A : Type 0) (d : A) (s out : List A) → 24 ≤ length s → length out ≡ 24
    → ((k : ℕ) → k < 24 → get_or out k d ≡ get_or s k d) → out ≡ take 24 s
taken A d s out h e p =
    ext_get_or d out (take 24 s) (e ∙ sym (length-take-le 24 s h)) (λ i l. p i (omega arith) ∙ sym (get_or-take 24 s i d (omega arith)))

pub put : (A : Type 0) (n : ℕ) (vs old : List A) → length vs ≡ n → n ≤ length old → sets old 0 vs ≡ vs ++ drop n old
put A n vs old e h =
    let z : 0 + length vs ≡ n = omega arith in
    sets-eq vs old 0 (omega arith) ∙ rw z
