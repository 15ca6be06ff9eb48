-- A list of 2 ^ d numbers as a tree, so that a computed test reads an entry in d steps. Assumes nothing.
use Rattle.std.specs.Prelude.{◌≡◌, Bool, true, false, cond, not, List, ℕ, zero, suc, ◌+◌, ◌-◌, ◌^◌, ◌<◌, ◌≤◌, T, ltb, get_or, take, drop}
use Rattle.std.proofs.Common.{◌∙◌, ap, arith, ltb→lt, nltb→le, get_or-take, get_or-drop}

pub data Tree : Type 0 where
  leaf : ℕ → Tree
  node : Tree → Tree → Tree

abbrev pub build : ℕ → List ℕ → Tree
build zero xs = leaf (get_or xs 0 0)
build (suc d) xs = node (build d (take (2 ^ d) xs)) (build d (drop (2 ^ d) xs))

-- both halves are bound by a `let`, which waits: as arguments of `cond` both would be computed
abbrev pub get : ℕ → Tree → ℕ → ℕ
get zero (leaf x) i = x
get zero (node l r) i = 0
get (suc d) (leaf x) i = x
get (suc d) (node l r) i = let low = get d l i in let high = get d r (i - 2 ^ d) in cond (ltb i (2 ^ d)) low high

pick_by : (b : Bool) {x y z : ℕ} → (T b → x ≡ z) → (T (not b) → y ≡ z) → cond b x y ≡ z
pick_by true p q = p tt
pick_by false p q = q tt

pub get_build : (d : ℕ) (xs : List ℕ) (i : ℕ) → i < 2 ^ d → get d (build d xs) i ≡ get_or xs i 0
get_build zero xs i h = ap (λ (m : ℕ). get_or xs m 0) zero_is
  where
    zero_is : 0 ≡ i
    zero_is = omega arith
get_build (suc d) xs i h =
    pick_by (ltb i (2 ^ d))
    (λ t. get_build d (take (2 ^ d) xs) i (ltb→lt i (2 ^ d) t) ∙ get_or-take (2 ^ d) xs i 0 (ltb→lt i (2 ^ d) t))
    (λ t. get_build d (drop (2 ^ d) xs) (i - 2 ^ d) (omega (arith, nltb→le i (2 ^ d) t))
    ∙ get_or-drop (2 ^ d) xs (i - 2 ^ d) 0 ∙ ap (λ (m : ℕ). get_or xs m 0) (sub_back (nltb→le i (2 ^ d) t)))
  where
    sub_back : 2 ^ d ≤ i → 2 ^ d + (i - 2 ^ d) ≡ i
    sub_back h = omega arith
