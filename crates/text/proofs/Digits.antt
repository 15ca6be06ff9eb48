-- Digits: how many there are, and how they are written from the last one to the first. Assumes nothing.
use mathlib.Core.Path.{◌≡◌, refl, sym, ap, ◌∙◌}
use mathlib.Core.List.{List, [], ◌∷◌}
use Prim.Native.Nat.{ℕ, suc, ◌+◌, ◌/◌, ◌%◌, ◌^◌, ◌<◌, ◌≤◌}
use native.Mathlib.Omega.{arith}
use lib.ListN.{length, set}
use lib.Seq.{sets, set_comm}
use Rattle.laws.specs.Laws.Lists.{sets-append}
use Rattle.text.specs.Text.{decimal, hex, hex_digit}
use Rattle.text.specs.Laws.Text.{decimal-fits, hex-length}

-- a number of 64 bits has at most twenty digits
pub twenty : (n : ℕ) → n < 2 ^ 64 → length (decimal n) ≤ 20
twenty n h = decimal-fits 19 n (omega arith)

-- a store behind a row of stores may go before it
set_behind : (vs l : List ℕ) (at p d : ℕ) → at + length vs ≤ p → sets (set l p d) at vs ≡ set (sets l at vs) p d
set_behind [] l at p d h = refl
set_behind (v ∷ vs) l at p d h =
    ap (λ (r : List ℕ). sets r (suc at) vs) (set_comm l p at d v (λ e. omega arith)) ∙ set_behind vs (set l at v) (suc at) p d (omega arith)

-- what is left to write of j + 1 digits: the last of them, and what is left of j
pub digit-next : (l : List ℕ) (at j v : ℕ)
    → sets (set l (at + j) (hex_digit (v % 16))) at (hex j (v / 16)) ≡ sets l at (hex (suc j) v)
unfolding hex
digit-next l at j v =
    set_behind (hex j (v / 16)) l at (at + j) (hex_digit (v % 16)) (omega (arith, hex-length j (v / 16)))
    ∙ sym (sets-append ℕ (hex j (v / 16)) (hex_digit (v % 16) ∷ []) l at
    ∙ ap (λ (k : ℕ). set (sets l at (hex j (v / 16))) (at + k) (hex_digit (v % 16))) (hex-length j (v / 16)))
