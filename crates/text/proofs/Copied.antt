-- A piece copied over as many bytes of a buffer. Assumes nothing.
use native.Mathlib.Omega.{arith}
use mathlib.Core.Path.{◌≡◌, sym, ◌∙◌}
use Prim.Native.Nat.{ℕ, ◌+◌, ◌-◌, ◌≤◌}
use mathlib.Core.List.{List, ◌++◌, append_assoc}
use lib.ListN.{length, take, drop}
use lib.Seq.{sets, sets-eq, drop-drop}

-- a piece between what stands before it and behind it
pub in_place : (l t : List ℕ) (at : ℕ) → at + length t ≤ length l
    → take at l ++ (t ++ drop (at + length t - at) (drop at l)) ≡ sets l at t
in_place l t at h =
    let k : at + length t - at ≡ length t = omega arith in
    rw (k, drop-drop (length t) at l) (sym (append_assoc (take at l) t (drop (at + length t) l)) ∙ sym (sets-eq t l at h))
