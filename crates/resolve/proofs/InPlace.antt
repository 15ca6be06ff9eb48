-- Entries closed in place, from the first on: what holds of them once those before i are done. Assumes nothing.
use mathlib.Core.Path.{◌≡◌, refl, ◌∙◌, ap}
use mathlib.Core.List.{List}
use Prim.Native.Nat.{ℕ, ◌+◌, ◌%◌, ◌<◌, ◌≤◌}
use native.Mathlib.Omega.{arith}
use lib.ListN.{length, get_or, set}
use lib.Ieee.{Float, nan, lt}
use Rattle.std.proofs.Common.{get_or-set_other}
use Rattle.std.proofs.Math.Nat.{mod-eq_of_lt}
use Rattle.laws.specs.Laws.Filled.{Filled, fill_none, fill_more}
use Rattle.search.specs.declared.Entry.{Entry}
use Rattle.search.specs.Join.{no_entry, ent_at}
use Rattle.search.specs.Parity.{closed}
use Rattle.resolve.specs.Inner.Flat.{closed_with}

-- a place of n is its own remainder
pub own_remainder : (i n : ℕ) → i < n → i % n ≡ i
own_remainder i n l = mod-eq_of_lt l

-- xs are the n entries e, of which the first i are closed
pub record Closed (e : List Entry) (b : List Float) (u : Float) (new : ℕ → Entry) (n i : ℕ) (xs : List Entry) : Type 0 where
  pub made : Filled no_entry (closed_with e b u new) n i xs
  pub left : (k : ℕ) → i ≤ k → ent_at xs k ≡ ent_at e k

module _ {e : List Entry} {b : List Float} {u : Float} {new : ℕ → Entry} {n : ℕ} where
  -- none yet, one more
  pub close_none : length e ≡ n → Closed e b u new n 0 e
  close_none h = record { made = fill_none no_entry (closed_with e b u new) n e h; left = λ k l. refl }

  pub close_more : {i : ℕ} {xs : List Entry} {x : Entry} → Closed e b u new n i xs → i < n
      → x ≡ closed (ent_at xs i) (lt (get_or b i nan) u) (new i) → Closed e b u new n (i + 1) (set xs i x)
  close_more {i} {xs} {x} r l q =
      record {
        made = fill_more r.made l (q ∙ ap (λ (z : Entry). closed z (lt (get_or b i nan) u) (new i)) (r.left i (omega arith)));
        left = λ k h. get_or-set_other xs i k x no_entry (λ (p : _). omega arith) ∙ r.left k (omega arith);
      }
