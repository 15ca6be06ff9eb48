-- What a call that writes a cell answers and leaves. Assumes nothing.
use mathlib.Core.Path.{◌≡◌, sym, ◌∙◌}
use Prim.Native.Nat.{ℕ}
use Rattle.yultarvas.specs.Calls.{left}
use Rattle.yultarvas.specs.Laws.Room.{left_new, left_old}

-- a cell that held `old`: the number n, which is k, is that of a refusal; or it is not, and `new` is written
module _ (A : Type 0) (k : ℕ) (new old : A) (n : ℕ) (e : n ≡ k) where
  pub refused : (n ≡ 0 → ⊥) → (n ≡ k) × (old ≡ left k new old)
  refused h = (e, left_old A k new old (λ z. h (e ∙ z)))

  pub written : n ≡ 0 → (0 ≡ k) × (new ≡ left k new old)
  written z = (sym z ∙ e, left_new A k new old (sym e ∙ z))
