-- What the loop of rank_of finds, and document 01's reading of it. Assumes nothing.
use mathlib.Core.Path.{◌≡◌, refl, sym, ap, ◌∙◌}
use mathlib.Core.Bool.{Bool, true, false, cond, ◌&&◌}
use Prim.Native.Nat.{ℕ, ◌<◌, ◌≤◌}
use native.Mathlib.Omega.{arith}
use Rattle.std.proofs.Common.{zero-add}
use borrow.Author.Tests.{lt-ltb, le-ltb, ltb-true, eqb-true}
use lib.Dec.{ltb, eqb}
use lib.IntN.{ℤ}
use Rattle.laws.specs.Words.{mod_z}
use Rattle.rank.specs.Coord.{rank_of, val_of}
use Rattle.rank.specs.Laws.Coord.{val_rank}
use Rattle.rank.specs.Laws.Lookup.{ranked-found}
use Rattle.std.specs.Option.{MatchOption}
use Rattle.std.specs.List.{range_with_len, AllWithin, HoldsAt}
use Rattle.std.proofs.lemmas.List.FromFn.{get_or-range_with_len}
use lib.ListN.{length}
use Rattle.std.specs.Prelude.{Option, Some, None, Result, Ok, Err}
use Rattle.refusal.specs.declared.Refusal.{Refusal}
use Rattle.refusal.specs.declared.Refusal.TheVariants.{OutOfRange}
use Rattle.refusal.specs.Refusal.{number_in}
use Rattle.rank.specs.Answers.{reach, Rank, Nothing, Refused, ranked_by, ranked_of, rank_in, lookup_number, lookup_rank}

pub ranked-refused : (o : ℕ) (y : ℤ) → 4 ≤ o → ranked_of o y ≡ Refused
unfolding ranked_of
ranked-refused o y h = rw (le-ltb o 4 h)

-- no rank within reach holds y
pub ranked-none : (o : ℕ) (y : ℤ) → o < 4 → ((r : ℕ) → r < reach → val_of o r ≡ y → ⊥) → ranked_of o y ≡ Nothing
unfolding ranked_of
ranked-none o y ho n = rw (lt-ltb o 4 ho) (go (eqb (mod_z y 4) o) refl (ltb (rank_of y) reach) refl)
  where
    go : (a : Bool) → eqb (mod_z y 4) o ≡ a → (b : Bool) → ltb (rank_of y) reach ≡ b → cond (a && b) (Rank (rank_of y)) Nothing ≡ Nothing
    go true p true q =
        absurd
        (n (rank_of y) (ltb-true (rank_of y) reach q)
        (ap (λ (m : ℕ). val_of m (rank_of y)) (sym (eqb-true (mod_z y 4) o p)) ∙ val_rank y (omega (arith, ltb-true (rank_of y) reach q))))
    go true p false q = refl
    go false p b q = refl

-- what is answered has the number and the rank that are promised
abbrev pub Promised : ℕ → ℤ → Result (Option ℕ) Refusal → Type 0
Promised o y a = (ranked_by a ≡ ranked_of o y) × (number_in a ≡ lookup_number o) × (rank_in (ranked_by a) ≡ lookup_rank o y)

pub promised_refused : (o : ℕ) (y : ℤ) → 4 ≤ o → Promised o y (Err OutOfRange)
unfolding ranked_of lookup_number lookup_rank
promised_refused o y h = (rw (le-ltb o 4 h), rw (le-ltb o 4 h), rw (le-ltb o 4 h))

pub promised : (o : ℕ) (y : ℤ) (a : Option ℕ) → o < 4 → ranked_of o y ≡ ranked_by (Ok a) → Promised o y (Ok a)
unfolding ranked_of lookup_number lookup_rank
promised o y a h e =
    let b = eqb (mod_z y 4) o && ltb (rank_of y) reach in
    (sym e, rw (lt-ltb o 4 h), ap rank_in (sym e) ∙ rw (lt-ltb o 4 h) (rank b))
  where
    rank : (b : Bool) → rank_in (cond b (Rank (rank_of y)) Nothing) ≡ cond b (Some (rank_of y)) None
    rank true = refl
    rank false = refl

pub promised_found : (o : ℕ) (y : ℤ) (a : Option ℕ) → o < 4
    → MatchOption a (AllWithin (λ (r : ℕ). val_of o r ≡ y → ⊥) (range_with_len 0 8) 0 (length (range_with_len 0 8)))
    (λ (x : ℕ). (val_of o x ≡ y) × (i : ℕ) × (i < length (range_with_len 0 8)) × HoldsAt (λ (z : ℕ). z ≡ x) (range_with_len 0 8) i
    × AllWithin (λ (r : ℕ). val_of o r ≡ y → ⊥) (range_with_len 0 8) 0 i) → Promised o y (Ok a)
promised_found o y None h m = promised o y None h (ranked-none o y h (λ r l e. m r 0 (omega arith) (omega arith) (ap (λ (n : ℕ). val_of o n) (get_or-range_with_len 0 8 r 0 (omega arith) ∙ zero-add r) ∙ e)))
promised_found o y (Some x) h m = promised o y (Some x) h (ranked-found o y x h (omega (arith, m.2, m.3 0, get_or-range_with_len 0 8 m.1 0 (omega (arith, m.2)))) m.0)
