-- The entries that a path runs through, worked out, are those of the definition, and they are entries. Assumes nothing.
use Rattle.std.specs.Prelude.{◌≡◌, Bool, true, false, cond, List, ℕ, zero, suc, ◌+◌, ◌*◌, ◌/◌, ◌%◌, ◌<◌, ◌≤◌, get_or}
use Rattle.std.proofs.Common.{◌∙◌, sym, ap, ap₂, arith}
use Rattle.std.specs.Float.Ieee.{lt, le}
use Rattle.std.specs.Int.Bits.{bit_xor}
use Rattle.trellis.specs.Tables.{nexts}
use Rattle.laws.specs.Laws.Lists.{tab_at}
use Rattle.trellis.specs.Trellis.{next_of, first_nexts}
use Rattle.trellis.specs.Laws.Path.{next-entry-lt}
use Rattle.trellis.proofs.Rows.{next_by}
use Rattle.trellis.specs.Laws.Rows.{next-read}
use Rattle.search.specs.declared.Way.{Way}
use Rattle.join.specs.Inner.{InRange}
use Rattle.search.specs.Tables.{tables}
use Rattle.search.specs.Laws.Tables.{entry_at}
use Rattle.search.specs.declared.Sides.{Sides}
use Rattle.search.specs.Join.{ent_at, mid_at, last_at, way_at, row_to, join_to}

-- ---- the paths
-- the middle entry: the entries of eight states in a row follow each other
in_eight : (s q : ℕ) → q < 16 → (s * 16 + q) / 128 ≡ s / 8
in_eight s q h = omega arith

own : (s q : ℕ) → q < 16 → (s * 16 + q) % 16 ≡ q
own s q h = omega arith

both : (a t : ℕ) → 2 * (16 * a + t / 2) + t % 2 ≡ a * 32 + t
both a t = omega arith

pub mid_is : (i1 t : ℕ) → t < 32 → i1 % 64 / 8 * 32 + t ≡ mid_at tables i1 t
mid_is i1 t h =
    let s = i1 % 64 in
    let q : t / 2 < 16 = omega arith in
    sym
    (ap (λ (x : ℕ). 2 * x + t % 2) (entry_at (s * 16 + t / 2) (omega arith))
    ∙ ap₂ (λ (x y : ℕ). 2 * (16 * x + y) + t % 2) (in_eight s (t / 2) q) (own s (t / 2) q) ∙ both (s / 8) t)

pub mid-lt : (i1 t : ℕ) → t < 32 → mid_at tables i1 t < 256
mid-lt i1 t h = rw (sym (mid_is i1 t h)) (omega arith)

-- the state at cut 16 of branch b out of state s, by the branches out of the first eight states
first-at : (s b : ℕ) → s < 8 → b < 16 → get_or first_nexts (s * 16 + b) 0 ≡ next_of s b
unfolding first_nexts
first-at s b h k =
    let q : (s * 16 + b) / 16 ≡ s = omega arith in
    let r : (s * 16 + b) % 16 ≡ b = omega arith in
    tab_at ℕ 0 (λ (i : ℕ). next_of (i / 16) (i % 16)) 128 (s * 16 + b) (omega arith) ∙ ap₂ next_of q r

pub next_is : (xs : List ℕ) → xs ≡ first_nexts → (s b : ℕ) → s < 64 → b < 16
    → bit_xor (s / 8) (get_or xs (s % 8 * 16 + b) 0) ≡ get_or nexts (s * 16 + b) 0
next_is xs q s b h k = rw q (ap (bit_xor (s / 8)) (first-at (s % 8) b (omega arith) k) ∙ next_by s b h k ∙ next-read s b k)

pub last-lt : (p i1 t : ℕ) → t < 32 → last_at tables p i1 t < 128
last-lt p i1 t h = omega (arith, next-entry-lt (i1 % 64 * 16 + t / 2))

-- ---- the best path of a join
in-cond : (b : Bool) (x y : Way) → InRange x → InRange y → InRange (cond b x y)
in-cond true x y h g = h
in-cond false x y h g = g

in_row : (p : ℕ) (s : Sides) (i1 : ℕ) (w : Way) → i1 < 128 → InRange w → (n : ℕ) → n ≤ 32 → InRange (row_to tables p s i1 w n)
unfolding row_to
in_row p s i1 w h g zero hn = g
in_row p s i1 w h g (suc n) hn =
    in-cond (lt (way_at tables p s i1 n).cost (row_to tables p s i1 w n).cost) (way_at tables p s i1 n) (row_to tables p s i1 w n)
    (h, (mid-lt i1 n (omega arith), last-lt p i1 n (omega arith))) (in_row p s i1 w h g n (omega arith))

pub in_join : (p : ℕ) (s : Sides) (n : ℕ) → n ≤ 128 → InRange (join_to tables p s n)
unfolding join_to
in_join p s zero hn = (omega arith, (omega arith, omega arith))
in_join p s (suc n) hn =
    in-cond (le (join_to tables p s n).cost (ent_at s.e1 n).value) (join_to tables p s n)
    (row_to tables p s n (join_to tables p s n) 32) (in_join p s n (omega arith))
    (in_row p s n (join_to tables p s n) (omega arith) (in_join p s n (omega arith)) 32 (omega arith))
