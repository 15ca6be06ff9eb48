-- The premises that are left where all pieces are put together, by sections (proofs/Premises): facts of the tables, targets below 16, y a lattice
-- point with a row in each section.
use Rattle.std.specs.Prelude.{◌≡◌, Bool, true, false, cond, ℕ, ◌+◌, ◌*◌, ◌%◌, ◌^◌, ◌≤◌, ◌<◌, ℤ, nat_abs, Float}
use lib.Dec.{T, leb, leb→le, ltb, ltb→lt, lit≤}
use Rattle.std.proofs.Math.ListN.{get_or}
use Rattle.std.specs.Float.{binary64}
use Rattle.std.specs.Float.Ieee.{fits}
use Rattle.std.specs.Float.Ieee.Scale.{finite}
use Rattle.float.specs.Value.{mag_units}
use Rattle.rank.specs.Coord.{val_of}
use Rattle.laws.specs.Laws.Tests.{upto, below}
use Rattle.search.specs.Tables.{Tables, class_of, fallback_at}
use Rattle.search.specs.Entries.{rank_at}
use Rattle.nearest.specs.Laws.Keys.{k_at}
use Rattle.nearest.specs.Laws.Forms.{par_k, RowOf}
use Rattle.nearest.specs.Laws.Lattice.{Point}
use Rattle.nearest.specs.Laws.Entries.{EndByte}
use Rattle.nearest.specs.Laws.Shape.{o_at}

-- a target below 16
pub record Target16 (t : Float) : Type 0 where
  pub fit : T (fits binary64 t)
  pub fin : T (finite t)
  pub small : mag_units t < 2 ^ 1078

-- ---- fallbacks
pub record MoreTables (g : Tables) : Type 0 where
  pub cost0 : g.class0.cost ≤ 96
  pub cost1 : g.class1.cost ≤ 96
  pub cost_m : g.mixed.cost ≤ 96
  pub fb_byte_lem : (kind p r st : ℕ) → kind < 2 → p < 2 → r < 2 → st < 64 → EndByte g kind st (get_or g.fb_byte (fallback_at kind p r st) 0)
  pub fb_rank : (kind p r st j : ℕ) → kind < 2 → p < 2 → r < 2 → st < 64 → j < 8 → rank_at (get_or g.fb_key (fallback_at kind p r st) 0) j < 8
  pub fb_class : (kind p r st : ℕ) → kind < 2 → p < 2 → r < 2 → st < 64
      → par_k (λ j. k_at (o_at p (get_or g.fb_byte (fallback_at kind p r st) 0) j) (rank_at (get_or g.fb_key (fallback_at kind p r st) 0) j)) 8 ≡ r

near-val : T (upto 4 (λ o. upto 16 (λ r. ltb (nat_abs (val_of o r)) 128)))
unfolding val_of
near-val = tt

pub val-small : (o r : ℕ) → o < 4 → r < 16 → nat_abs (val_of o r) < 128
val-small o r h l =
    ltb→lt (nat_abs (val_of o r)) 128
    (below 16 (λ r. ltb (nat_abs (val_of o r)) 128) (below 4 (λ o. upto 16 (λ r. ltb (nat_abs (val_of o r)) 128)) near-val o h) r l)

pub class-cost : (g : Tables) → MoreTables g → (r : ℕ) → (class_of g r).cost ≤ 96
class-cost g G r = go (lib.Dec.eqb r 0)
  where
    go : (b : Bool) → (cond b g.class0 g.class1).cost ≤ 96
    go true = G.cost0
    go false = G.cost1

-- ---- y has a word: a row of its own bound in each section
pub record HasRows (g : Tables) (p : ℕ) {y1 y2 y3 : ℕ → ℤ} (Y : Point g p y1 y2 y3) : Type 0 where
  pub one : RowOf p (get_or g.pre (2 * Y.s8 + Y.b1) 0) (class_of g Y.r1) y1
  pub two : RowOf p (get_or g.mid (Y.s8 * 16 + Y.b2) 0) g.mixed y2
  pub three : RowOf p (get_or g.suf (2 * get_or g.nxt (Y.s8 * 16 + Y.b2) 0 + Y.b3) 0) (class_of g ((p + Y.r1 + Y.r2) % 2)) y3
