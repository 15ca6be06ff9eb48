-- All pieces put together, by sections: the premises left are facts of the tables, targets below 16, y a lattice point with a row in each
-- section, and the margin.
use Rattle.std.specs.Prelude.{Bool, ◌&&◌, ℕ, ◌+◌, ◌*◌, ◌%◌, ◌^◌, ◌≤◌, ◌<◌, ℤ, nat_abs, Float}
use Rattle.std.proofs.Common.{sym, subst, le_refl, le_trans, le_of_eq, lt_of_lt_of_le, lt_of_le_of_lt, mul-le-mul_left, mul-lt-mul_of_pos_right, le_of_mul-le-mul_right, add-mul, mod-lt, zero-lt-suc, arith, pow_pos}
use mathlib.Core.List.{List, Memᴰ}
use lib.Dec.{T, leb, leb→le, lit≤}
use Rattle.std.proofs.Math.ListN.{get_or}
use Rattle.std.specs.Float.{nan, binary64}
use Rattle.std.specs.Float.Ieee.{fits, mul, of_bits}
use Rattle.std.specs.Float.Ieee.Scale.{finite}
use Rattle.float.specs.Value.{mag_units, U}
use Rattle.float.specs.Laws.Error.{half_ulp}
use Rattle.float.specs.Laws.Arithmetic.{mul-rounded}
use Rattle.float.specs.Laws.Near.{near-more}
use Rattle.laws.specs.Laws.Tests.{upto, below, split3}
use Rattle.search.specs.Tables.{Tables, class_of, end_byte, fallback_at}
use Rattle.search.specs.Entries.{Rule, rank_at, section_at, fallback, end_start, mid_start}
use Rattle.search.specs.declared.Targets.{Targets}
use Rattle.search.specs.Parity.{search}
use Rattle.search.specs.declared.Coord.{Coord}
use Rattle.search.specs.Record.{coord_of, shrinks, row}
use Rattle.nearest.specs.Laws.Keys.{k_at, val_is, nib-lt}
use Rattle.nearest.specs.Laws.Forms.{RuleOk}
use Rattle.nearest.specs.Laws.Coordinate.{Target, rounded-lt}
use Rattle.nearest.specs.Laws.Lattice.{Point, dist8, Margin, own1, own2, own3}
use Rattle.nearest.specs.Laws.Under.{near_num}
use Rattle.nearest.specs.Laws.Entries.{ES, Good, EndByte, EndFacts, MidFacts, Mine, start-mine}
use Rattle.nearest.specs.Laws.Pass.{Facts}
use Rattle.nearest.specs.Laws.Winner.{GoodTables}
use Rattle.nearest.specs.Laws.Parities.{IsY, winner_is_y}
use Rattle.nearest.specs.Laws.Shape.{o_at, o_lt, row_at, row-slots, row_d}
use Rattle.nearest.specs.Laws.Candidate.{t_at, near_dist, sum_top}
use Rattle.nearest.specs.Laws.Steps.{Row}
use Rattle.nearest.specs.Laws.Bases.{base_good, base_num, cheap-member, own_cheap}
use Rattle.nearest.specs.Laws.Solve.{solve_ok}
use Rattle.nearest.specs.Laws.Premises.{Target16, MoreTables, val-small, class-cost, HasRows}

-- ---- rows at every shrink
abbrev sh : ℕ → Float
sh s = get_or shrinks s nan

tame : Float → Bool
tame h = ((fits binary64 h) && ((finite h) && (leb (mag_units h) U)))

all-tame : T (upto 8 (λ s. tame (sh s)))
unfolding tame shrinks of_bits mag_units fits
all-tame = tt

tame-at : (s : ℕ) → s < 8 → T (fits binary64 (sh s)) × T (finite (sh s)) × (mag_units (sh s) ≤ U)
unfolding tame
tame-at s h = let x = split3 (fits binary64 (sh s)) (finite (sh s)) (leb (mag_units (sh s)) U) (below 8 (λ s. tame (sh s)) all-tame s h) in
    (x.0, x.1, leb→le (mag_units (sh s)) U x.2)

pub wider : {t : Float} → Target16 t → Target t
wider a = record { fit = a.fit; fin = a.fin; small = lt_of_lt_of_le a.small (lit≤ tt) }

shrunk : (t h : Float) → Target16 t → T (fits binary64 h) → T (finite h) → mag_units h ≤ U → Target (mul binary64 t h)
shrunk t h a f i l =
    let m : mag_units t < 2 ^ 1079 = lt_of_lt_of_le a.small (lit≤ tt) in
    let k : mag_units t * U < 2 ^ 1079 * U = mul-lt-mul_of_pos_right m (pow_pos 1074) in
    let r = mul-rounded t h 5 a.fit f a.fin i (lit≤ tt) (lt_of_le_of_lt (mul-le-mul_left (mag_units t) l) k) in
    let x : mag_units (mul binary64 t h) ≤ mag_units t + half_ulp 5 =
    le_of_mul-le-mul_right (le_trans r.hi
    (le_trans (add_r (mag_units t * mag_units h) (mag_units t * U) (half_ulp 5 * U) (mul-le-mul_left (mag_units t) l))
    (le_of_eq (sym (add-mul (mag_units t) (half_ulp 5) U))))) (pow_pos 1074) in
    record { fit = r.fit; fin = r.fin; small = lt_of_le_of_lt x (lt_of_lt_of_le (add-lt (mag_units t) (2 ^ 1078) (half_ulp 5) a.small) (lit≤ tt)) }
  where
    add_r : (a b c : ℕ) → a ≤ b → a + c ≤ b + c
    add_r a b c h = omega arith

    add-lt : (a b c : ℕ) → a < b → a + c < b + c
    add-lt a b c h = omega arith

abbrev Small8 : List Float → Type 0
Small8 ts = (j : ℕ) → j < 8 → Target16 (t_at ts j)

k_small : (t h : Float) (o : ℕ) → o < 4 → Target16 t → T (fits binary64 h) → T (finite h) → mag_units h ≤ U → nat_abs (coord_of t h o).k0 < 16
unfolding coord_of
k_small t h o O0 a f i l = rounded-lt (mul binary64 t h) o (shrunk t h a f i l) O0

rows : (ts : List Float) (p c : ℕ) → p < 2 → Small8 ts → (s : ℕ) → s < 8 → Row ts p c (row ts p c s)
rows ts p c P0 T0 s S0 =
    let q = tame-at s S0 in
    record {
      small = λ j h. subst (λ (x : Coord). nat_abs x.k0 < 16) (sym (row_at ts p c s j h))
          (k_small (t_at ts j) (sh s) (o_at p c j) (o_lt p c j P0) (T0 j h) q.0 q.1 q.2);
      slots = row-slots ts p c s;
      d_is = row_d ts p c s;
    }

-- ---- fallbacks
fb_good : (g : Tables) → MoreTables g → (ts : List Float) → Small8 ts → (kind p r st : ℕ) → kind < 2 → p < 2 → r < 2 → st < 64
    → Good (EndByte g kind st) p r ts (fallback g ts kind p r st)
fb_good g G ts T0 kind p r st K0 P0 R0 S0 =
    let c = get_or g.fb_byte (fallback_at kind p r st) 0 in
    let key = get_or g.fb_key (fallback_at kind p r st) 0 in
    record {
      byte = G.fb_byte_lem kind p r st K0 P0 R0 S0;
      stands = record {
        sec = record {
          k = λ j. k_at (o_at p c j) (rank_at key j);
          at = λ j h.
              val_is (o_at p c j) (rank_at key j) (o_lt p c j P0) (G.fb_rank kind p r st j K0 P0 R0 S0 h);
          class =
              G.fb_class kind p r st K0 P0 R0 S0;
        };
        near = near-more ES (near_dist (section_at p c key) ts
            (λ j h. val-small (o_at p c j) (rank_at key j) (o_lt p c j P0) (nib-lt key j)) (λ j h. wider (T0 j h)) 8 (le_refl 8)) (lit≤ tt);
        room = le_trans (sum_top (section_at p c key) ts
            (λ j h. val-small (o_at p c j) (rank_at key j) (o_lt p c j P0) (nib-lt key j)) (λ j h. wider (T0 j h)) 8 (le_refl 8)) (lit≤ tt);
      };
    }

-- ---- the facts of a parity
module _ (g : Tables) (G1 : MoreTables g) (u : Rule) (U0 : RuleOk u) where
  end_facts : (ts : List Float) → Small8 ts → (kind p : ℕ) → kind < 2 → p < 2 → EndFacts g u ts kind p
  end_facts ts T0 kind p K0 P0 = record {
    fb = λ r st R0 S0. fb_good g G1 ts T0 kind p r st K0 P0 R0 S0;
    sol = λ c r R0. solve_ok ts p c P0 (λ j h. wider (T0 j h)) r R0 (class_of g r) (class-cost g G1 r) (rows ts p c P0 T0) u.ends U0.ends;
    bas = λ c r R0. base_good ts p c P0 (λ j h. wider (T0 j h)) (class_of g r) (class-cost g G1 r) r R0;
  }

  mid_facts : (ts : List Float) → Small8 ts → (p : ℕ) → p < 2 → MidFacts g u ts p
  mid_facts ts T0 p P0 = record {
    mids = U0.mids;
    sol = λ c d n D0 N0. solve_ok ts p c P0 (λ j h. wider (T0 j h)) d D0 g.mixed G1.cost_m (rows ts p c P0 T0) n N0;
    bas = λ c d D0. base_good ts p c P0 (λ j h. wider (T0 j h)) g.mixed G1.cost_m d D0;
  }

  pub all-facts : (t : Targets) → Small8 t.t1 → Small8 t.t2 → Small8 t.t3 → (p : ℕ) → p < 2 → Facts g u t p
  all-facts t A B C p P0 = record
      { one = end_facts t.t1 A 0 p (zero-lt-suc 1) P0; two = mid_facts t.t2 B p P0; three = end_facts t.t3 C 1 p (le_refl 2) P0 }

-- ---- y has a word: a row of its own bound in each section (`HasRows`)
module _ (g : Tables) (G0 : GoodTables g) (G1 : MoreTables g) (u : Rule) (U0 : RuleOk u) (t : Targets) (A : Small8 t.t1)
    (B : Small8 t.t2) (C : Small8 t.t3)
    (ps : List ℕ) (PS : (q : ℕ) → Memᴰ q ps → q < 2) (p : ℕ) (I0 : Memᴰ p ps) (y1 y2 y3 : ℕ → ℤ) (Y : Point g p y1 y2 y3)
    (W : HasRows g p Y) (H : Margin g t ps y1 y2 y3) where
  P0 : p < 2
  P0 = PS p I0

  at_lt : Y.s8 * 16 + Y.b2 < 1024
  at_lt = let a = Y.s8-lt in let b = Y.b2-lt in omega arith

  r3-lt : (p + Y.r1 + Y.r2) % 2 < 2
  r3-lt = mod-lt (p + Y.r1 + Y.r2) (zero-lt-suc 1)

  mine1 : Mine (end_start g t.t1 0 p Y.r1 Y.s8) (dist8 y1 t.t1 + ES)
  mine1 = start-mine g t.t1 0 p Y.r1 Y.s8 (dist8 y1 t.t1 + ES)
      (near_num (fb_good g G1 t.t1 A 0 p Y.r1 Y.s8 (zero-lt-suc 1) P0 Y.r1-lt Y.s8-lt).stands.near)
      (λ a h. base_num t.t1 p (end_byte g 0 Y.s8 a) P0 (λ j h. wider (A j h)) Y.r1)
      (λ a h. cheap-member t.t1 p (end_byte g 0 Y.s8 a) P0 (λ j h. wider (A j h)) Y.r1 Y.r1-lt y1
      (own1 g t ps p I0 y1 y2 y3 Y H a h) (class_of g Y.r1) (class-cost g G1 Y.r1) (get_or g.pre (2 * Y.s8 + Y.b1) 0) W.one)
      Y.b1 Y.b1-lt
      (own_cheap t.t1 p (end_byte g 0 Y.s8 Y.b1) P0
      (λ j h. wider (A j h)) Y.r1 Y.r1-lt y1 (own1 g t ps p I0 y1 y2 y3 Y H Y.b1 Y.b1-lt) (class_of g Y.r1)
      (class-cost g G1 Y.r1) (get_or g.pre (2 * Y.s8 + Y.b1) 0) W.one Y.sec1)

  mine3 : Mine (end_start g t.t3 1 p ((p + Y.r1 + Y.r2) % 2) (get_or g.nxt (Y.s8 * 16 + Y.b2) 0)) (dist8 y3 t.t3 + ES)
  mine3 =
      let st = get_or g.nxt (Y.s8 * 16 + Y.b2) 0 in
      let r = (p + Y.r1 + Y.r2) % 2 in
      start-mine g t.t3 1 p r st (dist8 y3 t.t3 + ES)
      (near_num (fb_good g G1 t.t3 C 1 p r st (le_refl 2) P0 r3-lt (G0.nxt-lt (Y.s8 * 16 + Y.b2) at_lt)).stands.near)
      (λ a h. base_num t.t3 p (end_byte g 1 st a) P0 (λ j h. wider (C j h)) r)
      (λ a h. cheap-member t.t3 p (end_byte g 1 st a) P0 (λ j h. wider (C j h)) r r3-lt y3 (own3 g t ps p I0 y1 y2 y3 Y H a h)
      (class_of g r) (class-cost g G1 r) (get_or g.suf (2 * st + Y.b3) 0) W.three)
      Y.b3 Y.b3-lt
      (own_cheap t.t3 p (end_byte g 1 st Y.b3) P0
      (λ j h. wider (C j h)) r r3-lt y3 (own3 g t ps p I0 y1 y2 y3 Y H Y.b3 Y.b3-lt) (class_of g r) (class-cost g G1 r)
      (get_or g.suf (2 * st + Y.b3) 0) W.three Y.sec3)

  mine2 : Mine (mid_start g t.t2 p (get_or g.mid (Y.s8 * 16 + Y.b2) 0) Y.r2) (dist8 y2 t.t2 + ES)
  unfolding mid_start
  mine2 =
      let c = get_or g.mid (Y.s8 * 16 + Y.b2) 0 in
      let x = own_cheap t.t2 p c P0 (λ j h. wider (B j h)) Y.r2 Y.r2-lt y2 (own2 g t ps p I0 y1 y2 y3 Y H) g.mixed G1.cost_m c
      W.two Y.sec2 in
      record {
        exact = cheap-member t.t2 p c P0
            (λ j h. wider (B j h)) Y.r2 Y.r2-lt y2 (own2 g t ps p I0 y1 y2 y3 Y H) g.mixed G1.cost_m c W.two x;
        under = x;
      }

  pub demand_three : IsY g u t G0 ps PS (λ q i. all-facts g G1 u U0 t A B C q (PS q i)) y1 y2 y3 H (search g u t ps)
  demand_three = winner_is_y g u t G0 ps PS (λ q i. all-facts g G1 u U0 t A B C q (PS q i)) y1 y2 y3 H p I0 Y mine1 mine2 mine3
