-- One parity's pass: what holds of every entry as it starts and as it is resolved holds at the last join. So there every entry is infinite or
-- stands for a section, and y's three entries are exact and cheap.
use Rattle.std.specs.Prelude.{◌≡◌, Bool, cond, List, get_or, Float}
use Rattle.std.proofs.Common.{sym, mod-lt, zero-lt-suc, arith}
use Rattle.std.proofs.Math.Path.{subst}
use Rattle.std.proofs.Math.Bool.{true, false}
use Prim.Native.Nat.{ℕ, zero, suc, ◌/◌, ◌%◌, ◌<◌}
use Rattle.std.specs.Float.{nan}
use Rattle.std.specs.Float.Ieee.{lt}
use Rattle.laws.specs.Words.{tab}
use Rattle.laws.specs.Laws.Lists.{tab_at}
use Rattle.search.specs.Tables.{Tables}
use Rattle.search.specs.Entries.{Rule, end_resolve, end_start, mid_start}
use Rattle.search.specs.declared.Targets.{Targets}
use Rattle.search.specs.Parity.{Seed, closed, starts, solved1, solved2, solved3, fixed, seeded, lower}
use Rattle.search.specs.Parity.{seed_by, seed_to, seed_of, bounds_to, closing, last_sides}
use Rattle.search.specs.declared.Entry.{Entry}
use Rattle.search.specs.declared.Sides.{Sides}
use Rattle.search.specs.Join.{no_entry, ent_at, all_exact, join_to}
use Rattle.search.specs.declared.Way.{Way}
use Rattle.search.specs.declared.Bounds.{Bounds}
use Rattle.nearest.specs.Laws.Entries.{EndByte, EndFacts, MidFacts, Final, Sound, Mine, resolve_final, start_sound}
use Rattle.nearest.specs.Laws.Entries.{mid_resolve_final, mid_start_sound, closed_final, closed-mine, fixed-keeps, fixed-mine}
use Rattle.laws.specs.Laws.Whole.{bit-small}

pub record Facts (g : Tables) (u : Rule) (t : Targets) (p : ℕ) : Type 0 where
  pub one : EndFacts g u t.t1 0 p
  pub two : MidFacts g u t.t2 p
  pub three : EndFacts g u t.t3 1 p

-- the byte of middle entry i / 2
abbrev pub MidByte : Tables → ℕ → ℕ → Type 0
MidByte g i x = x ≡ get_or g.sets (i / 2) 0

-- a property of every entry of the three lists
pub record Each (Q1 Q2 Q3 : ℕ → Entry → Type 0) (s : Sides) : Type 0 where
  pub one : (i : ℕ) → i < 128 → Q1 i (ent_at s.e1 i)
  pub two : (i : ℕ) → i < 256 → Q2 i (ent_at s.e2 i)
  pub three : (i : ℕ) → i < 128 → Q3 i (ent_at s.e3 i)

abbrev pub AllFinal : Tables → Targets → ℕ → Sides → Type 0
AllFinal g t p = Each (λ i. Final (EndByte g 0 (i % 64)) p (i / 64) t.t1) (λ i. Final (MidByte g i) p (i % 2) t.t2)
    (λ i. Final (EndByte g 1 (i % 64)) p (i / 64) t.t3)

pub record AllMine (s : Sides) (i1 i2 i3 B1 B2 B3 : ℕ) : Type 0 where
  pub one : Mine (ent_at s.e1 i1) B1
  pub two : Mine (ent_at s.e2 i2) B2
  pub three : Mine (ent_at s.e3 i3) B3

pub half : {i : ℕ} → i < 128 → i / 64 < 2
half h = omega arith

pub small : (i : ℕ) → i % 64 < 64
small i = mod-lt i (zero-lt-suc 63)

module _ (g : Tables) (u : Rule) (t : Targets) (p : ℕ) where
  -- any property of the three lists that `seeded` keeps is kept by the seed joins
  pub seeds_keep : (Q : Sides → Type 0) → ((s : Sides) (w : Way) → Q s → Q (seeded g u t p s w)) → (s : Seed) → Q s.sides → (n : ℕ)
      → Q (seed_to g u t p s n).sides
  unfolding seed_to
  seeds_keep Q k s q zero = q
  seeds_keep Q k s q (suc n) = go (seed_to g u t p s n).done (seeds_keep Q k s q n)
    where
      by : (s : Seed) (w : Way) → Q s.sides → Q (seed_by g u t p s w).sides
      by s w q = at (all_exact s.sides w)
        where
          at : (m : Bool) → Q (cond {A = Seed} m (record { sides = s.sides; u = lower s.u w.cost; done = true })
              (record { sides = seeded g u t p s.sides w; u = s.u; done = false })).sides
          at true = q
          at false = k s.sides w q

      go : (m : Bool) → Q (seed_to g u t p s n).sides
          → Q (cond m (seed_to g u t p s n) (seed_by g u t p (seed_to g u t p s n) (join_to g p (seed_to g u t p s n).sides 128))).sides
      go true q = q
      go false q = by (seed_to g u t p s n) (join_to g p (seed_to g u t p s n).sides 128) q

-- one of the three lists, n entries: `first` as they start, `new` resolved in full. Q holds through the seed joins, R of what closing leaves
pub record Kept (n : ℕ) (first new : ℕ → Entry) (Q R : ℕ → Entry → Type 0) : Type 0 where
  pub start : (i : ℕ) → i < n → Q i (first i)
  pub solved : (i : ℕ) → i < n → Q i (new i)
  pub close : (i : ℕ) → i < n → (e : Entry) (b : Bool) → Q i e → R i (closed e b (new i))

module _ {n : ℕ} {first new : ℕ → Entry} {Q R : ℕ → Entry → Type 0} (K : Kept n first new Q R) where
  start-at : (i : ℕ) → i < n → Q i (ent_at (tab first n) i)
  start-at i h = subst (Q i) (sym (tab_at Entry no_entry first n i h)) (K.start i h)

  fixed-at : (e : List Entry) (w : ℕ) → ((i : ℕ) → i < n → Q i (ent_at e i)) → (i : ℕ) → i < n → Q i (ent_at (fixed e w (new w)) i)
  fixed-at e w a i h = fixed-keeps Q e w (new w) i (λ q. subst (λ (j : ℕ). Q i (new j)) (sym q) (K.solved i h)) (a i h)

  close_at : (e : List Entry) (b : List Float) (x : Float) → ((i : ℕ) → i < n → Q i (ent_at e i)) → (i : ℕ) → i < n
      → R i (ent_at (tab (λ (j : ℕ). closed (ent_at e j) (lt (get_or b j nan) x) (new j)) n) i)
  close_at e b x a i h =
      subst (R i) (sym (tab_at Entry no_entry (λ (j : ℕ). closed (ent_at e j) (lt (get_or b j nan) x) (new j)) n i h))
      (K.close i h (ent_at e i) (lt (get_or b i nan) x) (a i h))

module _ (g : Tables) (u : Rule) (t : Targets) (p : ℕ) {Q1 R1 Q2 R2 Q3 R3 : ℕ → Entry → Type 0}
    (K1 : Kept 128 (λ i. end_start g t.t1 0 p (i / 64) (i % 64)) (λ i. solved1 g u t.t1 p i) Q1 R1)
    (K2 : Kept 256 (λ i. mid_start g t.t2 p (get_or g.sets (i / 2) 0) (i % 2)) (λ i. solved2 g u t.t2 p i) Q2 R2)
    (K3 : Kept 128 (λ i. end_start g t.t3 1 p (i / 64) (i % 64)) (λ i. solved3 g u t.t3 p i) Q3 R3) where
  starts_have : Each Q1 Q2 Q3 (starts g t p)
  unfolding starts
  starts_have = record { one = start-at K1; two = start-at K2; three = start-at K3 }

  pub seeds_have : (u0 : Float) (n : ℕ) → Each Q1 Q2 Q3 (seed_to g u t p (record { sides = starts g t p; u = u0; done = false }) n).sides
  seeds_have u0 n =
      seeds_keep g u t p (Each Q1 Q2 Q3)
      (λ s w a. record {
        one = fixed-at K1 s.e1 w.i1 a.one;
        two = fixed-at K2 s.e2 w.i2 a.two;
        three = fixed-at K3 s.e3 w.i3 a.three;
      })
      (record { sides = starts g t p; u = u0; done = false }) starts_have n

  pub closing-has : (s : Sides) (b : Bounds) → Each Q1 Q2 Q3 s → Each R1 R2 R3 (closing g u t p s b)
  unfolding closing
  closing-has s b a = record {
    one = close_at K1 s.e1 b.b1 b.u a.one;
    two = close_at K2 s.e2 b.b2 b.u a.two;
    three = close_at K3 s.e3 b.b3 b.u a.three;
  }

  pub last_has : (u0 : Float) → Each R1 R2 R3 (last_sides g u t p (seed_of g u t p u0))
  last_has u0 = let s = seed_of g u t p u0 in closing-has s.sides (bounds_to g p s.sides s.u 4096) (seeds_have u0 2)

module _ (g : Tables) (u : Rule) (t : Targets) (p : ℕ) (F : Facts g u t p) where
  end_kept : (kind : ℕ) (ts : List Float) → EndFacts g u ts kind p
      → Kept 128 (λ i. end_start g ts kind p (i / 64) (i % 64)) (λ i. end_resolve g u ts kind p (i / 64) (i % 64))
      (λ i. Sound (EndByte g kind (i % 64)) p (i / 64) ts) (λ i. Final (EndByte g kind (i % 64)) p (i / 64) ts)
  end_kept kind ts E = record {
    start = λ i h. start_sound g u ts kind p E (i / 64) (i % 64) (half h) (small i);
    solved = λ i h q. new i h;
    close = λ i h e b s. closed_final (EndByte g kind (i % 64)) p (i / 64) ts e b _ s (new i h);
  }
    where
      new : (i : ℕ) → i < 128 → Final (EndByte g kind (i % 64)) p (i / 64) ts (end_resolve g u ts kind p (i / 64) (i % 64))
      new i h = resolve_final g u ts kind p E (i / 64) (i % 64) (half h) (small i)

  mid_kept : Kept 256 (λ i. mid_start g t.t2 p (get_or g.sets (i / 2) 0) (i % 2)) (λ i. solved2 g u t.t2 p i)
      (λ i. Sound (MidByte g i) p (i % 2) t.t2) (λ i. Final (MidByte g i) p (i % 2) t.t2)
  mid_kept = record {
    start = λ i h. mid_start_sound g u t.t2 p F.two (get_or g.sets (i / 2) 0) (i % 2) (bit-small i);
    solved = λ i h q. new i;
    close = λ i h e b s. closed_final (MidByte g i) p (i % 2) t.t2 e b _ s (new i);
  }
    where
      new : (i : ℕ) → Final (MidByte g i) p (i % 2) t.t2 (solved2 g u t.t2 p i)
      new i = mid_resolve_final g u t.t2 p F.two (get_or g.sets (i / 2) 0) (i % 2) (bit-small i)

  -- every entry at the last join
  pub last_final : (u0 : Float) → AllFinal g t p (last_sides g u t p (seed_of g u t p u0))
  last_final = last_has g u t p (end_kept 0 t.t1 F.one) mid_kept (end_kept 1 t.t3 F.three)

  -- what y has at the start it has at the last join
  module _ (i1 i2 i3 B1 B2 B3 : ℕ) (h1 : i1 < 128) (h2 : i2 < 256) (h3 : i3 < 128) (m1 : Mine (end_start g t.t1 0 p (i1 / 64) (i1 % 64)) B1)
      (m2 : Mine (mid_start g t.t2 p (get_or g.sets (i2 / 2) 0) (i2 % 2)) B2) (m3 : Mine (end_start g t.t3 1 p (i3 / 64) (i3 % 64)) B3) where
    abbrev Q : Sides → Type 0
    Q s = AllMine s i1 i2 i3 B1 B2 B3

    starts-mine : Q (starts g t p)
    unfolding starts
    starts-mine = record {
      one = subst (λ (e : Entry). Mine e B1) (sym (tab_at Entry no_entry (λ i. end_start g t.t1 0 p (i / 64) (i % 64)) 128 i1 h1)) m1;
      two = subst (λ (e : Entry). Mine e B2) (sym (tab_at Entry no_entry (λ i. mid_start g t.t2 p (get_or g.sets (i / 2) 0) (i % 2)) 256 i2 h2)) m2;
      three = subst (λ (e : Entry). Mine e B3) (sym (tab_at Entry no_entry (λ i. end_start g t.t3 1 p (i / 64) (i % 64)) 128 i3 h3)) m3;
    }

    seeded-mine : (s : Sides) (w : Way) → Q s → Q (seeded g u t p s w)
    seeded-mine s w a = record {
      one = fixed-mine s.e1 w.i1 (solved1 g u t.t1 p w.i1) i1 a.one;
      two = fixed-mine s.e2 w.i2 (solved2 g u t.t2 p w.i2) i2 a.two;
      three = fixed-mine s.e3 w.i3 (solved3 g u t.t3 p w.i3) i3 a.three;
    }

    closing-mine : (s : Sides) (b : Bounds) → Q s → Q (closing g u t p s b)
    unfolding closing
    closing-mine s b a = record {
      one = subst (λ (e : Entry). Mine e B1)
          (sym (tab_at Entry no_entry (λ i. closed (ent_at s.e1 i) (lt (get_or b.b1 i nan) b.u) (solved1 g u t.t1 p i)) 128 i1 h1))
          (closed-mine (ent_at s.e1 i1) (lt (get_or b.b1 i1 nan) b.u) (solved1 g u t.t1 p i1) a.one);
      two = subst (λ (e : Entry). Mine e B2)
          (sym (tab_at Entry no_entry (λ i. closed (ent_at s.e2 i) (lt (get_or b.b2 i nan) b.u) (solved2 g u t.t2 p i)) 256 i2 h2))
          (closed-mine (ent_at s.e2 i2) (lt (get_or b.b2 i2 nan) b.u) (solved2 g u t.t2 p i2) a.two);
      three = subst (λ (e : Entry). Mine e B3)
          (sym (tab_at Entry no_entry (λ i. closed (ent_at s.e3 i) (lt (get_or b.b3 i nan) b.u) (solved3 g u t.t3 p i)) 128 i3 h3))
          (closed-mine (ent_at s.e3 i3) (lt (get_or b.b3 i3 nan) b.u) (solved3 g u t.t3 p i3) a.three);
    }

    pub last-mine : (u0 : Float) → Q (last_sides g u t p (seed_of g u t p u0))
    last-mine u0 =
        let s = seed_of g u t p u0 in
        closing-mine s.sides (bounds_to g p s.sides s.u 4096)
        (seeds_keep g u t p Q seeded-mine (record { sides = starts g t p; u = u0; done = false }) starts-mine 2)
