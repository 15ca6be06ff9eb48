-- One parity: every entry at the last join is infinite or holds a member, so a path of finite cost goes through three members; and searched first,
-- with no cost known, a parity always has such a path.
use Rattle.std.specs.Prelude.{◌≡◌, ◌⊎◌, Bool, cond, ◌&&◌, List, T, get_or, Float}
use Rattle.std.proofs.Math.Path.{refl}
use Rattle.std.proofs.Common.{sym, ap, ◌∙◌, subst, le_refl, le_trans, zero-lt-suc, mul-le-mul_right, arith, lit≤, get_or-set_same}
use Rattle.std.proofs.Math.Logic.{inl, inr}
use Rattle.std.proofs.Math.Bool.{true, false}
use Prim.Native.Nat.{ℕ, zero, suc, ◌+◌, ◌*◌, ◌/◌, ◌%◌, ◌≤◌, ◌<◌}
use Rattle.std.proofs.Math.Nat.{mod-lt}
use Rattle.std.specs.Float.{nan}
use Rattle.std.specs.Float.Ieee.{lt}
use Rattle.std.specs.Float.Ieee.Scale.{finite}
use Rattle.laws.specs.Words.{tab}
use Rattle.laws.specs.Laws.Lists.{tab_at, tab-length}
use Rattle.laws.specs.Laws.Tests.{is_true, true_is, split3}
use Rattle.float.specs.Value.{U, mag_units, pos_units, neg_units}
use Rattle.float.specs.Laws.Exact.{mag_parts}
use Rattle.search.specs.declared.Entry.{Entry}
use Rattle.search.specs.declared.Way.{Way}
use Rattle.search.specs.declared.Bounds.{Bounds}
use Rattle.search.specs.declared.Closed.{Closed}
use Rattle.search.specs.Solve.{infinity}
use Rattle.search.specs.Tables.{tables, class_of}
use Rattle.search.specs.Entries.{Rule, infeasible, end_resolve, end_start, mid_start}
use Rattle.search.specs.declared.Sides.{Sides}
use Rattle.search.specs.Join.{no_entry, ent_at, mid_at, last_at, cost_at, way_at, join_to, all_exact}
use Rattle.search.specs.declared.Targets.{Targets}
use Rattle.search.specs.Parity.{Seed, closed, starts, solved1, solved2, solved3, seeded, lower, lowered}
use Rattle.search.specs.Parity.{seed_by, seed_to, seed_of, bounds_to, closing, last_sides, parity}
use Rattle.nearest.specs.Laws.Forms.{RuleOk}
use Rattle.nearest.specs.Laws.Under.{Num, Plain, Under, clash, inf-lt, sum3, either_num, sum3_case}
use Rattle.nearest.specs.Laws.Entries.{EndByte, closed-keeps, set_either}
use Rattle.nearest.specs.Laws.Pass.{MidByte, Each, Kept, half, small, seeds_have, closing-has}
use Rattle.nearest.specs.Laws.Winner.{mid_at-lt, last_at-lt}
use Rattle.nearest.specs.Laws.Join.{Seen, join_seen, join-under}
use Rattle.nearest.specs.Laws.TableFacts.{tables-good}
use Rattle.members.specs.Laws.Sizes.{Below, Err, Target, add-below}
use Rattle.members.specs.Laws.Candidates.{Far}
use Rattle.members.specs.Laws.Entries.{Held, Fine, held-fine, end_held, end_start_lem, mid_held, mid_start_lem}
use Rattle.laws.specs.Laws.Whole.{bit-small}

-- ---- a value: infinite, or finite and of bounded size
abbrev Val : Float → Type 0
Val x = (x ≡ infinity) ⊎ Below Far x

abbrev pub Last : (ℕ → Type 0) → ℕ → ℕ → Closed → Entry → Type 0
Last Byte p r b e = (e.value ≡ infinity) ⊎ Held Byte p r b e

plain : {B : ℕ} {x : Float} → Below B x → Plain x
plain a = record { fit = a.fit; fin = a.fin }

abbrev Far3 : ℕ
Far3 = Far + Far + Err + Far + Err

sum_below : {x y z : Float} → Below Far x → Below Far y → Below Far z → Below Far3 (sum3 x y z)
sum_below a b c = add-below (add-below a b (lit≤ tt)) c (lit≤ tt)

sum_case : (x y z : Float) → Val x → Val y → Val z → (sum3 x y z ≡ infinity) ⊎ (Below Far x × Below Far y × Below Far z)
sum_case x y z = sum3_case x y z plain plain plain (λ a b. plain (add-below a b (lit≤ tt)))

sum_num : (x y z : Float) → Val x → Val y → Val z → Num (sum3 x y z)
sum_num x y z a b c = either_num (λ q. plain (sum_below q.0 q.1 q.2)) (sum_case x y z a b c)

below-under : {A : ℕ} {x : Float} (B : ℕ) → A * U ≤ B → Below A x → Under x B
below-under {A} {x} B h a = record {
  fit = a.fit;
  fin = a.fin;
  below =
      go (pos_units x * U) (neg_units x * U) B
      (le_trans (mul-le-mul_right U (le_trans (part (mag_units x) (pos_units x) (neg_units x) (mag_parts x)) a.low)) h);
}
  where
    part : (m p n : ℕ) → m ≡ p + n → p ≤ m
    part m p n e = omega arith

    go : (p n B : ℕ) → p ≤ B → p ≤ B + n
    go p n B h = omega arith

last-val : {Byte : ℕ → Type 0} {p r : ℕ} {b : Closed} {e : Entry} → Last Byte p r b e → Val e.value
last-val (inl q) = inl q
last-val (inr h) = inr h.good.below

last-held : {Byte : ℕ → Type 0} {p r : ℕ} {b : Closed} {e : Entry} → Last Byte p r b e → Below Far e.value → Held Byte p r b e
last-held (inl q) a = absurd (subst (λ (x : Float). T (finite x)) q a.fin)
last-held (inr h) a = h

-- ---- the three lists
abbrev pub AllLast : ℕ → Sides → Type 0
AllLast p = Each (λ i. Last (EndByte tables 0 (i % 64)) p (i / 64) (class_of tables (i / 64))) (λ i. Last (MidByte tables i) p (i % 2) tables.mixed)
    (λ i. Last (EndByte tables 1 (i % 64)) p (i / 64) (class_of tables (i / 64)))

abbrev AllFine : ℕ → Sides → Type 0
AllFine p = Each (λ i. Fine (EndByte tables 0 (i % 64)) p (i / 64) (class_of tables (i / 64))) (λ i. Fine (MidByte tables i) p (i % 2) tables.mixed)
    (λ i. Fine (EndByte tables 1 (i % 64)) p (i / 64) (class_of tables (i / 64)))

abbrev AllVal : Sides → Type 0
AllVal = Each (λ i e. Val e.value) (λ i e. Val e.value) (λ i e. Val e.value)

way_num : (p : ℕ) (s : Sides) → AllVal s → (i n : ℕ) → i < 128 → n < 32 → Num (cost_at tables p s i n)
way_num p s W0 i n h k =
    sum_num _ _ _ (W0.one i h) (W0.two (mid_at tables i n) (mid_at-lt tables tables-good i n k))
    (W0.three (last_at tables p i n) (last_at-lt tables tables-good p i n k))

-- ---- a path of three members
pub record Through (p : ℕ) (e1 e2 e3 : Entry) : Type 0 where
  pub i : ℕ
  pub n : ℕ
  pub i_lt : i < 128
  pub n-lt : n < 32
  pub one : Held (EndByte tables 0 (i % 64)) p (i / 64) (class_of tables (i / 64)) e1
  pub two : Held (MidByte tables (mid_at tables i n)) p (mid_at tables i n % 2) tables.mixed e2
  pub three : Held (EndByte tables 1 (last_at tables p i n % 64)) p (last_at tables p i n / 64) (class_of tables (last_at tables p i n / 64)) e3

module _ (p : ℕ) (s : Sides) (L : AllLast p s) where
  vals : AllVal s
  vals = record { one = λ i h. last-val (L.one i h); two = λ i h. last-val (L.two i h); three = λ i h. last-val (L.three i h) }

  way-through : (i n : ℕ) → i < 128 → n < 32 → finite (cost_at tables p s i n) ≡ true
      → Through p (ent_at s.e1 i) (ent_at s.e2 (mid_at tables i n)) (ent_at s.e3 (last_at tables p i n))
  way-through i n h k f = go (sum_case _ _ _ (vals.one i h) (vals.two (mid_at tables i n) (mid_at-lt tables tables-good i n k))
      (vals.three (last_at tables p i n) (last_at-lt tables tables-good p i n k)))
    where
      go : (cost_at tables p s i n ≡ infinity)
          ⊎ (Below Far (ent_at s.e1 i).value × Below Far (ent_at s.e2 (mid_at tables i n)).value
          × Below Far (ent_at s.e3 (last_at tables p i n)).value)
          → Through p (ent_at s.e1 i) (ent_at s.e2 (mid_at tables i n)) (ent_at s.e3 (last_at tables p i n))
      go (inl e) = absurd (clash f (ap finite e))
      go (inr q) = record {
        i = i;
        n = n;
        i_lt = h;
        n-lt = k;
        one = last-held (L.one i h) q.0;
        two = last-held (L.two (mid_at tables i n) (mid_at-lt tables tables-good i n k)) q.1;
        three = last-held (L.three (last_at tables p i n) (last_at-lt tables tables-good p i n k)) q.2;
      }

  -- a join of finite cost is such a path
  pub join-through : finite (join_to tables p s 128).cost ≡ true
      → Through p (ent_at s.e1 (join_to tables p s 128).i1) (ent_at s.e2 (join_to tables p s 128).i2) (ent_at s.e3 (join_to tables p s 128).i3)
  join-through f = go (join_seen tables p s (way_num p s vals) 128 (le_refl 128))
    where
      go : Seen tables p s (join_to tables p s 128)
          → Through p (ent_at s.e1 (join_to tables p s 128).i1) (ent_at s.e2 (join_to tables p s 128).i2)
          (ent_at s.e3 (join_to tables p s 128).i3)
      go (inl e) = absurd (clash f (ap finite e))
      go (inr q) = subst (λ (w : Way). Through p (ent_at s.e1 w.i1) (ent_at s.e2 w.i2) (ent_at s.e3 w.i3)) (sym q.4)
          (way-through q.0 q.1 q.2 q.3 (sym (ap (λ (w : Way). finite w.cost) q.4) ∙ f))

  -- a path of three finite values leaves the join finite
  pub join-finite : (i n : ℕ) → i < 128 → n < 32 → Below Far (ent_at s.e1 i).value → Below Far (ent_at s.e2 (mid_at tables i n)).value
      → Below Far (ent_at s.e3 (last_at tables p i n)).value
      → finite (join_to tables p s 128).cost ≡ true
  join-finite i n h k a b c =
      is_true (finite (join_to tables p s 128).cost)
      (join-under tables p s (way_num p s vals) i n k (below-under (Far3 * U) (lit≤ tt) a)
      (below-under (Far3 * U) (le_refl (Far3 * U)) (sum_below a b c)) 128 (le_refl 128) h).fin

-- ---- one parity, at targets up to a million
closed-last : (Byte : ℕ → Type 0) (p r : ℕ) (b : Closed) (e : Entry) (under : Bool) (new : Entry) → Fine Byte p r b e → Held Byte p r b new
    → Last Byte p r b (closed e under new)
closed-last Byte p r b e under new f h = closed-keeps (Last Byte p r b) e under new (λ q. inr (f.held q)) (inr h) (inl refl)

-- an exact entry, and one whose best path is under the cost known, has a finite value at the last join
abbrev Stays : Entry → Bool → Type 0
Stays e under = (e.exact ≡ true) ⊎ (under ≡ true)

closed-below : (e : Entry) (under : Bool) (new : Entry) → Below Far e.value → Below Far new.value → Stays e under
    → Below Far (closed e under new).value
closed-below e under new a b k = go e.exact refl k
  where
    go : (m : Bool) → e.exact ≡ m → (e.exact ≡ true) ⊎ (under ≡ true)
        → Below Far (cond m e (cond under new infeasible)).value
    go true q k = a
    go false q (inl w) = absurd (clash w q)
    go false q (inr w) = subst (λ (m : Bool). Below Far (cond m new infeasible).value) (sym w) b

-- so in a list of n entries, `new` resolved in full, that is closed by the bounds b and the cost x
closed_at : (n : ℕ) (es : List Entry) (b : List Float) (x : Float) (new : ℕ → Entry) (i : ℕ) → i < n → Below Far (ent_at es i).value
    → Below Far (new i).value → Stays (ent_at es i) (lt (get_or b i nan) x)
    → Below Far (ent_at (tab (λ (j : ℕ). closed (ent_at es j) (lt (get_or b j nan) x) (new j)) n) i).value
closed_at n es b x new i h a c k =
    subst (λ (e : Entry). Below Far e.value)
    (sym (tab_at Entry no_entry (λ (j : ℕ). closed (ent_at es j) (lt (get_or b j nan) x) (new j)) n i h))
    (closed-below (ent_at es i) (lt (get_or b i nan) x) (new i) a c k)

module _ (u : Rule) (U0 : RuleOk u) (t : Targets) (T1 : (j : ℕ) → j < 8 → Target (get_or t.t1 j nan))
    (T2 : (j : ℕ) → j < 8 → Target (get_or t.t2 j nan)) (T3 : (j : ℕ) → j < 8 → Target (get_or t.t3 j nan)) (p : ℕ) (P0 : p < 2) where
  -- an end, kind 0 the first and kind 1 the last
  module _ (kind : ℕ) (K0 : kind < 2) (ts : List Float) (T0 : (j : ℕ) → j < 8 → Target (get_or ts j nan)) where
    end_new : (i : ℕ) → i < 128
        → Held (EndByte tables kind (i % 64)) p (i / 64) (class_of tables (i / 64)) (end_resolve tables u ts kind p (i / 64) (i % 64))
    end_new i h = end_held u U0 ts T0 p P0 kind (i / 64) (i % 64) K0 (half h) (small i)

    end_kept : Kept 128 (λ i. end_start tables ts kind p (i / 64) (i % 64)) (λ i. end_resolve tables u ts kind p (i / 64) (i % 64))
        (λ i. Fine (EndByte tables kind (i % 64)) p (i / 64) (class_of tables (i / 64)))
        (λ i. Last (EndByte tables kind (i % 64)) p (i / 64) (class_of tables (i / 64)))
    end_kept = record {
      start = λ i h. end_start_lem u U0 ts T0 p P0 kind (i / 64) (i % 64) K0 (half h) (small i);
      solved = λ i h. held-fine (end_new i h);
      close = λ i h e b f. closed-last _ p _ _ e b _ f (end_new i h);
    }

  mid_new : (i : ℕ) → Held (MidByte tables i) p (i % 2) tables.mixed (solved2 tables u t.t2 p i)
  mid_new i = mid_held u U0 t.t2 T2 p P0 (get_or tables.sets (i / 2) 0) (i % 2) (bit-small i)

  mid_kept : Kept 256 (λ i. mid_start tables t.t2 p (get_or tables.sets (i / 2) 0) (i % 2)) (λ i. solved2 tables u t.t2 p i)
      (λ i. Fine (MidByte tables i) p (i % 2) tables.mixed) (λ i. Last (MidByte tables i) p (i % 2) tables.mixed)
  mid_kept = record {
    start = λ i h. mid_start_lem u U0 t.t2 T2 p P0 (get_or tables.sets (i / 2) 0) (i % 2) (bit-small i);
    solved = λ i h. held-fine (mid_new i);
    close = λ i h e b f. closed-last _ p _ _ e b _ f (mid_new i);
  }

  seeds_fine : (u0 : Float) (n : ℕ) → AllFine p (seed_to tables u t p (record { sides = starts tables t p; u = u0; done = false }) n).sides
  seeds_fine = seeds_have tables u t p (end_kept 0 (lit≤ tt) t.t1 T1) mid_kept (end_kept 1 (lit≤ tt) t.t3 T3)

  closing-last : (s : Sides) (b : Bounds) → AllFine p s → AllLast p (closing tables u t p s b)
  closing-last = closing-has tables u t p (end_kept 0 (lit≤ tt) t.t1 T1) mid_kept (end_kept 1 (lit≤ tt) t.t3 T3)

  pub last-all : (u0 : Float) → AllLast p (last_sides tables u t p (seed_of tables u t p u0))
  last-all u0 =
      let s = seed_of tables u t p u0 in
      closing-last s.sides (bounds_to tables p s.sides s.u 4096) (seeds_fine u0 2)

  -- ---- a winner that was found goes through three members
  pub found-through : (u0 : Float) → (parity tables u t p u0).found ≡ true
      → Through p (parity tables u t p u0).s1 (parity tables u t p u0).s2 (parity tables u t p u0).s3
  unfolding parity
  found-through u0 f = join-through p (last_sides tables u t p (seed_of tables u t p u0)) (last-all u0) f

  -- ---- a path all of whose entries are exact
  record ExactPath (s : Sides) : Type 0 where
    i : ℕ
    n : ℕ
    i_lt : i < 128
    n-lt : n < 32
    exact : all_exact s (way_at tables p s i n) ≡ true

  -- the best cost known is none, or that of such a path
  abbrev Known : Sides → Float → Type 0
  Known s x = (x ≡ infinity) ⊎ ExactPath s

  fine_vals : (s : Sides) → AllFine p s → AllVal s
  fine_vals s a = record { one = λ i h. inr (a.one i h).below; two = λ i h. inr (a.two i h).below; three = λ i h. inr (a.three i h).below }

  -- every path costs a finite amount
  way-finite : (s : Sides) → AllFine p s → (i n : ℕ) → i < 128 → n < 32 → T (finite (cost_at tables p s i n))
  way-finite s a i n h k = (sum_below (a.one i h).below (a.two (mid_at tables i n) (mid_at-lt tables tables-good i n k)).below
      (a.three (last_at tables p i n) (last_at-lt tables tables-good p i n k)).below).fin

  -- ---- the seed joins
  abbrev SeedKnown : Seed → Type 0
  SeedKnown s = (s.u ≡ infinity) ⊎ ((s.done ≡ true) × ExactPath s.sides)

  lower-none : (a b : Float) → a ≡ infinity → b ≡ infinity → lower a b ≡ infinity
  lower-none a b p q = go (lt b a)
    where
      go : (t : Bool) → cond t b a ≡ infinity
      go true = q
      go false = p

  seed-step : (s : Seed) → AllFine p s.sides → s.u ≡ infinity → SeedKnown (seed_by tables u t p s (join_to tables p s.sides 128))
  seed-step s a e = go (all_exact s.sides (join_to tables p s.sides 128)) refl
    where
      w : Way
      w = join_to tables p s.sides 128

      seen : all_exact s.sides (join_to tables p s.sides 128) ≡ true → Seen tables p s.sides (join_to tables p s.sides 128)
          → SeedKnown (record { sides = s.sides; u = lower s.u (join_to tables p s.sides 128).cost; done = true })
      seen q (inl z) = inl (lower-none s.u (join_to tables p s.sides 128).cost e z)
      seen q (inr z) = inr (
        refl,
        record
            { i = z.0; n = z.1; i_lt = z.2; n-lt = z.3; exact = subst (λ (w : Way). all_exact s.sides w ≡ true) z.4 q },
      )

      go : (m : Bool) → all_exact s.sides (join_to tables p s.sides 128) ≡ m
          → SeedKnown (cond {A = Seed} m (record { sides = s.sides; u = lower s.u (join_to tables p s.sides 128).cost; done = true })
          (record { sides = seeded tables u t p s.sides (join_to tables p s.sides 128); u = s.u; done = false }))
      go true q = seen q (join_seen tables p s.sides (way_num p s.sides (fine_vals s.sides a)) 128 (le_refl 128))
      go false q = inl e

  abbrev seed_at : ℕ → Seed
  seed_at n = seed_to tables u t p (record { sides = starts tables t p; u = infinity; done = false }) n

  seeds_known : (n : ℕ) → SeedKnown (seed_at n)
  unfolding seed_to
  seeds_known zero = inl refl
  seeds_known (suc n) = go (seed_at n).done refl (seeds_known n)
    where
      fresh : (seed_at n).done ≡ false → SeedKnown (seed_at n) → (seed_at n).u ≡ infinity
      fresh q (inl e) = e
      fresh q (inr z) = absurd (clash z.0 q)

      go : (m : Bool) → (seed_at n).done ≡ m → SeedKnown (seed_at n)
          → SeedKnown (cond m (seed_at n) (seed_by tables u t p (seed_at n) (join_to tables p (seed_at n).sides 128)))
      go true q k = k
      go false q k = seed-step (seed_at n) (seeds_fine infinity n) (fresh q k)

  -- ---- the bounds
  module _ (s : Sides) (a : AllFine p s) (x : Float) (K : Known s x) where
    abbrev bnd : ℕ → Bounds
    bnd n = bounds_to tables p s x n

    abbrev way : ℕ → Way
    way n = way_at tables p s (n / 32) (n % 32)

    way_fin : (n : ℕ) → n < 4096 → T (finite (way n).cost)
    way_fin n h = way-finite s a (n / 32) (n % 32) (omega arith) (mod-lt n (zero-lt-suc 31))

    bounds-known : (n : ℕ) → n ≤ 4096 → Known s (bnd n).u
    unfolding bounds_to
    bounds-known zero h = K
    bounds-known (suc n) h = go (all_exact s (way n)) refl (lt (way n).cost (bnd n).u) (bounds-known n (omega arith))
      where
        go : (m : Bool) → all_exact s (way n) ≡ m → (l : Bool) → Known s (bnd n).u → Known s (cond (m && l) (way n).cost (bnd n).u)
        go true q true k = inr (record { i = n / 32; n = n % 32; i_lt = omega arith; n-lt = mod-lt n (zero-lt-suc 31); exact = q })
        go true q false k = k
        go false q l k = k

    -- a bound that was lowered once is finite from then on
    abbrev Fin : List Float → ℕ → Type 0
    Fin b j = T (finite (get_or b j nan))

    lower_fin : (v c : Float) → T (finite c) → (v ≡ infinity) ⊎ T (finite v) → T (finite (lower v c))
    lower_fin v c f (inl e) = subst (λ (m : Bool). T (finite (cond m c v))) (sym (subst (λ (z : Float). lt c z ≡ true) (sym e) (inf-lt c f))) f
    lower_fin v c f (inr g) = go (lt c v)
      where
        go : (m : Bool) → T (finite (cond m c v))
        go true = f
        go false = g

    lowered-first : (n j : ℕ) (c : Float) → j < n → T (finite c) → Fin (lowered (tab (λ (i : ℕ). infinity) n) j c) j
    lowered-first n j c h f =
        subst (λ (z : Float). T (finite z))
        (sym (get_or-set_same (tab (λ (i : ℕ). infinity) n) j (lower (get_or (tab (λ (i : ℕ). infinity) n) j nan) c) nan
        (subst (λ (m : ℕ). j < m) (sym (tab-length Float (λ (i : ℕ). infinity) n)) h)))
        (lower_fin (get_or (tab (λ (i : ℕ). infinity) n) j nan) c f (inl (tab_at Float nan (λ (i : ℕ). infinity) n j h)))

    lowered-more : (b : List Float) (i j : ℕ) (c : Float) → T (finite c) → Fin b j → Fin (lowered b i c) j
    lowered-more b i j c f g = go (set_either b i j (lower (get_or b i nan) c) nan)
      where
        go : ((i ≡ j) × (get_or (lowered b i c) j nan ≡ lower (get_or b i nan) c)) ⊎ (get_or (lowered b i c) j nan ≡ get_or b j nan) → Fin (lowered b i c) j
        go (inl q) = subst (λ (z : Float). T (finite z)) (sym q.1) (lower_fin (get_or b i nan) c f (inr (subst (λ (z : ℕ). Fin b z) (sym q.0) g)))
        go (inr q) = subst (λ (z : Float). T (finite z)) (sym q) g

    -- one of the three lists of bounds, `get` it and `slot` its place on a path: the place j of the first path is finite
    first : (get : Bounds → List Float) (slot : Way → ℕ) (m j : ℕ) → j < m → get (bnd 0) ≡ tab (λ (i : ℕ). infinity) m → slot (way 0) ≡ j
        → ((n : ℕ) → get (bnd (suc n)) ≡ lowered (get (bnd n)) (slot (way n)) (way n).cost)
        → (n : ℕ) → n < 4096 → Fin (get (bnd (suc n))) j
    first get slot m j l start at next zero h =
        subst (λ (b : List Float). Fin b j) (sym (next 0))
        (subst (λ (b : List Float). Fin (lowered b (slot (way 0)) (way 0).cost) j) (sym start)
        (subst (λ (i : ℕ). Fin (lowered (tab (λ (i : ℕ). infinity) m) i (way 0).cost) j) (sym at)
        (lowered-first m j (way 0).cost l (way_fin 0 h))))
    first get slot m j l start at next (suc n) h =
        subst (λ (b : List Float). Fin b j) (sym (next (suc n)))
        (lowered-more (get (bnd (suc n))) (slot (way (suc n))) j (way (suc n)).cost (way_fin (suc n) h)
        (first get slot m j l start at next n (omega arith)))

    first1 : Fin (bnd 4096).b1 0
    unfolding bounds_to
    first1 = first (λ b. b.b1) (λ w. w.i1) 128 0 (lit≤ tt) refl refl (λ n. refl) 4095 (lit≤ tt)

    first2 : Fin (bnd 4096).b2 (mid_at tables 0 0)
    unfolding bounds_to
    first2 = first (λ b. b.b2) (λ w. w.i2) 256 (mid_at tables 0 0) (mid_at-lt tables tables-good 0 0 (lit≤ tt)) refl refl (λ n. refl) 4095 (lit≤ tt)

    first3 : Fin (bnd 4096).b3 (last_at tables p 0 0)
    unfolding bounds_to
    first3 = first (λ b. b.b3) (λ w. w.i3) 128 (last_at tables p 0 0) (last_at-lt tables tables-good p 0 0 (lit≤ tt)) refl refl (λ n. refl) 4095 (lit≤ tt)

    -- ---- what is left at the last join
    abbrev left : Sides
    left = closing tables u t p s (bnd 4096)

    stay1 : (i : ℕ) → i < 128 → Stays (ent_at s.e1 i) (lt (get_or (bnd 4096).b1 i nan) (bnd 4096).u) → Below Far (ent_at left.e1 i).value
    unfolding closing
    stay1 i h = closed_at 128 s.e1 (bnd 4096).b1 (bnd 4096).u (λ i. solved1 tables u t.t1 p i) i h (a.one i h).below
        (end_new 0 (lit≤ tt) t.t1 T1 i h).good.below

    stay2 : (i : ℕ) → i < 256 → Stays (ent_at s.e2 i) (lt (get_or (bnd 4096).b2 i nan) (bnd 4096).u) → Below Far (ent_at left.e2 i).value
    unfolding closing
    stay2 i h = closed_at 256 s.e2 (bnd 4096).b2 (bnd 4096).u (λ i. solved2 tables u t.t2 p i) i h (a.two i h).below
        (mid_new i).good.below

    stay3 : (i : ℕ) → i < 128 → Stays (ent_at s.e3 i) (lt (get_or (bnd 4096).b3 i nan) (bnd 4096).u) → Below Far (ent_at left.e3 i).value
    unfolding closing
    stay3 i h = closed_at 128 s.e3 (bnd 4096).b3 (bnd 4096).u (λ i. solved3 tables u t.t3 p i) i h (a.three i h).below
        (end_new 1 (lit≤ tt) t.t3 T3 i h).good.below

    under : (v : Float) → T (finite v) → (bnd 4096).u ≡ infinity → lt v (bnd 4096).u ≡ true
    under v f e = subst (λ (z : Float). lt v z ≡ true) (sym e) (inf-lt v f)

    -- an all-exact path stays; where there is none, no cost is known, and the first path stays
    left-finite : finite (join_to tables p left 128).cost ≡ true
    left-finite = go (bounds-known 4096 (le_refl 4096))
      where
        go : Known s (bnd 4096).u → finite (join_to tables p left 128).cost ≡ true
        go (inl e) =
            join-finite p left (closing-last s (bnd 4096) a) 0 0 (lit≤ tt) (lit≤ tt)
            (stay1 0 (lit≤ tt) (inr (under (get_or (bnd 4096).b1 0 nan) first1 e)))
            (stay2 (mid_at tables 0 0) (mid_at-lt tables tables-good 0 0 (lit≤ tt)) (inr (under (get_or (bnd 4096).b2 (mid_at tables 0 0) nan) first2 e)))
            (stay3 (last_at tables p 0 0) (last_at-lt tables tables-good p 0 0 (lit≤ tt))
            (inr (under (get_or (bnd 4096).b3 (last_at tables p 0 0) nan) first3 e)))
        go (inr q) =
            let x1 = (ent_at s.e1 q.i).exact in
            let x2 = (ent_at s.e2 (mid_at tables q.i q.n)).exact in
            let x3 = (ent_at s.e3 (last_at tables p q.i q.n)).exact in
            let z = split3 x1 x2 x3 (true_is (all_exact s (way_at tables p s q.i q.n)) q.exact) in
            join-finite p left (closing-last s (bnd 4096) a) q.i q.n q.i_lt q.n-lt
            (stay1 q.i q.i_lt (inl (is_true x1 z.0)))
            (stay2 (mid_at tables q.i q.n) (mid_at-lt tables tables-good q.i q.n q.n-lt) (inl (is_true x2 z.1)))
            (stay3 (last_at tables p q.i q.n) (last_at-lt tables tables-good p q.i q.n q.n-lt) (inl (is_true x3 z.2)))

  -- ---- with no cost known, a parity always finds a path
  pub first_found : (parity tables u t p infinity).found ≡ true
  unfolding parity
  first_found = left-finite (seed_at 2).sides (seeds_fine infinity 2) (seed_at 2).u (known (seeds_known 2))
    where
      known : SeedKnown (seed_at 2) → Known (seed_at 2).sides (seed_at 2).u
      known (inl e) = inl e
      known (inr z) = inr z.1
