-- The pass over the resolved entries of crate search is the definition, and it looks at no other resolved entries than those of the three lists.
-- Assumes nothing.
use mathlib.Core.Path.{◌≡◌, refl, ◌∙◌, sym, ap}
use mathlib.Core.Bool.{Bool, true, false, cond, ◌&&◌}
use mathlib.Core.List.{List}
use Prim.Native.Nat.{ℕ, ◌<◌}
use native.Mathlib.Omega.{arith}
use lib.ListN.{get_or, set}
use lib.Ieee.{Float, nan, lt}
use Rattle.laws.specs.Words.{tab}
use Rattle.laws.specs.Laws.Lists.{tab-eq}
use Rattle.laws.specs.Laws.Tests.{cond_same}
use Rattle.search.specs.declared.Entry.{Entry}
use Rattle.search.specs.declared.Way.{Way}
use Rattle.search.specs.declared.Bounds.{Bounds}
use Rattle.search.specs.Tables.{tables}
use Rattle.search.specs.Entries.{Rule}
use Rattle.search.specs.declared.Sides.{Sides}
use Rattle.search.specs.Join.{ent_at, no_entry, join, all_exact}
use Rattle.search.specs.declared.Targets.{Targets}
use Rattle.search.specs.Parity.{Seed, solved1, solved2, solved3, starts, lower, seeded, seed_by, seed_to, bounds_to, closed, closing, parity}
use Rattle.join.specs.Laws.{in_join}
use Rattle.resolve.specs.Inner.Flat.{closed_with}
use Rattle.parity.specs.declared.Head.{Head}
use Rattle.parity.specs.Inner.{first_start, mid_starts, last_start, head_by, head_of, Kept, Resolved}
use Rattle.parity.specs.Inner.{once_by, again_by, seeds_by, closed_by, left_by, best_of, pass_of}

-- ---- which resolved entries are looked at
abbrev InHead : Head → Type 0
InHead h = (h.i1 < 128) × ((h.i2 < 256) × (h.i3 < 128))

in_head : (p : ℕ) (s : Sides) → InHead (head_of p s)
unfolding head_of
in_head p s = in_join p s 128 (omega arith)

in-cond : (b : Bool) (x y : Head) → InHead x → InHead y → InHead (cond b x y)
in-cond true x y h g = h
in-cond false x y h g = g

abbrev pub Agree : ℕ → Resolved → Resolved → Type 0
Agree n r s = (i : ℕ) → i < n → r i ≡ s i

module _ (r1 r2 r3 s1 s2 s3 : Resolved) (q1 : Agree 128 r1 s1) (q2 : Agree 256 r2 s2) (q3 : Agree 128 r3 s3) where
  once-eq : (k : Kept) (h : Head) → InHead h → once_by r1 r2 r3 k h ≡ once_by s1 s2 s3 k h
  once-eq k h l = rw (q1 h.i1 l.0, q2 h.i2 l.1.0, q3 h.i3 l.1.1)

  seeds-eq : (p : ℕ) (k : Kept) → seeds_by r1 r2 r3 p k ≡ seeds_by s1 s2 s3 p k
  seeds-eq p k =
      let h : Head = head_of p k.sides in
      let x : Kept = once_by s1 s2 s3 k h in
      ap (again_by r1 r2 r3 p h) (once-eq k h (in_head p k.sides))
      ∙ once-eq x (cond h.done h (head_of p x.sides)) (in-cond h.done h (head_of p x.sides) (in_head p k.sides) (in_head p x.sides))

  left-eq : (n : ℕ) (e : List Entry) (b : List Float) (u : Float) (r s : Resolved) → Agree n r s
      → tab (closed_with e b u r) n ≡ tab (closed_with e b u s) n
  left-eq n e b u r s q =
      tab-eq Entry no_entry (closed_with e b u r) (closed_with e b u s) n (λ i l. ap (closed (ent_at e i) (lt (get_or b i nan) u)) (q i l))

  closed-eq : (s : Sides) (b : Bounds) → closed_by r1 r2 r3 s b ≡ closed_by s1 s2 s3 s b
  unfolding closed_by
  closed-eq s b =
      rw (left-eq 128 s.e1 b.b1 b.u r1 s1 q1, left-eq 256 s.e2 b.b2 b.u r2 s2 q2, left-eq 128 s.e3 b.b3 b.u r3 s3 q3)

  pub pass-eq : (p : ℕ) (k : Kept) → pass_of r1 r2 r3 p k ≡ pass_of s1 s2 s3 p k
  unfolding pass_of
  pass-eq p k =
      let x : Kept = seeds_by s1 s2 s3 p k in
      ap (λ (z : Kept). best_of p (left_by r1 r2 r3 p z)) (seeds-eq p k)
      ∙ ap (best_of p) (closed-eq x.sides (bounds_to tables p x.sides x.u 4096))

-- ---- the definition
module _ (rule : Rule) (t : Targets) (p : ℕ) where
  abbrev r1 : Resolved
  r1 = solved1 tables rule t.t1 p

  abbrev r2 : Resolved
  r2 = solved2 tables rule t.t2 p

  abbrev r3 : Resolved
  r3 = solved3 tables rule t.t3 p

  abbrev kept_of : Seed → Kept
  kept_of s = record { sides = s.sides; u = s.u }

  -- one seed join, its three entries exact or not
  abbrev made : Seed → Way → Bool → Bool → Bool → Kept
  made s w x1 x2 x3 =
      record {
        sides =
            record {
              e1 = cond x1 s.sides.e1 (set s.sides.e1 w.i1 (r1 w.i1));
              e2 = cond x2 s.sides.e2 (set s.sides.e2 w.i2 (r2 w.i2));
              e3 = cond x3 s.sides.e3 (set s.sides.e3 w.i3 (r3 w.i3));
            };
        u = cond (x1 && (x2 && x3)) (lower s.u w.cost) s.u;
      }

  abbrev meant : Seed → Way → Bool → Bool → Bool → Seed
  meant s w x1 x2 x3 =
      cond (x1 && (x2 && x3)) (record { sides = s.sides; u = lower s.u w.cost; done = true })
      (record { sides = (made s w x1 x2 x3).sides; u = s.u; done = false })

  once_is : (s : Seed) (w : Way) → once_by r1 r2 r3 (kept_of s) (head_by s.sides w) ≡ kept_of (seed_by tables rule t p s w)
  once_is s w = go (ent_at s.sides.e1 w.i1).exact (ent_at s.sides.e2 w.i2).exact (ent_at s.sides.e3 w.i3).exact
    where
      go : (x1 x2 x3 : Bool) → made s w x1 x2 x3 ≡ kept_of (meant s w x1 x2 x3)
      go true true true = refl
      go true true false = refl
      go true false x3 = refl
      go false x2 x3 = refl

  -- where its path is all exact
  abbrev exactly : Seed → Way → Seed
  exactly s w = record { sides = s.sides; u = lower s.u w.cost; done = true }

  done_is : (s : Seed) (w : Way) → (seed_by tables rule t p s w).done ≡ all_exact s.sides w
  done_is s w = go (all_exact s.sides w) (kept_of (exactly s w)) (record { sides = seeded tables rule t p s.sides w; u = s.u })
    where
      go : (b : Bool) (x y : Kept)
          → (cond {A = Seed} b (record { sides = x.sides; u = x.u; done = true }) (record { sides = y.sides; u = y.u; done = false })).done ≡ b
      go true x y = refl
      go false x y = refl

  -- a second time it lowers nothing
  lower_twice : (u c : Float) → lower (lower u c) c ≡ lower u c
  lower_twice u c = go (lt c u) refl
    where
      go : (b : Bool) → lt c u ≡ b → cond (lt c (cond b c u)) c (cond b c u) ≡ cond b c u
      go true e = cond_same Float (lt c c) c
      go false e = ap (λ (z : Bool). cond z c u) e

  seed_exact : (s : Seed) (w : Way) → all_exact s.sides w ≡ true → seed_by tables rule t p s w ≡ exactly s w
  seed_exact s w e =
      ap (λ (b : Bool). cond b (exactly s w) (record { sides = seeded tables rule t p s.sides w; u = s.u; done = false })) e

  -- the same seed join once more changes nothing
  again_is : (s : Seed) (w : Way) → all_exact s.sides w ≡ true
      → once_by r1 r2 r3 (kept_of (seed_by tables rule t p s w)) (head_by s.sides w) ≡ kept_of (seed_by tables rule t p s w)
  again_is s w e =
      let first = seed_exact s w e in
      ap (λ (a : Seed). once_by r1 r2 r3 (kept_of a) (head_by s.sides w)) first
      ∙ (once_is (exactly s w) w ∙ (ap kept_of (seed_exact (exactly s w) w e)
      ∙ (ap (λ (u : Float). record { sides = s.sides; u = u }) (lower_twice s.u w.cost) ∙ sym (ap kept_of first))))

  abbrev next : Seed → Seed
  next s = seed_by tables rule t p s (join tables p s.sides)

  second_is : (s : Seed) (w : Way) (b : Bool) → all_exact s.sides w ≡ b
      → once_by r1 r2 r3 (kept_of (seed_by tables rule t p s w)) (cond b (head_by s.sides w) (head_of p (seed_by tables rule t p s w).sides))
      ≡ kept_of (cond b (seed_by tables rule t p s w) (next (seed_by tables rule t p s w)))
  unfolding head_of
  second_is s w true e = again_is s w e
  second_is s w false e = once_is (seed_by tables rule t p s w) (join tables p (seed_by tables rule t p s w).sides)

  -- both seed joins
  seeds_are : (s : Seed) → s.done ≡ false → seeds_by r1 r2 r3 p (kept_of s) ≡ kept_of (seed_to tables rule t p s 2)
  unfolding head_of seed_to
  seeds_are s e =
      let w : Way = join tables p s.sides in
      let a : Seed = seed_by tables rule t p s w in
      let one : seed_to tables rule t p s 1 ≡ a = ap (λ (b : Bool). cond b s a) e in
      ap (again_by r1 r2 r3 p (head_by s.sides w)) (once_is s w)
      ∙ (second_is s w (all_exact s.sides w) refl
      ∙ (ap (λ (b : Bool). kept_of (cond b a (next a))) (sym (done_is s w)) ∙ sym (ap (λ (x : Seed). kept_of (cond x.done x (next x))) one)))

  pub pass_is : (u0 : Float)
      → pass_of r1 r2 r3 p (record { sides = record { e1 = first_start t.t1 p; e2 = mid_starts t.t2 p; e3 = last_start t.t3 p }; u = u0 })
      ≡ parity tables rule t p u0
  unfolding pass_of parity closed_by closing starts first_start mid_starts last_start
  pass_is u0 = ap (λ (z : Kept). best_of p (left_by r1 r2 r3 p z)) (seeds_are (record { sides = starts tables t p; u = u0; done = false }) refl)
