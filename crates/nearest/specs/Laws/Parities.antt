-- The parities searched, in order: each winner that is found is a lattice point at its cost, y's parity finds one no dearer than y, and so the
-- search answers y.
use Rattle.std.specs.Prelude.{◌≡◌, refl, Bool, true, false, not, cond, ◌&&◌, ◌||◌, T, ℤ, Float}
use Rattle.std.proofs.Common.{sym, ap, ap₂, ◌∙◌, subst, le_trans, arith, lit≤}
use mathlib.Core.List.Memᴰ
use mathlib.Core.List.{List, [], ◌∷◌, Memᴰ}
use Prim.Native.Nat.{ℕ, ◌+◌, ◌*◌, ◌/◌, ◌%◌, ◌≤◌, ◌<◌}
use Rattle.std.proofs.Math.ListN.{get_or}
use Rattle.std.specs.Float.Ieee.{lt}
use Rattle.laws.specs.Laws.Tests.{is_true}
use Rattle.search.specs.Tables.{Tables}
use Rattle.search.specs.Entries.{Rule, end_start, mid_start}
use Rattle.search.specs.declared.Targets.{Targets}
use Rattle.search.specs.Parity.{Winner, parity, nobody, search, search_over, choose, cost_of, last_sides, seed_of}
use Rattle.search.specs.declared.Entry.{Entry}
use Rattle.search.specs.Join.{mid_at, last_at}
use Rattle.nearest.specs.Laws.Lattice.{Point, Same, dist8, Margin, M}
use Rattle.nearest.specs.Laws.Under.{Under, near_num, under-near, under-lt, under_not-lt}
use Rattle.nearest.specs.Laws.Entries.{ES, Mine}
use Rattle.nearest.specs.Laws.Pass.{Facts, last_final, last-mine}
use Rattle.nearest.specs.Laws.Winner.{EP, GoodTables, sec_of, Answer, join-answer, join-cheap}

-- ---- the choice between two, and the parities in order: what every step keeps is kept
pub choose-either : (Q : Winner → Type 0) (a b : Winner) → Q a → Q b → Q (choose a b)
choose-either Q a b x y = go (b.found && (not a.found || lt b.cost a.cost))
  where
    go : (c : Bool) → Q (cond c b a)
    go true = y
    go false = x

-- the choice by its tests: whether each was found, and which is cheaper
choose_by : (Q : Winner → Type 0) (a b : Winner) → (b.found ≡ false → Q a) → (b.found ≡ true → a.found ≡ false → Q b)
    → (b.found ≡ true → a.found ≡ true → lt b.cost a.cost ≡ true → Q b)
    → (b.found ≡ true → a.found ≡ true → lt b.cost a.cost ≡ false → Q a) → Q (choose a b)
choose_by Q a b none alone cheaper dearer = go b.found refl a.found refl (lt b.cost a.cost) refl
  where
    go : (x : Bool) → b.found ≡ x → (z : Bool) → a.found ≡ z → (l : Bool) → lt b.cost a.cost ≡ l → Q (cond (x && (not z || l)) b a)
    go false fx z fz l q = none fx
    go true fx false fz l q = alone fx fz
    go true fx true fz true q = cheaper fx fz q
    go true fx true fz false q = dearer fx fz q

pub over_each : (g : Tables) (u : Rule) (t : Targets) (Q : Winner → Type 0) (qs : List ℕ)
    → ((q : ℕ) → Memᴰ q qs → (best : Winner) → Q best → Q (choose best (parity g u t q (cost_of best))))
    → (best : Winner) → Q best → Q (search_over g u t best qs)
unfolding search_over
over_each g u t Q [] s best f = f
over_each g u t Q (q ∷ qs) s best f =
    over_each g u t Q qs (λ r m. s r (Memᴰ.tail m)) (choose best (parity g u t q (cost_of best))) (s q (Memᴰ.head refl) best f)

-- what a winner that was found is: the point of a parity searched, at its cost
module _ (g : Tables) (t : Targets) (ps : List ℕ) where
  pub record Settled (w : Winner) : Type 0 where
    pub among : Memᴰ w.p ps
    pub answer : Answer g t w.p w

  abbrev Fine : Winner → Type 0
  Fine w = w.found ≡ true → Settled w

  -- and one that was found at a cost of at most B
  pub record Cheap (B : ℕ) (w : Winner) : Type 0 where
    pub found : w.found ≡ true
    pub under : Under w.cost B

  choose-keeps : (B : ℕ) (a b : Winner) → Cheap B a → Fine b → Cheap B (choose a b)
  choose-keeps B a b c f = choose_by (Cheap B) a b (λ fx. c) (λ fx fz. absurd (subst T (sym c.found ∙ fz) tt))
      (λ fx fz q. record { found = fx; under = under-lt b.cost a.cost (near_num (f fx).answer.near) c.under q }) (λ fx fz q. c)

  choose_takes : (B : ℕ) (a b : Winner) → Fine a → Cheap B b → Cheap B (choose a b)
  choose_takes B a b f c = choose_by (Cheap B) a b (λ fx. absurd (subst T (sym c.found ∙ fx) tt)) (λ fx fz. c) (λ fx fz q. c)
      (λ fx fz q. record { found = fz; under = under_not-lt b.cost a.cost c.under (near_num (f fz).answer.near) q })

module _ (g : Tables) (u : Rule) (t : Targets) (G : GoodTables g) (ps : List ℕ) (PS : (q : ℕ) → Memᴰ q ps → q < 2)
    (F : (q : ℕ) → Memᴰ q ps → Facts g u t q) where
  -- ---- one parity
  parity-fine : (q : ℕ) → Memᴰ q ps → (u0 : Float) → Fine g t ps (parity g u t q u0)
  unfolding parity
  parity-fine q i u0 f =
      record { among = i; answer = join-answer g t q (PS q i) G (last_sides g u t q (seed_of g u t q u0)) (last_final g u t q (F q i) u0) f }

  parity-cheap : (B q : ℕ) (u0 : Float) → Under (parity g u t q u0).cost B → Cheap g t ps B (parity g u t q u0)
  unfolding parity
  parity-cheap B q u0 x = record { found = is_true (parity g u t q u0).found x.fin; under = x }

  -- ---- the parities in order
  abbrev Within : List ℕ → Type 0
  Within qs = (q : ℕ) → Memᴰ q qs → Memᴰ q ps

  step-fine : (q : ℕ) → Memᴰ q ps → (best : Winner) → Fine g t ps best → Fine g t ps (choose best (parity g u t q (cost_of best)))
  step-fine q i best f = choose-either (Fine g t ps) best (parity g u t q (cost_of best)) f (parity-fine q i (cost_of best))

  over_takes : (B p : ℕ) → ((u0 : Float) → Under (parity g u t p u0).cost B) → (qs : List ℕ) → Within qs → Memᴰ p qs
      → (best : Winner) → Fine g t ps best → Cheap g t ps B (search_over g u t best qs)
  unfolding search_over
  over_takes B p x [] i m best f = absurd (Memᴰ.not-nil m)
  over_takes B p x (q ∷ qs) i (Memᴰ.head e) best f =
      over_each g u t (Cheap g t ps B) qs
      (λ r m b c. choose-keeps g t ps B b (parity g u t r (cost_of b)) c (parity-fine r (i r (Memᴰ.tail m)) (cost_of b)))
      (choose best (parity g u t q (cost_of best)))
      (choose_takes g t ps B best (parity g u t q (cost_of best)) f
      (parity-cheap B q (cost_of best) (subst (λ (r : ℕ). Under (parity g u t r (cost_of best)).cost B) e (x (cost_of best)))))
  over_takes B p x (q ∷ qs) i (Memᴰ.tail m) best f =
      over_takes B p x qs (λ r n. i r (Memᴰ.tail n)) m (choose best (parity g u t q (cost_of best)))
      (step-fine q (i q (Memᴰ.head refl)) best f)

  none-fine : Fine g t ps nobody
  none-fine e = absurd (subst T (sym e) tt)

  module _ (y1 y2 y3 : ℕ → ℤ) (H : Margin g t ps y1 y2 y3) where
    abbrev BY : ℕ
    BY = dist8 y1 t.t1 + ES + (dist8 y2 t.t2 + ES) + (dist8 y3 t.t3 + ES) + (ES + ES + ES + EP)

    -- the winner is y
    pub record IsY (w : Winner) : Type 0 where
      pub found : w.found ≡ true
      pub one : Same (sec_of w.p w.s1) y1
      pub two : Same (sec_of w.p w.s2) y2
      pub three : Same (sec_of w.p w.s3) y3

    -- a point that costs no more than y is y
    cheap_is : (w : Winner) → Settled g t ps w → Cheap g t ps BY w → IsY w
    cheap_is w s c =
        let q = w.p in
        let r = H q s.among (sec_of q w.s1) (sec_of q w.s2) (sec_of q w.s3) s.answer.point
        (le_trans (under-near s.answer.near c.under) (small (dist8 y1 t.t1) (dist8 y2 t.t2) (dist8 y3 t.t3) ES EP M (lit≤ tt))) in
        record { found = c.found; one = r.0; two = r.1; three = r.2 }
      where
        small : (a b c e f m : ℕ) → 6 * e + 2 * f ≤ m → a + e + (b + e) + (c + e) + (e + e + e + f) + f ≤ a + b + c + m
        small a b c e f m h = omega arith

    module _ (p : ℕ) (I0 : Memᴰ p ps) (Y : Point g p y1 y2 y3)
        (m1 : Mine (end_start g t.t1 0 p Y.r1 Y.s8) (dist8 y1 t.t1 + ES))
        (m2 : Mine (mid_start g t.t2 p (get_or g.mid (Y.s8 * 16 + Y.b2) 0) Y.r2) (dist8 y2 t.t2 + ES))
        (m3 : Mine (end_start g t.t3 1 p ((p + Y.r1 + Y.r2) % 2) (get_or g.nxt (Y.s8 * 16 + Y.b2) 0)) (dist8 y3 t.t3 + ES)) where
      -- y's path in the join
      abbrev i_y : ℕ
      i_y = 64 * Y.r1 + Y.s8

      abbrev n_y : ℕ
      n_y = 2 * Y.b2 + Y.r2

      i_half : i_y / 64 ≡ Y.r1
      i_half = let a = Y.s8-lt in omega arith

      i_rest : i_y % 64 ≡ Y.s8
      i_rest = let a = Y.s8-lt in omega arith

      n_half : n_y / 2 ≡ Y.b2
      n_half = let a = Y.r2-lt in omega arith

      n_bit : n_y % 2 ≡ Y.r2
      n_bit = let a = Y.r2-lt in omega arith

      i_lt : i_y < 128
      i_lt = let a = Y.s8-lt in let b = Y.r1-lt in omega arith

      n-lt : n_y < 32
      n-lt = let a = Y.b2-lt in let b = Y.r2-lt in omega arith

      at_is : i_y % 64 * 16 + n_y / 2 ≡ Y.s8 * 16 + Y.b2
      at_is = ap₂ (λ (a b : ℕ). a * 16 + b) i_rest n_half

      at_lt : Y.s8 * 16 + Y.b2 < 1024
      at_lt = let a = Y.s8-lt in let b = Y.b2-lt in omega arith

      m_is : mid_at g i_y n_y ≡ 2 * get_or g.ix (Y.s8 * 16 + Y.b2) 0 + Y.r2
      m_is = ap₂ (λ (a b : ℕ). 2 * get_or g.ix a 0 + b) at_is n_bit

      z_is : last_at g p i_y n_y ≡ (p + Y.r1 + Y.r2) % 2 * 64 + get_or g.nxt (Y.s8 * 16 + Y.b2) 0
      z_is = ap₂ (λ (a b : ℕ). (p + a + b) % 2 * 64 + get_or g.nxt (i_y % 64 * 16 + n_y / 2) 0) i_half n_bit
          ∙ ap (λ (a : ℕ). (p + Y.r1 + Y.r2) % 2 * 64 + get_or g.nxt a 0) at_is

      under_y : (u0 : Float) → Under (parity g u t p u0).cost BY
      unfolding parity
      under_y u0 =
          join-cheap g t p (PS p I0) G (last_sides g u t p (seed_of g u t p u0)) (last_final g u t p (F p I0) u0) i_y n_y
          (dist8 y1 t.t1 + ES) (dist8 y2 t.t2 + ES) (dist8 y3 t.t3 + ES) i_lt n-lt
          (last-mine g u t p (F p I0) i_y (mid_at g i_y n_y) (last_at g p i_y n_y) (dist8 y1 t.t1 + ES) (dist8 y2 t.t2 + ES)
          (dist8 y3 t.t3 + ES) i_lt m-lt z-lt n1 n2 n3 u0)
        where
          x : ℕ
          x = get_or g.ix (Y.s8 * 16 + Y.b2) 0

          y : ℕ
          y = get_or g.nxt (Y.s8 * 16 + Y.b2) 0

          x_lt : get_or g.ix (Y.s8 * 16 + Y.b2) 0 < 128
          x_lt = G.ix-lt (Y.s8 * 16 + Y.b2) at_lt

          y-lt : get_or g.nxt (Y.s8 * 16 + Y.b2) 0 < 64
          y-lt = G.nxt-lt (Y.s8 * 16 + Y.b2) at_lt

          two-lt : (m x r : ℕ) → m ≡ 2 * x + r → x < 128 → r < 2 → m < 256
          two-lt m x r e h k = omega arith

          end_lt : (m q x : ℕ) → m ≡ q % 2 * 64 + x → x < 64 → m < 128
          end_lt m q x e h = omega arith

          m-lt : mid_at g i_y n_y < 256
          m-lt = two-lt (mid_at g i_y n_y) (get_or g.ix (Y.s8 * 16 + Y.b2) 0) Y.r2 m_is x_lt Y.r2-lt

          z-lt : last_at g p i_y n_y < 128
          z-lt = end_lt (last_at g p i_y n_y) (p + Y.r1 + Y.r2) (get_or g.nxt (Y.s8 * 16 + Y.b2) 0) z_is y-lt

          halves : (m x r : ℕ) → m ≡ 2 * x + r → r < 2 → (m / 2 ≡ x) × (m % 2 ≡ r)
          halves m x r e h = (omega arith, omega arith)

          parts : (m q x : ℕ) → m ≡ q % 2 * 64 + x → x < 64 → (m / 64 ≡ q % 2) × (m % 64 ≡ x)
          parts m q x e h = (omega arith, omega arith)

          n1 : Mine (end_start g t.t1 0 p (i_y / 64) (i_y % 64)) (dist8 y1 t.t1 + ES)
          n1 = subst (λ (e : Entry). Mine e (dist8 y1 t.t1 + ES)) (ap₂ (end_start g t.t1 0 p) (sym i_half) (sym i_rest)) m1

          n2 : Mine (mid_start g t.t2 p (get_or g.sets (mid_at g i_y n_y / 2) 0) (mid_at g i_y n_y % 2)) (dist8 y2 t.t2 + ES)
          n2 = subst (λ (e : Entry). Mine e (dist8 y2 t.t2 + ES))
              (ap₂ (mid_start g t.t2 p)
              (sym (ap (λ (m : ℕ). get_or g.sets m 0)
              (halves (mid_at g i_y n_y) (get_or g.ix (Y.s8 * 16 + Y.b2) 0) Y.r2 m_is Y.r2-lt).0
              ∙ G.ix_byte (Y.s8 * 16 + Y.b2) at_lt))
              (sym (halves (mid_at g i_y n_y) (get_or g.ix (Y.s8 * 16 + Y.b2) 0) Y.r2 m_is Y.r2-lt).1)) m2

          n3 : Mine (end_start g t.t3 1 p (last_at g p i_y n_y / 64) (last_at g p i_y n_y % 64)) (dist8 y3 t.t3 + ES)
          n3 = subst (λ (e : Entry). Mine e (dist8 y3 t.t3 + ES))
              (ap₂ (end_start g t.t3 1 p) (sym (parts (last_at g p i_y n_y) (p + Y.r1 + Y.r2) (get_or g.nxt (Y.s8 * 16 + Y.b2) 0) z_is y-lt).0)
              (sym (parts (last_at g p i_y n_y) (p + Y.r1 + Y.r2) (get_or g.nxt (Y.s8 * 16 + Y.b2) 0) z_is y-lt).1)) m3

      pub winner_is_y : IsY (search g u t ps)
      unfolding search
      winner_is_y =
          let c = over_takes BY p under_y ps (λ q m. m) I0 nobody none-fine in
          cheap_is (search_over g u t nobody ps) (over_each g u t (Fine g t ps) ps step-fine nobody none-fine c.found) c
