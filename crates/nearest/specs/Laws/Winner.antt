-- The winner of a parity is a lattice point whose cost is near its distance; with y's entries it costs no more than y.
use Rattle.std.specs.Prelude.{◌≡◌, ◌⊎◌, true, List, ℕ, ◌+◌, ◌*◌, ◌/◌, ◌%◌, ◌^◌, ◌≤◌, ◌<◌, T, get_or, ℤ, Float}
use Rattle.std.proofs.Common.{sym, ap, ◌∙◌, subst, inl, inr, le_refl, lt_of_le_of_lt, mod-lt, zero-lt-suc, arith, lit≤}
use Rattle.std.specs.Float.{binary64}
use Rattle.std.specs.Float.Ieee.{add}
use Rattle.std.specs.Float.Ieee.Scale.{finite}
use Rattle.float.specs.Value.{U}
use Rattle.float.specs.Laws.Near.{Near, near-more}
use Rattle.search.specs.Tables.{Tables}
use Rattle.search.specs.Entries.{section_at}
use Rattle.search.specs.declared.Targets.{Targets}
use Rattle.search.specs.Parity.{Winner, winner_of}
use Rattle.search.specs.declared.Entry.{Entry}
use Rattle.search.specs.declared.Sides.{Sides}
use Rattle.search.specs.Join.{ent_at, way_at, cost_at, mid_at, last_at, join_to}
use Rattle.search.specs.declared.Way.{Way}
use Rattle.search.specs.Solve.{infinity}
use Rattle.nearest.specs.Laws.Lattice.{Sec, Point, dist8, dist24}
use Rattle.nearest.specs.Laws.Under.{Num, Plain, Under, near-under, under-near, under_more, clash, sum3, either_num, sum3_case}
use Rattle.nearest.specs.Laws.Entries.{ES, Room, Good, Final, EndByte}
use Rattle.nearest.specs.Laws.Pass.{AllFinal, AllMine, MidByte}
use Rattle.nearest.specs.Laws.Operations.{H, near-plus}
use Rattle.nearest.specs.Laws.Join.{Seen, join_seen, join-under}

abbrev pub EP : ℕ
EP = 2 ^ 2121

pub record GoodTables (g : Tables) : Type 0 where
  pub ix-lt : (k : ℕ) → k < 1024 → get_or g.ix k 0 < 128
  pub nxt-lt : (k : ℕ) → k < 1024 → get_or g.nxt k 0 < 64
  pub ix_byte : (k : ℕ) → k < 1024 → get_or g.sets (get_or g.ix k 0) 0 ≡ get_or g.mid k 0

-- ---- the entries of a path
branch-lt : (i n : ℕ) → n < 32 → i % 64 * 16 + n / 2 < 1024
branch-lt i n h = let a = mod-lt i (zero-lt-suc 63) in omega arith

pub mid_at-lt : (g : Tables) → GoodTables g → (i n : ℕ) → n < 32 → mid_at g i n < 256
mid_at-lt g G i n h = go (get_or g.ix (i % 64 * 16 + n / 2) 0) n (G.ix-lt (i % 64 * 16 + n / 2) (branch-lt i n h))
  where
    go : (x n : ℕ) → x < 128 → 2 * x + n % 2 < 256
    go x n h = let a = mod-lt n (zero-lt-suc 1) in omega arith

pub last_at-lt : (g : Tables) → GoodTables g → (p i n : ℕ) → n < 32 → last_at g p i n < 128
last_at-lt g G p i n h = go (get_or g.nxt (i % 64 * 16 + n / 2) 0) (p + i / 64 + n % 2) (G.nxt-lt (i % 64 * 16 + n / 2) (branch-lt i n h))
  where
    go : (x q : ℕ) → x < 64 → q % 2 * 64 + x < 128
    go x q h = omega arith

-- their numbers taken apart
pub mid_half : (x n : ℕ) → (2 * x + n % 2) / 2 ≡ x
mid_half x n = let a = mod-lt n (zero-lt-suc 1) in omega arith

pub mid_bit : (x n : ℕ) → (2 * x + n % 2) % 2 ≡ n % 2
mid_bit x n = let a = mod-lt n (zero-lt-suc 1) in omega arith

pub end_half : (q x : ℕ) → x < 64 → (q % 2 * 64 + x) / 64 ≡ q % 2
end_half q x h = omega arith

pub end_rest : (q x : ℕ) → x < 64 → (q % 2 * 64 + x) % 64 ≡ x
end_rest q x h = omega arith

-- ---- a path of three entries
abbrev pub sec_of : ℕ → Entry → ℕ → ℤ
sec_of p e = section_at p e.byte e.key

abbrev cost3 : Entry → Entry → Entry → Float
cost3 a b c = sum3 a.value b.value c.value

plain : {P : ℕ → Type 0} {p r : ℕ} {ts : List Float} (e : Entry) → Good P p r ts e → Plain e.value
plain e x = record { fit = x.stands.near.fit; fin = x.stands.near.fin }

near2 : {P Q : ℕ → Type 0} {p r d : ℕ} (t : Targets) (a b : Entry) → Good P p r t.t1 a → Good Q p d t.t2 b
    → Near U (add binary64 a.value b.value) (dist8 (sec_of p a) t.t1 + dist8 (sec_of p b) t.t2) (0 + 0) (ES + ES + H)
near2 {p = p} t a b x y =
    near-plus x.stands.near y.stands.near
    (lt_of_le_of_lt (cap2 (dist8 (sec_of p a) t.t1) (dist8 (sec_of p b) t.t2) Room ES x.stands.room y.stands.room) (lit≤ tt))
  where
    cap2 : (d1 d2 m e : ℕ) → d1 ≤ m → d2 ≤ m → d1 + 0 + e + (d2 + 0 + e) ≤ m + e + (m + e)
    cap2 d1 d2 m e h k = omega arith

module _ {P Q R : ℕ → Type 0} {p r d s : ℕ} (t : Targets) (a b c : Entry) where
  near3 : Good P p r t.t1 a → Good Q p d t.t2 b → Good R p s t.t3 c
      → Near U (cost3 a b c) (dist24 t (sec_of p a) (sec_of p b) (sec_of p c)) 0 EP
  near3 x y z =
      near-more EP (near-plus (near2 t a b x y) z.stands.near
      (lt_of_le_of_lt (cap3 (dist8 (sec_of p a) t.t1) (dist8 (sec_of p b) t.t2) (dist8 (sec_of p c) t.t3) Room ES H x.stands.room
      y.stands.room z.stands.room) (lit≤ tt))) (lit≤ tt)
    where
      cap3 : (d1 d2 d3 m e h : ℕ) → d1 ≤ m → d2 ≤ m → d3 ≤ m → d1 + d2 + (0 + 0) + (e + e + h) + (d3 + 0 + e) ≤ m + m + m + (e + e + h + e)
      cap3 d1 d2 d3 m e h x y z = omega arith

  cost_case : Final P p r t.t1 a → Final Q p d t.t2 b → Final R p s t.t3 c
      → (cost3 a b c ≡ infinity) ⊎ (Good P p r t.t1 a × Good Q p d t.t2 b × Good R p s t.t3 c)
  cost_case =
      sum3_case a.value b.value c.value (plain a) (plain b) (plain c)
      (λ x y. let n = near2 t a b x y in record { fit = n.fit; fin = n.fin })

  cost_num : Final P p r t.t1 a → Final Q p d t.t2 b → Final R p s t.t3 c → Num (cost3 a b c)
  cost_num f h k =
      either_num (λ q. let n = near3 q.0 q.1 q.2 in record { fit = n.fit; fin = n.fin }) (cost_case f h k)

final_good : {P : ℕ → Type 0} {p r : ℕ} {ts : List Float} (e : Entry) {B : ℕ} → Final P p r ts e → Under e.value B → Good P p r ts e
final_good e (inl q) u = absurd (subst (λ (x : Float). T (finite x)) q u.fin)
final_good e (inr a) u = a

-- ---- the answer of a parity
pub record Answer (g : Tables) (t : Targets) (p : ℕ) (w : Winner) : Type 0 where
  pub point : Point g p (sec_of p w.s1) (sec_of p w.s2) (sec_of p w.s3)
  pub near : Near U w.cost (dist24 t (sec_of p w.s1) (sec_of p w.s2) (sec_of p w.s3)) 0 EP

module _ (g : Tables) (t : Targets) (p : ℕ) (P0 : p < 2) (G : GoodTables g) (s : Sides) (F : AllFinal g t p s) where
  m-lt : (i n : ℕ) → n < 32 → mid_at g i n < 256
  m-lt = mid_at-lt g G

  n-lt : (i n : ℕ) → n < 32 → last_at g p i n < 128
  n-lt = last_at-lt g G p

  pub way_num : (i n : ℕ) → i < 128 → n < 32 → Num (cost_at g p s i n)
  way_num i n h k = cost_num t (ent_at s.e1 i) (ent_at s.e2 (mid_at g i n)) (ent_at s.e3 (last_at g p i n)) (F.one i h)
      (F.two (mid_at g i n) (m-lt i n k)) (F.three (last_at g p i n) (n-lt i n k))

  -- the point of a path
  way-answer : (i n : ℕ) → i < 128 → n < 32 → finite (cost_at g p s i n) ≡ true → Answer g t p (winner_of p s (way_at g p s i n))
  way-answer i n h k f = go (cost_case t e1 e2 e3 (F.one i h) (F.two (mid_at g i n) (m-lt i n k)) (F.three (last_at g p i n) (n-lt i n k)))
    where
      e1 : Entry
      e1 = ent_at s.e1 i

      e2 : Entry
      e2 = ent_at s.e2 (mid_at g i n)

      e3 : Entry
      e3 = ent_at s.e3 (last_at g p i n)

      x : ℕ
      x = get_or g.ix (i % 64 * 16 + n / 2) 0

      go : (cost_at g p s i n ≡ infinity)
          ⊎ (Good (EndByte g 0 (i % 64)) p (i / 64) t.t1 (ent_at s.e1 i)
          × Good (MidByte g (mid_at g i n)) p (mid_at g i n % 2) t.t2 (ent_at s.e2 (mid_at g i n))
          × Good (EndByte g 1 (last_at g p i n % 64)) p (last_at g p i n / 64) t.t3 (ent_at s.e3 (last_at g p i n)))
          → Answer g t p (winner_of p s (way_at g p s i n))
      go (inl e) = absurd (clash f (ap finite e))
      go (inr q) =
          let a = q.0 in
          let b = q.1 in
          let c = q.2 in
          let y = get_or g.nxt (i % 64 * 16 + n / 2) 0 in
          let y-lt = G.nxt-lt (i % 64 * 16 + n / 2) (branch-lt i n k) in
          record {
            point = record {
              s8 = i % 64;
              b1 = a.byte.0;
              b2 = n / 2;
              b3 = c.byte.0;
              r1 = i / 64;
              r2 = n % 2;
              s8-lt = mod-lt i (zero-lt-suc 63);
              b1-lt = a.byte.1;
              b2-lt = omega arith;
              b3-lt = c.byte.1;
              r1-lt = omega arith;
              r2-lt = mod-lt n (zero-lt-suc 1);
              sec1 = subst (λ (x : ℕ). Sec p x (i / 64) (sec_of p (ent_at s.e1 i))) a.byte.2 a.stands.sec;
              sec2 = subst (λ (x : ℕ). Sec p x (n % 2) (sec_of p (ent_at s.e2 (mid_at g i n))))
                  (b.byte ∙ ap (λ (m : ℕ). get_or g.sets m 0) (mid_half (get_or g.ix (i % 64 * 16 + n / 2) 0) n)
                  ∙ G.ix_byte (i % 64 * 16 + n / 2) (branch-lt i n k))
                  (subst (λ (r : ℕ). Sec p (ent_at s.e2 (mid_at g i n)).byte r (sec_of p (ent_at s.e2 (mid_at g i n))))
                  (mid_bit (get_or g.ix (i % 64 * 16 + n / 2) 0) n) b.stands.sec);
              sec3 = subst (λ (x : ℕ). Sec p x ((p + i / 64 + n % 2) % 2) (sec_of p (ent_at s.e3 (last_at g p i n))))
                  (c.byte.2 ∙ ap (λ (m : ℕ). get_or g.suf (2 * m + c.byte.0) 0)
                  (end_rest (p + i / 64 + n % 2) (get_or g.nxt (i % 64 * 16 + n / 2) 0) y-lt))
                  (subst (λ (r : ℕ). Sec p (ent_at s.e3 (last_at g p i n)).byte r (sec_of p (ent_at s.e3 (last_at g p i n))))
                  (end_half (p + i / 64 + n % 2) (get_or g.nxt (i % 64 * 16 + n / 2) 0) y-lt) c.stands.sec);
            };
            near = near3 t (ent_at s.e1 i) (ent_at s.e2 (mid_at g i n)) (ent_at s.e3 (last_at g p i n)) a b c;
          }

  pub join-answer : finite (join_to g p s 128).cost ≡ true → Answer g t p (winner_of p s (join_to g p s 128))
  join-answer f = go (join_seen g p s way_num 128 (le_refl 128))
    where
      go : Seen g p s (join_to g p s 128) → Answer g t p (winner_of p s (join_to g p s 128))
      go (inl e) = absurd (clash f (ap finite e))
      go (inr q) = subst (λ (w : Way). Answer g t p (winner_of p s w)) (sym q.4)
          (way-answer q.0 q.1 q.2 q.3 (sym (ap (λ (w : Way). finite w.cost) q.4) ∙ f))

  -- y's path is i, n; its three entries are at most B1, B2, B3
  pub join-cheap : (i n B1 B2 B3 : ℕ) → i < 128 → n < 32 → AllMine s i (mid_at g i n) (last_at g p i n) B1 B2 B3
      → Under (join_to g p s 128).cost (B1 + B2 + B3 + (ES + ES + ES + EP))
  join-cheap i n B1 B2 B3 h k m =
      join-under g p s way_num i n k (under_more (B1 + B2 + B3 + (ES + ES + ES + EP)) m.one.under (le-first B1 B2 B3 (ES + ES + ES + EP)))
      (cost-under (final_good (ent_at s.e1 i) (F.one i h) m.one.under)
      (final_good (ent_at s.e2 (mid_at g i n)) (F.two (mid_at g i n) (m-lt i n k)) m.two.under)
      (final_good (ent_at s.e3 (last_at g p i n)) (F.three (last_at g p i n) (n-lt i n k)) m.three.under)) 128 (le_refl 128) h
    where
      le-first : (a b c d : ℕ) → a ≤ a + b + c + d
      le-first a b c d = omega arith

      sum-le : (d1 d2 d3 a b c e f : ℕ) → d1 ≤ a + e → d2 ≤ b + e → d3 ≤ c + e → d1 + d2 + d3 + f ≤ a + b + c + (e + e + e + f)
      sum-le d1 d2 d3 a b c e f x y z = omega arith

      cost-under : Good (EndByte g 0 (i % 64)) p (i / 64) t.t1 (ent_at s.e1 i)
          → Good (MidByte g (mid_at g i n)) p (mid_at g i n % 2) t.t2 (ent_at s.e2 (mid_at g i n))
          → Good (EndByte g 1 (last_at g p i n % 64)) p (last_at g p i n / 64) t.t3 (ent_at s.e3 (last_at g p i n))
          → Under (cost_at g p s i n) (B1 + B2 + B3 + (ES + ES + ES + EP))
      cost-under a b c = near-under (B1 + B2 + B3 + (ES + ES + ES + EP))
          (near3 t (ent_at s.e1 i) (ent_at s.e2 (mid_at g i n)) (ent_at s.e3 (last_at g p i n)) a b c)
          (sum-le (dist8 (sec_of p (ent_at s.e1 i)) t.t1) (dist8 (sec_of p (ent_at s.e2 (mid_at g i n))) t.t2)
          (dist8 (sec_of p (ent_at s.e3 (last_at g p i n))) t.t3) B1 B2 B3 ES EP
          (under-near a.stands.near m.one.under) (under-near b.stands.near m.two.under)
          (under-near c.stands.near m.three.under))
