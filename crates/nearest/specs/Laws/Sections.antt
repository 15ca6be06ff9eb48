-- The lattice in trio order and for any tables: 24 doubles, 24 whole numbers, the lattice by parity, path and sum of k, the exact squared
-- distance in units of 2 ^ -2148. The theorem over it: proofs/Sections.
use Rattle.std.specs.Prelude.{◌≡◌, refl, ◌≢◌, ◌⊎◌, Bool, cond, ℕ, zero, suc, ◌+◌, ◌-◌, ◌*◌, ◌/◌, ◌%◌, ◌≤◌, ◌<◌, ltb, get_or, length, ℤ, pos, Float}
use Rattle.std.proofs.Common.{sym, ap, ◌∙◌, subst, inl, inr, le_trans, le_of_eq, not-le_of_lt, mod-lt, zero-lt-suc, arith, lt-ltb, le-ltb}
use Rattle.std.proofs.Math.Path.{ap₂}
use mathlib.Core.List.{List, Memᴰ}
use Rattle.std.proofs.Math.Nat.{add-mod, mod-add-mod, add-sub_cancel_left}
use Rattle.std.proofs.Math.IntN.{ℤ_discrete}
use Rattle.std.specs.Float.{nan}
use Rattle.float.specs.Distance.{coord_gap}
use Rattle.laws.specs.Words.{tab}
use Rattle.laws.specs.Laws.Lists.{tab_at, tab-length}
use Rattle.laws.specs.Laws.Order.{le-or-lt}
use Rattle.search.specs.Tables.{Tables}
use Rattle.search.specs.declared.Targets.{Targets}
use Rattle.search.specs.Record.{member, bit_at}
use Rattle.search.specs.Block.{sections}
use Rattle.nearest.specs.Laws.Forms.{odd_k, sum_to, par_k, at24}
use Rattle.nearest.specs.Laws.Sums.{sum_same}
use Rattle.nearest.specs.Laws.Lattice.{Point, Same, dist8, dist24, Margin, M}

-- the codeword of index x in trio order, c1 + 256 c2 + 65536 c3; x packs s8, b1, b2, b3 at 0, 6, 7, 11
abbrev pub path_of : Tables → ℕ → ℕ
path_of g x = get_or g.pre (2 * (x % 64) + x / 64 % 2) 0 + 256 * get_or g.mid (x % 64 * 16 + x / 128 % 16) 0 + 65536 * get_or g.suf
    (2 * get_or g.nxt (x % 64 * 16 + x / 128 % 16) 0 + x / 2048) 0

-- the lattice in trio order, its bits by the path of a label
pub record LeechTrio (g : Tables) (z : List ℤ) : Type 0 where
  pub len : length z ≡ 24
  pub p : ℕ
  pub x : ℕ
  pub k : ℕ → ℤ
  pub p-lt : p < 2
  pub x_lt : x < 4096
  pub at : (j : ℕ) → j < 24 → at24 z j ≡ member (p + 2 * bit_at (path_of g x) j) (k j)
  pub sum : par_k k 24 ≡ p

abbrev pub sq_dist24 : List ℤ → List Float → ℕ
sq_dist24 z t = sum_to (λ j. coord_gap (at24 z j) (get_or t j nan) * coord_gap (at24 z j) (get_or t j nan)) 24

pub record Bytes (g : Tables) : Type 0 where
  pub pre : (s b : ℕ) → b < 2 → get_or g.pre (2 * s + b) 0 < 256
  pub mid : (s b : ℕ) → b < 16 → get_or g.mid (s * 16 + b) 0 < 256

-- ---- three times eight
eight : (P : ℕ → Type 0) → P 0 → P 1 → P 2 → P 3 → P 4 → P 5 → P 6 → P 7 → (j : ℕ) → j < 8 → P j
eight P a b c d e f g h zero l = a
eight P a b c d e f g h (suc zero) l = b
eight P a b c d e f g h (suc (suc zero)) l = c
eight P a b c d e f g h (suc (suc (suc zero))) l = d
eight P a b c d e f g h (suc (suc (suc (suc zero)))) l = e
eight P a b c d e f g h (suc (suc (suc (suc (suc zero))))) l = f
eight P a b c d e f g h (suc (suc (suc (suc (suc (suc zero)))))) l = g
eight P a b c d e f g h (suc (suc (suc (suc (suc (suc (suc zero))))))) l = h
eight P a b c d e f g h (suc (suc (suc (suc (suc (suc (suc (suc j)))))))) l = absurd (omega arith)

pub all24 : (P : ℕ → Type 0) → ((j : ℕ) → j < 8 → P j) → ((j : ℕ) → j < 8 → P (8 + j)) → ((j : ℕ) → j < 8 → P (16 + j)) → (j : ℕ) → j < 24 → P j
all24 P a b c j h = go (le-or-lt 8 j) (le-or-lt 16 j)
  where
    back : (m : ℕ) → m ≤ j → m + (j - m) ≡ j
    back m k = omega arith

    go : (8 ≤ j) ⊎ (j < 8) → (16 ≤ j) ⊎ (j < 16) → P j
    go (inr l) s = a j l
    go (inl k) (inr l) = subst P (back 8 k) (b (j - 8) (omega arith))
    go (inl k) (inl l) = subst P (back 16 l) (c (j - 16) (omega arith))

pub sum24 : (f : ℕ → ℕ) → sum_to f 24 ≡ sum_to f 8 + sum_to (λ j. f (8 + j)) 8 + sum_to (λ j. f (16 + j)) 8
unfolding sum_to
sum24 f = omega arith

pub bit_a : (a b c : ℕ) → a < 256 → (j : ℕ) → j < 8 → bit_at (a + 256 * b + 65536 * c) j ≡ bit_at a j
bit_a a b c A = eight (λ j. bit_at (a + 256 * b + 65536 * c) j ≡ bit_at a j) (omega arith) (omega arith) (omega arith) (omega arith)
    (omega arith) (omega arith) (omega arith) (omega arith)

pub bit_b : (a b c : ℕ) → a < 256 → b < 256 → (j : ℕ) → j < 8 → bit_at (a + 256 * b + 65536 * c) (8 + j) ≡ bit_at b j
bit_b a b c A B = eight (λ j. bit_at (a + 256 * b + 65536 * c) (8 + j) ≡ bit_at b j) (omega arith) (omega arith) (omega arith) (omega arith)
    (omega arith) (omega arith) (omega arith) (omega arith)

pub bit_c : (a b c : ℕ) → a < 256 → b < 256 → (j : ℕ) → j < 8 → bit_at (a + 256 * b + 65536 * c) (16 + j) ≡ bit_at c j
bit_c a b c A B = eight (λ j. bit_at (a + 256 * b + 65536 * c) (16 + j) ≡ bit_at c j) (omega arith) (omega arith) (omega arith) (omega arith)
    (omega arith) (omega arith) (omega arith) (omega arith)

abbrev pub sec1 : List ℤ → ℕ → ℤ
sec1 z j = at24 z j

abbrev pub sec2 : List ℤ → ℕ → ℤ
sec2 z j = at24 z (8 + j)

abbrev pub sec3 : List ℤ → ℕ → ℤ
sec3 z j = at24 z (16 + j)

pub up8 : {j : ℕ} → j < 8 → j < 24
up8 h = omega arith

pub up16 : {j : ℕ} → j < 8 → 8 + j < 24
up16 h = omega arith

pub up24 : {j : ℕ} → j < 8 → 16 + j < 24
up24 h = omega arith

mod3 : (a b c : ℕ) → (a + b + c) % 2 ≡ (a % 2 + b % 2 + c % 2) % 2
mod3 a b c = add-mod (a + b) c 2 ∙ ap (λ (z : ℕ). (z + c % 2) % 2) (add-mod a b 2) ∙ mod-add-mod (a % 2 + b % 2) 2 (c % 2)

pub turn : (r d p : ℕ) → p < 2 → (r + d + (p + r + d) % 2) % 2 ≡ p
turn r d p h = omega arith

-- ---- three functions of eight as one of twenty-four
unfoldable pub glue : {A : Type 0} → (ℕ → A) → (ℕ → A) → (ℕ → A) → ℕ → A
glue a b c j = cond (ltb j 8) (a j) (cond (ltb j 16) (b (j - 8)) (c (j - 16)))

pub glue1 : {A : Type 0} (a b c : ℕ → A) (j : ℕ) → j < 8 → glue a b c j ≡ a j
unfolding glue
glue1 a b c j h = ap (λ (t : Bool). cond t (a j) (cond (ltb j 16) (b (j - 8)) (c (j - 16)))) (lt-ltb j 8 h)

pub glue2 : {A : Type 0} (a b c : ℕ → A) (j : ℕ) → j < 8 → glue a b c (8 + j) ≡ b j
unfolding glue
glue2 a b c j h =
    ap (λ (t : Bool). cond t (a (8 + j)) (cond (ltb (8 + j) 16) (b (8 + j - 8)) (c (8 + j - 16)))) (le-ltb (8 + j) 8 (omega arith))
    ∙ ap (λ (t : Bool). cond t (b (8 + j - 8)) (c (8 + j - 16))) (lt-ltb (8 + j) 16 (omega arith)) ∙ ap b (add-sub_cancel_left 8 j)

pub glue3 : {A : Type 0} (a b c : ℕ → A) (j : ℕ) → j < 8 → glue a b c (16 + j) ≡ c j
unfolding glue
glue3 a b c j h =
    ap (λ (t : Bool). cond t (a (16 + j)) (cond (ltb (16 + j) 16) (b (16 + j - 8)) (c (16 + j - 16)))) (le-ltb (16 + j) 8 (omega arith))
    ∙ ap (λ (t : Bool). cond t (b (16 + j - 8)) (c (16 + j - 16))) (le-ltb (16 + j) 16 (omega arith)) ∙ ap c (add-sub_cancel_left 16 j)

-- ---- a lattice point by sections
module _ (g : Tables) (B : Bytes g) where
  abbrev c1 : ℕ → ℕ
  c1 x = get_or g.pre (2 * (x % 64) + x / 64 % 2) 0

  abbrev c2 : ℕ → ℕ
  c2 x = get_or g.mid (x % 64 * 16 + x / 128 % 16) 0

  abbrev c3 : ℕ → ℕ
  c3 x = get_or g.suf (2 * get_or g.nxt (x % 64 * 16 + x / 128 % 16) 0 + x / 2048) 0

  unfoldable pub point_of_lem : (z : List ℤ) (L : LeechTrio g z) → Point g L.p (sec1 z) (sec2 z) (sec3 z)
  point_of_lem z L =
      let x = L.x in
      let b1 = B.pre (x % 64) (x / 64 % 2) (mod-lt (x / 64) (zero-lt-suc 1)) in
      let b2 = B.mid (x % 64) (x / 128 % 16) (mod-lt (x / 128) (zero-lt-suc 15)) in
      record {
        s8 = x % 64;
        b1 = x / 64 % 2;
        b2 = x / 128 % 16;
        b3 = x / 2048;
        r1 = par_k L.k 8;
        r2 = par_k (λ j. L.k (8 + j)) 8;
        s8-lt = mod-lt x (zero-lt-suc 63);
        b1-lt = mod-lt (x / 64) (zero-lt-suc 1);
        b2-lt = mod-lt (x / 128) (zero-lt-suc 15);
        b3-lt = top x L.x_lt;
        r1-lt = mod-lt (sum_to (λ j. odd_k (L.k j)) 8) (zero-lt-suc 1);
        r2-lt = mod-lt (sum_to (λ j. odd_k (L.k (8 + j))) 8) (zero-lt-suc 1);
        sec1 = record {
          k = L.k;
          at =
              λ j h. L.at j (up8 h) ∙ ap (λ (b : ℕ). member (L.p + 2 * b) (L.k j)) (bit_a (c1 x) (c2 x) (c3 x) b1 j h);
          class = refl;
        };
        sec2 = record {
          k = λ j. L.k (8 + j);
          at = λ j h.
              L.at (8 + j) (up16 h) ∙ ap (λ (b : ℕ). member (L.p + 2 * b) (L.k (8 + j))) (bit_b (c1 x) (c2 x) (c3 x) b1 b2 j h);
          class = refl;
        };
        sec3 = record {
          k = λ j. L.k (16 + j);
          at = λ j h. L.at (16 + j) (up24 h) ∙ ap (λ (b : ℕ). member (L.p + 2 * b) (L.k (16 + j))) (bit_c (c1 x) (c2 x) (c3 x) b1 b2 j h);
          class = rest (sum_to (λ j. odd_k (L.k j)) 8) (sum_to (λ j. odd_k (L.k (8 + j))) 8) (sum_to (λ j. odd_k (L.k (16 + j))) 8)
              (sum_to (λ j. odd_k (L.k j)) 24) L.p (sum24 (λ j. odd_k (L.k j))) L.sum;
        };
      }
    where
      top : (x : ℕ) → x < 4096 → x / 2048 < 2
      top x h = omega arith

      rest : (a b c s p : ℕ) → s ≡ a + b + c → s % 2 ≡ p → c % 2 ≡ (p + a % 2 + b % 2) % 2
      rest a b c s p h k = omega arith

  -- and back
  abbrev whole : (ℕ → ℤ) → (ℕ → ℤ) → (ℕ → ℤ) → List ℤ
  whole z1 z2 z3 = tab (glue z1 z2 z3) 24

  at_1 : (z1 z2 z3 : ℕ → ℤ) (j : ℕ) → j < 8 → at24 (whole z1 z2 z3) j ≡ z1 j
  at_1 z1 z2 z3 j h = tab_at ℤ (pos 0) (glue z1 z2 z3) 24 j (up8 h) ∙ glue1 z1 z2 z3 j h

  at_2 : (z1 z2 z3 : ℕ → ℤ) (j : ℕ) → j < 8 → at24 (whole z1 z2 z3) (8 + j) ≡ z2 j
  at_2 z1 z2 z3 j h = tab_at ℤ (pos 0) (glue z1 z2 z3) 24 (8 + j) (up16 h) ∙ glue2 z1 z2 z3 j h

  at_3 : (z1 z2 z3 : ℕ → ℤ) (j : ℕ) → j < 8 → at24 (whole z1 z2 z3) (16 + j) ≡ z3 j
  at_3 z1 z2 z3 j h = tab_at ℤ (pos 0) (glue z1 z2 z3) 24 (16 + j) (up24 h) ∙ glue3 z1 z2 z3 j h

  leech_of : (p : ℕ) → p < 2 → (z1 z2 z3 : ℕ → ℤ) → Point g p z1 z2 z3 → LeechTrio g (whole z1 z2 z3)
  leech_of p P0 z1 z2 z3 Q =
      record {
        len = tab-length ℤ (glue z1 z2 z3) 24;
        p = p;
        x = x_q;
        k = k_q;
        p-lt = P0;
        x_lt = x_lt';
        at =
            all24 (λ j. at24 (whole z1 z2 z3) j ≡ member (p + 2 * bit_at (path_of g x_q) j) (k_q j)) p1 p2 p3;
        sum = sum';
      }
    where
      x_q : ℕ
      x_q = Q.s8 + 64 * Q.b1 + 128 * Q.b2 + 2048 * Q.b3

      k_q : ℕ → ℤ
      k_q = glue Q.sec1.k Q.sec2.k Q.sec3.k

      x_lt' : x_q < 4096
      x_lt' = let a = Q.s8-lt in let b = Q.b1-lt in let c = Q.b2-lt in let d = Q.b3-lt in omega arith

      fields : (s a b c : ℕ) → s < 64 → a < 2 → b < 16 → c < 2 → ((s + 64 * a + 128 * b + 2048 * c) % 64 ≡ s)
          × ((s + 64 * a + 128 * b + 2048 * c) / 64 % 2 ≡ a) × ((s + 64 * a + 128 * b + 2048 * c) / 128 % 16 ≡ b)
          × ((s + 64 * a + 128 * b + 2048 * c) / 2048 ≡ c)
      fields s a b c h k l m = (omega arith, omega arith, omega arith, omega arith)

      f : (x_q % 64 ≡ Q.s8) × (x_q / 64 % 2 ≡ Q.b1) × (x_q / 128 % 16 ≡ Q.b2) × (x_q / 2048 ≡ Q.b3)
      f = fields Q.s8 Q.b1 Q.b2 Q.b3 Q.s8-lt Q.b1-lt Q.b2-lt Q.b3-lt

      i2 : x_q % 64 * 16 + x_q / 128 % 16 ≡ Q.s8 * 16 + Q.b2
      i2 = ap₂ (λ (a b : ℕ). a * 16 + b) f.0 f.2

      e1 : c1 x_q ≡ get_or g.pre (2 * Q.s8 + Q.b1) 0
      e1 = ap₂ (λ (a b : ℕ). get_or g.pre (2 * a + b) 0) f.0 f.1

      e2 : c2 x_q ≡ get_or g.mid (Q.s8 * 16 + Q.b2) 0
      e2 = ap (λ (a : ℕ). get_or g.mid a 0) i2

      e3 : c3 x_q ≡ get_or g.suf (2 * get_or g.nxt (Q.s8 * 16 + Q.b2) 0 + Q.b3) 0
      e3 = ap₂ (λ (a b : ℕ). get_or g.suf (2 * get_or g.nxt a 0 + b) 0) i2 f.3

      b1 : c1 x_q < 256
      b1 = B.pre (x_q % 64) (x_q / 64 % 2) (mod-lt (x_q / 64) (zero-lt-suc 1))

      b2 : c2 x_q < 256
      b2 = B.mid (x_q % 64) (x_q / 128 % 16) (mod-lt (x_q / 128) (zero-lt-suc 15))

      p1 : (j : ℕ) → j < 8 → at24 (whole z1 z2 z3) j ≡ member (p + 2 * bit_at (path_of g x_q) j) (k_q j)
      p1 j h = at_1 z1 z2 z3 j h ∙ Q.sec1.at j h
          ∙ ap₂ (λ (b : ℕ) (k : ℤ). member (p + 2 * b) k) (ap (λ (c : ℕ). bit_at c j) (sym e1) ∙ sym (bit_a (c1 x_q) (c2 x_q) (c3 x_q) b1 j h))
          (sym (glue1 Q.sec1.k Q.sec2.k Q.sec3.k j h))

      p2 : (j : ℕ) → j < 8 → at24 (whole z1 z2 z3) (8 + j) ≡ member (p + 2 * bit_at (path_of g x_q) (8 + j)) (k_q (8 + j))
      p2 j h = at_2 z1 z2 z3 j h ∙ Q.sec2.at j h
          ∙ ap₂ (λ (b : ℕ) (k : ℤ). member (p + 2 * b) k)
          (ap (λ (c : ℕ). bit_at c j) (sym e2) ∙ sym (bit_b (c1 x_q) (c2 x_q) (c3 x_q) b1 b2 j h))
          (sym (glue2 Q.sec1.k Q.sec2.k Q.sec3.k j h))

      p3 : (j : ℕ) → j < 8 → at24 (whole z1 z2 z3) (16 + j) ≡ member (p + 2 * bit_at (path_of g x_q) (16 + j)) (k_q (16 + j))
      p3 j h = at_3 z1 z2 z3 j h ∙ Q.sec3.at j h
          ∙ ap₂ (λ (b : ℕ) (k : ℤ). member (p + 2 * b) k)
          (ap (λ (c : ℕ). bit_at c j) (sym e3) ∙ sym (bit_c (c1 x_q) (c2 x_q) (c3 x_q) b1 b2 j h))
          (sym (glue3 Q.sec1.k Q.sec2.k Q.sec3.k j h))

      sum' : par_k k_q 24 ≡ p
      sum' = go (sum_to (λ j. odd_k (k_q j)) 24) (sum_to (λ j. odd_k (k_q j)) 8) (sum_to (λ j. odd_k (k_q (8 + j))) 8)
          (sum_to (λ j. odd_k (k_q (16 + j))) 8) (sum_to (λ j. odd_k (Q.sec1.k j)) 8) (sum_to (λ j. odd_k (Q.sec2.k j)) 8)
          (sum_to (λ j. odd_k (Q.sec3.k j)) 8) Q.r1 Q.r2 p
          (sum24 (λ j. odd_k (k_q j)))
          (sum_same (λ j. odd_k (k_q j)) (λ j. odd_k (Q.sec1.k j)) 8 (λ j h. ap odd_k (glue1 Q.sec1.k Q.sec2.k Q.sec3.k j h)))
          (sum_same (λ j. odd_k (k_q (8 + j))) (λ j. odd_k (Q.sec2.k j)) 8 (λ j h. ap odd_k (glue2 Q.sec1.k Q.sec2.k Q.sec3.k j h)))
          (sum_same (λ j. odd_k (k_q (16 + j))) (λ j. odd_k (Q.sec3.k j)) 8 (λ j h. ap odd_k (glue3 Q.sec1.k Q.sec2.k Q.sec3.k j h)))
          Q.sec1.class Q.sec2.class Q.sec3.class P0
        where
          go : (s a b c a' b' c' r d p : ℕ) → s ≡ a + b + c → a ≡ a' → b ≡ b' → c ≡ c' → a' % 2 ≡ r → b' % 2 ≡ d → c' % 2 ≡ (p + r + d) % 2
              → p < 2 → s % 2 ≡ p
          go s a b c a' b' c' r d p h e f g i k l m =
              ap (λ (z : ℕ). z % 2) (h ∙ ap₂ (λ (x y : ℕ). x + y) (ap₂ (λ (x y : ℕ). x + y) e f) g) ∙ mod3 a' b' c'
              ∙ ap (λ (z : ℕ). z % 2) (ap₂ (λ (x y : ℕ). x + y) (ap₂ (λ (x y : ℕ). x + y) i k) l) ∙ turn r d p m

  -- ---- distances
  module _ (t : List Float) where
    abbrev S : Targets
    S = sections t

    pub tt1 : (j : ℕ) → j < 8 → get_or S.t1 j nan ≡ get_or t j nan
    tt1 j h = tab_at Float nan (λ j. get_or t j nan) 8 j h

    pub tt2 : (j : ℕ) → j < 8 → get_or S.t2 j nan ≡ get_or t (8 + j) nan
    tt2 j h = tab_at Float nan (λ j. get_or t (8 + j) nan) 8 j h

    pub tt3 : (j : ℕ) → j < 8 → get_or S.t3 j nan ≡ get_or t (16 + j) nan
    tt3 j h = tab_at Float nan (λ j. get_or t (16 + j) nan) 8 j h

    abbrev sqc : ℤ → Float → ℕ
    sqc v x = coord_gap v x * coord_gap v x

    dist_is_lem : (z : List ℤ) → sq_dist24 z t ≡ dist24 S (sec1 z) (sec2 z) (sec3 z)
    dist_is_lem z = sum24 (λ j. sqc (at24 z j) (get_or t j nan)) ∙ three
      where
        three : sum_to (λ j. sqc (at24 z j) (get_or t j nan)) 8 + sum_to (λ j. sqc (at24 z (8 + j)) (get_or t (8 + j) nan)) 8 + sum_to
            (λ j. sqc (at24 z (16 + j)) (get_or t (16 + j) nan)) 8 ≡ dist24 S (sec1 z) (sec2 z) (sec3 z)
        three = ap₂ (λ (a b : ℕ). a + b)
            (ap₂ (λ (a b : ℕ). a + b) (sum_same (λ j. sqc (at24 z j) (get_or t j nan)) (λ j. sqc (at24 z j) (get_or S.t1 j nan)) 8
            (λ j h. ap (sqc (at24 z j)) (sym (tt1 j h))))
            (sum_same (λ j. sqc (at24 z (8 + j)) (get_or t (8 + j) nan)) (λ j. sqc (at24 z (8 + j)) (get_or S.t2 j nan)) 8
            (λ j h. ap (sqc (at24 z (8 + j))) (sym (tt2 j h)))))
            (sum_same (λ j. sqc (at24 z (16 + j)) (get_or t (16 + j) nan)) (λ j. sqc (at24 z (16 + j)) (get_or S.t3 j nan)) 8
            (λ j h. ap (sqc (at24 z (16 + j))) (sym (tt3 j h))))

    dist_same : (a b : ℕ → ℤ) (ts : List Float) → Same a b → dist8 a ts ≡ dist8 b ts
    dist_same a b ts s = sum_same (λ j. sqc (a j) (get_or ts j nan)) (λ j. sqc (b j) (get_or ts j nan)) 8
        (λ j h. ap (λ (z : ℤ). sqc z (get_or ts j nan)) (s j h))

    module _ (ps : List ℕ) (PS : (q : ℕ) → Memᴰ q ps → q < 2) (y : List ℤ)
        (H24 : (z : List ℤ) (L : LeechTrio g z) → Memᴰ L.p ps → z ≢ y → sq_dist24 y t + M < sq_dist24 z t) where
      -- the margin turned round
      pub margin : Margin g S ps (sec1 y) (sec2 y) (sec3 y)
      unfolding leech_of
      margin p I0 z1 z2 z3 Q le = (
        λ j h. one j (z1 j) (at_1 z1 z2 z3 j h),
        λ j h. one (8 + j) (z2 j) (at_2 z1 z2 z3 j h),
        λ j h.
            one (16 + j) (z3 j) (at_3 z1 z2 z3 j h),
      )
        where
          same_d : sq_dist24 (whole z1 z2 z3) t ≡ dist24 S z1 z2 z3
          same_d = dist_is_lem (whole z1 z2 z3)
              ∙ ap₂ (λ (a b : ℕ). a + b) (ap₂ (λ (a b : ℕ). a + b) (dist_same (sec1 (whole z1 z2 z3)) z1 S.t1 (at_1 z1 z2 z3))
              (dist_same (sec2 (whole z1 z2 z3)) z2 S.t2 (at_2 z1 z2 z3))) (dist_same (sec3 (whole z1 z2 z3)) z3 S.t3 (at_3 z1 z2 z3))

          short : sq_dist24 (whole z1 z2 z3) t ≤ sq_dist24 y t + M
          short = le_trans (le_of_eq same_d) (le_trans le (le_of_eq (ap (λ (d : ℕ). d + M) (sym (dist_is_lem y)))))

          differ : whole z1 z2 z3 ≢ y → ⊥
          differ d = not-le_of_lt (H24 (whole z1 z2 z3) (leech_of p (PS p I0) z1 z2 z3 Q) I0 d) short

          one : (j : ℕ) (v : ℤ) → at24 (whole z1 z2 z3) j ≡ v → v ≡ at24 y j
          one j v e = go (ℤ_discrete v (at24 y j))
            where
              go : Dec (v ≡ at24 y j) → v ≡ at24 y j
              go (yes q) = q
              go (no d) = absurd (differ (λ (q : whole z1 z2 z3 ≡ y). d (sym e ∙ ap (λ (z : List ℤ). at24 z j) q)))
