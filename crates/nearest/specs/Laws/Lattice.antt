-- The lattice by sections, exact distances, and what the margin says: a section that swaps in for one of y's and is as near
-- is y's own.
use Rattle.std.specs.Prelude.{◌≡◌, ℕ, ◌+◌, ◌*◌, ◌%◌, ◌≤◌, ◌<◌, get_or, ℤ, Float}
use mathlib.Core.List.{List, Memᴰ}
use Rattle.std.proofs.Common.{arith}
use Rattle.std.specs.Float.{nan}
use Rattle.float.specs.Distance.{coord_gap, margin}
use Rattle.search.specs.Tables.{Tables}
use Rattle.search.specs.declared.Targets.{Targets}
use Rattle.search.specs.Record.{member, bit_at}
use Rattle.nearest.specs.Laws.Forms.{sum_to, par_k}

-- eight coordinates of parity p, with the bits of byte c, whose whole numbers k sum to r mod 2
pub record Sec (p c r : ℕ) (s : ℕ → ℤ) : Type 0 where
  pub k : ℕ → ℤ
  pub at : (j : ℕ) → j < 8 → s j ≡ member (p + 2 * bit_at c j) (k j)
  pub class : par_k k 8 ≡ r

-- |s - t| squared, in units of 2 ^ -2148
abbrev pub dist8 : (ℕ → ℤ) → List Float → ℕ
dist8 s ts = sum_to (λ j. coord_gap (s j) (get_or ts j nan) * coord_gap (s j) (get_or ts j nan)) 8

-- a lattice point of parity p in three sections of trio order: a path of the trellis, and classes that sum to p
pub record Point (g : Tables) (p : ℕ) (z1 z2 z3 : ℕ → ℤ) : Type 0 where
  pub s8 : ℕ
  pub b1 : ℕ
  pub b2 : ℕ
  pub b3 : ℕ
  pub r1 : ℕ
  pub r2 : ℕ
  pub s8-lt : s8 < 64
  pub b1-lt : b1 < 2
  pub b2-lt : b2 < 16
  pub b3-lt : b3 < 2
  pub r1-lt : r1 < 2
  pub r2-lt : r2 < 2
  pub sec1 : Sec p (get_or g.pre (2 * s8 + b1) 0) r1 z1
  pub sec2 : Sec p (get_or g.mid (s8 * 16 + b2) 0) r2 z2
  pub sec3 : Sec p (get_or g.suf (2 * get_or g.nxt (s8 * 16 + b2) 0 + b3) 0) ((p + r1 + r2) % 2) z3

abbrev pub Same : (ℕ → ℤ) → (ℕ → ℤ) → Type 0
Same a b = (j : ℕ) → j < 8 → a j ≡ b j

abbrev pub dist24 : Targets → (ℕ → ℤ) → (ℕ → ℤ) → (ℕ → ℤ) → ℕ
dist24 t z1 z2 z3 = dist8 z1 t.t1 + dist8 z2 t.t2 + dist8 z3 t.t3

-- 2 ^ -20
abbrev pub M : ℕ
M = margin

-- the margin turned round: a lattice point of a parity searched that is no further than y by 2 ^ -20 is y
abbrev pub Margin : Tables → Targets → List ℕ → (ℕ → ℤ) → (ℕ → ℤ) → (ℕ → ℤ) → Type 0
Margin g t ps y1 y2 y3 = (p : ℕ) → Memᴰ p ps → (z1 z2 z3 : ℕ → ℤ) → Point g p z1 z2 z3 → dist24 t z1 z2 z3 ≤ dist24 t y1 y2 y3 + M
    → Same z1 y1 × Same z2 y2 × Same z3 y3

module _ (g : Tables) (t : Targets) (ps : List ℕ) (p : ℕ) (P0 : Memᴰ p ps) (y1 y2 y3 : ℕ → ℤ) (Y : Point g p y1 y2 y3)
    (H : Margin g t ps y1 y2 y3) where
  le1 : (a b c d m : ℕ) → a ≤ d + m → a + b + c ≤ d + b + c + m
  le1 a b c d m h = omega arith

  le2 : (a b c d m : ℕ) → b ≤ d + m → a + b + c ≤ a + d + c + m
  le2 a b c d m h = omega arith

  le3 : (a b c d m : ℕ) → c ≤ d + m → a + b + c ≤ a + b + d + m
  le3 a b c d m h = omega arith

  -- a point of y's branch and classes, by its first and last bit and its sections
  swapped : (b d : ℕ) → b < 2 → d < 2 → {z1 z2 z3 : ℕ → ℤ} → Sec p (get_or g.pre (2 * Y.s8 + b) 0) Y.r1 z1
      → Sec p (get_or g.mid (Y.s8 * 16 + Y.b2) 0) Y.r2 z2
      → Sec p (get_or g.suf (2 * get_or g.nxt (Y.s8 * 16 + Y.b2) 0 + d) 0) ((p + Y.r1 + Y.r2) % 2) z3 → Point g p z1 z2 z3
  swapped b d h l s1 s2 s3 = record {
    s8 = Y.s8;
    b1 = b;
    b2 = Y.b2;
    b3 = d;
    r1 = Y.r1;
    r2 = Y.r2;
    s8-lt = Y.s8-lt;
    b1-lt = h;
    b2-lt = Y.b2-lt;
    b3-lt = l;
    r1-lt = Y.r1-lt;
    r2-lt = Y.r2-lt;
    sec1 = s1;
    sec2 = s2;
    sec3 = s3;
  }

  pub own1 : (b : ℕ) → b < 2 → (s : ℕ → ℤ) → Sec p (get_or g.pre (2 * Y.s8 + b) 0) Y.r1 s → dist8 s t.t1 ≤ dist8 y1 t.t1 + M → Same s y1
  own1 b h s a l =
      (H p P0 s y2 y3 (swapped b Y.b3 h Y.b3-lt a Y.sec2 Y.sec3)
      (le1 (dist8 s t.t1) (dist8 y2 t.t2) (dist8 y3 t.t3) (dist8 y1 t.t1) M l)).0

  pub own2 : (s : ℕ → ℤ) → Sec p (get_or g.mid (Y.s8 * 16 + Y.b2) 0) Y.r2 s → dist8 s t.t2 ≤ dist8 y2 t.t2 + M → Same s y2
  own2 s a l =
      (H p P0 y1 s y3 (swapped Y.b1 Y.b3 Y.b1-lt Y.b3-lt Y.sec1 a Y.sec3)
      (le2 (dist8 y1 t.t1) (dist8 s t.t2) (dist8 y3 t.t3) (dist8 y2 t.t2) M l)).1

  pub own3 : (b : ℕ) → b < 2 → (s : ℕ → ℤ)
      → Sec p (get_or g.suf (2 * get_or g.nxt (Y.s8 * 16 + Y.b2) 0 + b) 0) ((p + Y.r1 + Y.r2) % 2) s
      → dist8 s t.t3 ≤ dist8 y3 t.t3 + M → Same s y3
  own3 b h s a l =
      (H p P0 y1 y2 s (swapped Y.b1 b Y.b1-lt h Y.sec1 Y.sec2 a)
      (le3 (dist8 y1 t.t1) (dist8 y2 t.t2) (dist8 s t.t3) (dist8 y3 t.t3) M l)).2
