-- What `three` and `trio_point` lay together. Assumes nothing.
use mathlib.Core.Path.{◌≡◌, ap, ap₂, sym, ◌∙◌}
use mathlib.Core.List.{List, [], ◌∷◌, ◌++◌}
use Prim.Native.Nat.{ℕ, zero, suc, ◌+◌, ◌*◌, ◌-◌, ◌/◌, ◌%◌, ◌^◌, ◌<◌, ◌≤◌}
use native.Mathlib.Nat.{pow-suc, mul_assoc, mul_comm}
use native.Mathlib.Omega.{arith}
use lib.IntN.{ℤ, pos}
use lib.ListN.{length, get_or, length-append, get_or-append}
use Rattle.laws.specs.Laws.Lists.{append_past}
use Rattle.word.specs.Word.{Narrow}
use Rattle.word.specs.declared.Fields.{Fields}
use Rattle.rank.specs.Coord.{val_of}
use Rattle.rank.specs.Section.{point_at}
use Rattle.rows.specs.Table.{row_ranks, middle_row}
use Rattle.rows.specs.Laws.Rule.{row-length}
use Rattle.rows.specs.Laws.Middle.{middle_row-class}
use Rattle.trellis.specs.Trellis.{prefix_of, middle_of, next_of, suffix_of, branch_of}
use Rattle.trellis.specs.Laws.Path.{prefix-lt, middle-lt}
use Rattle.trellis.proofs.Walk.{path_word}
use Rattle.trellis.specs.declared.Edge.{Edge}
use Rattle.tetra.specs.Tetra.{codeword_at, third_class, ranks_at, trio_point}

-- ---- a place of three sections in a row
module _ (a b c : List ℤ) (ea : length a ≡ 8) (eb : length b ≡ 8) (j : ℕ) where
  pub in_second : 8 ≤ j → j < 16 → get_or (a ++ (b ++ c)) j (pos 0) ≡ get_or b (j - 8) (pos 0)
  in_second h k =
      append_past ℤ (pos 0) a (b ++ c) j (omega arith) ∙ ap (λ (n : ℕ). get_or (b ++ c) (j - n) (pos 0)) ea
      ∙ get_or-append b c (pos 0) (j - 8) (omega arith)

  pub in_third : 16 ≤ j → get_or (a ++ (b ++ c)) j (pos 0) ≡ get_or c (j - 16) (pos 0)
  in_third h =
      append_past ℤ (pos 0) a (b ++ c) j (omega arith) ∙ ap (λ (n : ℕ). get_or (b ++ c) (j - n) (pos 0)) ea
      ∙ append_past ℤ (pos 0) b c (j - 8) (omega arith) ∙ ap (λ (n : ℕ). get_or c n (pos 0)) rest
    where
      rest : j - 8 - length b ≡ j - 16
      rest = omega arith

pub three-length : (a b c : List ℤ) → length a ≡ 8 → length b ≡ 8 → length c ≡ 8 → length (a ++ (b ++ c)) ≡ 24
three-length a b c ea eb ec = omega (arith, length-append a (b ++ c), length-append b c)

-- ---- the point of joined bits and joined ranks is the points joined
point-join : (p n a b : ℕ) (u v : List ℕ) → length u ≡ n → a < 2 ^ n → point_at p (a + 2 ^ n * b) (u ++ v) ≡ point_at p a u ++ point_at p b v
unfolding point_at
point-join p zero a b [] v e h = ap (λ (c : ℕ). point_at p c v) (omega arith)
point-join p zero a b (r ∷ u) v e h = absurd (omega arith)
point-join p (suc n) a b [] v e h = absurd (omega arith)
point-join p (suc n) a b (r ∷ u) v e h =
    let q : 2 ^ suc n * b ≡ 2 * (2 ^ n * b) = ap (λ (m : ℕ). m * b) (pow-suc 2 n ∙ mul_comm (2 ^ n) 2) ∙ mul_assoc 2 (2 ^ n) b in
    let s = pow-suc 2 n in
    ap₂ {C = List ℤ} (λ z l. z ∷ l)
    (ap (λ (c : ℕ). val_of (p + 2 * c) r) (low a (2 ^ suc n * b) (2 ^ n * b) q))
    (ap (λ (c : ℕ). point_at p c (u ++ v)) (high a (2 ^ suc n * b) (2 ^ n * b) q)
    ∙ point-join p n (a / 2) b u v (omega arith) (omega arith))
  where
    low : (a x m : ℕ) → x ≡ 2 * m → (a + x) % 2 ≡ a % 2
    low a x m q = omega arith

    high : (a x m : ℕ) → x ≡ 2 * m → (a + x) / 2 ≡ a / 2 + m
    high a x m q = omega arith

-- three sections, each with its byte and its row
module _ (f : Fields) (n : Narrow f) where
  joined : point_at f.p (prefix_of f.s8 f.b1) (row_ranks (2048 * f.r + f.i1))
      ++ (point_at f.p (middle_of f.s8 f.b2) (row_ranks (middle_row f.i2))
      ++ point_at f.p (suffix_of (next_of f.s8 f.b2) f.b3) (row_ranks (2048 * third_class f + f.i3)))
      ≡ trio_point f
  unfolding trio_point ranks_at codeword_at
  joined =
      let u = row_ranks (2048 * f.r + f.i1) in
      let v = row_ranks (middle_row f.i2) in
      let w = row_ranks (2048 * third_class f + f.i3) in
      let a = prefix_of f.s8 f.b1 in
      let b = middle_of f.s8 f.b2 in
      let c = suffix_of (next_of f.s8 f.b2) f.b3 in
      ap (λ (l : List ℤ). point_at f.p a u ++ l)
      (sym (point-join f.p 8 b c v w (row-length (middle_row f.i2)) (middle-lt f.s8 f.b2)))
      ∙ sym (point-join f.p 8 a (b + 256 * c) u (v ++ w) (row-length (2048 * f.r + f.i1)) (prefix-lt f.s8 f.b1))
      ∙ ap (λ (x : ℕ). point_at f.p x (u ++ (v ++ w)))
      (spread a b c ∙ sym (path_word f.s8 f.b1 f.b2 f.b3 n.s8 n.b1 n.b2 n.b3))
    where
      spread : (a b c : ℕ) → a + 256 * (b + 256 * c) ≡ a + 256 * b + 65536 * c
      spread a b c = omega arith

  -- the same from what each call ensures
  pub laid : {m c1 c3 : ℕ} {e : Edge} {y1 y2 y3 : List ℤ} → m ≡ middle_row f.i2 → c1 ≡ prefix_of f.s8 f.b1
      → e ≡ branch_of f.s8 f.b2 → c3 ≡ suffix_of e.s16 f.b3 → y1 ≡ point_at f.p c1 (row_ranks (2048 * f.r + f.i1))
      → y2 ≡ point_at f.p e.byte (row_ranks m) → y3 ≡ point_at f.p c3 (row_ranks (2048 * ((f.p + f.r + m / 2048) % 2) + f.i3))
      → y1 ++ (y2 ++ y3) ≡ trio_point f
  unfolding third_class
  laid em e1 ee e3 s1 s2 s3 = rw (s1, s2, s3, e3, ee, e1, em, middle_row-class f.i2 n.i2) joined
