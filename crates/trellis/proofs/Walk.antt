-- A whole path and its codeword: the sections of a codeword lead back along its path, and bytes that lead back along a path are a codeword's.
-- Assumes nothing.
use Rattle.std.specs.Prelude.{◌≡◌, ℕ, ◌+◌, ◌*◌, ◌<◌, Some}
use Rattle.std.proofs.Common.{◌∙◌, sym, ap₂, arith}
use Rattle.std.proofs.Math.Path.{refl, ap}
use Rattle.trellis.specs.Code.{codeword_of, columns, label, first, second, third}
use Rattle.trellis.specs.Trellis.{path, s8_of, b1_of, b2_of, b3_of, s16_of}
use Rattle.trellis.specs.Trellis.{opening_of, passage_of, closing_of, opening_says, passage_says, closing_says}
use Rattle.trellis.proofs.Path.{path-at, first-at, second_at, third_at}
use Rattle.trellis.specs.Laws.Path.{next-lt}
use Rattle.trellis.specs.Laws.Back.{opening_by, opening_iff, passage_by, passage_iff, closing_by, closing_iff, label-parts}

pub path_word : (s8 b1 b2 b3 : ℕ) → s8 < 64 → b1 < 2 → b2 < 16 → b3 < 2 → codeword_of columns (label s8 b1 b2 b3) ≡ path s8 b1 b2 b3
path_word s8 b1 b2 b3 h1 h2 h3 h4 =
    let q = label-parts s8 b1 b2 b3 h1 h2 h3 h4 in
    let x = label s8 b1 b2 b3 in
    path-at x ∙ ap₂ (λ (s b : ℕ). path s b (b2_of x) (b3_of x)) q.0 q.1 ∙ ap₂ (λ (b d : ℕ). path s8 b1 b d) q.2 q.3

-- the sections of a codeword lead back along its path
pub walk_back : (x : ℕ) → (opening_of (first (codeword_of columns x)) ≡ Some (s8_of x, b1_of x))
    × (passage_of (s8_of x) (second (codeword_of columns x)) ≡ Some (b2_of x, s16_of x)) × (closing_of (s16_of x) (third (codeword_of columns x)) ≡ Some (b3_of x))
walk_back x =
    let w = codeword_of columns x in (
      opening_by _ _ ((opening_iff (first w) (s8_of x) (b1_of x)).1 (omega arith, omega arith, sym (first-at x))),
      passage_by _ _ ((passage_iff (s8_of x) (second w) (b2_of x) (s16_of x)).1 (omega arith, omega arith, sym (second_at x), refl)),
      closing_by _ _ ((closing_iff (s16_of x) (third w) (b3_of x)).1 (next-lt (s8_of x) (b2_of x), omega arith, sym (third_at x))),
    )

-- and three bytes that lead back along a path are the sections of its codeword
pub walk_word : (c1 c2 c3 s8 b1 b2 s16 b3 : ℕ) → opening_of c1 ≡ Some (s8, b1) → passage_of s8 c2 ≡ Some (b2, s16) → closing_of s16 c3 ≡ Some b3
    → codeword_of columns (label s8 b1 b2 b3) ≡ c1 + 256 * c2 + 65536 * c3
walk_word c1 c2 c3 s8 b1 b2 s16 b3 e f g =
    let p = (opening_iff c1 s8 b1).0 (ap opening_says e) in
    let q = (passage_iff s8 c2 b2 s16).0 (ap passage_says f) in
    let r = (closing_iff s16 c3 b3).0 (ap closing_says g) in
    path_word s8 b1 b2 b3 p.0 p.1 q.1 r.1 ∙ rw (p.2, q.2, q.3, r.2)
