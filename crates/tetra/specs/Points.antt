-- P: the points to hit exactly, P1 to P12 of document 01 together; why P8 to P12 have no word is request 2026-02's. Assumes nothing.
use Rattle.std.specs.Prelude.{◌≡◌, refl, Bool, true, false, cond, List, [], ◌∷◌, ℕ, ◌^◌, T, eqb, ltb, ℤ, pos, negsuc}
use Rattle.std.proofs.Common.{ap, sym, subst, ◌∙◌, lt-ltb, eqb→eq}
use Rattle.laws.specs.Laws.Tests.{eq→eqb, true_is}
use Rattle.laws.specs.Words.{tab}
use Rattle.word.specs.Word as word
use Rattle.rank.specs.Coord.{val_of, rank_of}
use Rattle.rank.specs.Section.{point_at, uniform, bits_of, k_sum}
use Rattle.rows.specs.Rows.{rows}
use Rattle.rows.specs.Table.{row_ranks, middle_class, middle_row}
use Rattle.trellis.specs.Code.{codeword_of, columns}
use Rattle.trellis.specs.Laws.Code.{back_columns, back_at, label_low}
use Rattle.trellis.specs.Trio.{order, places}
use Rattle.trellis.specs.Trellis.{label_of}
use Rattle.trellis.specs.Laws.Back.{label-none}
use Rattle.tetra.specs.Lattice.{trio, in_bound}
use Rattle.tetra.specs.Tetra.{codeword_at, third_class, ranks_at, trio_point, natural, trio_point_of, point_of}
use Rattle.tetra.specs.Encode.{refused_with, one_parity, in_code, right_sum, encode_of}
use Rattle.tetra.specs.Laws.Word.{code-label}

-- ---- the tests, computed: the way back by columns tells a codeword with no walk over the 4,096
by_columns : ℕ → Bool
by_columns c = eqb (codeword_of columns (codeword_of back_columns c)) c

code_by : (c : ℕ) → ltb (label_of c) 4096 ≡ by_columns c
unfolding by_columns
code_by c = go (eqb (codeword_of columns (codeword_of back_columns c)) c) refl
  where
    go : (b : Bool) → eqb (codeword_of columns (codeword_of back_columns c)) c ≡ b → ltb (label_of c) 4096 ≡ b
    go true e =
        lt-ltb (label_of c) 4096 (code-label c (record { label = codeword_of back_columns c; made = eqb→eq _ c (true_is _ e) }))
    go false e =
        ap (λ (x : ℕ). ltb x 4096)
        ((label-none c).1
        (λ x h q.
        subst T e
        (eq→eqb (codeword_of columns (codeword_of back_columns c)) c
        (ap (codeword_of columns) (ap (codeword_of back_columns) (sym q) ∙ back_at x) ∙ label_low x ∙ q))))

code_is : (y : List ℤ) → in_code y ≡ by_columns (bits_of (trio y))
unfolding in_code
code_is y = code_by (bits_of (trio y))

-- ---- points written down
-- a at the coordinates listed, and what f has at the others
abbrev pub at : ℤ → List ℕ → (ℕ → ℤ) → ℕ → ℤ
at a [] f i = f i
at a (k ∷ ks) f i = cond (eqb k i) a (at a ks f i)

-- a everywhere
abbrev pub all : ℤ → ℕ → ℤ
all a i = a

abbrev pub point : (ℕ → ℤ) → List ℤ
point f = tab f 24

pub P :
    (point_of 0 ≡ point (all (pos 0)))
    × (point_of 1 ≡ point (at (negsuc 2) (23 ∷ []) (all (pos 1))))
    × (point_of 2 ≡ point (at (pos 4) (12 ∷ 23 ∷ []) (all (pos 0))))
    × (point_of 256 ≡ point (at (pos 2) (0 ∷ 1 ∷ 2 ∷ 3 ∷ 4 ∷ 7 ∷ 10 ∷ 12 ∷ []) (all (pos 0))))
    × (point_of 0x3800 ≡ point (at (pos 4) (0 ∷ 1 ∷ []) (all (pos 0))))
    × (point_of 0x4d8000000 ≡ point (at (pos 4) (19 ∷ 23 ∷ []) (all (pos 0))))
    × (point_of (2 ^ 47) ≡ point_of 0)
    × (encode_of (point (all (pos 1))) ≡ refused_with 12 0)
    × (encode_of (point (at (pos 4) (0 ∷ []) (all (pos 0)))) ≡ refused_with 12 0)
    × (encode_of (point (at (pos 2) (0 ∷ []) (all (pos 0)))) ≡ refused_with 10 0)
    × (encode_of (point (at (pos 1) (0 ∷ []) (all (pos 0)))) ≡ refused_with 5 0)
    × (encode_of (point (at (pos 12) (0 ∷ []) (at (pos 4) (1 ∷ []) (all (pos 0))))) ≡ refused_with 11 1)
unfolding tab word.field_at val_of rank_of point_at uniform bits_of k_sum rows row_ranks middle_class middle_row columns back_columns order places
    trio codeword_at third_class ranks_at trio_point natural trio_point_of point_of one_parity in_bound right_sum encode_of by_columns
P = (
  refl,
  refl,
  refl,
  refl,
  refl,
  refl,
  refl,
  rw (code_is (point (all (pos 1)))),
  rw (code_is (point (at (pos 4) (0 ∷ []) (all (pos 0))))),
  rw (code_is (point (at (pos 2) (0 ∷ []) (all (pos 0))))),
  refl,
  rw (code_is (point (at (pos 12) (0 ∷ []) (at (pos 4) (1 ∷ []) (all (pos 0)))))),
)

-- each reason why a point has no word is that of some point: where P has none, in the second section and in the third; and where two hold,
-- the first is told: of a wrong sum of k with a section outside, and of bits that are no codeword with one
pub reasons :
    (encode_of (point (at (pos 8) (6 ∷ []) (at (pos 4) (16 ∷ 17 ∷ []) (all (pos 0))))) ≡ refused_with 11 2)
    × (encode_of (point (at (pos 13) (23 ∷ []) (all (pos 1)))) ≡ refused_with 11 3)
    × (encode_of (point (at (pos 12) (0 ∷ []) (all (pos 0)))) ≡ refused_with 11 1)
    × (encode_of (point (at (pos 2) (0 ∷ []) (at (pos 100) (1 ∷ []) (all (pos 0))))) ≡ refused_with 10 0)
unfolding tab rank_of uniform bits_of k_sum columns back_columns order trio one_parity in_bound right_sum encode_of by_columns
reasons = (
  rw (code_is (point (at (pos 8) (6 ∷ []) (at (pos 4) (16 ∷ 17 ∷ []) (all (pos 0)))))),
  rw (code_is (point (at (pos 13) (23 ∷ []) (all (pos 1))))),
  rw (code_is (point (at (pos 12) (0 ∷ []) (all (pos 0))))),
  rw (code_is (point (at (pos 2) (0 ∷ []) (at (pos 100) (1 ∷ []) (all (pos 0)))))),
)
