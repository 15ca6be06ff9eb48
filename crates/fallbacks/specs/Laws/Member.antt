-- A member of an end region: its byte is one of a codeword, its ranks are a row of the class, and its point names it. Assumes nothing.
use Rattle.std.specs.Prelude.{◌≡◌, refl, Bool, true, false, cond, List, ℕ, ◌+◌, ◌*◌, ◌%◌, ◌^◌, ◌<◌, T, eqb, get_or, length, ℤ, pos}
use Rattle.std.proofs.Common.{sym, ◌∙◌, subst, mod-eq_of_lt, arith}
use Rattle.std.proofs.Math.Path.{ap}
use Rattle.laws.specs.Laws.Lists.{filled, tab-length}
use Rattle.laws.specs.Words.{weight}
use Rattle.rank.specs.Coord.{val_of}
use Rattle.rank.specs.Vector.{ranks_below, class, pack, unpack, in_class}
use Rattle.rank.specs.Laws.Vector.{unpack-at, unpack-length, below_up}
use Rattle.rank.specs.Section.{point_at, bits_of, ranks_of}
use Rattle.rank.specs.Laws.Section.{point-bits, point-ranks, point-length}
use Rattle.rows.specs.Table.{row_ranks}
use Rattle.rows.specs.Laws.Rule.{row-class, row_ranks_lem, row_packed, row_in}
use Rattle.rows.specs.Laws.Places.{number-class}
use Rattle.trellis.specs.Tables.{prefixes, suffixes}
use Rattle.trellis.specs.Trellis.{prefix_of, suffix_of}
use Rattle.trellis.specs.Laws.Code.{bytes-even}
use Rattle.trellis.specs.Laws.Path.{prefix-lt, suffix-lt}
use Rattle.trellis.specs.Laws.Rows.{prefix-read, suffix-read}
use Rattle.trellis.proofs.StateBytes.{prefixes_of, suffixes_of}
use Rattle.tetra.specs.Laws.Point.{point_at_lem}
use Rattle.search.specs.Record.{bit_at}
use Rattle.search.specs.Tables.{tables, end_byte}
use Rattle.search.specs.Entries.{section_at}
use Rattle.fallbacks.specs.Region.{InRegion, point}

-- ---- the byte of an end state: below 256, and of even weight, as a codeword's is
module _ (Q : ℕ → Type 0) (kind st b : ℕ) (hb : b < 2) where
  end_is : Q (prefix_of st b) → Q (suffix_of st b) → Q (end_byte tables kind st b)
  end_is x y = go (eqb kind 0)
    where
      go : (t : Bool) → Q (cond t (get_or prefixes (2 * st + b) 0) (get_or suffixes (2 * st + b) 0))
      go true = subst Q (prefix-read st b hb) x
      go false = subst Q (suffix-read st b hb) y

abbrev Even : ℕ → Type 0
Even c = weight 8 c % 2 ≡ 0

end_even : (kind st b : ℕ) → st < 64 → b < 2 → Even (end_byte tables kind st b)
end_even kind st b hs hb =
    let x = (prefixes_of st hs (prefix_of st b)).1 (b, hb, refl) in
    let y = (suffixes_of st hs (suffix_of st b)).1 (b, hb, refl) in
    end_is Even kind st b hb (subst Even x.2 (bytes-even x.0).0) (subst Even y.2 (bytes-even y.0).2)

-- ---- a member: its byte, the class and the size of its ranks, its row packed
module _ (kind r st c key : ℕ) (hr : r < 2) (m : InRegion kind r st c key) where
  number_lt : 2048 * r + m.i < 4096
  number_lt = let h = m.i_lt in omega arith

  ranks_of_lem : unpack 8 key ≡ row_ranks (2048 * r + m.i)
  unfolding row_ranks
  ranks_of_lem = ap (unpack 8) m.row

  pub member-class : class (unpack 8 key) ≡ r
  member-class = ap class ranks_of_lem ∙ row-class (2048 * r + m.i) number_lt ∙ number-class r m.i m.i_lt

  pub member-ranks : T (ranks_below 8 (unpack 8 key))
  member-ranks =
      subst (λ (v : List ℕ). T (ranks_below 8 v)) (sym ranks_of_lem)
      (below_up 5 8 (omega arith) (row_ranks (2048 * r + m.i)) (row_ranks_lem (2048 * r + m.i) number_lt))

  pub member_packed : key ≡ pack (unpack 8 key)
  member_packed = m.row ∙ sym (row_packed (2048 * r + m.i) number_lt) ∙ ap pack (sym ranks_of_lem)

  pub member_in : T (in_class r (unpack 8 key))
  member_in =
      subst (λ (c : ℕ). T (in_class c (unpack 8 key))) member-class
      (subst (λ (v : List ℕ). T (in_class (class v) v)) (sym ranks_of_lem) (row_in (2048 * r + m.i) number_lt))

  pub member-lt : c < 256
  member-lt = subst (λ (x : ℕ). x < 256) (sym m.byte) (end_is (λ x. x < 256) kind st m.b m.b_lt (prefix-lt st m.b) (suffix-lt st m.b))

  pub member-even : st < 64 → weight 8 c % 2 ≡ 0
  member-even hs = subst Even (sym m.byte) (end_even kind st m.b hs m.b_lt)

-- ---- its point
pub point_size : (p c key : ℕ) → length (point p c key) ≡ 8
point_size p c key = tab-length ℤ (section_at p c key) 8

-- by its bits and its ranks
point_is : (p c key : ℕ) → point p c key ≡ point_at p c (unpack 8 key)
point_is p c key =
    sym
    (filled ℤ (pos 0) 8 (section_at p c key) (point_at p c (unpack 8 key)) (point-length p c (unpack 8 key) ∙ unpack-length 8 key)
    (λ j h.
    point_at_lem p c (unpack 8 key) j (subst (λ (n : ℕ). j < n) (sym (unpack-length 8 key)) h)
    ∙ ap (val_of (p + 2 * bit_at c j)) (unpack-at 8 key j h)))

-- two members with one point are one
pub point-names : (kind p r st c key d k : ℕ) → p < 2 → r < 2 → InRegion kind r st c key → InRegion kind r st d k
    → point p c key ≡ point p d k → (c ≡ d) × (key ≡ k)
point-names kind p r st c key d k hp hr m n e =
    let q : point_at p c (unpack 8 key) ≡ point_at p d (unpack 8 k) = sym (point_is p c key) ∙ e ∙ point_is p d k in
    let s = member-ranks kind r st c key hr m in
    let t = member-ranks kind r st d k hr n in (
      byte_of c key m ∙ sym (point-bits p hp c (unpack 8 key) s) ∙ ap bits_of q ∙ point-bits p hp d (unpack 8 k) t ∙ sym (byte_of d k n),
      member_packed kind r st c key hr m
          ∙ ap pack (sym (point-ranks p hp c (unpack 8 key) s) ∙ ap ranks_of q ∙ point-ranks p hp d (unpack 8 k) t)
          ∙ sym (member_packed kind r st d k hr n),
    )
  where
    byte_of : (c key : ℕ) → InRegion kind r st c key → c ≡ c % 2 ^ length (unpack 8 key)
    byte_of c key m = sym (mod-eq_of_lt (member-lt kind r st c key hr m))
