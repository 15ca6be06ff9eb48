-- The entries of the table, by one computed test: each is a member of its region, and no greater than the least number of either byte.
-- Assumes nothing.
use Rattle.std.specs.Prelude.{◌≡◌, refl, Bool, ◌&&◌, ◌||◌, List, ◌⊎◌, ℕ, zero, suc, ◌+◌, ◌*◌, ◌/◌, ◌%◌, ◌^◌, ◌≤◌, ◌<◌, T, ltb, eqb, leb, get_or, length, ℤ}
use Rattle.std.proofs.Common.{sym, ap, ap₂, ◌∙◌, subst, inl, inr, le_refl, arith, ltb→lt, eqb→eq, leb→le, lit≤}
use Rattle.laws.specs.Laws.Tests.{upto, below2, and_left, and_right, split3, or_cases}
use Rattle.laws.specs.Words.{tab}
use Rattle.laws.specs.Laws.Lists.{filled, tab-length}
use Rattle.rank.specs.Coord.{val_of}
use Rattle.rank.specs.Vector.{ranks_below, class, pack, unpack, in_class}
use Rattle.rank.specs.Laws.Vector.{unpack-at, unpack-length, pack-unpack, more-below}
use Rattle.rows.specs.Rows.{rows}
use Rattle.rows.specs.Laws.Rule.{row_packed}
use Rattle.rows.specs.Laws.Places.{is_row}
use Rattle.trellis.specs.Tables.{prefixes, suffixes}
use Rattle.search.specs.Record.{bit_at}
use Rattle.search.specs.Tables.{tables, end_byte, fallback_bytes, fallback_keys}
use Rattle.search.specs.Entries.{rank_at}
use Rattle.fallbacks.specs.Region.{InRegion, NotAfter, point, byte_of, key_of}
use Rattle.fallbacks.specs.Laws.Order.{grade, all_fit}
use Rattle.fallbacks.specs.Laws.Lower.{values_of, values_fit, of_class, lower, lower-bound}
use Rattle.fallbacks.specs.Laws.Member.{member-class, member-ranks, point_size}

-- ---- a point by its offsets and its ranks
pub offsets : ℕ → ℕ → List ℕ
offsets p c = tab (λ j. p + 2 * bit_at c j) 8

ranks_are : (key : ℕ) → tab (rank_at key) 8 ≡ unpack 8 key
ranks_are key = sym (filled ℕ 0 8 (rank_at key) (unpack 8 key) (unpack-length 8 key) (λ j h. unpack-at 8 key j h))

apart : (p c key : ℕ) → point p c key ≡ values_of (offsets p c) (tab (rank_at key) 8)
unfolding tab offsets values_of
apart p c key = refl

point-values : (p c key : ℕ) → point p c key ≡ values_of (offsets p c) (unpack 8 key)
point-values p c key = apart p c key ∙ ap (values_of (offsets p c)) (ranks_are key)

tab_below : (b : ℕ) (f : ℕ → ℕ) (n : ℕ) → ((j : ℕ) → f j < b) → T (ranks_below b (tab f n))
unfolding tab ranks_below
tab_below b f zero h = tt
tab_below b f (suc n) h = more-below b (f 0) (tab (λ (k : ℕ). f (suc k)) n) (h 0) (tab_below b (λ (k : ℕ). f (suc k)) n (λ j. h (suc j)))

offsets_below : (p c : ℕ) → p < 2 → T (ranks_below 4 (offsets p c))
unfolding offsets
offsets_below p c h = tab_below 4 (λ j. p + 2 * bit_at c j) 8 (λ j. small (c / 2 ^ j))
  where
    small : (x : ℕ) → p + 2 * (x % 2) < 4
    small x = omega arith

offsets-length : (p c : ℕ) → length (offsets p c) ≡ 8
unfolding offsets
offsets-length p c = tab-length ℕ (λ j. p + 2 * bit_at c j) 8

module _ (p c key : ℕ) (hp : p < 2) (s : T (ranks_below 8 (unpack 8 key))) where
  pub point-fits : T (all_fit (point p c key))
  point-fits =
      subst (λ (y : List ℤ). T (all_fit y)) (sym (point-values p c key)) (values_fit (offsets p c) (unpack 8 key) (offsets_below p c hp) s)

  pub point-above : of_class (lower (offsets p c)) (class (unpack 8 key)) ≤ grade (point p c key)
  point-above =
      subst (λ (y : List ℤ). of_class (lower (offsets p c)) (class (unpack 8 key)) ≤ grade y) (sym (point-values p c key))
      (lower-bound (offsets p c) (unpack 8 key) (offsets-length p c ∙ sym (unpack-length 8 key))
      (subst (λ (n : ℕ). n ≤ 8) (sym (offsets-length p c)) (le_refl 8)) (offsets_below p c hp) s)

-- ---- the test of an entry: a byte of the state, a packed row of the class, and no greater than the least of either byte
pub of_state : ℕ → ℕ → ℕ → Bool
of_state kind st c = eqb c (end_byte tables kind st 0) || eqb c (end_byte tables kind st 1)

pub row_like : ℕ → ℕ → Bool
row_like r key = ltb key (2 ^ 32) && (eqb (class (unpack 8 key)) r && in_class r (unpack 8 key))

low : ℕ → ℕ → ℕ → ℕ → Bool
low p r g c = leb g (of_class (lower (offsets p c)) r)

pub lowest : ℕ → ℕ → ℕ → ℕ → ℕ → ℕ → Bool
lowest kind p r st c key =
    low p r (grade (point p c key)) (end_byte tables kind st 0) && low p r (grade (point p c key)) (end_byte tables kind st 1)

good : ℕ → ℕ → ℕ → ℕ → Bool
good kind p r st =
    of_state kind st (byte_of kind p r st)
    && (row_like r (key_of kind p r st) && lowest kind p r st (byte_of kind p r st) (key_of kind p r st))

all-good : T (upto 2 (λ kind. upto 2 (λ p. upto 2 (λ r. upto 64 (λ st. good kind p r st)))))
unfolding good of_state row_like lowest low offsets lower grade tab val_of fallback_bytes fallback_keys prefixes suffixes
all-good = tt

pub good-at : (kind p r st : ℕ) → kind < 2 → p < 2 → r < 2 → st < 64
    → T (of_state kind st (byte_of kind p r st)) × T (row_like r (key_of kind p r st))
    × T (lowest kind p r st (byte_of kind p r st) (key_of kind p r st))
unfolding good
good-at kind p r st a b c d =
    split3 (of_state kind st (byte_of kind p r st)) (row_like r (key_of kind p r st)) (lowest kind p r st (byte_of kind p r st) (key_of kind p r st))
    (below2 2 64 (λ r st. good kind p r st)
    (below2 2 2 (λ kind p. upto 2 (λ r. upto 64 (λ st. good kind p r st))) all-good kind p a b) r st c d)

-- what passes the tests is a member
one_of : (kind st c : ℕ) → T (of_state kind st c) → (b : ℕ) × (b < 2) × (c ≡ end_byte tables kind st b)
unfolding of_state
one_of kind st c t = go (or_cases (eqb c (end_byte tables kind st 0)) (eqb c (end_byte tables kind st 1)) t)
  where
    go : T (eqb c (end_byte tables kind st 0)) ⊎ T (eqb c (end_byte tables kind st 1)) → (b : ℕ) × (b < 2) × (c ≡ end_byte tables kind st b)
    go (inl e) = (0, lit≤ tt, eqb→eq c (end_byte tables kind st 0) e)
    go (inr e) = (1, le_refl 2, eqb→eq c (end_byte tables kind st 1) e)

row_of : (r key : ℕ) → r < 2 → T (row_like r key) → (i : ℕ) × (i < 2048) × (key ≡ get_or rows (2048 * r + i) 0)
unfolding row_like
row_of r key hr t =
    let v = unpack 8 key in
    let q = split3 (ltb key (2 ^ 32)) (eqb (class v) r) (in_class r v) t in
    let i = is_row r v refl (eqb→eq (class v) r q.1) q.2 in
    let h : i.0 < 2048 = i.1 in
    let n : 2048 * r + i.0 < 4096 = omega arith in
    (i.0, i.1, sym (pack-unpack 8 key (ltb→lt key (2 ^ 32) q.0)) ∙ ap pack (sym i.2) ∙ row_packed (2048 * r + i.0) n)

-- ---- the entry of the table is least
pub low_at : (kind p r st c key b : ℕ) → b < 2 → T (lowest kind p r st c key)
    → grade (point p c key) ≤ of_class (lower (offsets p (end_byte tables kind st b))) r
unfolding lowest low
low_at kind p r st c key b h t =
    go b h (leb→le _ _ (and_left (test 0) (test 1) t)) (leb→le _ _ (and_right (test 0) (test 1) t))
  where
    test : ℕ → Bool
    test b = low p r (grade (point p c key)) (end_byte tables kind st b)

    least : ℕ → ℕ
    least b = of_class (lower (offsets p (end_byte tables kind st b))) r

    go : (b : ℕ) → b < 2 → grade (point p c key) ≤ least 0 → grade (point p c key) ≤ least 1 → grade (point p c key) ≤ least b
    go zero h x y = x
    go (suc zero) h x y = y
    go (suc (suc b)) h x y = absurd (omega arith)

-- ---- so an entry is a member of its region (that no member of the region comes before it: proofs/Entries)
pub entry-member : (kind p r st : ℕ) → kind < 2 → p < 2 → r < 2 → st < 64 → InRegion kind r st (byte_of kind p r st) (key_of kind p r st)
entry-member kind p r st hk hp hr hs =
    let t = good-at kind p r st hk hp hr hs in
    let b = one_of kind st (byte_of kind p r st) t.0 in
    let i = row_of r (key_of kind p r st) hr t.1 in
    record { b = b.0; b_lt = b.1; byte = b.2; i = i.0; i_lt = i.1; row = i.2 }
