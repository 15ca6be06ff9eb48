-- Every rank vector that meets its class's bound is a row. Assumes nothing.
use Rattle.std.specs.Prelude.{◌≡◌, Bool, cond, ◌&&◌, List, [], ◌∷◌, ℕ, zero, suc, ◌+◌, ◌^◌, ◌<◌, ◌≤◌, T, ltb, eqb, length, get_or, take, drop}
use Rattle.std.proofs.Common.{◌∙◌, ap, sym, arith, eqb→eq, ltb→lt, lt→ltb}
use Rattle.laws.specs.Laws.Tests.{upto, below, implies, modus, and_left, and_right}
use Rattle.laws.specs.Laws.Trees.{Tree, build, get, get_build}
use Rattle.rank.specs.Vector.{sq, cost, class, pack, unpack, in_class}
use Rattle.rank.specs.Laws.Vector.{below_up, length≤cost, rank_small, class-cost, class-ranks, unpack-pack}
use Rattle.rows.specs.Rows.{rows}
use Rattle.rows.specs.Table.{row_ranks, IsRow}
use Rattle.rows.specs.Laws.Order.{in_order}

-- ---- a test at every vector of d ranks whose cost stays below K, s spent: coordinate by coordinate; a branch ends once its cost, each
-- open coordinate counted as 1, reaches K. No rank from 6 on costs less than 169.
abbrev cheap : ℕ → ℕ → ℕ → (List ℕ → Bool) → Bool
cheap K zero s f = f []
cheap K (suc d) s f = upto 6 (λ (r : ℕ). implies (ltb (s + sq r + d) K) (cheap K d (s + sq r) (λ (v : List ℕ). f (r ∷ v))))

cheap-at : (K : ℕ) → K ≤ 169 → (d s : ℕ) (f : List ℕ → Bool) → T (cheap K d s f) → (v : List ℕ) → length v ≡ d → s + cost v < K → T (f v)
cheap-at K hK zero s f t [] e h = t
cheap-at K hK zero s f t (r ∷ v) e h = absurd (omega arith)
cheap-at K hK (suc d) s f t [] e h = absurd (omega arith)
cheap-at K hK (suc d) s f t (r ∷ v) e h =
    cheap-at K hK d (s + sq r) (λ (w : List ℕ). f (r ∷ w))
    (modus (ltb (s + sq r + d) K) (cheap K d (s + sq r) (λ (w : List ℕ). f (r ∷ w)))
    (lt→ltb (s + sq r + d) K (omega (arith, length≤cost v)))
    (below 6 (λ (x : ℕ). implies (ltb (s + sq x + d) K) (cheap K d (s + sq x) (λ (w : List ℕ). f (x ∷ w)))) t r
    (rank_small 6 r (omega arith))))
    v (omega arith) (omega arith)

-- ---- a guess at the place of a vector, by the rows at the forks of a search tree
data Forks : Type 0 where
  tip : Forks
  fork : List ℕ → Forks → Forks → Forks

abbrev forks_of : ℕ → List ℕ → Forks
forks_of zero ws = tip
forks_of (suc d) ws = fork (unpack 8 (get_or ws (2 ^ d) 0)) (forks_of d (take (2 ^ d) ws)) (forks_of d (drop (2 ^ d) ws))

-- where v would stand among 2 ^ d rows, counted from lo. A `let` waits: as arguments of `cond` both halves would be searched
abbrev seek : ℕ → List ℕ → ℕ → Forks → ℕ
seek zero v lo t = lo
seek (suc d) v lo tip = lo
seek (suc d) v lo (fork u l r) = let low = seek d v lo l in let high = seek d v (lo + 2 ^ d) r in cond (in_order v u) low high

row_tree : Tree
unfolding rows
row_tree = build 12 rows

forks : Forks
unfolding rows
forks = forks_of 12 rows

guess : List ℕ → ℕ
guess v = seek 12 v 0 forks

-- ---- the test: a vector that meets its class's bound is the row at the guessed place
found : List ℕ → Bool
found v = implies (in_class (class v) v) (ltb (guess v) 4096 && eqb (get 12 row_tree (guess v)) (pack v))

all_found : T (cheap 97 8 0 found)
unfolding found guess row_tree forks rows
all_found = tt

row_is : (i : ℕ) → i < 4096 → get 12 row_tree i ≡ get_or rows i 0
unfolding row_tree
row_is i h = get_build 12 rows i h

is_found : (v : List ℕ) → T (in_class (class v) v) → T (found v) → (guess v < 4096) × (get_or rows (guess v) 0 ≡ pack v)
unfolding found
is_found v h t = go (guess v) (modus (in_class (class v) v) (ltb (guess v) 4096 && eqb (get 12 row_tree (guess v)) (pack v)) h t)
  where
    go : (i : ℕ) → T (ltb i 4096 && eqb (get 12 row_tree i) (pack v)) → (i < 4096) × (get_or rows i 0 ≡ pack v)
    go i t =
        let l = ltb→lt i 4096 (and_left (ltb i 4096) (eqb (get 12 row_tree i) (pack v)) t) in
        (l, sym (row_is i l) ∙ eqb→eq (get 12 row_tree i) (pack v) (and_right (ltb i 4096) (eqb (get 12 row_tree i) (pack v)) t))

pub complete : (v : List ℕ) → length v ≡ 8 → T (in_class (class v) v) → IsRow v
unfolding row_ranks
complete v e h =
    let f = is_found v h (cheap-at 97 (omega arith) 8 0 found all_found v e (omega (arith, class-cost (class v) v h))) in
    let small = below_up 5 16 (omega arith) v (class-ranks (class v) v h) in
    (guess v, f.0, ap (unpack 8) f.1 ∙ ap (λ (n : ℕ). unpack n (pack v)) (sym e) ∙ unpack-pack v small)
