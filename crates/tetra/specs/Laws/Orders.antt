-- Natural order and trio order undo each other; neither one parity nor the parity of the sum of k depends on the order. Assumes nothing.
use Rattle.std.specs.Prelude.{◌≡◌, refl, List, [], ◌∷◌, map, ℕ, zero, suc, ◌+◌, ◌%◌, ◌<◌, T, eqb, ℤ, pos, length, get_or}
use Rattle.std.proofs.Common.{ap, sym, ◌∙◌, suc-le-suc, not-suc-le-zero, le_of_suc-le-suc, zero-lt-suc, arith, eqb→eq, ext_get_or}
use Rattle.std.proofs.Math.Nat.{add-mod-mod}
use Rattle.std.proofs.lemmas.List.{length-map}
use Rattle.laws.specs.Laws.Tests.{and_left, and_right, and_in, eq→eqb}
use Rattle.laws.specs.Words.{tab}
use Rattle.laws.specs.Laws.Lists.{tab-length, tab_at, map_at}
use Rattle.laws.specs.Words.{mod_z}
use Rattle.laws.proofs.Whole.{parity-add}
use Rattle.rank.specs.Coord.{parity_of, k_of}
use Rattle.rank.specs.Section.{uniform, k_sum}
use Rattle.trellis.specs.Trio.{order, places}
use Rattle.trellis.specs.Laws.Trio.{order-length, places-length, trio-fits}
use Rattle.tetra.specs.Lattice.{trio}
use Rattle.tetra.specs.Tetra.{natural}

pub trio-length : (y : List ℤ) → length (trio y) ≡ 24
unfolding trio
trio-length y = length-map order (λ (i : ℕ). get_or y i (pos 0)) ∙ order-length

pub natural-length : (t : List ℤ) → length (natural t) ≡ 24
unfolding natural
natural-length t = length-map places (λ (j : ℕ). get_or t j (pos 0)) ∙ places-length

pub trio-at : (y : List ℤ) (k : ℕ) → k < 24 → get_or (trio y) k (pos 0) ≡ get_or y (get_or order k 0) (pos 0)
unfolding trio
trio-at y k h = map_at ℕ ℤ (λ (i : ℕ). get_or y i (pos 0)) (pos 0) 0 order k (omega (arith, order-length))

pub natural-at : (t : List ℤ) (k : ℕ) → k < 24 → get_or (natural t) k (pos 0) ≡ get_or t (get_or places k 0) (pos 0)
unfolding natural
natural-at t k h = map_at ℕ ℤ (λ (j : ℕ). get_or t j (pos 0)) (pos 0) 0 places k (omega (arith, places-length))

pub trio-natural : (t : List ℤ) → length t ≡ 24 → trio (natural t) ≡ t
trio-natural t e =
    ext_get_or (pos 0) (trio (natural t)) t (trio-length (natural t) ∙ sym e)
    (λ k h.
    let l : k < 24 = omega (arith, trio-length (natural t)) in
    trio-at (natural t) k l ∙ natural-at t (get_or order k 0) (trio-fits k l).order_lt
    ∙ ap (λ (i : ℕ). get_or t i (pos 0)) (trio-fits k l).place-order)

pub natural-trio : (y : List ℤ) → length y ≡ 24 → natural (trio y) ≡ y
natural-trio y e =
    ext_get_or (pos 0) (natural (trio y)) y (natural-length (trio y) ∙ sym e)
    (λ k h.
    let l : k < 24 = omega (arith, natural-length (trio y)) in
    natural-at (trio y) k l ∙ trio-at y (get_or places k 0) (trio-fits k l).place-lt
    ∙ ap (λ (i : ℕ). get_or y i (pos 0)) (trio-fits k l).order-place)

-- ---- one parity, said of each coordinate and of the row
pub uniform-at : (p : ℕ) (t : List ℤ) → T (uniform p t) → (k : ℕ) → k < length t → parity_of (get_or t k (pos 0)) ≡ p
unfolding uniform
uniform-at p [] u k h = absurd (not-suc-le-zero h)
uniform-at p (y ∷ t) u zero h = eqb→eq (parity_of y) p (and_left (eqb (parity_of y) p) (uniform p t) u)
uniform-at p (y ∷ t) u (suc k) h = uniform-at p t (and_right (eqb (parity_of y) p) (uniform p t) u) k (le_of_suc-le-suc h)

pub at-uniform : (p : ℕ) (t : List ℤ) → ((k : ℕ) → k < length t → parity_of (get_or t k (pos 0)) ≡ p) → T (uniform p t)
unfolding uniform
at-uniform p [] f = tt
at-uniform p (y ∷ t) f =
    and_in (eqb (parity_of y) p) (uniform p t) (eq→eqb (parity_of y) p (f 0 (zero-lt-suc (length t))))
    (at-uniform p t (λ k h. f (suc k) (suc-le-suc h)))

-- it does not depend on the order
pub parity-trio : (p : ℕ) (y : List ℤ) → ((i : ℕ) → i < 24 → parity_of (get_or y i (pos 0)) ≡ p) → T (uniform p (trio y))
parity-trio p y f =
    at-uniform p (trio y)
    (λ k h.
    let l : k < 24 = omega (arith, trio-length y) in
    ap parity_of (trio-at y k l) ∙ f (get_or order k 0) (trio-fits k l).order_lt)

pub parity-natural : (p : ℕ) (t : List ℤ) → length t ≡ 24 → T (uniform p t) → (i : ℕ) → i < 24 → parity_of (get_or (natural t) i (pos 0)) ≡ p
parity-natural p t e u i h =
    ap parity_of (natural-at t i h) ∙ uniform-at p t u (get_or places i 0) (omega (arith, (trio-fits i h).place-lt))

-- ---- nor does the parity of the sum of k
-- the sum of the values of f over places
sums : (ℕ → ℕ) → List ℕ → ℕ
sums f [] = 0
sums f (i ∷ l) = f i + sums f l

k_sums : (y : List ℤ) (l : List ℕ)
    → mod_z (k_sum (map (λ (i : ℕ). get_or y i (pos 0)) l)) 2 ≡ sums (λ (i : ℕ). mod_z (k_of (get_or y i (pos 0))) 2) l % 2
unfolding k_sum sums
k_sums y [] = refl
k_sums y (i ∷ l) =
    parity-add (k_of (get_or y i (pos 0))) (k_sum (map (λ (j : ℕ). get_or y j (pos 0)) l))
    ∙ ap (λ (n : ℕ). (mod_z (k_of (get_or y i (pos 0))) 2 + n) % 2) (k_sums y l)
    ∙ add-mod-mod (mod_z (k_of (get_or y i (pos 0))) 2) (sums (λ (j : ℕ). mod_z (k_of (get_or y j (pos 0))) 2) l) 2

-- 0, 1, .., 23
count : List ℕ
count =
    0 ∷ 1 ∷ 2 ∷ 3 ∷ 4 ∷ 5 ∷ 6 ∷ 7 ∷ 8 ∷ 9 ∷ 10 ∷ 11 ∷ 12 ∷ 13 ∷ 14 ∷ 15 ∷ 16 ∷ 17 ∷ 18 ∷ 19 ∷ 20 ∷ 21 ∷ 22 ∷ 23 ∷ []

count_is : tab (λ (i : ℕ). i) 24 ≡ count
unfolding tab count
count_is = refl

-- the order names each of the 24 places once
order_is : order
    ≡ 0 ∷ 1 ∷ 2 ∷ 3 ∷ 4 ∷ 7 ∷ 10 ∷ 12 ∷ 6 ∷ 11 ∷ 13 ∷ 14 ∷ 16 ∷ 17 ∷ 18 ∷ 19 ∷ 5 ∷ 8 ∷ 9 ∷ 15 ∷ 20 ∷ 21 ∷ 22 ∷ 23 ∷ []
unfolding order
order_is = refl

reorder : (f : ℕ → ℕ) → sums f order ≡ sums f count
unfolding sums count
reorder f = rw order_is (omega arith)

listed : (y : List ℤ) → length y ≡ 24 → map (λ (i : ℕ). get_or y i (pos 0)) (tab (λ (i : ℕ). i) 24) ≡ y
listed y e =
    let l = tab (λ (i : ℕ). i) 24 in
    let n = length-map l (λ (i : ℕ). get_or y i (pos 0)) ∙ tab-length ℕ (λ (i : ℕ). i) 24 in
    ext_get_or (pos 0) (map (λ (i : ℕ). get_or y i (pos 0)) l) y (n ∙ sym e)
    (λ k h.
    map_at ℕ ℤ (λ (i : ℕ). get_or y i (pos 0)) (pos 0) 0 l k (omega (arith, n, tab-length ℕ (λ (i : ℕ). i) 24))
    ∙ ap (λ (i : ℕ). get_or y i (pos 0)) (tab_at ℕ 0 (λ (i : ℕ). i) 24 k (omega (arith, n))))

pub k_order : (y : List ℤ) → length y ≡ 24 → mod_z (k_sum (trio y)) 2 ≡ mod_z (k_sum y) 2
unfolding trio
k_order y e =
    k_sums y order ∙ ap (λ (n : ℕ). n % 2) (reorder (λ (i : ℕ). mod_z (k_of (get_or y i (pos 0))) 2))
    ∙ sym (k_sums y count) ∙ ap (λ (l : List ℤ). mod_z (k_sum l) 2) (ap (map (λ (i : ℕ). get_or y i (pos 0))) (sym count_is) ∙ listed y e)
