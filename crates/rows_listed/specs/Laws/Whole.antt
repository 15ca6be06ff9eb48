-- The sorted listing is the whole listing in order: 14,674 rows (`sorted_count`), the same rows as the listing's
-- (`sorted_same`), each before all that follow by cost and then by ranks (`sorted_ordered`). Without this the table,
-- which needs the first 2,048 of each class alone, would not notice if rows were left out behind them. Assumes
-- nothing.
use Rattle.std.specs.Prelude.{◌≡◌, Bool, true, false, cond, ◌⊎◌, ◌↔◌, ℕ, zero, suc, ◌+◌, ◌^◌, ◌<◌, ◌≤◌, T, length, get_or, take, drop}
use Rattle.std.proofs.Common.{subst, sym, ap, ap₂, ◌∙◌, inl, inr, pow-suc, not-suc-le-zero, arith, length-append, take-append-drop, length-drop, take_all}
use mathlib.Core.List.Memᴰ
use mathlib.Core.List.{
  List,
  [],
  ◌∷◌,
  ◌++◌,
  Memᴰ,
}
use Rattle.laws.specs.Laws.Tables.{chain, chain_at}
use Rattle.rank.specs.Vector.{unpack, before}
use Rattle.rank.specs.Laws.Vector.{before-trans}
use Rattle.listing.specs.Listing.{listing, under, grow}
use Rattle.listing.specs.Laws.Listed.{count}
use Rattle.rows_listed.specs.Sorted.{merge, sort, sorted}

-- ---- no row is lost
-- what holds of both lists holds of the chosen one
either : (P : List ℕ → Type 0) (t : Bool) (u v : List ℕ) → P u → P v → P (cond t u v)
either P true u v p q = p
either P false u v p q = q

-- a row is the first, or stands past it
on : (x a : ℕ) (u v : List ℕ) → (Memᴰ x u → Memᴰ x v)
    → (x ≡ a) ⊎ Memᴰ x u → Memᴰ x (a ∷ v)
on x a u v f (inl e) = Memᴰ.head e
on x a u v f (inr m) = Memᴰ.tail (f m)

merge_left : (x n : ℕ) (xs ys : List ℕ) → length xs + length ys < n
    → Memᴰ x xs → Memᴰ x (merge n xs ys)
unfolding merge
merge_left x zero xs ys h m = absurd (not-suc-le-zero h)
merge_left x (suc n) [] ys h m = absurd (Memᴰ.not-nil m)
merge_left x (suc n) (a ∷ xs) [] h m = m
merge_left x (suc n) (a ∷ xs) (b ∷ ys) h m =
    either (λ (l : List ℕ). Memᴰ x l) (before (unpack 8 b) (unpack 8 a)) (b ∷ merge n (a ∷ xs) ys) (a ∷ merge n xs (b ∷ ys))
    (Memᴰ.tail (merge_left x n (a ∷ xs) ys (omega arith) m))
    (on x a xs (merge n xs (b ∷ ys)) (merge_left x n xs (b ∷ ys) (omega arith)) (Memᴰ.cases_cons m))

merge_right : (x n : ℕ) (xs ys : List ℕ) → length xs + length ys < n
    → Memᴰ x ys → Memᴰ x (merge n xs ys)
unfolding merge
merge_right x zero xs ys h m = absurd (not-suc-le-zero h)
merge_right x (suc n) [] ys h m = m
merge_right x (suc n) (a ∷ xs) [] h m = absurd (Memᴰ.not-nil m)
merge_right x (suc n) (a ∷ xs) (b ∷ ys) h m =
    either (λ (l : List ℕ). Memᴰ x l) (before (unpack 8 b) (unpack 8 a)) (b ∷ merge n (a ∷ xs) ys) (a ∷ merge n xs (b ∷ ys))
    (on x b ys (merge n (a ∷ xs) ys) (merge_right x n (a ∷ xs) ys (omega arith)) (Memᴰ.cases_cons m))
    (Memᴰ.tail (merge_right x n xs (b ∷ ys) (omega arith) m))

merge-length : (n : ℕ) (xs ys : List ℕ) → length xs + length ys < n
    → length (merge n xs ys) ≡ length xs + length ys
unfolding merge
merge-length zero xs ys h = absurd (not-suc-le-zero h)
merge-length (suc n) [] ys h = omega arith
merge-length (suc n) (a ∷ xs) [] h = omega arith
merge-length (suc n) (a ∷ xs) (b ∷ ys) h =
    either (λ (l : List ℕ). length l ≡ length (a ∷ xs) + length (b ∷ ys)) (before (unpack 8 b) (unpack 8 a))
    (b ∷ merge n (a ∷ xs) ys) (a ∷ merge n xs (b ∷ ys))
    (omega (arith, merge-length n (a ∷ xs) ys (omega arith)))
    (omega (arith, merge-length n xs (b ∷ ys) (omega arith)))

take_most : (n : ℕ) (ws : List ℕ) → length (take n ws) ≤ n
take_most zero ws = omega arith
take_most (suc n) [] = omega arith
take_most (suc n) (w ∷ ws) = omega (arith, take_most n ws)

halves : (n : ℕ) (ws : List ℕ) → length (take n ws) + length (drop n ws) ≡ length ws
halves n ws = sym (length-append (take n ws) (drop n ws)) ∙ ap length (take-append-drop n ws)

drop_most : (d : ℕ) (ws : List ℕ) → length ws ≤ 2 ^ suc d → length (drop (2 ^ d) ws) ≤ 2 ^ d
drop_most d ws h = omega (arith, length-drop (2 ^ d) ws, pow-suc 2 d)

-- both halves, sorted, and room to merge them
room : (d : ℕ) (a b u v : List ℕ) → length a ≤ 2 ^ d → length b ≤ 2 ^ d
    → length u ≡ length a → length v ≡ length b
    → length u + length v < 2 ^ suc d + 1
room d a b u v ha hb ea eb = omega (arith, pow-suc 2 d)

sort-length : (d : ℕ) (ws : List ℕ) → length ws ≤ 2 ^ d → length (sort d ws) ≡ length ws
unfolding sort
sort-length zero ws h = ap length (take_all 1 ws h)
sort-length (suc d) ws h =
    let a = take (2 ^ d) ws in
    let b = drop (2 ^ d) ws in
    let ha = take_most (2 ^ d) ws in
    let hb = drop_most d ws h in
    let ea = sort-length d a ha in
    let eb = sort-length d b hb in
    merge-length (2 ^ suc d + 1) (sort d a) (sort d b) (room d a b (sort d a) (sort d b) ha hb ea eb)
    ∙ ap₂ (λ (m n : ℕ). m + n) ea eb
    ∙ halves (2 ^ d) ws

by_halves : (x k : ℕ) (P : Type 0) (ws : List ℕ)
    → (Memᴰ x (take k ws) → P) → (Memᴰ x (drop k ws) → P) → Memᴰ x ws → P
by_halves x k P ws f g m =
    go (Memᴰ.append_cases (take k ws) (subst (λ (l : List ℕ). Memᴰ x l) (sym (take-append-drop k ws)) m))
  where
    go : Memᴰ x (take k ws) ⊎ Memᴰ x (drop k ws) → P
    go (inl n) = f n
    go (inr n) = g n

sort-keeps : (x d : ℕ) (ws : List ℕ) → length ws ≤ 2 ^ d → Memᴰ x ws → Memᴰ x (sort d ws)
unfolding sort
sort-keeps x zero ws h m = subst (λ (l : List ℕ). Memᴰ x l) (sym (take_all 1 ws h)) m
sort-keeps x (suc d) ws h m =
    let a = take (2 ^ d) ws in
    let b = drop (2 ^ d) ws in
    let ha = take_most (2 ^ d) ws in
    let hb = drop_most d ws h in
    let free = room d a b (sort d a) (sort d b) ha hb (sort-length d a ha) (sort-length d b hb) in
    by_halves x (2 ^ d) (Memᴰ x (merge (2 ^ suc d + 1) (sort d a) (sort d b))) ws
    (λ m. merge_left x (2 ^ suc d + 1) (sort d a) (sort d b) free (sort-keeps x d a ha m))
    (λ m. merge_right x (2 ^ suc d + 1) (sort d a) (sort d b) free (sort-keeps x d b hb m))
    m

-- ---- no row is added
-- from the first row of either list, or from what is merged after it
was_left : (x a : ℕ) (xs ys l : List ℕ)
    → (Memᴰ x l → Memᴰ x xs ⊎ Memᴰ x ys) → Memᴰ x (a ∷ l) → Memᴰ x (a ∷ xs) ⊎ Memᴰ x ys
was_left x a xs ys l f m = go (Memᴰ.cases_cons m)
  where
    after : Memᴰ x xs ⊎ Memᴰ x ys → Memᴰ x (a ∷ xs) ⊎ Memᴰ x ys
    after (inl n) = inl (Memᴰ.tail n)
    after (inr n) = inr n

    go : (x ≡ a) ⊎ Memᴰ x l → Memᴰ x (a ∷ xs) ⊎ Memᴰ x ys
    go (inl e) = inl (Memᴰ.head e)
    go (inr n) = after (f n)

was_right : (x b : ℕ) (xs ys l : List ℕ)
    → (Memᴰ x l → Memᴰ x xs ⊎ Memᴰ x ys) → Memᴰ x (b ∷ l) → Memᴰ x xs ⊎ Memᴰ x (b ∷ ys)
was_right x b xs ys l f m = go (Memᴰ.cases_cons m)
  where
    after : Memᴰ x xs ⊎ Memᴰ x ys → Memᴰ x xs ⊎ Memᴰ x (b ∷ ys)
    after (inl n) = inl n
    after (inr n) = inr (Memᴰ.tail n)

    go : (x ≡ b) ⊎ Memᴰ x l → Memᴰ x xs ⊎ Memᴰ x (b ∷ ys)
    go (inl e) = inr (Memᴰ.head e)
    go (inr n) = after (f n)

merge_from : (x n : ℕ) (xs ys : List ℕ) → Memᴰ x (merge n xs ys) → Memᴰ x xs ⊎ Memᴰ x ys
unfolding merge
merge_from x zero xs ys m = absurd (Memᴰ.not-nil m)
merge_from x (suc n) [] ys m = inr m
merge_from x (suc n) (a ∷ xs) [] m = inl m
merge_from x (suc n) (a ∷ xs) (b ∷ ys) m =
    either (λ (l : List ℕ). Memᴰ x l → Memᴰ x (a ∷ xs) ⊎ Memᴰ x (b ∷ ys)) (before (unpack 8 b) (unpack 8 a)) (b ∷ merge n (a ∷ xs) ys)
    (a ∷ merge n xs (b ∷ ys))
    (was_right x b (a ∷ xs) ys (merge n (a ∷ xs) ys) (merge_from x n (a ∷ xs) ys))
    (was_left x a xs (b ∷ ys) (merge n xs (b ∷ ys)) (merge_from x n xs (b ∷ ys)))
    m

whole : (x k : ℕ) (ws : List ℕ) → Memᴰ x (take k ws) ⊎ Memᴰ x (drop k ws) → Memᴰ x ws
whole x k ws m = subst (λ (l : List ℕ). Memᴰ x l) (take-append-drop k ws) (go m)
  where
    go : Memᴰ x (take k ws) ⊎ Memᴰ x (drop k ws) → Memᴰ x (take k ws ++ drop k ws)
    go (inl n) = Memᴰ.append_left (drop k ws) n
    go (inr n) = Memᴰ.append_right (take k ws) n

both : (A B C D : Type 0) → (A → C) → (B → D) → A ⊎ B → C ⊎ D
both A B C D f g (inl a) = inl (f a)
both A B C D f g (inr b) = inr (g b)

sort_from : (x d : ℕ) (ws : List ℕ) → Memᴰ x (sort d ws) → Memᴰ x ws
unfolding sort
sort_from x zero ws m = whole x 1 ws (inl m)
sort_from x (suc d) ws m =
    let a = take (2 ^ d) ws in
    let b = drop (2 ^ d) ws in
    whole x (2 ^ d) ws
    (both (Memᴰ x (sort d a)) (Memᴰ x (sort d b)) (Memᴰ x a) (Memᴰ x b) (sort_from x d a) (sort_from x d b)
    (merge_from x (2 ^ suc d + 1) (sort d a) (sort d b) m))

-- ---- the same rows
pub sorted_same : (x : ℕ) → Memᴰ x listing ↔ Memᴰ x sorted
unfolding sorted
sorted_same x = (λ m. sort-keeps x 14 listing (omega (arith, count)) m, λ m. sort_from x 14 listing m)

-- ---- how many
pub sorted_count : length sorted ≡ 14674
unfolding sorted
sorted_count = sort-length 14 listing (omega (arith, count)) ∙ count

-- ---- in which order: a test, computed
earlier : ℕ → ℕ → Bool
earlier w x = before (unpack 8 w) (unpack 8 x)

in_order_lem : T (chain earlier sorted)
unfolding earlier sorted sort merge listing under grow
in_order_lem = tt

pub sorted_ordered : (i j : ℕ) → i < j → j < 14674
    → T (before (unpack 8 (get_or sorted i 0)) (unpack 8 (get_or sorted j 0)))
unfolding earlier
sorted_ordered i j h k =
    chain_at earlier (λ w x y. before-trans (unpack 8 w) (unpack 8 x) (unpack 8 y)) sorted in_order_lem i j h (omega (arith, sorted_count))
