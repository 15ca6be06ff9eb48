-- Lists: one given place by place, as a loop fills it; what a loop that reads or stores a list has left; a list after another, and what a
-- function makes of each element; the place at which a number stands. Assumes nothing.
use Rattle.std.specs.Prelude.{◌≡◌, refl, Bool, true, false, cond, List, [], ◌∷◌, ◌++◌, map, ℕ, zero, suc, ◌+◌, ◌-◌, ◌<◌, ◌≤◌, eqb, length, get_or, set, drop}
use Rattle.std.proofs.Common.{ap, ap₂, ◌∙◌, suc-le-suc, not-suc-le-zero, le_of_suc-le-suc, zero-lt-suc, add-zero, add-suc, suc-add, le_of_eq, add-one, arith, below_more, eqb-true, eq-eqb, drop_of_length-le, get_or-set_same, get_or-set_other, get_or-append-add, drop-cons}
use Rattle.std.proofs.lemmas.List.Edits.{sets}
use Rattle.laws.specs.Words.{tab, seek}

-- ---- given place by place
pub tab-length : (A : Type 0) (f : ℕ → A) (n : ℕ) → length (tab f n) ≡ n
unfolding tab
tab-length A f zero = refl
tab-length A f (suc n) = ap suc (tab-length A (λ (k : ℕ). f (suc k)) n)

pub tab_at : (A : Type 0) (d : A) (f : ℕ → A) (n k : ℕ) → k < n → get_or (tab f n) k d ≡ f k
unfolding tab
tab_at A d f zero k h = absurd (not-suc-le-zero h)
tab_at A d f (suc n) zero h = refl
tab_at A d f (suc n) (suc k) h = tab_at A d (λ (m : ℕ). f (suc m)) n k (le_of_suc-le-suc h)

-- a list that has f at each of n places
pub filled : (A : Type 0) (d : A) (n : ℕ) (f : ℕ → A) (xs : List A) → length xs ≡ n
    → ((k : ℕ) → k < n → get_or xs k d ≡ f k) → xs ≡ tab f n
unfolding tab
filled A d zero f [] e p = refl
filled A d zero f (x ∷ xs) e p = absurd (omega arith)
filled A d (suc n) f [] e p = absurd (omega arith)
filled A d (suc n) f (x ∷ xs) e p =
    ap₂ {C = List A} (λ a l. a ∷ l) (p 0 (zero-lt-suc n))
    (filled A d n (λ (k : ℕ). f (suc k)) xs (omega arith) (λ k l. p (suc k) (suc-le-suc l)))

-- where f and g agree
pub tab-eq : (A : Type 0) (d : A) (f g : ℕ → A) (n : ℕ) → ((k : ℕ) → k < n → f k ≡ g k) → tab f n ≡ tab g n
tab-eq A d f g n h = filled A d n g (tab f n) (tab-length A f n) (λ k l. tab_at A d f n k l ∙ h k l)

-- one more place filled
pub filled_more : (A : Type 0) (d : A) (f : ℕ → A) (xs : List A) (j : ℕ) (v : A) → j < length xs → v ≡ f j
    → ((k : ℕ) → k < j → get_or xs k d ≡ f k) → (k : ℕ) → k < j + 1 → get_or (set xs j v) k d ≡ f k
filled_more A d f xs j v h e p =
    below_more _ j (λ k l. get_or-set_other xs j k v d (λ q. omega arith) ∙ p k l) (get_or-set_same xs j v d h ∙ e)

-- ---- read or stored from place j on
-- what a loop has left at j is the element at j and what it has left at j + 1
pub drop-next : (A : Type 0) (d : A) (xs : List A) (j : ℕ) → j < length xs → drop j xs ≡ get_or xs j d ∷ drop (j + 1) xs
drop-next A d xs j h = rw add-one (drop-cons xs j d h)

-- what a loop that stores a list from `at` on has left to store at j: the element at j, and what it has left at j + 1
pub store_next : (A : Type 0) (d : A) (vs l : List A) (at j : ℕ) → j < length vs
    → sets l (at + j) (drop j vs) ≡ sets (set l (at + j) (get_or vs j d)) (at + (j + 1)) (drop (j + 1) vs)
store_next A d vs l at j h =
    let e : at + (j + 1) ≡ suc (at + j) = omega arith in
    rw (drop-next A d vs j h, e)

-- nothing, at the end
pub store_end : (A : Type 0) (vs l : List A) (at j : ℕ) → length vs ≤ j → sets l (at + j) (drop j vs) ≡ l
store_end A vs l at j h = rw (drop_of_length-le vs h)

-- the stores of one list after those of another
pub sets-append : (A : Type 0) (a b l : List A) (i : ℕ) → sets l i (a ++ b) ≡ sets (sets l i a) (i + length a) b
sets-append A [] b l i = rw add-zero
sets-append A (x ∷ a) b l i = rw (add-suc, ← suc-add) (sets-append A a b (set l i x) (suc i))

-- ---- one list after another, past the first; in the first it is get_or-append of the library
pub append_past : (A : Type 0) (d : A) (u v : List A) (j : ℕ) → length u ≤ j → get_or (u ++ v) j d ≡ get_or v (j - length u) d
append_past A d u v j h = ap (λ (n : ℕ). get_or (u ++ v) n d) back ∙ get_or-append-add u v (j - length u) d
  where
    back : j ≡ length u + (j - length u)
    back = omega arith

-- ---- what f makes of each element
pub map_at : (A B : Type 0) (f : A → B) (d : B) (e : A) (xs : List A) (k : ℕ) → k < length xs → get_or (map f xs) k d ≡ f (get_or xs k e)
map_at A B f d e [] k h = absurd (not-suc-le-zero h)
map_at A B f d e (x ∷ xs) zero h = refl
map_at A B f d e (x ∷ xs) (suc k) h = map_at A B f d e xs k (le_of_suc-le-suc h)

-- ---- looked for in a list of numbers
-- what holds of the first place where the list begins with c, and where it does not, holds of the place found
seek_by : (P : ℕ → Type 0) (c x : ℕ) (xs : List ℕ) → (x ≡ c → P 0) → P (suc (seek c xs)) → P (seek c (x ∷ xs))
seek_by P c x xs here on = go (eqb x c) refl
  where
    go : (b : Bool) → eqb x c ≡ b → P (cond b 0 (suc (seek c xs)))
    go true e = here (eqb-true x c e)
    go false e = on

pub seek-le : (c : ℕ) (xs : List ℕ) → seek c xs ≤ length xs
seek-le c [] = omega arith
seek-le c (x ∷ xs) =
    seek_by (λ (i : ℕ). i ≤ suc (length xs)) c x xs (λ e. omega arith) (suc-le-suc (seek-le c xs))

-- a place found holds the number
pub seek-holds : (c : ℕ) (xs : List ℕ) → seek c xs < length xs → get_or xs (seek c xs) 0 ≡ c
seek-holds c [] = λ h. absurd (not-suc-le-zero h)
seek-holds c (x ∷ xs) =
    seek_by (λ (i : ℕ). i < suc (length xs) → get_or (x ∷ xs) i 0 ≡ c) c x xs (λ e h. e)
    (λ h. seek-holds c xs (le_of_suc-le-suc h))

-- no place past one that holds the number is found
pub seek-first : (c : ℕ) (xs : List ℕ) (i : ℕ) → i < length xs → get_or xs i 0 ≡ c → seek c xs ≤ i
seek-first c [] i h e = absurd (not-suc-le-zero h)
seek-first c (x ∷ xs) zero h e = le_of_eq (ap (λ (b : Bool). cond b 0 (suc (seek c xs))) (eq-eqb x c e))
seek-first c (x ∷ xs) (suc i) h e =
    seek_by (λ (k : ℕ). k ≤ suc i) c x xs (λ q. omega arith) (suc-le-suc (seek-first c xs i (le_of_suc-le-suc h) e))
