-- A search among the rows of one class: those that come no later than a vector stand first, and the last of them is the vector if any row is.
-- Assumes nothing.
use mathlib.Core.Path.{◌≡◌, ◌∙◌, ap, sym, subst}
use mathlib.Core.Bool.{Bool, true, false}
use mathlib.Core.List.{List}
use Prim.Native.Nat.{ℕ, ◌+◌, ◌*◌, ◌-◌, ◌/◌, ◌<◌, ◌≤◌}
use native.Mathlib.Omega.{arith}
use lib.Dec.{T}
use lib.ListN.{length, get_or}
use Rattle.std.specs.List.{slice_range}
use Rattle.std.specs.List.Sorted.{IsPartitionedBy, IsPartitionPoint}
use Rattle.std.proofs.lemmas.List.{get_or-take, get_or-drop, get_or_default, length-take-le, length-drop}
use Rattle.laws.specs.Laws.Tests.{is_true, true_is}
use Rattle.laws.specs.Laws.Order.{Compared, less, same, more, trichotomy}
use Rattle.rank.specs.Vector.{cost, unpack, within}
use Rattle.rank.specs.Answers.{Classed, classed_of}
use Rattle.rank.specs.Laws.Vector.{below_up, class-accepted, class-two, within_down, within_self}
use Rattle.rows.specs.Rows.{rows}
use Rattle.rows.specs.Table.{row_ranks, max_rank}
use Rattle.rows.specs.Laws.Rule.{count, row-class, row_ranks_lem}
use Rattle.rows.specs.Laws.Order.{rows_before, no_later}

-- a row read from the table as it was lent
pub read : {t : List ℕ} (i : ℕ) → t ≡ rows → get_or t i 0 ≡ get_or rows i 0
read i e = ap (λ (v : List ℕ). get_or v i 0) e

-- the rows of a class
abbrev pub of_class : ℕ → List ℕ
of_class c = slice_range rows (2048 * c) (2048 * c + 2048)

-- whether row x, packed, comes no later than the vector of cost C and ranks cut
abbrev pub comes : ℕ → List ℕ → ℕ → Bool
comes C cut x = within C cut (unpack 8 x)

-- the class of w, as a call answers it
pub class_of : (w : ℕ) {v : List ℕ} {a : Classed} {n : ℕ} → v ≡ unpack 8 w → a ≡ classed_of v → n ≡ a.class
    → (n ≡ (classed_of (unpack 8 w)).class) × (n < 2)
class_of w {v} {a} {n} e q p =
    let is : n ≡ (classed_of (unpack 8 w)).class = p ∙ ap (λ (a : Classed). a.class) (q ∙ ap classed_of e) in
    (is, omega (arith, is, class-two (unpack 8 w)))

module _ (c : ℕ) (hc : c < 2) where
  size : length (of_class c) ≡ 2048
  size = length-take-le _ _ (omega (arith, length-drop (2048 * c) rows, count)) ∙ omega arith

  ranks_at : (m d : ℕ) → m < 2048 → unpack 8 (get_or (of_class c) m d) ≡ row_ranks (2048 * c + m)
  unfolding row_ranks
  ranks_at m d h =
      ap (unpack 8)
      (get_or-take (2048 * c + 2048 - 2048 * c) _ m d (omega arith) ∙ get_or-drop (2048 * c) rows m d
      ∙ get_or_default rows (2048 * c + m) d 0 (omega (arith, count)))

  -- what comes no later than a vector stands before what comes later
  module _ (C : ℕ) (cut : List ℕ) where
    told : (m d : ℕ) → m < 2048 → comes C cut (get_or (of_class c) m d) ≡ within C cut (row_ranks (2048 * c + m))
    told m d h = ap (within C cut) (ranks_at m d h)

    pub parted : IsPartitionedBy (comes C cut) (of_class c)
    parted i j d h k e = go (trichotomy i j)
      where
        go : Compared i j → comes C cut (get_or (of_class c) i d) ≡ true
        go (less l) =
            told i d (omega (arith, size))
            ∙ is_true _ (within_down C cut (row_ranks (2048 * c + i)) (row_ranks (2048 * c + j))
            (rows_before (2048 * c + i) (2048 * c + j) (omega arith) (omega (arith, size)) (omega (arith, size)))
            (true_is _ (sym (told j d (omega (arith, size))) ∙ e)))
        go (same q) = ap (λ (n : ℕ). comes C cut (get_or (of_class c) n d)) q ∙ e
        go (more l) = absurd (omega arith)

-- a row that is w is of w's class
own : (w c : ℕ) → c ≡ (classed_of (unpack 8 w)).class → (i : ℕ) → i < 4096 → get_or rows i 0 ≡ w → i / 2048 ≡ c
unfolding row_ranks
own w c q i h e =
    sym (row-class i h) ∙ sym (class-accepted (row_ranks i) (below_up (max_rank + 1) 8 (omega arith) (row_ranks i) (row_ranks_lem i h)))
    ∙ ap (λ (x : ℕ). (classed_of (unpack 8 x)).class) e ∙ sym q

module _ (w c n : ℕ) (hc : c < 2) (hn : n ≤ 2048)
    (p : IsPartitionPoint (λ (y : ℕ). comes (cost (unpack 8 w)) (unpack 8 w) y ≡ true) (λ (y : ℕ). comes (cost (unpack 8 w)) (unpack 8 w) y ≡ false) (of_class c) n) where
  -- row m of the class is w
  module _ (m : ℕ) (hm : m < 2048) (e : row_ranks (2048 * c + m) ≡ unpack 8 w) where
    before_it : m < n
    before_it = go (trichotomy m n)
      where
        here : comes (cost (unpack 8 w)) (unpack 8 w) (get_or (of_class c) m 0) ≡ true
        here =
            told c hc (cost (unpack 8 w)) (unpack 8 w) m 0 hm ∙ ap (within (cost (unpack 8 w)) (unpack 8 w)) e
            ∙ is_true _ (within_self (unpack 8 w))

        late : n ≤ m → m < n
        late l = let f : true ≡ false = sym here ∙ p.1 m 0 l (omega (arith, size c hc)) in cc

        go : Compared m n → m < n
        go (less l) = l
        go (same q) = late (omega arith)
        go (more l) = late (omega arith)

    not_after : n ≤ m + 1
    not_after = go (trichotomy n (m + 1))
      where
        early : m + 1 < n → n ≤ m + 1
        early l =
            let t = sym (told c hc (cost (unpack 8 w)) (unpack 8 w) (m + 1) 0 (omega arith)) ∙ p.0 (m + 1) 0 (omega arith) l in
            let s : T (within (cost (row_ranks (2048 * c + m))) (row_ranks (2048 * c + m)) (row_ranks (2048 * c + (m + 1)))) =
            true_is _ (ap (λ (v : List ℕ). within (cost v) v (row_ranks (2048 * c + (m + 1)))) e ∙ t) in
            absurd (omega (arith, (no_later (2048 * c + m) (2048 * c + (m + 1)) (omega arith) (omega arith) (omega arith)).0 s))

        go : Compared n (m + 1) → n ≤ m + 1
        go (less l) = omega arith
        go (same q) = omega arith
        go (more l) = early l

    is : n ≡ m + 1
    is = omega (arith, before_it, not_after)

  only : c ≡ (classed_of (unpack 8 w)).class → (i : ℕ) → i < 4096 → get_or rows i 0 ≡ w → i ≡ 2048 * c + (n - 1)
  unfolding row_ranks
  only q i h e =
      let o : i / 2048 ≡ c = own w c q i h e in
      let place : 2048 * c + (i - 2048 * c) ≡ i = omega arith in
      omega (arith, is (i - 2048 * c) (omega arith) (ap row_ranks place ∙ ap (unpack 8) e))

pub found : (w c C : ℕ) (cut : List ℕ) (n : ℕ) (t : List ℕ) → t ≡ rows → c ≡ (classed_of (unpack 8 w)).class → c < 2
    → C ≡ cost (unpack 8 w) → cut ≡ unpack 8 w → n ≤ length (slice_range t (2048 * c) (2048 * c + 2048))
    → IsPartitionPoint (λ (y : ℕ). comes C cut y ≡ true) (λ (y : ℕ). comes C cut y ≡ false) (slice_range t (2048 * c) (2048 * c + 2048)) n
    → (2048 * c + (n - 1) < 4096) × ((i : ℕ) → i < 4096 → get_or rows i 0 ≡ w → i ≡ 2048 * c + (n - 1))
found w c C cut n t e q hc f g b p =
    let hn : n ≤ 2048 = omega (arith, size c hc, ap (λ (l : List ℕ). length (slice_range l (2048 * c) (2048 * c + 2048))) e) in
    let r = subst (λ (l : List ℕ). IsPartitionPoint (λ (y : ℕ). comes C cut y ≡ true) (λ (y : ℕ). comes C cut y ≡ false)
    (slice_range l (2048 * c) (2048 * c + 2048)) n) e p in
    let s = subst (λ (k : ℕ). IsPartitionPoint (λ (y : ℕ). comes k cut y ≡ true) (λ (y : ℕ). comes k cut y ≡ false) (of_class c) n) f r in
    let o = subst (λ (v : List ℕ). IsPartitionPoint (λ (y : ℕ). comes (cost (unpack 8 w)) v y ≡ true) (λ (y : ℕ). comes (cost (unpack 8 w)) v y ≡ false)
    (of_class c) n) g s in
    (omega arith, only w c n hc hn o q)
