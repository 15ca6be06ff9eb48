-- The words of a page, odd or not. Assumes nothing.
use Rattle.std.specs.Prelude.{◌≡◌, refl, Bool, true, false, not, ◌||◌, List, [], ◌∷◌, ℕ, zero, suc, ◌+◌, ◌<◌, T, eqb, length, get_or, drop}
use Rattle.std.proofs.Common.{ap, subst, suc-le-suc, zero-lt-suc, not-suc-le-zero, le_of_suc-le-suc, arith, eq-eqb, ne_eqb, eqb-true, drop_of_length-le}
use Rattle.laws.specs.Laws.Lists.{drop-next}
use Rattle.refusal.specs.Refusal.{all_odd}
use Rattle.even.specs.Even.{word_number, any_odd}

-- no word has p = 1
abbrev pub AllEven : List ℕ → Type 0
AllEven ws = (i : ℕ) → i < length ws → word_number (get_or ws i 0) ≡ 0

-- some word has
abbrev pub SomeOdd : List ℕ → Type 0
SomeOdd ws = (i : ℕ) × (i < length ws) × (word_number (get_or ws i 0) ≡ all_odd)

-- ---- what the test says
pub none-odd : (ws : List ℕ) → AllEven ws → any_odd ws ≡ false
unfolding any_odd
none-odd [] h = refl
none-odd (w ∷ ws) h = rw (eq-eqb (word_number w) 0 (h 0 (zero-lt-suc (length ws)))) (none-odd ws (λ i l. h (suc i) (suc-le-suc l)))

pub some-odd : (ws : List ℕ) (i : ℕ) → i < length ws → word_number (get_or ws i 0) ≡ all_odd → any_odd ws ≡ true
unfolding any_odd
some-odd [] i l e = absurd (not-suc-le-zero l)
some-odd (w ∷ ws) zero l e = rw (ne_eqb (word_number w) 0 (λ z. omega (arith, e, z)))
some-odd (w ∷ ws) (suc i) l e = go (not (eqb (word_number w) 0)) (some-odd ws i (le_of_suc-le-suc l) e)
  where
    go : (b : Bool) → any_odd ws ≡ true → (b || any_odd ws) ≡ true
    go true q = refl
    go false q = q

pub all-even : (ws : List ℕ) → any_odd ws ≡ false → AllEven ws
unfolding any_odd
all-even [] e = λ i l. absurd (not-suc-le-zero l)
all-even (w ∷ ws) e = go (eqb (word_number w) 0) refl e (λ f. all-even ws f)
  where
    go : (b : Bool) → eqb (word_number w) 0 ≡ b → (not b || any_odd ws) ≡ false → (any_odd ws ≡ false → AllEven ws) → AllEven (w ∷ ws)
    go true q e rest zero l = eqb-true (word_number w) 0 q
    go true q e rest (suc i) l = rest e i (le_of_suc-le-suc l)
    go false q e rest i l = absurd (subst T e tt)

-- ---- read one after another
pub odd-next : (ws : List ℕ) (i : ℕ) → i < length ws → any_odd (drop i ws) ≡ (not (eqb (word_number (get_or ws i 0)) 0) || any_odd (drop (i + 1) ws))
unfolding any_odd
odd-next ws i h = ap any_odd (drop-next ℕ 0 ws i h)

pub odd_end : (ws : List ℕ) → any_odd (drop (length ws) ws) ≡ false
unfolding any_odd
odd_end ws = ap any_odd (drop_of_length-le ws {i = length ws} (omega arith))
