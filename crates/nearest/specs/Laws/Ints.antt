-- Signed whole numbers by their two parts: what `omega` needs to know of them. Distances of o + 4 k from a target in units.
use Rattle.std.specs.Prelude.{◌≡◌, refl, ◌≢◌, ◌⊎◌, Bool, true, false, cond, not, ℕ, zero, suc, ◌+◌, ◌-◌, ◌*◌, ◌≤◌, ◌<◌, T, ltb, ℤ, pos, negsuc, neg_ℤ, nat_abs, ◌+ℤ◌, ◌*ℤ◌, Float}
use Rattle.std.proofs.Common.{sym, ap, ◌∙◌, subst, inl, inr, le_trans, le_of_eq, mul-le-mul_right, add-mul, add_comm, arith, ltb→lt, nltb→le}
use Rattle.std.proofs.Math.IntN.{sub_ℕ, suc_ℤ, pred_ℤ}
use Rattle.float.specs.Value.{pos_units, neg_units, U}
use Rattle.laws.specs.Words.{gap, pos_part, neg_part}
use Rattle.float.specs.Distance.{coord_gap}
use Rattle.search.specs.Record.{member}
use Rattle.nearest.specs.Laws.Forms.{odd_k}

-- ---- parts of sums
abbrev Minus : ℕ → ℕ → ℤ → Type 0
Minus a b z = pos_part z + b ≡ a + neg_part z

sub_parts : (a b : ℕ) → Minus a b (sub_ℕ a b)
sub_parts a b = go (ltb a b) (ltb→lt a b) (nltb→le a b)
  where
    go : (t : Bool) → (T t → a < b) → (T (not t) → b ≤ a) → Minus a b (cond t (negsuc (b - suc a)) (pos (a - b)))
    go true l k = let h = l tt in omega arith
    go false l k = let h = k tt in omega arith

pub add_parts : (a b : ℤ) → pos_part (a +ℤ b) + (neg_part a + neg_part b) ≡ pos_part a + pos_part b + neg_part (a +ℤ b)
add_parts (pos a) (pos b) = omega arith
add_parts (pos a) (negsuc b) = let h = sub_parts a (suc b) in tidy (pos_part (sub_ℕ a (suc b))) (neg_part (sub_ℕ a (suc b))) a (suc b) h
  where
    tidy : (p n a b : ℕ) → p + b ≡ a + n → p + (0 + b) ≡ a + 0 + n
    tidy p n a b h = omega arith
add_parts (negsuc a) (pos b) = let h = sub_parts b (suc a) in tidy (pos_part (sub_ℕ b (suc a))) (neg_part (sub_ℕ b (suc a))) b (suc a) h
  where
    tidy : (p n a b : ℕ) → p + b ≡ a + n → p + (b + 0) ≡ 0 + a + n
    tidy p n a b h = omega arith
add_parts (negsuc a) (negsuc b) = omega arith

neg-parts : (m : ℕ) → (pos_part (neg_ℤ (pos m)) ≡ 0) × (neg_part (neg_ℤ (pos m)) ≡ m)
neg-parts zero = (refl, refl)
neg-parts (suc m) = (refl, refl)

four_parts : (k : ℤ) → (pos_part (pos 4 *ℤ k) ≡ 4 * pos_part k) × (neg_part (pos 4 *ℤ k) ≡ 4 * neg_part k)
four_parts (pos n) = (refl, refl)
four_parts (negsuc n) = neg-parts (4 * suc n)

pub member-parts : (o : ℕ) (k : ℤ) → pos_part (member o k) + 4 * neg_part k ≡ o + 4 * pos_part k + neg_part (member o k)
member-parts o k = tidy (pos_part (member o k)) (neg_part (member o k)) o (pos_part (pos 4 *ℤ k)) (neg_part (pos 4 *ℤ k)) (pos_part k)
    (neg_part k) (add_parts (pos o) (pos 4 *ℤ k)) (four_parts k).0 (four_parts k).1
  where
    tidy : (p n o a b x y : ℕ) → p + (0 + b) ≡ o + a + n → a ≡ 4 * x → b ≡ 4 * y → p + 4 * y ≡ o + 4 * x + n
    tidy p n o a b x y h e f = omega arith

pub abs-parts : (k : ℤ) → nat_abs k ≡ pos_part k + neg_part k
abs-parts (pos n) = omega arith
abs-parts (negsuc n) = omega arith

pub one_part : (k : ℤ) → (pos_part k ≡ 0) ⊎ (neg_part k ≡ 0)
one_part (pos n) = inr refl
one_part (negsuc n) = inl refl

-- two numbers with the same difference of parts are the same
pub apart_parts : (k l : ℤ) → k ≢ l → pos_part k + neg_part l ≢ pos_part l + neg_part k
apart_parts (pos a) (pos b) d e = d (ap pos (tidy e))
  where
    tidy : a + 0 ≡ b + 0 → a ≡ b
    tidy e = omega arith
apart_parts (pos a) (negsuc b) d e = tidy e
  where
    tidy : a + suc b ≡ 0 + 0 → ⊥
    tidy e = omega arith
apart_parts (negsuc a) (pos b) d e = tidy e
  where
    tidy : 0 + 0 ≡ b + suc a → ⊥
    tidy e = omega arith
apart_parts (negsuc a) (negsuc b) d e = d (ap negsuc (tidy e))
  where
    tidy : 0 + suc b ≡ 0 + suc a → a ≡ b
    tidy e = omega arith

-- a step of one turns the parity
pub odd-suc : (k : ℤ) → odd_k (suc_ℤ k) + odd_k k ≡ 1
odd-suc (pos n) = omega arith
odd-suc (negsuc zero) = refl
odd-suc (negsuc (suc n)) = omega arith

pub odd-pred : (k : ℤ) → odd_k (pred_ℤ k) + odd_k k ≡ 1
odd-pred (pos zero) = refl
odd-pred (pos (suc n)) = omega arith
odd-pred (negsuc n) = omega arith

-- ---- gaps
pub gap-eq : (a b c d : ℕ) → a + d ≡ c + b → gap a b ≡ gap c d
gap-eq a b c d h = omega arith

pub gap_swap : (a b c d : ℕ) → a + c ≡ b + d → gap a b ≡ gap c d
gap_swap a b c d h = omega arith

-- |o + 4 k - t| in units
abbrev pub gap_k : ℕ → ℤ → Float → ℕ
gap_k o k t = gap ((o + 4 * pos_part k) * U + neg_units t) (4 * neg_part k * U + pos_units t)

pub gap_is : (o : ℕ) (k : ℤ) (t : Float) → coord_gap (member o k) t ≡ gap_k o k t
gap_is o k t = go (pos_part (member o k)) (neg_part (member o k)) (4 * neg_part k) (o + 4 * pos_part k) U (pos_units t) (neg_units t) (member-parts o k)
  where
    go : (p n b a u x y : ℕ) → p + b ≡ a + n → gap (p * u + y) (n * u + x) ≡ gap (a * u + y) (b * u + x)
    go p n b a u x y h = gap-eq (p * u + y) (n * u + x) (a * u + y) (b * u + x)
        (flat (p * u) (b * u) (a * u) (n * u) (sym (add-mul p b u) ∙ ap (λ (z : ℕ). z * u) h ∙ add-mul a n u))
      where
        flat : (p b a n : ℕ) → p + b ≡ a + n → p + y + (b + x) ≡ a + y + (n + x)
        flat p b a n h = omega arith

-- two different whole numbers lie 4 units of one apart: the sum of their distances from any target is at least that
pub less-or : (a b : ℕ) → a ≢ b → (a < b) ⊎ (b < a)
less-or a b h = go (ltb a b) (ltb→lt a b) (nltb→le a b)
  where
    go : (t : Bool) → (T t → a < b) → (T (not t) → b ≤ a) → (a < b) ⊎ (b < a)
    go true l k = inl (l tt)
    go false l k = let m = k tt in inr (omega arith)

far_of : (o pk nk pl nl u x y : ℕ) → pk + nl < pl + nk
    → 4 * u ≤ gap ((o + 4 * pk) * u + y) (4 * nk * u + x) + gap ((o + 4 * pl) * u + y) (4 * nl * u + x)
far_of o pk nk pl nl u x y h =
    let a : (o + 4 * pk + 4 * nl + 4) * u ≤ (o + 4 * pl + 4 * nk) * u = mul-le-mul_right u (omega arith) in
    let b : (o + 4 * pk + 4 * nl + 4) * u ≡ (o + 4 * pk) * u + 4 * nl * u + 4 * u = add-mul (o + 4 * pk + 4 * nl) 4 u
    ∙ ap (λ (z : ℕ). z + 4 * u) (add-mul (o + 4 * pk) (4 * nl) u) in
    let c : (o + 4 * pl + 4 * nk) * u ≡ (o + 4 * pl) * u + 4 * nk * u = add-mul (o + 4 * pl) (4 * nk) u in
    flat ((o + 4 * pk) * u) (4 * nk * u) ((o + 4 * pl) * u) (4 * nl * u) (4 * u) (le_trans (le_of_eq (sym b)) (le_trans a (le_of_eq c)))
  where
    flat : (a b c d v : ℕ) → a + d + v ≤ c + b → v ≤ gap (a + y) (b + x) + gap (c + y) (d + x)
    flat a b c d v h = omega arith

pub far : (o : ℕ) (k l : ℤ) (t : Float) → k ≢ l → 4 * U ≤ gap_k o k t + gap_k o l t
far o k l t d = go (less-or (pos_part k + neg_part l) (pos_part l + neg_part k) (apart_parts k l d))
  where
    go : (pos_part k + neg_part l < pos_part l + neg_part k) ⊎ (pos_part l + neg_part k < pos_part k + neg_part l) → 4 * U ≤ gap_k o k t + gap_k o l t
    go (inl h) = far_of o (pos_part k) (neg_part k) (pos_part l) (neg_part l) U (pos_units t) (neg_units t) h
    go (inr h) = subst (λ (z : ℕ). 4 * U ≤ z) (add_comm (gap_k o l t) (gap_k o k t))
        (far_of o (pos_part l) (neg_part l) (pos_part k) (neg_part k) U (pos_units t) (neg_units t) h)
