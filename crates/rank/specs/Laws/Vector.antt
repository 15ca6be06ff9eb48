-- Laws of rank vectors: ranks below a number, cost, bounds, the order, packing, and what the calls answer in range. Assumes nothing.
use Rattle.std.specs.Prelude.{◌≡◌, refl, ◌⊎◌, Bool, true, false, cond, List, [], ◌∷◌, map, T, ltb, length, get_or, ℤ, pos, Result, Ok, Err}
use Rattle.std.specs.Result.{result_unwrap_or}
use Rattle.std.proofs.Common.{ap, ap₂, sym, subst, ◌∙◌, inl, inr, div-one, mod-eq_of_lt, not-suc-le-zero, le_of_suc-le-suc, mul-suc, mul-le-mul, arith, shr-shr, ltb→lt, lt→ltb, lt-ltb}
use Prim.Native.Nat.{ℕ, zero, suc, ◌+◌, ◌*◌, ◌/◌, ◌%◌, ◌^◌, ◌<◌, ◌≤◌, compare}
use Rattle.std.proofs.lemmas.Nat.{mod-pow-add}
use Rattle.laws.specs.Laws.Tests.{and_left, and_right, and_in, is_true}
use Rattle.laws.specs.Words.{pick3, lex_le, lex_lt}
use Rattle.laws.specs.Laws.Order.{pick3_out, pick3-lt, pick3-eq, pick3_same, pick3-trans}
use Rattle.rank.specs.Vector.{ranks_below, sq, cost, class, pack, unpack, before, within, bound_cut, in_class, in_middle, middle_cost, middle_cut}
use Rattle.refusal.specs.declared.Refusal.{Refusal}
use Rattle.refusal.specs.Refusal.{out_of_range}
use Rattle.rank.specs.Coord.{val_of}
use Rattle.rank.specs.Answers.{Valued, valued_by, valued_of, Classed, classed_by, classed_of, costed_by, costed_of, held_by, held_of, packed_of}

-- ---- ranks below b
-- the first is below b, and so are the rest
pub rank_first : (b r : ℕ) (v : List ℕ) → T (ranks_below b (r ∷ v)) → r < b
unfolding ranks_below
rank_first b r v t = ltb→lt r b (and_left (ltb r b) (ranks_below b v) t)

pub rank_rest : (b r : ℕ) (v : List ℕ) → T (ranks_below b (r ∷ v)) → T (ranks_below b v)
unfolding ranks_below
rank_rest b r v t = and_right (ltb r b) (ranks_below b v) t

pub more-below : (b r : ℕ) (v : List ℕ) → r < b → T (ranks_below b v) → T (ranks_below b (r ∷ v))
unfolding ranks_below
more-below b r v h t = and_in (ltb r b) (ranks_below b v) (lt→ltb r b h) t

pub below_up : (a b : ℕ) → a ≤ b → (v : List ℕ) → T (ranks_below a v) → T (ranks_below b v)
unfolding ranks_below
below_up a b h [] t = tt
below_up a b h (r ∷ v) t = more-below b r v (omega (arith, rank_first a r v t)) (below_up a b h v (rank_rest a r v t))

pub below_at_lem : (b : ℕ) (v : List ℕ) → T (ranks_below b v) → (j : ℕ) → j < length v → get_or v j 0 < b
below_at_lem b [] t j h = absurd (not-suc-le-zero h)
below_at_lem b (r ∷ v) t zero h = rank_first b r v t
below_at_lem b (r ∷ v) t (suc j) h = below_at_lem b v (rank_rest b r v t) j (le_of_suc-le-suc h)

-- ---- cost
-- it rises with the rank
pub sq_mono : (r s : ℕ) → r ≤ s → sq r ≤ sq s
sq_mono r s h = mul-le-mul {n₁ = 2 * r + 1} {m₁ = 2 * r + 1} {n₂ = 2 * s + 1} {m₂ = 2 * s + 1} (omega arith) (omega arith)

-- a rank costs at least 1
pub length≤cost : (v : List ℕ) → length v ≤ cost v
length≤cost [] = omega arith
length≤cost (r ∷ v) = omega (arith, sq_mono 0 r (omega arith), length≤cost v)

-- a square below that of b keeps the rank below b
pub rank_small : (b r : ℕ) → sq r < sq b → r < b
rank_small b r h = let n : b ≤ r → ⊥ = λ q. omega (arith, sq_mono b r q) in omega arith

ranks-small : (b : ℕ) (v : List ℕ) → cost v < sq b → T (ranks_below b v)
unfolding ranks_below
ranks-small b [] h = tt
ranks-small b (r ∷ v) h = more-below b r v (rank_small b r (omega arith)) (ranks-small b v (omega arith))

-- ---- a bound: cost below C, or cost C and at most the cut, coordinate 0 most significant
-- what meets a bound costs at most the bound's cost
within-cost : (C : ℕ) (cut v : List ℕ) → T (within C cut v) → cost v ≤ C
within-cost C cut v t = go (pick3_out (cost v) C (lex_le v cut) t)
  where
    go : (cost v < C) ⊎ ((cost v ≡ C) × T (lex_le v cut)) → cost v ≤ C
    go (inl h) = omega arith
    go (inr h) = omega (arith, h.0)

-- ---- the order: each vector comes no later than itself, and what comes before another comes no later than that and is not that.
-- `within (cost w) w v` says that v comes no later than w.
lex-trans : (u v w : List ℕ) → T (lex_lt u v) → T (lex_le v w) → T (lex_le u w)
lex-trans [] v w s t = absurd s
lex-trans (x ∷ u) [] w s t = absurd s
lex-trans (x ∷ u) (y ∷ v) [] s t = absurd t
lex-trans (x ∷ u) (y ∷ v) (z ∷ w) s t = pick3-trans x y z (lex_lt u v) (lex_le v w) (lex_le u w) (lex-trans u v w) s t

-- what comes before a vector that meets a bound meets it too
pub within_down : (C : ℕ) (cut u v : List ℕ) → T (before u v) → T (within C cut v) → T (within C cut u)
within_down C cut u v s t = pick3-trans (cost u) (cost v) C (lex_lt u v) (lex_le v cut) (lex_le u cut) (lex-trans u v cut) s t

lex_self : (v : List ℕ) → T (lex_le v v)
lex_self [] = tt
lex_self (x ∷ v) = pick3-eq x x (lex_le v v) refl (lex_self v)

pub within_self : (v : List ℕ) → T (within (cost v) v v)
within_self v = pick3-eq (cost v) (cost v) (lex_le v v) refl (lex_self v)

not_both : (a b : ℕ) (p q : Bool) → (T p → T q → ⊥) → T (pick3 (compare a b) p) → T (pick3 (compare b a) q) → ⊥
not_both a b p q f s t = subst T (pick3_same a a false refl) (pick3-trans a b a p q false f s t)

lex_not-both : (u v : List ℕ) → T (lex_lt u v) → T (lex_le v u) → ⊥
lex_not-both [] v s t = s
lex_not-both (x ∷ u) [] s t = s
lex_not-both (x ∷ u) (y ∷ v) s t = not_both x y (lex_lt u v) (lex_le v u) (lex_not-both u v) s t

pub before_not_after : (u v : List ℕ) → T (before u v) → T (within (cost u) u v) → ⊥
before_not_after u v s t = not_both (cost u) (cost v) (lex_lt u v) (lex_le v u) (lex_not-both u v) s t

pub lex_lt-trans : (u v w : List ℕ) → T (lex_lt u v) → T (lex_lt v w) → T (lex_lt u w)
lex_lt-trans [] v w s t = absurd s
lex_lt-trans (x ∷ u) [] w s t = absurd s
lex_lt-trans (x ∷ u) (y ∷ v) [] s t = absurd t
lex_lt-trans (x ∷ u) (y ∷ v) (z ∷ w) s t = pick3-trans x y z (lex_lt u v) (lex_lt v w) (lex_lt u w) (lex_lt-trans u v w) s t

pub before-trans : (u v w : List ℕ) → T (before u v) → T (before v w) → T (before u w)
before-trans u v w s t = pick3-trans (cost u) (cost v) (cost w) (lex_lt u v) (lex_lt v w) (lex_lt u w) (lex_lt-trans u v w) s t

-- ---- the three bounds
pub class-cost : (c : ℕ) (v : List ℕ) → T (in_class c v) → cost v ≤ 96
class-cost zero v t = omega (arith, within-cost 88 (bound_cut 0) v t)
class-cost (suc c) v t = within-cost 96 (bound_cut (suc c)) v t

middle_cost_lem : (v : List ℕ) → T (in_middle v) → cost v ≤ 72
middle_cost_lem v t = within-cost middle_cost middle_cut v t

-- the middle's bound lies inside each class's
pub middle_class_lem : (c : ℕ) (v : List ℕ) → T (in_middle v) → T (in_class c v)
middle_class_lem zero v t = pick3-lt (cost v) 88 (lex_le v (bound_cut 0)) (omega (arith, middle_cost_lem v t))
middle_class_lem (suc c) v t = pick3-lt (cost v) 96 (lex_le v (bound_cut (suc c))) (omega (arith, middle_cost_lem v t))

-- what meets a class's bound has no rank above 4
pub class-ranks : (c : ℕ) (v : List ℕ) → T (in_class c v) → T (ranks_below 5 v)
class-ranks c v t = ranks-small 5 v (omega (arith, class-cost c v t))

-- ---- packed ranks
-- rank j stands at bits 4j to 4j + 3
pub unpack-at : (d w j : ℕ) → j < d → get_or (unpack d w) j 0 ≡ w / 2 ^ (4 * j) % 16
unpack-at zero w j h = absurd (not-suc-le-zero h)
unpack-at (suc d) w zero h = ap (λ (x : ℕ). x % 16) (sym (div-one w))
unpack-at (suc d) w (suc j) h =
    unpack-at d (w / 16) j (le_of_suc-le-suc h)
    ∙ ap (λ (x : ℕ). x % 16) (shr-shr w 4 (4 * j) ∙ ap (λ (n : ℕ). w / 2 ^ n) (four j))
  where
    four : (j : ℕ) → 4 + 4 * j ≡ 4 * suc j
    four j = omega arith

pub unpack-length : (d w : ℕ) → length (unpack d w) ≡ d
unpack-length zero w = refl
unpack-length (suc d) w = ap suc (unpack-length d (w / 16))

pub unpack-below : (d w : ℕ) → T (ranks_below 16 (unpack d w))
unfolding ranks_below
unpack-below zero w = tt
unpack-below (suc d) w =
    and_in (ltb (w % 16) 16) (ranks_below 16 (unpack d (w / 16))) (lt→ltb (w % 16) 16 (omega arith)) (unpack-below d (w / 16))

pub unpack-pack : (v : List ℕ) → T (ranks_below 16 v) → unpack (length v) (pack v) ≡ v
unpack-pack [] t = refl
unpack-pack (r ∷ v) t =
    ap₂ {C = List ℕ} (λ a l. a ∷ l) (low r (pack v) (rank_first 16 r v t))
    (ap (unpack (length v)) (high r (pack v) (rank_first 16 r v t)) ∙ unpack-pack v (rank_rest 16 r v t))
  where
    low : (r w : ℕ) → r < 16 → (r + 16 * w) % 16 ≡ r
    low r w h = omega arith

    high : (r w : ℕ) → r < 16 → (r + 16 * w) / 16 ≡ w
    high r w h = omega arith

pub pack-unpack : (d w : ℕ) → w < 2 ^ (4 * d) → pack (unpack d w) ≡ w
pack-unpack d w h = folded d w ∙ mod-eq_of_lt h
  where
    folded : (d w : ℕ) → pack (unpack d w) ≡ w % 2 ^ (4 * d)
    folded zero w = omega arith
    folded (suc d) w =
        ap (λ (x : ℕ). w % 16 + 16 * x) (folded d (w / 16)) ∙ turn (w % 16) (w / 16 % 2 ^ (4 * d))
        ∙ sym (mod-pow-add w (4 * d) 4) ∙ ap (λ (n : ℕ). w % 2 ^ n) (sym (mul-suc 4 d))
      where
        turn : (a b : ℕ) → a + 16 * b ≡ b * 16 + a
        turn a b = omega arith

-- ---- what the calls answer where the ranks are in range
pub class-accepted : (v : List ℕ) → T (ranks_below 8 v) → (classed_of v).class ≡ class v
unfolding classed_of
class-accepted v t = rw (is_true (ranks_below 8 v) t)

-- and a class always
pub class-two : (v : List ℕ) → (classed_of v).class < 2
unfolding classed_of
class-two v = go (ranks_below 8 v)
  where
    go : (b : Bool) → (cond {A = Classed} b (record { number = 0; class = class v }) (record { number = out_of_range; class = 0 })).class < 2
    go true = omega arith
    go false = omega arith

pub cost-accepted : (v : List ℕ) → T (ranks_below 16 v) → (costed_of v).cost ≡ cost v
unfolding costed_of
cost-accepted v t = rw (is_true (ranks_below 16 v) t)

pub held-accepted : (C : ℕ) (cut v : List ℕ) → T (ranks_below 16 v) → (held_of C cut v).held ≡ within C cut v
unfolding held_of
held-accepted C cut v t = rw (is_true (ranks_below 16 v) t)

-- ---- the value of an answer, 0 or false where it is refused
pub value_or_zero : (r : Result ℤ Refusal) → result_unwrap_or r (pos 0) ≡ (valued_by r).value
value_or_zero (Ok y) = refl
value_or_zero (Err e) = refl

-- within its ranges `val` answers the member
pub valued : {o rho : ℕ} → o < 4 → rho < 8 → valued_of o rho ≡ record { number = 0; value = val_of o rho }
unfolding valued_of
valued ho hr = rw (lt-ltb _ _ ho, lt-ltb _ _ hr)

pub class_or_zero : (r : Result ℕ Refusal) → result_unwrap_or r 0 ≡ (classed_by r).class
class_or_zero (Ok c) = refl
class_or_zero (Err e) = refl

pub cost_or_zero : (r : Result ℕ Refusal) → result_unwrap_or r 0 ≡ (costed_by r).cost
cost_or_zero (Ok c) = refl
cost_or_zero (Err e) = refl

pub held_or_not : (r : Result Bool Refusal) → result_unwrap_or r false ≡ (held_by r).held
held_or_not (Ok b) = refl
held_or_not (Err e) = refl

-- packing drops nothing
pub packed_is : (v : List ℕ) → T (ranks_below 16 v) → packed_of v ≡ pack v
unfolding packed_of
packed_is v t = ap pack (same v t)
  where
    same : (v : List ℕ) → T (ranks_below 16 v) → map (λ (r : ℕ). r % 16) v ≡ v
    same [] t = refl
    same (r ∷ v) t = ap₂ {C = List ℕ} (λ a l. a ∷ l) (mod-eq_of_lt (rank_first 16 r v t)) (same v (rank_rest 16 r v t))
