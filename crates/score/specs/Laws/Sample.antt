-- What the refusals say of the numbers: which magnitudes pass the tests. Assumes nothing.
use Rattle.std.specs.Prelude.{◌≡◌, refl, Bool, true, false, cond, not, ◌||◌, List, [], ◌∷◌, ℕ, zero, suc, ◌*◌, ◌≤◌, ◌<◌, T, eqb, length, get_or, Float}
use Rattle.std.proofs.Common.{sym, ap, ◌∙◌, true≢false, le_trans, le_of_eq, not-suc-le-zero, le_of_suc-le-suc, arith, eqb-true}
use Rattle.std.proofs.lemmas.Bool.{eqb-false}
use Rattle.std.specs.Float.{nan, binary64}
use Rattle.std.specs.Float.Ieee.{fits}
use Rattle.std.specs.Float.Ieee.Scale.{finite}
use Rattle.laws.specs.Laws.Tests.{is_true}
use Rattle.float.specs.Value.{U, mag_units}
use Rattle.float.specs.Calls.{million64, quotients_of}
use Rattle.float.specs.Laws.Near.{abs-upto, upto-abs}
use Rattle.float.specs.Laws.Rounding.{million-fits, million_units}
use Rattle.score.specs.Samples.{AllFit, limit64, unbounded, exceeds, some, sample_number, is_scale, or_else, scale_number}

-- a finite double of at most g units
pub record UpTo (g : ℕ) (x : Float) : Type 0 where
  pub fit : T (fits binary64 x)
  pub fin : T (finite x)
  pub le : mag_units x ≤ g

pub data Each (P : Float → Type 0) : List Float → Type 0 where
  none : Each P []
  more : {x : Float} {xs : List Float} → P x → Each P xs → Each P (x ∷ xs)

pub each_at : (P : Float → Type 0) (xs : List Float) → Each P xs → (k : ℕ) → k < length xs → P (get_or xs k nan)
each_at P [] none k h = absurd (not-suc-le-zero h)
each_at P (x ∷ xs) (more p e) zero h = p
each_at P (x ∷ xs) (more p e) (suc k) h = each_at P xs e k (le_of_suc-le-suc h)

pub each_map : (P Q : Float → Type 0) (xs : List Float) → ((x : Float) → P x → Q x) → Each P xs → Each Q xs
each_map P Q [] f none = none
each_map P Q (x ∷ xs) f (more p e) = more (f x p) (each_map P Q xs f e)

-- ---- a test that none passes
or-none : (a b : Bool) → a || b ≡ false → (a ≡ false) × (b ≡ false)
or-none false false e = (refl, refl)
or-none false true e = absurd (true≢false e)
or-none true b e = absurd (true≢false e)

pub some_cons : (f : Float → Bool) (x : Float) (xs : List Float) → some f (x ∷ xs) ≡ false → (f x ≡ false) × (some f xs ≡ false)
unfolding some
some_cons f x xs e = or-none (f x) (some f xs) e

pub some-none : (f : Float → Bool) (xs : List Float) → Each (λ (x : Float). f x ≡ false) xs → some f xs ≡ false
unfolding some
some-none f [] none = refl
some-none f (x ∷ xs) (more p e) = ap (λ (b : Bool). b || some f xs) p ∙ some-none f xs e

bounded-finite : (x : Float) → unbounded x ≡ false → T (finite x)
bounded-finite x e = go (finite x) e
  where
    go : (b : Bool) → not b ≡ false → T b
    go true e = tt
    go false e = true≢false e

-- ---- accepted samples are finite and at most 1e290
limit-fits : T (fits binary64 limit64)
unfolding fits
limit-fits = tt

abbrev pub Sample : Float → Type 0
Sample = UpTo (mag_units limit64)

both : (a b : Bool) → ◌≡◌ {A = ℕ} (cond a 1 (cond b 2 0)) 0 → (a ≡ false) × (b ≡ false)
both false false e = (refl, refl)
both false true e = absurd (let z : ◌≡◌ {A = ℕ} 2 0 = e in omega arith)
both true b e = absurd (let z : ◌≡◌ {A = ℕ} 1 0 = e in omega arith)

pub samples_are : (xs : List Float) → AllFit xs → sample_number xs ≡ 0 → Each Sample xs
unfolding sample_number
samples_are xs f e = let b = both (some unbounded xs) (some (exceeds limit64) xs) e in go xs f b.0 b.1
  where
    go : (xs : List Float) → AllFit xs → some unbounded xs ≡ false → some (exceeds limit64) xs ≡ false → Each Sample xs
    go [] f u l = none
    go (x ∷ xs) f u l =
        let a = some_cons unbounded x xs u in
        let b = some_cons (exceeds limit64) x xs l in
        let i = bounded-finite x a.0 in
        more (record { fit = f 0; fin = i; le = abs-upto limit64 x limit-fits tt refl (f 0) i b.0 })
        (go xs (λ (k : ℕ). f (suc k)) a.1 b.1)

pub sample_number_zero : (xs : List Float) → Each Sample xs → sample_number xs ≡ 0
unfolding sample_number
sample_number_zero xs e =
    ap (λ (b : Bool). cond b 1 (cond (some (exceeds limit64) xs) 2 0))
    (some-none unbounded xs (each_map Sample (λ (x : Float). unbounded x ≡ false) xs (λ x s. ap not (is_true (finite x) s.fin)) e))
    ∙ ap (λ (b : Bool). cond b 2 0)
    (some-none (exceeds limit64) xs
    (each_map Sample (λ (x : Float). exceeds limit64 x ≡ false) xs (λ x s. upto-abs limit64 x limit-fits tt refl s.fit s.fin s.le) e))

-- ---- what passes at a scale
pub scale_number_from : (xs : List Float) (s : Float) → T (is_scale s) → sample_number xs ≡ 0 → some (exceeds million64) (quotients_of xs s) ≡ false
    → scale_number xs s ≡ 0
unfolding scale_number
scale_number_from xs s t n q = go (is_scale s) (sample_number xs) (some (exceeds million64) (quotients_of xs s)) (is_true (is_scale s) t) n q
  where
    go : (a : Bool) (n : ℕ) (b : Bool) → a ≡ true → n ≡ 0 → b ≡ false → cond a (cond (eqb n 0) (cond b 4 0) n) 3 ≡ 0
    go a n b x y z = rw (x, y, z)

pub scale_number_zero : (xs : List Float) (s : Float) → T (is_scale s) → sample_number xs ≡ 0 → Each (UpTo (1000000 * U)) (quotients_of xs s)
    → scale_number xs s ≡ 0
scale_number_zero xs s t n e =
    scale_number_from xs s t n
    (some-none (exceeds million64) (quotients_of xs s)
    (each_map (UpTo (1000000 * U)) (λ (x : Float). exceeds million64 x ≡ false) (quotients_of xs s)
    (λ x u. upto-abs million64 x million-fits tt refl u.fit u.fin (le_trans u.le (le_of_eq (sym million_units)))) e))

-- and what the number 0 says there
pub scale-says : (x : List Float) (s : Float) → scale_number x s ≡ 0
    → T (is_scale s) × (sample_number x ≡ 0) × (some (exceeds million64) (quotients_of x s) ≡ false)
unfolding scale_number
scale-says x s = go (is_scale s) (sample_number x) (some (exceeds million64) (quotients_of x s))
  where
    by : (k : ℕ) (t : Bool) → eqb k 0 ≡ t → (b : Bool) → cond t (cond b 4 0) k ≡ 0 → (k ≡ 0) × (b ≡ false)
    by k true h true e = absurd (omega arith)
    by k true h false e = (eqb-true k 0 h, refl)
    by k false h b e = absurd (eqb-false k 0 h e)

    go : (a : Bool) (k : ℕ) (b : Bool) → cond a (or_else k (cond b 4 0)) 3 ≡ 0 → T a × (k ≡ 0) × (b ≡ false)
    go false k b e = absurd (omega arith)
    go true k b e = let r = by k (eqb k 0) refl b e in (tt, r.0, r.1)
