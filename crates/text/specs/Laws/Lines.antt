-- Each reader accepts just what it reads: digits, keys, and lines of a key and a decimal number; and lines are taken off a text one by one.
-- Assumes nothing.
use Rattle.std.specs.Prelude.{◌≡◌, refl, Bool, true, false, cond, ◌&&◌, List, [], ◌∷◌, ◌++◌, ℕ, zero, suc, ◌+◌, ◌*◌, ◌-◌, ◌/◌, ◌%◌, ◌^◌, ◌<◌, ◌≤◌, ltb, leb, eqb, length, get_or, take, drop, Option, Some, None}
use Rattle.std.proofs.Common.{ap, ap₂, sym, ◌∙◌, append_assoc, arith, pow-suc, zero-add, suc-add, add-one, length-append, length-drop, take-suc, take_all}
use Rattle.std.proofs.Math.Bool.{and-eq-true_iff}
use borrow.Author.Tests.{lt-ltb, le-ltb, le-leb, lt-leb, eq-eqb, ne_eqb, ltb-true, ltb-false, leb-true, eqb-true, eqb-false}
use Rattle.std.proofs.Math.ListN.{get_or-eq_default}
use Rattle.std.proofs.lemmas.List.{get_or_at}
use Rattle.std.proofs.lemmas.Option.{some_pair_parts}
use Rattle.std.proofs.Math.Seq.{drop-append_seam}
use Rattle.text.specs.Text.{line, decimal, hex, hex_digit}
use Rattle.text.specs.Laws.Text.{hex-length, decimal-small, decimal_more, decimal_step, decimal-some}
use Rattle.text.specs.Lines.{onRead, onDigit, begins, digit_at, hex_at, decimal_at, keyed_at, decimal_line_at}

-- ---- a digit
module _ (b : ℕ) where
  pub below_figures : b < 48 → digit_at b ≡ None
  unfolding digit_at
  below_figures h = rw (lt-ltb b 48 h)

  pub figure : 48 ≤ b → b ≤ 57 → digit_at b ≡ Some (b - 48)
  unfolding digit_at
  figure h k = rw (le-ltb b 48 h, le-leb b 57 k)

  pub below_letters : 57 < b → b < 97 → digit_at b ≡ None
  unfolding digit_at
  below_letters h k = rw (le-ltb b 48 (omega arith), lt-leb b 57 h, lt-ltb b 97 k)

  pub letter : 97 ≤ b → b ≤ 102 → digit_at b ≡ Some (b - 87)
  unfolding digit_at
  letter h k = rw (le-ltb b 48 (omega arith), lt-leb b 57 (omega arith), le-ltb b 97 h, le-leb b 102 k)

  pub above_letters : 102 < b → digit_at b ≡ None
  unfolding digit_at
  above_letters h = rw (le-ltb b 48 (omega arith), lt-leb b 57 (omega arith), le-ltb b 97 (omega arith), lt-leb b 102 h)

pub digit-back : (d : ℕ) → d < 16 → digit_at (hex_digit d) ≡ Some d
digit-back d h = go (ltb d 10) refl
  where
    go : (p : Bool) → ltb d 10 ≡ p → digit_at (cond p (48 + d) (87 + d)) ≡ Some d
    go true e = figure (48 + d) (omega arith) (omega (arith, ltb-true d 10 e)) ∙ ap Some (omega arith)
    go false e = letter (87 + d) (omega (arith, ltb-false d 10 e)) (omega arith) ∙ ap Some (omega arith)

pub digit_only : (b d : ℕ) → digit_at b ≡ Some d → (d < 16) × (hex_digit d ≡ b) × (0 < b)
unfolding digit_at
digit_only b d = go (ltb b 48) (leb b 57) (ltb b 97) (leb b 102) refl refl refl refl
  where
    go : (p q r t : Bool) → ltb b 48 ≡ p → leb b 57 ≡ q → ltb b 97 ≡ r → leb b 102 ≡ t
        → cond p None (cond q (Some (b - 48)) (cond r None (cond t (Some (b - 87)) None))) ≡ Some d
        → (d < 16) × (hex_digit d ≡ b) × (0 < b)
    go true q r t hp hq hr ht e = let z : ◌≡◌ {A = ℕ} 0 1 = cc in absurd (omega arith)
    go false true r t hp hq hr ht e =
        let z : b - 48 ≡ d = cc in
        let l = ltb-false b 48 hp in
        let m = leb-true b 57 hq in
        (omega arith, rw (lt-ltb d 10 (omega arith)) (omega arith), omega arith)
    go false false true t hp hq hr ht e = let z : ◌≡◌ {A = ℕ} 0 1 = cc in absurd (omega arith)
    go false false false true hp hq hr ht e =
        let z : b - 87 ≡ d = cc in
        let l = ltb-false b 97 hr in
        let m = leb-true b 102 ht in
        (omega arith, rw (le-ltb d 10 (omega arith)) (omega arith), omega arith)
    go false false false false hp hq hr ht e = let z : ◌≡◌ {A = ℕ} 0 1 = cc in absurd (omega arith)

-- ---- a row of digits
pub hex-back : (k v : ℕ) (rest : List ℕ) → v < 16 ^ k → hex_at k (hex k v ++ rest) ≡ Some v
unfolding hex_at hex
hex-back zero v rest h = ap Some (omega arith)
hex-back (suc k) v rest h =
    rw (
      append_assoc,
      hex-back k (v / 16) (hex_digit (v % 16) ∷ rest) (omega (arith, pow-suc 16 k)),
      get_or_at (hex k (v / 16)) (hex_digit (v % 16)) rest 0 k (hex-length k (v / 16)),
      digit-back (v % 16) (omega arith),
    )
    (ap Some (omega arith))

-- a byte other than 0 stands within the text
pub there : (s : List ℕ) (k b : ℕ) → get_or s k 0 ≡ b → 0 < b → k < length s
there s k b e h = go (ltb k (length s)) refl
  where
    go : (p : Bool) → ltb k (length s) ≡ p → k < length s
    go true q = ltb-true k (length s) q
    go false q = absurd (omega (arith, e, get_or-eq_default s 0 (ltb-false k (length s) q)))

pub hex_only : (k : ℕ) (s : List ℕ) (v : ℕ) → hex_at k s ≡ Some v → (v < 16 ^ k) × (take k s ≡ hex k v)
unfolding hex_at hex
hex_only zero s v e = let z : 0 ≡ v = cc in (omega arith, refl)
hex_only (suc k) s v e = go (hex_at k s) (digit_at (get_or s k 0)) refl refl e (hex_only k s)
  where
    go : (x y : Option ℕ) → hex_at k s ≡ x → digit_at (get_or s k 0) ≡ y
        → onDigit x None (λ u. onDigit y None (λ d. Some (u * 16 + d))) ≡ Some v
        → ((u : ℕ) → hex_at k s ≡ Some u → (u < 16 ^ k) × (take k s ≡ hex k u))
        → (v < 16 ^ suc k) × (take (suc k) s ≡ hex k (v / 16) ++ (hex_digit (v % 16) ∷ []))
    go (Some u) (Some d) hx hy e ih =
        let z : u * 16 + d ≡ v = cc in
        let o = digit_only (get_or s k 0) d hy in
        let i = ih u hx in
        let q : v / 16 ≡ u = omega (arith, o.0) in
        let r : v % 16 ≡ d = omega (arith, o.0) in (
          omega (arith, o.0, i.0, pow-suc 16 k),
          take-suc s k 0 (there s k (get_or s k 0) refl o.2) ∙ rw (q, r, i.1, o.1),
        )
    go (Some u) None hx hy e ih = let z : ◌≡◌ {A = ℕ} 0 1 = cc in absurd (omega arith)
    go None y hx hy e ih = let z : ◌≡◌ {A = ℕ} 0 1 = cc in absurd (omega arith)

-- once a byte is no digit, no longer row is one
pub hex-other : (i k : ℕ) (s : List ℕ) → hex_at k s ≡ None → hex_at (i + k) s ≡ None
unfolding hex_at
hex-other zero k s e = rw zero-add e
hex-other (suc i) k s e = rw (suc-add, hex-other i k s e)

-- ---- a key
pub begins-back : (key rest : List ℕ) → begins (key ++ rest) key ≡ true
unfolding begins
begins-back [] [] = refl
begins-back [] (b ∷ rest) = refl
begins-back (k ∷ key) rest = rw (eq-eqb k k refl) (begins-back key rest)

pub begins_only : (s key : List ℕ) → begins s key ≡ true → s ≡ key ++ drop (length key) s
unfolding begins
begins_only [] [] e = refl
begins_only (b ∷ s) [] e = refl
begins_only [] (k ∷ key) e = let z : ◌≡◌ {A = ℕ} 0 1 = cc in absurd (omega arith)
begins_only (b ∷ s) (k ∷ key) e =
    let p = (and-eq-true_iff (eqb b k) (begins s key)).0 e in
    ap₂ {C = List ℕ} (λ x l. x ∷ l) (eqb-true b k p.0) (begins_only s key p.1)

-- a key that is there is no longer than the text
pub key_fits : (s key : List ℕ) → begins s key ≡ true → length key ≤ length s
key_fits s key e = omega (arith, ap length (begins_only s key e), length-append key (drop (length key) s))

-- ---- a decimal number up to its end, a byte below the figures
-- no digit follows a leading zero
no_lead : (v j : ℕ) → (0 < j → 0 < v) → (ltb 0 j && eqb v 0) ≡ false
no_lead v zero h = refl
no_lead v (suc j) h = rw (lt-ltb 0 (suc j) (omega arith)) (ne_eqb v 0 (λ e. omega (arith, h (omega arith))))

one_digit : (end most v j d : ℕ) (rest : List ℕ) → end < 48 → d < 10 → v * 10 + d ≤ most → (0 < j → 0 < v)
    → decimal_at end most v j ((48 + d) ∷ rest) ≡ decimal_at end most (v * 10 + d) (j + 1) rest
unfolding decimal_at
one_digit end most v j d rest he hd hm hv =
    let e : 48 + d - 48 ≡ d = omega arith in
    rw (
      ne_eqb (48 + d) end (λ q. omega arith),
      le-ltb (48 + d) 48 (omega arith),
      le-ltb 57 (48 + d) (omega arith),
      e,
      le-ltb most (v * 10 + d) hm,
      no_lead v j hv,
    )

digits-back : (end most f x : ℕ) (rest : List ℕ) → end < 48 → x < f → x ≤ most
    → decimal_at end most 0 0 (decimal x ++ rest) ≡ decimal_at end most x (length (decimal x)) rest
digits-back end most zero x rest he hf hm = absurd (omega arith)
digits-back end most (suc f) x rest he hf hm =
    go (ltb x 10) refl (λ h r. digits-back end most f (x / 10) r he (omega arith) (omega arith))
  where
    go : (p : Bool) → ltb x 10 ≡ p
        → (10 ≤ x → (r : List ℕ) → decimal_at end most 0 0 (decimal (x / 10) ++ r) ≡ decimal_at end most (x / 10) (length (decimal (x / 10))) r)
        → decimal_at end most 0 0 (decimal x ++ rest) ≡ decimal_at end most x (length (decimal x)) rest
    go true e ih =
        let l = ltb-true x 10 e in
        rw (decimal-small x l) (rw zero-add at (one_digit end most 0 0 x rest he l (omega arith) (λ h. h)))
    go false e ih =
        let l = ltb-false x 10 e in
        let q : x / 10 * 10 + x % 10 ≡ x = omega arith in
        rw (
          decimal_more x l,
          append_assoc,
          ih l,
          length-append,
          one_digit end most (x / 10) (length (decimal (x / 10))) (x % 10) rest he (omega arith) (omega arith) (λ h. omega arith),
          q,
        )

pub decimal-back : (end most x : ℕ) (rest : List ℕ) → end < 48 → x ≤ most
    → decimal_at end most 0 0 (decimal x ++ (end ∷ rest)) ≡ Some (x, length (decimal x) + 1)
unfolding decimal_at
decimal-back end most x rest he h =
    digits-back end most (suc x) x (end ∷ rest) he (omega arith) h
    ∙ rw (eq-eqb end end refl, ne_eqb (length (decimal x)) 0 (λ e. omega (arith, decimal-some x)))

-- the digits read so far, j of them, which make v
abbrev sofar : ℕ → ℕ → List ℕ
sofar zero v = []
sofar (suc j) v = decimal v

sofar_some : (v j : ℕ) → (j ≡ 0 → ⊥) → sofar j v ≡ decimal v
sofar_some v zero h = absurd (h refl)
sofar_some v (suc j) h = refl

sofar_more : (v j b : ℕ) → (j ≡ 0 → v ≡ 0) → (ltb 0 j && eqb v 0) ≡ false → 48 ≤ b → b ≤ 57
    → sofar (j + 1) (v * 10 + (b - 48)) ≡ sofar j v ++ (b ∷ [])
sofar_more v zero b h l lo hi =
    decimal-small (v * 10 + (b - 48)) (omega (arith, h refl)) ∙ ap (λ (x : ℕ). x ∷ []) (omega (arith, h refl))
sofar_more v (suc j) b h l lo hi =
    let n = eqb-false v 0 (rw (lt-ltb 0 (suc j) (omega arith)) at l) in
    let e : 48 + (b - 48) ≡ b = omega arith in
    rw (add-one) (decimal_step v (b - 48) (omega (arith, n)) (omega arith) ∙ rw e)

decimal_from : (end most : ℕ) (s : List ℕ) (v j x n : ℕ) → v ≤ most → (j ≡ 0 → v ≡ 0) → length (sofar j v) ≡ j
    → decimal_at end most v j s ≡ Some (x, n)
    → (r : List ℕ) × (sofar j v ++ s ≡ decimal x ++ (end ∷ r)) × (n ≡ length (decimal x) + 1) × (x ≤ most)
unfolding decimal_at
decimal_from end most [] v j x n hm hz hl e = let z : ◌≡◌ {A = ℕ} 0 1 = cc in absurd (omega arith)
decimal_from end most (b ∷ s) v j x n hm hz hl e =
    go (eqb b end) (eqb j 0) (ltb b 48) (ltb 57 b) (ltb most (v * 10 + (b - 48))) (ltb 0 j && eqb v 0) refl refl refl refl refl refl e
    (decimal_from end most s (v * 10 + (b - 48)) (j + 1) x n)
  where
    goal : Type 0
    goal = (r : List ℕ) × (sofar j v ++ (b ∷ s) ≡ decimal x ++ (end ∷ r)) × (n ≡ length (decimal x) + 1) × (x ≤ most)

    go : (p o q r t u : Bool) → eqb b end ≡ p → eqb j 0 ≡ o → ltb b 48 ≡ q → ltb 57 b ≡ r → ltb most (v * 10 + (b - 48)) ≡ t
        → (ltb 0 j && eqb v 0) ≡ u
        → cond p (cond o None (Some (v, j + 1)))
        (cond q None (cond r None (cond t None (cond u None (decimal_at end most (v * 10 + (b - 48)) (j + 1) s))))) ≡ Some (x, n)
        → (v * 10 + (b - 48) ≤ most → (j + 1 ≡ 0 → v * 10 + (b - 48) ≡ 0) → length (sofar (j + 1) (v * 10 + (b - 48))) ≡ j + 1
        → decimal_at end most (v * 10 + (b - 48)) (j + 1) s ≡ Some (x, n)
        → (r : List ℕ) × (sofar (j + 1) (v * 10 + (b - 48)) ++ s ≡ decimal x ++ (end ∷ r)) × (n ≡ length (decimal x) + 1) × (x ≤ most))
        → goal
    go true true q r t u hp ho hq hr ht hu e ih = let z : ◌≡◌ {A = ℕ} 0 1 = cc in absurd (omega arith)
    go true false q r t u hp ho hq hr ht hu e ih =
        let d = sofar_some v j (eqb-false j 0 ho) in
        let q = some_pair_parts v x (j + 1) n e in
        let y = q.0 in
        let k : length (decimal x) ≡ j = rw y at (ap length (sym d) ∙ hl) in
        (s, rw (d, y, eqb-true b end hp), omega (arith, q.1), omega arith)
    go false o true r t u hp ho hq hr ht hu e ih = let z : ◌≡◌ {A = ℕ} 0 1 = cc in absurd (omega arith)
    go false o false true t u hp ho hq hr ht hu e ih = let z : ◌≡◌ {A = ℕ} 0 1 = cc in absurd (omega arith)
    go false o false false true u hp ho hq hr ht hu e ih = let z : ◌≡◌ {A = ℕ} 0 1 = cc in absurd (omega arith)
    go false o false false false true hp ho hq hr ht hu e ih = let z : ◌≡◌ {A = ℕ} 0 1 = cc in absurd (omega arith)
    go false o false false false false hp ho hq hr ht hu e ih =
        let m = sofar_more v j b hz hu (ltb-false b 48 hq) (ltb-false 57 b hr) in
        let k : length (sofar (j + 1) (v * 10 + (b - 48))) ≡ j + 1 = ap length m ∙ length-append (sofar j v) (b ∷ []) ∙ rw hl in
        let i = ih (ltb-false most (v * 10 + (b - 48)) ht) (λ z. absurd (omega arith)) k e in
        (i.0, sym (append_assoc (sofar j v) (b ∷ []) s) ∙ ap (λ (l : List ℕ). l ++ s) (sym m) ∙ i.1, i.2, i.3)

pub decimal_only : (end most : ℕ) (s : List ℕ) (x n : ℕ) → decimal_at end most 0 0 s ≡ Some (x, n)
    → (r : List ℕ) × (s ≡ decimal x ++ (end ∷ r)) × (n ≡ length (decimal x) + 1) × (x ≤ most)
decimal_only end most s x n = decimal_from end most s 0 0 x n (omega arith) (λ h. refl) refl

-- ---- lines
-- the reader `read` accepts a text just where it begins with the text of a value that is fine, and answers that value and the text's length
pub record ReadRule {T : Type 0} (read : List ℕ → Option (T × ℕ)) (fine : T → Type 0) (text_of : T → List ℕ) : Type 0 where
  pub back : (v : T) → fine v → (rest : List ℕ) → read (text_of v ++ rest) ≡ Some (v, length (text_of v))
  pub only : (s : List ℕ) (v : T) (n : ℕ) → read s ≡ Some (v, n) → fine v × (n ≡ length (text_of v)) × (s ≡ text_of v ++ drop n s)

-- what follows the line is what is left at its length
pub cut : (l r s : List ℕ) (n : ℕ) → s ≡ l ++ r → n ≡ length l → s ≡ l ++ drop n s
cut l r s n e h = e ∙ ap (λ (t : List ℕ). l ++ t) (sym (rw (e, h) (drop-append_seam l r)))

module _ (end : ℕ) (key : List ℕ) (least most : ℕ) where
  -- the key, the number, its end
  abbrev keyed : ℕ → List ℕ
  keyed v = key ++ (decimal v ++ (end ∷ []))

  keyed-back : end < 48 → (v : ℕ) → (least ≤ v) × (v ≤ most) → (rest : List ℕ)
      → keyed_at end key least most (keyed v ++ rest) ≡ Some (v, length (keyed v))
  keyed-back he v h rest =
      rw (
        append_assoc key (decimal v ++ (end ∷ [])) rest,
        begins-back key ((decimal v ++ (end ∷ [])) ++ rest),
        drop-append_seam key ((decimal v ++ (end ∷ [])) ++ rest),
        append_assoc (decimal v) (end ∷ []) rest,
        decimal-back end most v rest he h.1,
        le-ltb v least h.0,
      )
      (ap (λ (n : ℕ). Some (v, n)) (sym (simp length-append)))

  pub keyed_only : (s : List ℕ) (v n : ℕ) → keyed_at end key least most s ≡ Some (v, n)
      → ((least ≤ v) × (v ≤ most)) × (n ≡ length (keyed v)) × (s ≡ keyed v ++ drop n s)
  keyed_only s v n e = go (begins s key) (decimal_at end most 0 0 (drop (length key) s)) refl refl e
    where
      last : (x m : ℕ) → begins s key ≡ true → decimal_at end most 0 0 (drop (length key) s) ≡ Some (x, m) → (p : Bool) → ltb x least ≡ p
          → cond {A = Option (ℕ × ℕ)} p None (Some (x, length key + m)) ≡ Some (v, n)
          → ((least ≤ v) × (v ≤ most)) × (n ≡ length (keyed v)) × (s ≡ keyed v ++ drop n s)
      last x m hb hd true hp e = let z : ◌≡◌ {A = ℕ} 0 1 = cc in absurd (omega arith)
      last x m hb hd false hp e =
          let d = decimal_only end most (drop (length key) s) x m hd in
          let q = some_pair_parts x v (length key + m) n e in
          let y = q.0 in
          let k : length (keyed x) ≡ length key + (length (decimal x) + 1) = simp length-append in
          let f : s ≡ keyed x ++ d.0 =
          begins_only s key hb
          ∙ ap (λ (l : List ℕ). key ++ l) (d.1 ∙ sym (append_assoc (decimal x) (end ∷ []) d.0))
          ∙ sym (append_assoc key (decimal x ++ (end ∷ [])) d.0) in
          let w : n ≡ length (keyed x) = omega (arith, q.1, d.2) in
          ((omega (arith, ltb-false x least hp), omega (arith, d.3)), rw (← y) w, rw (← y) (cut (keyed x) d.0 s n f w))

      go : (p : Bool) (l : Option (ℕ × ℕ)) → begins s key ≡ p → decimal_at end most 0 0 (drop (length key) s) ≡ l
          → cond p (onRead {A = Option (ℕ × ℕ)} l None (λ x m. cond (ltb x least) None (Some (x, length key + m)))) None ≡ Some (v, n)
          → ((least ≤ v) × (v ≤ most)) × (n ≡ length (keyed v)) × (s ≡ keyed v ++ drop n s)
      go true (Some (x, m)) hb hd e = last x m hb hd (ltb x least) refl e
      go true None hb hd e = let z : ◌≡◌ {A = ℕ} 0 1 = cc in absurd (omega arith)
      go false l hb hd e = let z : ◌≡◌ {A = ℕ} 0 1 = cc in absurd (omega arith)

  pub keyed-rule : end < 48 → ReadRule (keyed_at end key least most) (λ v. (least ≤ v) × (v ≤ most)) keyed
  keyed-rule he = record { back = keyed-back he; only = keyed_only }

-- a line is the one that ends in LF
pub decimal-rule : (key : List ℕ) (least most : ℕ)
    → ReadRule (decimal_line_at key least most) (λ v. (least ≤ v) × (v ≤ most)) (λ v. line key (decimal v))
unfolding decimal_line_at
decimal-rule key least most = keyed-rule 10 key least most (omega arith)

-- what is there is no longer than the text
pub line-fits : {T : Type 0} (read : List ℕ → Option (T × ℕ)) (fine : T → Type 0) (line_of : T → List ℕ) → ReadRule read fine line_of
    → (s : List ℕ) (v : T) (n : ℕ) → read s ≡ Some (v, n) → n ≤ length s
line-fits read fine line_of rule s v n e =
    let o = rule.only s v n e in
    omega (arith, o.1, ap length o.2, length-append (line_of v) (drop n s))

-- what is left of a text from a place on, as a part of it
pub tail : (s : List ℕ) (at : ℕ) → take (length s - at) (drop at s) ≡ drop at s
tail s at = take_all (length s - at) (drop at s) (rw length-drop (omega arith))

-- ---- lines taken off the front of a text, whatever is made of what follows; `bad` is the answer where no line is there
-- a line that is there is taken off
pub step : {T R : Type 0} (bad : R) (read : List ℕ → Option (T × ℕ)) (fine : T → Type 0) (line_of : T → List ℕ) → ReadRule read fine line_of
    → (v : T) → fine v → (rest : List ℕ) (f : T → List ℕ → R)
    → onRead (read (line_of v ++ rest)) bad (λ x n. f x (drop n (line_of v ++ rest))) ≡ f v rest
step bad read fine line_of rule v h rest f = rw (rule.back v h rest, drop-append_seam (line_of v) rest)

-- a line was there, where the answer is not `bad`: its value, and what follows it
pub taken : {T R : Type 0} (bad : R) (read : List ℕ → Option (T × ℕ)) (fine : T → Type 0) (line_of : T → List ℕ) → ReadRule read fine line_of
    → (s : List ℕ) (f : T → List ℕ → R) (r : R) → (bad ≡ r → ⊥) → onRead (read s) bad (λ x n. f x (drop n s)) ≡ r
    → (v : T) × (rest : List ℕ) × fine v × (s ≡ line_of v ++ rest) × (f v rest ≡ r)
taken {T} {R} bad read fine line_of rule s f r differ = go (read s) refl
  where
    go : (l : Option (T × ℕ)) → read s ≡ l → onRead l bad (λ x n. f x (drop n s)) ≡ r
        → (v : T) × (rest : List ℕ) × fine v × (s ≡ line_of v ++ rest) × (f v rest ≡ r)
    go (Some (v, n)) h e =
        let o = rule.only s v n h in
        (v, drop n s, o.0, o.2, e)
    go None h e = absurd (differ e)
