-- The readers of a number with its sign and of a line of 24 such numbers accept just these. Assumes nothing.
use Rattle.std.proofs.Math.Path.{◌≡◌, refl, ap, sym}
use Rattle.std.proofs.Common.{◌∙◌, zero-lt-suc, le_of_suc-le-suc, not-suc-le-zero, add-zero, add-one, ne_eqb, take-suc-set}
use Rattle.std.specs.Prelude.{Bool, ℤ, neg_ℤ, ◌-ℤ◌, set, take, Option, Some, None}
use Rattle.std.proofs.Math.Bool.{true, false, cond}
use mathlib.Core.List.{List, [], ◌∷◌, ◌++◌, append_assoc, append-nil}
use Prim.Native.Nat.{ℕ, zero, suc, ◌+◌, ◌*◌, ◌<◌, ◌≤◌, suc-le-suc}
use native.Mathlib.Omega.{arith}
use Rattle.std.proofs.Math.IntN.{pos, negsuc, +ℤ_idl}
use Rattle.std.proofs.lemmas.Option.{none-some, some_pair_parts}
use Rattle.std.specs.Int.Signed.{mag}
use Rattle.std.proofs.Math.ListN.{length, drop, length-append}
use Rattle.std.proofs.Math.Seq.{drop-append_seam}
use Rattle.text.specs.Text.{bytes, line, decimal, signed, commas, listed}
use Rattle.text.specs.Lines.{onRead, begins, decimal_at, keyed_at}
use Rattle.text.specs.Rows.{IsI32, AllI32, below_at, signed_at, end_before, numbers_from, list_line_at}
use Rattle.text.specs.Laws.Text.{decimal-fits}
use Rattle.text.specs.Laws.Lines.{ReadRule, begins-back, begins_only, cut, decimal-back, decimal_only, keyed-rule}

-- ---- a number with its sign
-- a magnitude with a minus sign fits where one less does
pub minus_mag : (v m : ℕ) → v ≤ suc m → mag (pos 0 -ℤ pos v) ≤ m
minus_mag zero m h = omega arith
minus_mag (suc n) m h = rw (+ℤ_idl (negsuc n)) (omega arith)

module _ (end : ℕ) (he : end < 45) where
  minus-rule : ReadRule (keyed_at end (bytes "-") 1 2147483648) (λ v. (1 ≤ v) × (v ≤ 2147483648)) (λ v. bytes "-" ++ (decimal v ++ (end ∷ [])))
  minus-rule = keyed-rule end (bytes "-") 1 2147483648 (omega arith)

  -- no figure is a minus sign
  no_figure : (most : ℕ) (s : List ℕ) → decimal_at end most 0 0 (45 ∷ s) ≡ None
  unfolding decimal_at
  no_figure most s = rw (ne_eqb 45 end (λ e. omega arith))

  signed_back : (z : ℤ) → IsI32 z → (rest : List ℕ) → signed_at end ((signed z ++ (end ∷ [])) ++ rest) ≡ Some (z, length (signed z ++ (end ∷ [])))
  unfolding signed_at below_at signed
  signed_back (pos n) h rest =
      rw (append_assoc (decimal n) (end ∷ []) rest, decimal-back end 2147483647 n rest (omega arith) (omega arith))
      (ap (λ (m : ℕ). Some (pos n, m)) (sym (length-append (decimal n) (end ∷ []))))
  signed_back (negsuc n) h rest =
      rw (no_figure 2147483647 ((decimal (suc n) ++ (end ∷ [])) ++ rest), minus-rule.back (suc n) (omega arith, omega arith) rest)

  signed_only : (s : List ℕ) (z : ℤ) (n : ℕ) → signed_at end s ≡ Some (z, n)
      → IsI32 z × (n ≡ length (signed z ++ (end ∷ []))) × (s ≡ (signed z ++ (end ∷ [])) ++ drop n s)
  unfolding signed_at below_at signed
  signed_only s z n e = go (decimal_at end 2147483647 0 0 s) (keyed_at end (bytes "-") 1 2147483648 s) refl refl e
    where
      go : (l k : Option (ℕ × ℕ)) → decimal_at end 2147483647 0 0 s ≡ l → keyed_at end (bytes "-") 1 2147483648 s ≡ k
          → onRead {A = Option (ℤ × ℕ)} l (onRead k None (λ v m. Some (neg_ℤ (pos v), m))) (λ v m. Some (pos v, m)) ≡ Some (z, n)
          → IsI32 z × (n ≡ length (signed z ++ (end ∷ []))) × (s ≡ (signed z ++ (end ∷ [])) ++ drop n s)
      go (Some (v, m)) k hl hk e =
          let d = decimal_only end 2147483647 s v m hl in
          let p = some_pair_parts (pos v) z m n e in
          let y = p.0 in
          let w = p.1 in
          let f : s ≡ (decimal v ++ (end ∷ [])) ++ d.0 = d.1 ∙ sym (append_assoc (decimal v) (end ∷ []) d.0) in
          let g : n ≡ length (decimal v ++ (end ∷ [])) = omega (arith, d.2, length-append (decimal v) (end ∷ [])) in
          rw (← y) (omega (arith, d.3), g, cut (decimal v ++ (end ∷ [])) d.0 s n f g)
      go None (Some (zero, m)) hl hk e = absurd (omega (arith, (minus-rule.only s zero m hk).0.0))
      go None (Some (suc v, m)) hl hk e =
          let o = minus-rule.only s (suc v) m hk in
          let p = some_pair_parts (negsuc v) z m n e in
          let y = p.0 in
          let w = p.1 in
          rw (← y, ← w) (omega (arith, o.0.1), o.1, o.2)
      go None None hl hk e = let z : ◌≡◌ {A = ℕ} 0 1 = cc in absurd (omega arith)

  pub signed-rule : ReadRule (signed_at end) IsI32 (λ z. signed z ++ (end ∷ []))
  signed-rule = record { back = signed_back; only = signed_only }

pub end_small : (n : ℕ) → end_before n < 45
end_small zero = omega arith
end_small (suc n) = omega arith

-- ---- a row of them
-- each number with the byte behind it
abbrev ended : List ℤ → List ℕ
ended [] = []
ended (z ∷ zs) = (signed z ++ (end_before (length zs) ∷ [])) ++ ended zs

ended_is : (zs : List ℤ) → 0 < length zs → ended zs ≡ listed zs ++ (10 ∷ [])
unfolding listed commas
ended_is [] h = absurd (omega arith)
ended_is (z ∷ []) h = append-nil (signed z ++ (10 ∷ [])) ∙ rw (append-nil (signed z))
ended_is (z ∷ (y ∷ zs)) h =
    append_assoc (signed z) (44 ∷ []) (ended (y ∷ zs))
    ∙ ap (λ (l : List ℕ). signed z ++ (44 ∷ l)) (ended_is (y ∷ zs) (zero-lt-suc (length zs)))
    ∙ sym (append_assoc (signed z) (44 ∷ (signed y ++ commas zs)) (10 ∷ []))

-- one number more stands behind the first k of an array
pub row_more : (A : Type 0) (xs : List A) (k : ℕ) (v : A) → k < length xs → take k xs ++ (v ∷ []) ≡ take (k + 1) (set xs k v)
row_more A xs k v h = rw (add-one k) (sym (take-suc-set xs k v h))

numbers-back : (zs : List ℤ) → AllI32 zs → (us : List ℤ) (at : ℕ) (rest : List ℕ)
    → numbers_from (length zs) us at (ended zs ++ rest) ≡ Some (us ++ zs, at + length (ended zs))
unfolding numbers_from
numbers-back [] f us at rest = rw (append-nil us, add-zero)
numbers-back (z ∷ zs) f us at rest =
    let first = signed z ++ (end_before (length zs) ∷ []) in
    let e = (signed-rule (end_before (length zs)) (end_small (length zs))).back z (f zero (zero-lt-suc (length zs))) (ended zs ++ rest) in
    let l : at + length first + length (ended zs) ≡ at + length (first ++ ended zs) = omega (arith, length-append first (ended zs)) in
    rw (append_assoc first (ended zs) rest, e, drop-append_seam first (ended zs ++ rest))
    (numbers-back zs (λ k h. f (suc k) (suc-le-suc h)) (us ++ (z ∷ [])) (at + length first) rest
    ∙ rw (append_assoc us (z ∷ []) zs, l))

all_cons : (z : ℤ) (zs : List ℤ) → IsI32 z → AllI32 zs → AllI32 (z ∷ zs)
all_cons z zs h f zero l = h
all_cons z zs h f (suc k) l = f k (le_of_suc-le-suc l)

-- what reading n numbers behind us, from `at` on, says of the text s where the answer is vs and m: the numbers, and what is left behind them
record Row (n : ℕ) (us : List ℤ) (at : ℕ) (s : List ℕ) (vs : List ℤ) (m : ℕ) : Type 0 where
  zs : List ℤ
  rest : List ℕ
  count : length zs ≡ n
  fit : AllI32 zs
  values : us ++ zs ≡ vs
  place : m ≡ at + length (ended zs)
  text : s ≡ ended zs ++ rest

numbers_only : (n : ℕ) (us : List ℤ) (at : ℕ) (s : List ℕ) (vs : List ℤ) (m : ℕ) → numbers_from n us at s ≡ Some (vs, m) → Row n us at s vs m
unfolding numbers_from
numbers_only zero us at s vs m e =
    let p = some_pair_parts us vs at m e in
    record {
      zs = [];
      rest = s;
      count = refl;
      fit = λ k l. absurd (not-suc-le-zero l);
      values = append-nil us ∙ p.0;
      place = omega (arith, p.1);
      text = refl;
    }
numbers_only (suc n) us at s vs m e =
    go (signed_at (end_before n) s) refl e (λ z k. numbers_only n (us ++ (z ∷ [])) (at + k) (drop k s) vs m)
  where
    go : (a : Option (ℤ × ℕ)) → signed_at (end_before n) s ≡ a → onRead a None (λ z k. numbers_from n (us ++ (z ∷ [])) (at + k) (drop k s)) ≡ Some (vs, m)
        → ((z : ℤ) (k : ℕ) → numbers_from n (us ++ (z ∷ [])) (at + k) (drop k s) ≡ Some (vs, m)
        → Row n (us ++ (z ∷ [])) (at + k) (drop k s) vs m)
        → Row (suc n) us at s vs m
    go (Some (z, k)) h e ih =
        let i = ih z k e in
        let o = (signed-rule (end_before n) (end_small n)).only s z k h in
        let first = signed z ++ (end_before n ∷ []) in
        let f : ended (z ∷ i.zs) ≡ first ++ ended i.zs = rw i.count in
        record {
          zs = z ∷ i.zs;
          rest = i.rest;
          count = ap suc i.count;
          fit = all_cons z i.zs o.0 i.fit;
          values = sym (append_assoc us (z ∷ []) i.zs) ∙ i.values;
          place = omega (arith, i.place, o.1, ap length f, length-append first (ended i.zs));
          text =
              o.2 ∙ ap (λ (l : List ℕ). first ++ l) i.text ∙ sym (append_assoc first (ended i.zs) i.rest)
              ∙ ap (λ (l : List ℕ). l ++ i.rest) (sym f);
        }
    go None h e ih = absurd (none-some _ e)

-- ---- how long they are
pub signed-length : (z : ℤ) → IsI32 z → length (signed z) ≤ 11
unfolding signed
signed-length (pos n) h = omega (arith, decimal-fits 9 n (omega arith))
signed-length (negsuc n) h = omega (arith, decimal-fits 9 (suc n) (omega arith))

commas-length : (zs : List ℤ) → AllI32 zs → length (commas zs) ≤ 12 * length zs
unfolding commas
commas-length [] f = omega arith
commas-length (z ∷ zs) f =
    omega (
      arith,
      length-append (signed z) (commas zs),
      signed-length z (f zero (zero-lt-suc (length zs))),
      commas-length zs (λ k h. f (suc k) (suc-le-suc h)),
    )

pub listed-length : (zs : List ℤ) → 0 < length zs → AllI32 zs → length (listed zs) < 12 * length zs
unfolding listed
listed-length [] h f = absurd (omega arith)
listed-length (z ∷ zs) h f =
    omega (
      arith,
      length-append (signed z) (commas zs),
      signed-length z (f zero (zero-lt-suc (length zs))),
      commas-length zs (λ k h. f (suc k) (suc-le-suc h)),
    )

-- ---- the line
module _ (key : List ℕ) where
  list_back : (zs : List ℤ) → (length zs ≡ 24) × AllI32 zs → (rest : List ℕ)
      → list_line_at key (line key (listed zs) ++ rest) ≡ Some (zs, length (line key (listed zs)))
  unfolding list_line_at
  list_back zs h rest =
      let n : numbers_from 24 [] (length key) (ended zs ++ rest) ≡ Some (zs, length key + length (ended zs)) =
      rw h.0 at (numbers-back zs h.1 [] (length key) rest) in
      rw (
        append_assoc key (listed zs ++ (10 ∷ [])) rest,
        begins-back key ((listed zs ++ (10 ∷ [])) ++ rest),
        drop-append_seam key ((listed zs ++ (10 ∷ [])) ++ rest),
        length-append key (listed zs ++ (10 ∷ [])),
        ← ended_is zs (omega (arith, h.0)),
      )
      n

  list_only : (s : List ℕ) (vs : List ℤ) (m : ℕ) → list_line_at key s ≡ Some (vs, m)
      → ((length vs ≡ 24) × AllI32 vs) × (m ≡ length (line key (listed vs))) × (s ≡ line key (listed vs) ++ drop m s)
  unfolding list_line_at
  list_only s vs m e = go (begins s key) refl e
    where
      go : (p : Bool) → begins s key ≡ p → cond p (numbers_from 24 [] (length key) (drop (length key) s)) None ≡ Some (vs, m)
          → ((length vs ≡ 24) × AllI32 vs) × (m ≡ length (line key (listed vs))) × (s ≡ line key (listed vs) ++ drop m s)
      go true h e =
          let i = numbers_only 24 [] (length key) (drop (length key) s) vs m e in
          let d = ended_is i.zs (omega (arith, i.count)) in
          let f : s ≡ line key (listed i.zs) ++ i.rest =
          begins_only s key h
          ∙ ap (λ (l : List ℕ). key ++ l) (i.text ∙ ap (λ (l : List ℕ). l ++ i.rest) d)
          ∙ sym (append_assoc key (listed i.zs ++ (10 ∷ [])) i.rest) in
          let g : m ≡ length (line key (listed i.zs)) =
          omega (arith, i.place, ap length d, length-append key (listed i.zs ++ (10 ∷ []))) in
          rw (← i.values) ((i.count, i.fit), g, cut (line key (listed i.zs)) i.rest s m f g)
      go false h e = absurd (none-some _ e)

  -- it accepts just the lines of the key and 24 numbers, and answers the numbers
  pub list-rule : ReadRule (list_line_at key) (λ zs. (length zs ≡ 24) × AllI32 zs) (λ zs. line key (listed zs))
  list-rule = record { back = list_back; only = list_only }
