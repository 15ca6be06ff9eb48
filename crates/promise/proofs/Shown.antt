-- The demands of what the calls answer, from the theorems of tetra, root, encoder, demands and page. Assumes
-- nothing.
use mathlib.Core.Path.{◌≡◌, refl, sym, ap, subst, ◌∙◌}
use mathlib.Core.Bool.{Bool, true, false, cond, true≢false}
use mathlib.Core.Logic.{◌≢◌, ◌⊎◌, inl, inr}
use mathlib.Core.List.{List}
use Prim.Native.Nat.{ℕ, zero, suc, ◌+◌, ◌*◌, ◌^◌, ◌<◌, ◌≤◌}
use native.Mathlib.Omega.{arith}
use borrow.Author.Tests.{eq-eqb, ne_eqb}
use lib.Dec.{T}
use lib.IntN.{ℤ, pos, ◌*ℤ◌}
use lib.ListN.{length, get_or, drop, get_or-append}
use lib.Ieee.{Float, nan, inf, fin, binary64, fits, eq}
use lib.Ieee.Scale.{finite}
use Rattle.laws.specs.Laws.Order.{le-or-lt}
use Rattle.tetra.specs.Lattice.{HasWord}
use Rattle.tetra.specs.Tetra.{point_of}
use Rattle.tetra.specs.Encode.{encode_of}
use Rattle.tetra.specs.Why.{Why, Refused}
use Rattle.tetra.specs.Demand2.{decodes, round_trip, accepts, refuses, refused_iff, accepted-back, why, one_reason}
use Rattle.tetra.specs.Encode.{Encoded}
use Rattle.float.specs.Value.{mag_units, is_minus, zero64}
use Rattle.float.specs.Laws.Exact.{no_digits, some-digits}
use Rattle.root.specs.Root.{NearestRoot, Rooted, rooted}
use Rattle.root.specs.Nearest.{rooted-nearest}
use Rattle.score.specs.Samples.{AllFit, sample_number}
use Rattle.score.specs.Scale.{Measured, largest_of, lower_scale, scales}
use Rattle.encoder.specs.Encode.{Coding, empty_code, number_at, encode_at_scale, number_of, encode_with}
use Rattle.encoder.specs.Numbers.{at-number, at-refused, number_is, is_refused}
use Rattle.demands.specs.Promised.{Coded}
use Rattle.demands.proofs.Codes.{at_scale_lem, samples}
use Rattle.demands.specs.Demand3.{nearest-at_scale}
use Rattle.text.specs.declared.printed.Printed.TheInside.{Inside}
use Rattle.text.specs.Held.{in_array}
use Rattle.page.specs.Answer.{Parsed, PageRead, Reading, page, malformed, number_in, words_in, counts_in, parsed_of, read_of, cells_of}
use Rattle.shown.specs.Shown.{printed}
use Rattle.page.specs.Reader.{reading_of}
use Rattle.page.specs.Page.{Page}
use Rattle.page.specs.Counts.{page_counts, ToEven}
use Rattle.page.specs.CountRule.{counts_are}
use Rattle.page.specs.Laws.Count.{page-length}
use Rattle.page.specs.PageRule.{accepted, only_pages, reads, one_reading}
use Rattle.page.specs.PageRule.{on_no_page, on_short_buffer, on_page}
use Rattle.promise.specs.Demands.{
  PointOfWord,
  BackToWord,
  RefusesOthers,
  AcceptsMembers,
  KeepsPoint,
  RefusesByFour,
  SaysWhy,
  Numbered,
  KeepsCode,
  ReturnsNearest,
  Scaled,
  RootIsNearest,
  RootOfZero,
  RootRefused,
  NoPage,
  ParsesPages,
  ParsesNoOther,
  ReadsPages,
  RoundsToEven,
  RefusesNoPage,
  RefusesShort,
  AcceptsPagesOnly,
  PrintsPages,
  PrintsRefusal,
}

-- ---- words and points
pub of_word : (w : ℕ) (y : List ℤ) (e : Encoded) → y ≡ point_of w → e ≡ encode_of y
    → record { point_of_word : PointOfWord w y; back_to_word : BackToWord w e }
of_word w y e p q = record {
  point_of_word = (p, subst HasWord (sym p) (decodes w));
  back_to_word = q ∙ ap encode_of p ∙ round_trip w;
}

pub of_point : (y : List ℤ) (e : Encoded) (z : List ℤ) → length y ≡ 24 → e ≡ encode_of y
    → z ≡ point_of e.word → record {
      refuses_others : RefusesOthers y e;
      accepts_members : AcceptsMembers y e;
      keeps_point : KeepsPoint y e z;
      refuses_by_four : RefusesByFour e;
      says_why : SaysWhy y e;
    }
of_point y e z l q d = record {
  refuses_others = (
    λ h w b p. (refused_iff y l).0 (subst Refused n h) (subst HasWord p (decodes w)),
    λ k. (by_four (λ h. k e.word (omega (arith, (keeps h).0)) (sym d ∙ (keeps h).1))).0,
  );
  accepts_members = (has, λ h. n ∙ (accepts y h).number);
  keeps_point = keeps;
  refuses_by_four = by_four;
  says_why = says;
}
  where
    n : e.number ≡ (encode_of y).number
    n = ap (λ (a : Encoded). a.number) q

    v : e.word ≡ (encode_of y).word
    v = ap (λ (a : Encoded). a.word) q

    has : e.number ≡ 0 → HasWord y
    has h = subst HasWord (accepted-back y l (sym n ∙ h)) (decodes (encode_of y).word)

    by_four : RefusesByFour e
    by_four h =
        let t = refuses y l (λ k. h (n ∙ (accepts y k).number)) in
        (subst Refused (sym n) t.refused, v ∙ t.word)

    says : SaysWhy y e
    says =
        let r = subst (λ (a : Encoded). Why y a.number a.section) (sym q) (why y l) in
        (r, λ m s w. one_reason y l w r)

    keeps : KeepsPoint y e z
    keeps h =
        let a = accepts y (has h) in
        (subst (λ (m : ℕ). m < 2 ^ 47) (sym v) a.small, d ∙ ap point_of v ∙ a.back)

-- ---- codes: c is the answer, which the call's definition says is d
module _ (c d : Coding) (q : c ≡ d) where
  pub numbered : (k : ℕ) → d.number ≡ k → (k ≢ 0 → d ≡ empty_code k) → Numbered k c
  numbered k n r = (ap (λ (a : Coding). a.number) q ∙ n, λ h. q ∙ r h)

  keeps-code : (y : List ℤ) (e : Encoded) → y ≡ point_of c.word → e ≡ encode_of c.point
      → (d.number ≡ 0 → Coded d) → KeepsCode c y e
  keeps-code y e p r k h =
      let g = subst Coded (sym q) (k (sym (ap (λ (a : Coding). a.number) q) ∙ h)) in
      (g.small, p ∙ g.back, r ∙ g.again)

module _ (x : List Float) (l : length x ≡ 24) (f : AllFit x) (c : Coding) (y : List ℤ) (e : Encoded)
    (p : y ≡ point_of c.word) (r : e ≡ encode_of c.point) where
  pub of_scale : (s : Float) (n : ℕ) → T (fits binary64 s) → c ≡ encode_at_scale x s n
      → record {
        numbered : Numbered (number_at x s n) c;
        code_value : c ≡ encode_at_scale x s n;
        keeps_code : KeepsCode c y e;
        returns_nearest : ReturnsNearest x s c;
      }
  of_scale s n d q =
      let m : (encode_at_scale x s n).number ≡ number_at x s n = at-number _ x s n in
      let k = numbered c (encode_at_scale x s n) q (number_at x s n) m (at-refused _ x s n) in
      record {
        numbered = k;
        code_value = q;
        keeps_code = keeps-code c (encode_at_scale x s n) q y e p r (λ h. at_scale_lem x s n l f d (sym m ∙ h));
        returns_nearest = λ h z W N.
            ap (λ (a : Coding). a.point) q ∙ (nearest-at_scale x s n l f d (sym k.0 ∙ h) z W N).point;
      }

  pub of_samples_lem : (n : ℕ) → c ≡ encode_with x n
      → record {
        numbered : Numbered (number_of x n) c;
        code_value : c ≡ encode_with x n;
        keeps_code : KeepsCode c y e;
      }
  of_samples_lem n q =
      let m : (encode_with x n).number ≡ number_of x n = number_is _ x n in
      record {
        numbered = numbered c (encode_with x n) q (number_of x n) m (is_refused _ x n);
        code_value = q;
        keeps_code = keeps-code c (encode_with x n) q y e p r (λ h. samples x n l f (sym m ∙ h));
      }

-- ---- what samples give besides
-- the Rust's lower scale carries number 0, all samples zero or not
one_number : (b : Bool) (s t : Measured) → s.number ≡ 0 → t.number ≡ 0 → (cond b s t).number ≡ 0
one_number true s t p q = p
one_number false s t p q = q

lower-number : (x : List Float) → (lower_scale x).number ≡ 0
unfolding lower_scale
lower-number x = one_number (eq (largest_of x) zero64) _ _ refl refl

pub of_scales : (x : List Float) (r : Measured) → r ≡ scales x → Scaled (sample_number x) (lower_scale x) r
of_scales x r q =
    (λ h. q ∙ rw (eq-eqb (sample_number x) 0 h) itself, λ h. q ∙ rw (ne_eqb (sample_number x) 0 h))
  where
    numbered_by : ℕ → Measured
    numbered_by n = record { number = n; largest = (lower_scale x).largest; scale = (lower_scale x).scale }

    itself : lower_scale x ≡ numbered_by 0
    itself = ap numbered_by (lower-number x)

-- ---- roots
no_root_lem : (x : Float) → T (finite x) → is_minus x ≡ true → 0 < mag_units x
    → rooted x ≡ record { number = 7; root = zero64 }
unfolding rooted
no_root_lem nan i s p = absurd i
no_root_lem (inf s) i t p = absurd i
no_root_lem (fin s zero e) i t p = absurd (omega (arith, no_digits s e))
no_root_lem (fin true (suc m) e) i t p = refl
no_root_lem (fin false (suc m) e) i t p = absurd (true≢false (sym t))

unbounded-root : (x : Float) → (T (finite x) → ⊥) → rooted x ≡ record { number = 7; root = zero64 }
unfolding rooted
unbounded-root nan h = refl
unbounded-root (inf s) h = refl
unbounded-root (fin s m e) h = absurd (h tt)

zero_root : (x : Float) → T (finite x) → mag_units x ≡ 0 → rooted x ≡ record { number = 0; root = x }
unfolding rooted
zero_root nan i h = absurd i
zero_root (inf s) i h = absurd i
zero_root (fin s zero e) i h = refl
zero_root (fin s (suc m) e) i h = absurd (omega (arith, some-digits s m e))

has-root : (x : Float) → T (finite x) → is_minus x ≡ false → (rooted x).number ≡ 0
unfolding rooted
has-root nan i s = absurd i
has-root (inf s) i t = absurd i
has-root (fin s zero e) i t = refl
has-root (fin true (suc m) e) i t = absurd (true≢false t)
has-root (fin false (suc m) e) i t = refl

pub of_root : (x : Float) (r : Rooted) → T (fits binary64 x) → r ≡ rooted x
    → record { root_is_nearest : RootIsNearest x r; root_of_zero : RootOfZero x r; root_refused : RootRefused x r }
of_root x r f q = record {
  root_is_nearest = λ i s p. (
    ap (λ (a : Rooted). a.number) q ∙ has-root x i s,
    subst (λ (a : Rooted). NearestRoot x a.root) (sym q) (rooted-nearest x f i s p),
  );
  root_of_zero = λ i h. q ∙ zero_root x i h;
  root_refused = (λ h. q ∙ unbounded-root x h, λ i s p. q ∙ no_root_lem x i s p);
}

-- ---- pages
-- what is no page reads as malformed
no_page_lem : (text : List ℕ) → NoPage text → reading_of text ≡ malformed
no_page_lem text h = one_reading text (reading_of text) malformed (reads text) h

pub of_parse : (text : List ℕ) (r : Parsed) → r ≡ parsed_of (reading_of text)
    → record { parses_pages : ParsesPages text r; parses_no_other : ParsesNoOther text r }
unfolding parsed_of
of_parse text r q = record {
  parses_pages = λ num words p. q ∙ ap parsed_of (accepted text num words p);
  parses_no_other = λ h. q ∙ ap parsed_of (no_page_lem text h);
}

pub of_print : (text : List ℕ) (r : Inside 20672) → r ≡ in_array 20672 (printed (reading_of text))
    → record { prints_pages : PrintsPages text r; prints_refusal : PrintsRefusal text r }
unfolding printed number_in words_in counts_in
of_print text r q = record {
  prints_pages = λ num words p. q ∙ ap (λ (a : Reading). in_array 20672 (printed a)) (accepted text num words p);
  prints_refusal = λ h. q ∙ ap (λ (a : Reading). in_array 20672 (printed a)) (no_page_lem text h);
}

-- what is accepted had room, so the counts stand at the buffer's start
counts_round : (text : List ℕ) (old new : List ℤ) (r : PageRead) → r ≡ read_of (reading_of text) (length old)
    → new ≡ cells_of (reading_of text) old → RoundsToEven text new r
counts_round text old new r q d z num words p i j h k = go (le-or-lt (24 * length words) (length old))
  where
    go : (24 * length words ≤ length old) ⊎ (length old < 24 * length words)
        → ToEven (get_or (point_of (get_or words i 0)) j (pos 0) *ℤ pos num) 256 (get_or new (24 * i + j) (pos 0))
    go (inl l) =
        let e = get_or-append (page_counts num words) (drop (24 * length words) old) (pos 0) (24 * i + j)
        (omega (arith, page-length num words)) in
        rw (d, (on_page text old num words p l).1, e) (counts_are num words i j h k)
    go (inr l) =
        let e : ◌≡◌ {A = ℕ} 8 0 = sym (ap (λ (a : PageRead). a.number) (q ∙ (on_short_buffer text old num words p l).0)) ∙ z in
        absurd (omega arith)

pub of_page : (text : List ℕ) (old new : List ℤ) (r : PageRead) → r ≡ read_of (reading_of text) (length old)
    → new ≡ cells_of (reading_of text) old
    → record {
      reads_pages : ReadsPages text old new r;
      rounds_to_even : RoundsToEven text new r;
      refuses_no_page : RefusesNoPage text old new r;
      refuses_short : RefusesShort text old new r;
      accepts_pages_only : AcceptsPagesOnly text r;
    }
unfolding read_of number_in
of_page text old new r q d = record {
  reads_pages = λ num words p h. let a = on_page text old num words p h in (q ∙ a.0, d ∙ a.1);
  rounds_to_even = counts_round text old new r q d;
  refuses_no_page = λ h. let a = on_no_page text old h in (q ∙ a.0, d ∙ a.1);
  refuses_short = λ num words p h. let a = on_short_buffer text old num words p h in (q ∙ a.0, d ∙ a.1);
  accepts_pages_only = λ h. go (reading_of text) refl (λ z. h (ap (λ (a : PageRead). a.number) q ∙ z));
}
  where
    go : (R : Reading) → reading_of text ≡ R → (read_of R (length old)).number ≢ 9
        → (num : ℕ) × (words : List ℕ) × Page text num words
    go (page num words) e h = (num, words, only_pages text num words e)
    go malformed e h = absurd (h refl)
