-- The demands of what the calls of the even profile answer, from the theorems of even and demands. Assumes nothing.
use mathlib.Core.Path.{◌≡◌, sym, ap, subst, ◌∙◌}
use mathlib.Core.List.{List}
use Prim.Native.Nat.{ℕ, ◌^◌, ◌<◌}
use lib.Dec.{T}
use lib.IntN.{ℤ}
use lib.ListN.{length, get_or}
use lib.Ieee.{Float, binary64, fits}
use Rattle.laws.specs.Words.{tab}
use Rattle.tetra.specs.Lattice.{HasWord}
use Rattle.tetra.specs.Tetra.{point_of}
use Rattle.tetra.specs.Encode.{encode_of}
use Rattle.tetra.specs.Demand2.{point-length}
use Rattle.tetra.specs.Encode.{Encoded}
use Rattle.score.specs.Samples.{AllFit}
use Rattle.search.specs.Parity.{even_parities}
use Rattle.encoder.specs.Encode.{Coding, number_at, encode_at_over, encode_at_scale, number_of, encode_over}
use Rattle.encoder.specs.Numbers.{at-number, at-refused, number_is, is_refused}
use Rattle.demands.specs.Promised.{Even, Coded}
use Rattle.demands.proofs.Codes.{even_at_scale_lem, even-samples}
use Rattle.demands.specs.Demand3.{nearest-even_at_scale}
use Rattle.demands.specs.Agrees.{even_agrees}
use Rattle.page.specs.Answer.{PageRead}
use Rattle.page.specs.Reader.{reading_of}
use Rattle.page.specs.PageRule.{on_page}
use Rattle.even.specs.Even.{Decoded, word_number, even_decoded, even_encoded, even_read, even_cells}
use Rattle.even.specs.EvenRule.{
  even_word,
  even_decoded_lem,
  odd-decoded,
  even-refuses,
  odd_refused,
  others_as_full,
  even_as_full,
  even-members,
  even-accepts,
  even-round_trip,
  even_on-no_page,
  even-odd_word,
  even_on-page,
  even_on_short_buffer,
}
use Rattle.even.specs.Laws.Word.{number_zero, number-odd}
use Rattle.promise.proofs.Shown.{numbered}
use Rattle.promise.specs.Demands.{
  Numbered,
  ChecksWord,
  DecodesEven,
  BackToEven,
  AcceptsEven,
  RefusesOdd,
  KeepsEvenPoint,
  KeepsEvenCode,
  ReturnsNearestEven,
  AgreesWhereEven,
  ReadsEvenPages,
  RefusesToReadEven,
}

-- ---- words and points
pub of_word : (w n : ℕ) (d : Decoded) (e : Encoded) → n ≡ word_number w → d ≡ even_decoded w → e ≡ even_encoded d.point
    → record { checks_word : ChecksWord w n; decodes_even : DecodesEven w d; back_to_even : BackToEven w e }
unfolding tab
of_word w n d e p q r = record {
  checks_word = (λ z. p ∙ (number_zero w).1 z, λ o. p ∙ (number-odd w).1 o);
  decodes_even = (
    λ z. (q ∙ even_decoded_lem w ((number_zero w).1 z), (even_word w).0 ((number_zero w).1 z)),
    λ o. q ∙ odd-decoded w ((number-odd w).1 o),
  );
  back_to_even = λ z.
      let h : word_number w ≡ 0 = (number_zero w).1 z in
      r ∙ ap (λ (a : Decoded). even_encoded a.point) (q ∙ even_decoded_lem w h) ∙ even-round_trip w h;
}

pub of_point : (y : List ℤ) (e f : Encoded) (d : Decoded) → length y ≡ 24 → e ≡ even_encoded y → f ≡ encode_of y → d ≡ even_decoded e.word
    → record { accepts_even : AcceptsEven y e; refuses_odd : RefusesOdd y e f; keeps_even_point : KeepsEvenPoint y e d }
of_point y e f d l p q r = record {
  accepts_even = (λ h. has (sym n ∙ h), λ h. n ∙ (even-members y l).1 h);
  refuses_odd = ((λ h. (even-refuses y l).0 (sym n ∙ h), λ o. n ∙ (even-refuses y l).1 o), λ o. p ∙ odd_refused y l o, λ k. p ∙ others_as_full y l k ∙ sym q);
  keeps_even_point = λ h.
      let m = has (sym n ∙ h) in
      let a = even-accepts y m.0 m.1 in
      let v : e.word ≡ (even_encoded y).word = ap (λ (a : Encoded). a.word) p in
      let b : point_of e.word ≡ y = ap point_of v ∙ a.back in
      let k : word_number e.word ≡ 0 = (even_word e.word).1 (subst Even (sym b) m.1) in (
        subst (λ (x : ℕ). x < 2 ^ 47) (sym v) a.small,
        r ∙ even_decoded_lem e.word k ∙ ap {B = Decoded} (λ (x : List ℤ). record { number = 0; point = x }) b,
      );
}
  where
    n : e.number ≡ (even_encoded y).number
    n = ap (λ (a : Encoded). a.number) p

    has : (even_encoded y).number ≡ 0 → HasWord y × Even y
    has = (even-members y l).0

-- ---- codes: c is the answer, which the call's definition says is g
keeps-code : (c g : Coding) → c ≡ g → (d : Decoded) (e : Encoded) → d ≡ even_decoded c.word → e ≡ even_encoded c.point
    → (g.number ≡ 0 → Coded g × Even g.point) → KeepsEvenCode c d e
keeps-code c g q d e p r k h =
    let m = subst (λ (a : Coding). Coded a × Even a.point) (sym q) (k (sym (ap (λ (a : Coding). a.number) q) ∙ h)) in
    let b : point_of c.word ≡ c.point = m.0.back in
    let z : word_number c.word ≡ 0 = (even_word c.word).1 (subst Even (sym b) m.1) in (
      m.0.small,
      p ∙ even_decoded_lem c.word z ∙ ap {B = Decoded} (λ (x : List ℤ). record { number = 0; point = x }) b,
      r ∙ even_as_full c.point (subst (λ (y : List ℤ). length y ≡ 24) b (point-length c.word)) m.1 ∙ m.0.again,
    )

module _ (x : List Float) (l : length x ≡ 24) (f : AllFit x) where
  module _ (c : Coding) (d : Decoded) (e : Encoded) (p : d ≡ even_decoded c.word) (r : e ≡ even_encoded c.point) where
    pub of_scale : (s : Float) (n : ℕ) → T (fits binary64 s) → c ≡ encode_at_over even_parities x s n
        → record {
          numbered : Numbered (number_at x s n) c;
          code_value : c ≡ encode_at_over even_parities x s n;
          keeps_even_code : KeepsEvenCode c d e;
          returns_nearest_even : ReturnsNearestEven x s c;
        }
    of_scale s n fs q =
        let g = encode_at_over even_parities x s n in
        let m : g.number ≡ number_at x s n = at-number _ x s n in
        let k = numbered c g q (number_at x s n) m (at-refused _ x s n) in
        record {
          numbered = k;
          code_value = q;
          keeps_even_code = keeps-code c g q d e p r (λ h. even_at_scale_lem x s n l f fs (sym m ∙ h));
          returns_nearest_even = λ h z W E N. ap (λ (a : Coding). a.point) q ∙ (nearest-even_at_scale x s n l f fs (sym k.0 ∙ h) z E W N).point;
        }

    pub of_samples_lem : (n : ℕ) → c ≡ encode_over even_parities x n
        → record {
          numbered : Numbered (number_of x n) c;
          code_value : c ≡ encode_over even_parities x n;
          keeps_even_code : KeepsEvenCode c d e;
        }
    of_samples_lem n q =
        let g = encode_over even_parities x n in
        let m : g.number ≡ number_of x n = number_is _ x n in
        record {
          numbered = numbered c g q (number_of x n) m (is_refused _ x n);
          code_value = q;
          keeps_even_code = keeps-code c g q d e p r (λ h. even-samples x n l f (sym m ∙ h));
        }

  pub of_both : (s : Float) (n : ℕ) (c g : Coding) → T (fits binary64 s) → c ≡ encode_at_over even_parities x s n → g ≡ encode_at_scale x s n
      → AgreesWhereEven c g
  of_both s n c g fs p q h = p ∙ even_agrees x s n l f fs (subst (λ (a : Coding). Even a.point) q h) ∙ sym q

-- ---- pages
pub of_page : (text : List ℕ) (old new : List ℤ) (r : PageRead) → r ≡ even_read (reading_of text) (length old)
    → new ≡ even_cells (reading_of text) old
    → record { reads_even_pages : ReadsEvenPages text old new r; refuses_to_read_even : RefusesToReadEven text old new r }
of_page text old new r q d = record {
  reads_even_pages = λ num words p h k.
      let a = even_on-page text old num words p (λ i l. (number_zero (get_or words i 0)).1 (h i l)) in
      let b = on_page text old num words p k in
      (q ∙ a.0 ∙ b.0, d ∙ a.1 ∙ b.1);
  refuses_to_read_even = record {
    no_page = λ h. let a = even_on-no_page text old h in (q ∙ a.0, d ∙ a.1);
    odd_word = λ num words p i l o.
        let a = even-odd_word text old num words p (i, l, (number-odd (get_or words i 0)).1 o) in (q ∙ a.0, d ∙ a.1);
    short = λ num words p h k.
        let a = even_on_short_buffer text old num words p (λ i l. (number_zero (get_or words i 0)).1 (h i l)) k in (q ∙ a.0, d ∙ a.1);
  };
}
