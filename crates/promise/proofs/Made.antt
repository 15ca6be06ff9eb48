-- What is promised of the calls that make a page, from the rules of page and writer. Assumes nothing.
use mathlib.Core.Path.{◌≡◌, sym, ap, ap₂, subst₂, ◌∙◌}
use mathlib.Core.List.{List, ◌++◌, append-nil, map}
use Prim.Native.Nat.{ℕ, ◌%◌, ◌^◌}
use borrow.Author.Tests.{eq-eqb, ne_eqb}
use lib.IntN.{ℤ}
use lib.ListN.{length, take, drop}
use Rattle.page.specs.Page.{Page}
use Rattle.page.specs.Form.{Formed, formed_of, form_in}
use Rattle.page.specs.PageRule.{only_pages}
use Rattle.page.specs.FormRule as form
use Rattle.writer.specs.Writer.{Written, scale_of, words_for, text_of, written_of, text_after, Gives}
use Rattle.writer.specs.WriterRule as writer
use Rattle.text.specs.Text.{refused_text}
use Rattle.trace.specs.Reader.{trace_in}
use Rattle.text.specs.declared.printed.Printed.TheInside.{Inside}
use Rattle.text.specs.Held.{in_array}
use Rattle.made.specs.Made.{names_block, refused_lines, page_or_refusal, made}
use Rattle.made.specs.MadeRule.{on_trace, on_no_trace}
use Rattle.promise.specs.Written.{block-coded, block-nearest}
use Rattle.promise.specs.Demands.{FormsPages, FormsPage, RefusesToForm, WritesPage, CodesBlocks, WritesNearest, RefusesToWrite, WritesOthers, MakesPages, MakesNoOther}

-- ---- `form`
pub of_form : (num count : ℕ) (words old new : List ℕ) (r : Formed) → r ≡ formed_of num count words (length old)
    → new ≡ form_in num count words old
    → record {
      forms_pages : FormsPages num count words old new r;
      forms_page : FormsPage num count words new r;
      refuses_to_form : RefusesToForm num count words old new r;
    }
of_form num count words old new r q d = record {
  forms_pages = λ g few room. let a = form.on_formed num count words old g.0 g.1 few room in (q ∙ a.0, d ∙ a.1);
  forms_page = λ z. subst₂ (λ (f : Formed) (t : List ℕ). Page (take f.length t) num (map (λ (w : ℕ). w % 2 ^ 48) (take count words))) (sym q) (sym d)
      (only_pages _ num _ (form.form_then-parse num count words old (sym (ap (λ (f : Formed). f.number) q) ∙ z)));
  refuses_to_form = record {
    bad_num = λ h. let a = form.on_bad_num num count words old (λ l m. h (l, m)) in (q ∙ a.0, d ∙ a.1);
    many_words = λ g h. let a = form.on_many_words num count words old g.0 g.1 h in (q ∙ a.0, d ∙ a.1);
    short_text = λ g few h. let a = form.on_short_text num count words old g.0 g.1 few h in (q ∙ a.0, d ∙ a.1);
  };
}

-- ---- `write`
module _ (num count : ℕ) (x : List ℤ) (old new : List ℕ) (r : Written) (q : r ≡ written_of num count x (length old))
    (d : new ≡ text_after num count x old) where
  zero_is : r.number ≡ 0 → (written_of num count x (length old)).number ≡ 0
  zero_is z = sym (ap (λ (w : Written). w.number) q) ∙ z

  page-made : WritesPage num count x old new r
  page-made z =
      let W = written_of num count x (length old) in
      let N = text_after num count x old in
      let ws = words_for (scale_of num) x count in
      let l : r.length ≡ W.length = ap (λ (w : Written). w.length) q in
      record {
        words = ws;
        page = subst₂ (λ (n : ℕ) (t : List ℕ). Page (take n t) num ws) (sym l) (sym d) (writer.is_page num count x old (zero_is z));
        count_is = (writer.words_are (scale_of num) x count).0;
        word_is = (writer.words_are (scale_of num) x count).1;
        rest = d ∙ writer.rest_stays num count x old (zero_is z) ∙ ap₂ (λ (n : ℕ) (t : List ℕ). take n t ++ drop n old) (sym l) (sym d);
      }

  refuses : RefusesToWrite num count x old new r
  refuses =
      record {
        bad_num = λ h. both (writer.on_bad_num num count x old h);
        many_blocks = λ g h. both (writer.on_many num count x old g.0 g.1 h);
        few_samples = λ g few h. both (writer.on_few_samples num count x old g.0 g.1 few h);
        wide = λ g few enough b l w n. both (writer.on_wide num count x old g.0 g.1 few enough b l w n);
        far = λ g few enough narrow b l w n. both (writer.on_far num count x old g.0 g.1 few enough narrow b l w n);
        short_text = λ g few enough narrow near h. both (writer.on_short_text num count x old g.0 g.1 few enough narrow near h);
      }
    where
      both : {w : Written} {t : List ℕ} → Gives num count x old w t → (r ≡ w) × (new ≡ t)
      both a = (q ∙ a.0, d ∙ a.1)

  pub of_write : record {
    writes_page : WritesPage num count x old new r;
    codes_blocks : CodesBlocks num count x r;
    writes_nearest : WritesNearest num count x r;
    refuses_to_write : RefusesToWrite num count x old new r;
    writes_others : WritesOthers num count x old r;
  }
  of_write = record {
    writes_page = page-made;
    codes_blocks = λ z i h. block-coded num count x old (zero_is z) i h;
    writes_nearest = λ z i h y W N. (block-nearest num count x old (zero_is z) i h y W N).point;
    refuses_to_write = refuses;
    writes_others = λ g few enough narrow near h.
        ap (λ (w : Written). w.number) (q ∙ (writer.on_written num count x old g.0 g.1 few enough narrow near h).0);
  }

-- ---- `mkpage`
pub of_mkpage : (text : List ℕ) (r : Inside 1189) → r ≡ in_array 1189 (made (trace_in text)) → record { makes_pages : MakesPages text r; makes_no_other : MakesNoOther text r }
unfolding page_or_refusal text_of refused_lines names_block
of_mkpage text r q = record {
  makes_pages = λ num count x p.
      let e = q ∙ ap (in_array 1189) (on_trace text num count x p) in
      (λ z. e ∙ rw (eq-eqb _ 0 z), λ z. e ∙ rw (ne_eqb _ 0 z));
  makes_no_other = λ h. q ∙ ap (in_array 1189) (on_no_trace text h ∙ append-nil (refused_text 9));
}
