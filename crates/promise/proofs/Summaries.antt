-- The demands of summaries, from the summary's rule. Assumes nothing.
use mathlib.Core.Path.{◌≡◌, ap, sym, subst, ◌∙◌}
use mathlib.Core.Logic.{◌⊎◌, inl, inr}
use mathlib.Core.List.{List}
use Prim.Native.Nat.{ℕ, ◌+◌, ◌*◌, ◌%◌, ◌<◌, ◌≤◌}
use native.Mathlib.Omega.{arith}
use lib.IntN.{ℤ}
use lib.ListN.{length, get_or, take, drop}
use Rattle.laws.specs.Laws.Order.{le-or-lt}
use Rattle.tetra.specs.Tetra.{point_of}
use Rattle.page.specs.Page.{page_text}
use Rattle.page.specs.Reader.{reading_of}
use Rattle.summary.specs.Summary.{points, odds, cells_for}
use Rattle.summary.specs.Answer.{Summed, summarised, summarised_rows, checked, added, added_rows, longer}
use Rattle.summary.specs.SummaryRule.{Agrees, Kept, RowIs, agrees-or_not, check_iff, block_row_is, page_row_is, page_row-at, block_row-at}
use Rattle.summary.specs.SummaryRule.{summarise_on-no_page, summarise_on_short, summarise_on-page}
use Rattle.summary.specs.SummaryRule.{check_on-no_page, check_on_short, check_on-other}
use Rattle.summary.specs.SummaryRule.{add_on-no_page, add_full, add_short, add-disagrees, add_on-page, add_then-check, old_rows_stay}
use Rattle.promise.specs.Demands.{SummarisesPages, RowsSay, RefusesToSummarise, ChecksSummary, RefusesToCheck}
use Rattle.promise.specs.Demands.{AddsWord, KeepsSummary, RefusesToAdd}

module _ (text : List ℕ) (old new : List ℤ) (r : Summed) where
  -- ---- `summarise`
  module _ (q : r ≡ summarised (reading_of text) (length old)) (d : new ≡ summarised_rows (reading_of text) old) where
    rows_say : RowsSay text new r
    rows_say z num words p = go (le-or-lt (cells_for (length words)) (length old))
      where
        go : (cells_for (length words) ≤ length old) ⊎ (length old < cells_for (length words))
            → (1 ≤ length words → RowIs (points words) (odds words) (take 4 new))
            × ((i : ℕ) → i < length words → RowIs (point_of (get_or words i 0)) (get_or words i 0 % 2) (take 4 (drop (4 * (i + 1)) new)))
        go (inl l) =
            let e = d ∙ (summarise_on-page text old num words p l).1 in
            let rest = drop (cells_for (length words)) old in (
              λ h. rw (e, page_row-at words rest) (page_row_is words h),
              λ i h. rw (e, block_row-at words rest i h) (block_row_is (get_or words i 0)),
            )
        go (inr l) =
            let e : ◌≡◌ {A = ℕ} 8 0 = sym (ap (λ (x : Summed). x.number) (q ∙ (summarise_on_short text old num words p l).0)) ∙ z in
            absurd (omega arith)

    pub of_summarise : record {
      summarises_pages : SummarisesPages text old new r;
      rows_say : RowsSay text new r;
      refuses_to_summarise : RefusesToSummarise text old new r;
    }
    of_summarise = record {
      summarises_pages = λ num words p h. let a = summarise_on-page text old num words p h in (q ∙ a.0, d ∙ a.1);
      rows_say = rows_say;
      refuses_to_summarise = record {
        no_page = λ h. let a = summarise_on-no_page text old h in (q ∙ a.0, d ∙ a.1);
        short = λ num words p h. let a = summarise_on_short text old num words p h in (q ∙ a.0, d ∙ a.1);
      };
    }

  -- ---- `add`
  module _ (w : ℕ) (q : r ≡ added (reading_of text) old) (d : new ≡ added_rows (reading_of text) w old) where
    -- number 0 is for none but the calls that have all they ask for
    keeps : KeepsSummary text w old new r
    keeps z num words p = few (le-or-lt 64 (length words))
      where
        Kept-rows : Type 0
        Kept-rows = Kept (page_text num (longer words w)) new × (take (4 * length words) (drop 4 new) ≡ take (4 * length words) (drop 4 old))

        refused : (n : ℕ) → 0 < n → added (reading_of text) old ≡ record { number = n; count = 0 } → Kept-rows
        refused n h e = absurd (omega (arith, sym (ap (λ (x : Summed). x.number) (q ∙ e)) ∙ z, h))

        agreeing : length words < 64 → cells_for (length words + 1) ≤ length old → Agrees words old ⊎ (Agrees words old → ⊥) → Kept-rows
        agreeing f l (inl e) = (
          subst (λ (rows : List ℤ). Kept (page_text num (longer words w)) rows) (sym d)
              ((check_iff (page_text num (longer words w)) (added_rows (reading_of text) w old)).0 (add_then-check text old num words p w f l e)),
          rw d (old_rows_stay text old num words p w f l e),
        )
        agreeing f l (inr e) = refused 14 (omega arith) (add-disagrees text old num words p w f l e).0

        room : length words < 64 → (cells_for (length words + 1) ≤ length old) ⊎ (length old < cells_for (length words + 1)) → Kept-rows
        room f (inl l) = agreeing f l (agrees-or_not words old)
        room f (inr l) = refused 8 (omega arith) (add_short text old num words p w f l).0

        few : (64 ≤ length words) ⊎ (length words < 64) → Kept-rows
        few (inl l) = refused 9 (omega arith) (add_full text old num words p w l).0
        few (inr l) = room l (le-or-lt (cells_for (length words + 1)) (length old))

    pub of-add : record {
      adds_word : AddsWord text w old new r;
      keeps_summary : KeepsSummary text w old new r;
      refuses_to_add : RefusesToAdd text old new r;
    }
    of-add = record {
      adds_word = λ num words p f h e. let a = add_on-page text old num words p w f h e in (q ∙ a.0, d ∙ a.1);
      keeps_summary = keeps;
      refuses_to_add = record {
        no_page = λ h. let a = add_on-no_page text old h w in (q ∙ a.0, d ∙ a.1);
        full = λ num words p h. let a = add_full text old num words p w h in (q ∙ a.0, d ∙ a.1);
        short = λ num words p f h. let a = add_short text old num words p w f h in (q ∙ a.0, d ∙ a.1);
        other = λ num words p f h e. let a = add-disagrees text old num words p w f h e in (q ∙ a.0, d ∙ a.1);
      };
    }

-- ---- `check`
pub of_check : (text : List ℕ) (rows : List ℤ) (n : ℕ) → n ≡ checked (reading_of text) rows
    → record { checks_summary : ChecksSummary text rows n; refuses_to_check : RefusesToCheck text rows n }
of_check text rows n q = record {
  checks_summary = (λ z. (check_iff text rows).0 (sym q ∙ z), λ k. q ∙ (check_iff text rows).1 k);
  refuses_to_check = record {
    no_page = λ h. q ∙ check_on-no_page text rows h;
    short = λ num words p h. q ∙ check_on_short text rows num words p h;
    other = λ num words p h e. q ∙ check_on-other text rows num words p h e;
  };
}
