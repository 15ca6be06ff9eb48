-- What unpage prints of a page, behind the page's num line, is a trace: so its reader gives back the counts that unpage printed.
-- Assumes nothing.
use Rattle.std.specs.Prelude.{◌≡◌, List, ◌++◌, ℕ, length}
use Rattle.std.proofs.Math.Path.{ap}
use Rattle.std.proofs.Common.{arith}
use Rattle.page.specs.Page.{Page, num_line}
use Rattle.page.specs.Counts.{page_counts}
use Rattle.page.specs.Answer.{Reading, number_in, words_in, counts_in}
use Rattle.page.specs.Reader.{reading_of}
use Rattle.page.specs.PageRule as page-rule
use Rattle.page.specs.Laws.Count.{page-length}
use Rattle.shown.specs.Shown.{printed}
use Rattle.trace.specs.Trace.{Trace, trace_text}
use Rattle.trace.specs.Answer.{trace}
use Rattle.trace.specs.Reader.{trace_in}
use Rattle.trace.specs.TraceRule.{accepted}
use Rattle.trace.specs.Laws.Counts.{counts_fit}

module _ (text : List ℕ) (num : ℕ) (words : List ℕ) (p : Page text num words) where
  pub unpage-back : Trace (num_line num ++ printed (reading_of text)) num (length words) (page_counts num words)
  unfolding trace_text printed number_in words_in counts_in
  unpage-back =
      record {
        num_most = omega (arith, p.num_most);
        count_most = p.count_most;
        size = page-length num words;
        samples_fit = counts_fit num words p.num_most;
        text_is = ap (λ (R : Reading). num_line num ++ printed R) (page-rule.accepted text num words p);
      }

  -- so it is read back
  pub unpage-reads : trace_in (num_line num ++ printed (reading_of text)) ≡ trace num (length words) (page_counts num words)
  unpage-reads = accepted (num_line num ++ printed (reading_of text)) num (length words) (page_counts num words) unpage-back
