-- What `parse` answers, once it is known whether the text is a trace. Assumes nothing.
use Rattle.std.specs.Prelude.{List, ◌++◌, ℕ, ◌-◌, ℤ, pos, length, replicate, Result, Ok, Err}
use Rattle.refusal.specs.declared.Refusal.{Refusal}
use Rattle.refusal.specs.Refusal.{no_page, number_of}
use Rattle.trace.specs.declared.content.Trace.{Trace}

-- what a text is: the trace of num and `count` blocks with their samples in a row, or no trace
pub data Reading : Type 0 where
  trace : ℕ → ℕ → List ℤ → Reading
  malformed : Reading

-- what `parse` answers in document 01's terms: number 0 and what the trace holds, or the number of a refusal and zeros
pub record Traced : Type 0 where
  pub number : ℕ
  pub num : ℕ
  pub count : ℕ
  pub samples : List ℤ

abbrev pub traced_by : Result Trace Refusal → Traced
traced_by (Ok t) = record { number = 0; num = t.num; count = t.count; samples = t.samples }
traced_by (Err r) = record { number = number_of r; num = 0; count = 0; samples = replicate 1536 (pos 0) }

-- number 0, num, the count and the samples, with zeros behind them up to 1536; or 9 and zeros
abbrev pub refused_by : ℕ → Traced
refused_by number = record { number = number; num = 0; count = 0; samples = replicate 1536 (pos 0) }

unfoldable pub traced_of : Reading → Traced
traced_of (trace num count samples) =
    record { number = 0; num = num; count = count; samples = samples ++ replicate (1536 - length samples) (pos 0) }
traced_of malformed = refused_by no_page
