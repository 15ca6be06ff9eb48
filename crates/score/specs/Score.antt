-- The score of a point: `t_of` of encoder.rs, one rounding per operation. Definitions only.
use Rattle.std.specs.Prelude.{true, cond, List, [], ◌∷◌, ℕ, eqb, ℤ, Float, Result, Ok, Err}
use Rattle.std.specs.Float.{inf, binary64}
use Rattle.std.specs.Float.Ieee.{mul, div, lt, of_int}
use Rattle.refusal.specs.declared.Refusal.{Refusal}
use Rattle.refusal.specs.Refusal.{number_of}
use Rattle.float.specs.Value.{zero64}
use Rattle.float.specs.Calls.{sum_of}
use Rattle.root.specs.Root.{rooted}
use Rattle.score.specs.Samples.{sample_number}

-- each product of two numbers that stand at one place
unfoldable pub products : List Float → List Float → List Float
products [] ys = []
products (x ∷ xs) [] = []
products (x ∷ xs) (y ∷ ys) = mul binary64 x y ∷ products xs ys

-- their sum, from +0.0 and from left to right: the Rust's sum of a * b as f64
abbrev pub dot_of : List Float → List Float → Float
dot_of xs ys = sum_of (products xs ys)

-- each y as f64, which is exact for an i32
unfoldable pub doubles_of : List ℤ → List Float
doubles_of [] = []
doubles_of (y ∷ ys) = of_int binary64 y ∷ doubles_of ys

-- x·y over the root of y·y, minus infinity where y is the origin: the Rust's dot / nn.sqrt() where nn > 0.0
abbrev pub score_of : Float → Float → Float
score_of dot nn = cond (lt zero64 nn) (div binary64 dot (rooted nn).root) (inf true)

unfoldable pub t_of : List Float → List ℤ → Float
t_of xs ys = score_of (dot_of xs (doubles_of ys)) (dot_of (doubles_of ys) (doubles_of ys))

-- ---- the call `t_of`: number 0 and the score, or the number of a refusal and the score +0.0
pub record Scored : Type 0 where
  pub number : ℕ
  pub score : Float

abbrev pub scored_by : Result Float Refusal → Scored
scored_by (Ok t) = record { number = 0; score = t }
scored_by (Err r) = record { number = number_of r; score = zero64 }

abbrev pub scored_as : ℕ → Float → Scored
scored_as n t = cond (eqb n 0) (record { number = 0; score = t }) (record { number = n; score = zero64 })

abbrev pub scored : List Float → List ℤ → Scored
scored xs ys = scored_as (sample_number xs) (t_of xs ys)
