-- `encoder::code_of` meets its contract: what its three calls answer. Assumes nothing.
use mathlib.Core.Path.{◌≡◌, ap, ◌∙◌}
use Prim.Native.Nat.{ℕ}
use mathlib.Core.List.{List}
use lib.IntN.{ℤ}
use lib.Ieee.{Float}
use Rattle.tetra.specs.Encode.{Encoded}
use Rattle.tetra.specs.Encode.{encode_of}
use Rattle.tetra.specs.Laws.Answer.{encoded-word}
use Rattle.score.specs.Score.{t_of}
use Rattle.search.specs.Parity.{Winner, winner_by}
use Rattle.search.specs.Block.{point_from}
use Rattle.encoder.specs.Encode.{Coding, code_of}
use Rattle.encoder.proofs.code_of.Goals as goal

made : (x : List Float) (w : Winner) {y : List ℤ} {v : ℕ} {t : Float} → y ≡ point_from w → v ≡ (encode_of y).word → t ≡ t_of x y
    → ◌≡◌ {A = Coding} (record { number = 0; word = v; point = y; score = t }) (code_of x w)
unfolding code_of
made x w p q r = rw (r, q, p)

pub returns : goal.returns
returns c =
    let a = c.args in
    let word = c.unwrap_or.ensures ∙ encoded-word c.encode.result ∙ ap (λ (e : Encoded). e.word) c.encode.ensures in
    made a.samples (winner_by a.w) c.point_of-point.ensures word c.score-score.ensures
