-- `score::largest` meets its contract: one more turn of the fold is one more magnitude. Assumes nothing.
use Rattle.std.specs.Prelude.{◌≡◌, refl, List, [], ◌∷◌, Float}
use Rattle.std.proofs.Common.{rules, Bor, sym, ap, ◌∙◌}
use Rattle.std.specs.Float.Ieee.{of_bits}
use Rattle.std.specs.List.{fold}
use Rattle.std.proofs.lemmas.Fn.{fronts, fold_over}
use Rattle.std.proofs.lemmas.Grind.{fold-append}
use Rattle.std.proofs.lemmas.Iterator.{YieldsList-from_slice}
use Rattle.float.specs.Value.{zero64}
use Rattle.float.specs.Calls.{abs_of}
use Rattle.score.specs.Scale.{larger}
use Rattle.score.proofs.Lists.{largest_folds}
use Rattle.score.proofs.largest.Goals as goal

more : Float → Float → Float
more m v = larger m (abs_of v)

pub returns : goal.returns
unfolding more of_bits
returns c =
    let x = c.args.x.now in
    fold_over fronts (λ (v : Bor Float). v.now) _ (λ (xs : List Float) (m : Float). m ≡ fold more zero64 xs) _
    (λ xs m v r f e k.
    let t : r ≡ more m v.now = search rules in
    (t ∙ ap (λ (n : Float). more n v.now) e ∙ sym (fold-append more zero64 xs (v.now ∷ [])), search rules))
    _ x _ _ (YieldsList-from_slice {s = c.iter.result} x cc).runs refl c.fold.ensures.ran
    ∙ sym (largest_folds zero64 x)
