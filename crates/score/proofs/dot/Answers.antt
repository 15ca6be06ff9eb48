-- `score::dot` meets its contract: one more turn of the fold is one more product. Assumes nothing.
use Rattle.std.specs.Prelude.{◌≡◌, refl, List, [], ◌∷◌, Float}
use Rattle.std.proofs.Common.{rules, Bor, sym, ap, ◌∙◌}
use Rattle.std.specs.Float.{binary64}
use Rattle.std.specs.Float.Ieee.{add, mul, of_bits}
use Rattle.std.specs.List.{fold, zip}
use Rattle.std.proofs.lemmas.Fn.{fronts, fold_over}
use Rattle.std.proofs.lemmas.Grind.{fold-append}
use Rattle.std.proofs.lemmas.Iterator.{YieldsList-from_slice, YieldsList-from_zip, zips}
use Rattle.float.specs.Value.{zero64}
use Rattle.score.proofs.Lists.{dot_folds}
use Rattle.score.proofs.dot.Goals as goal

more : Float → Float × Float → Float
more s p = add binary64 s (mul binary64 p.0 p.1)

pub returns : goal.returns
unfolding more of_bits
returns c =
    let a = c.args.a.now in
    let b = c.args.b.now in
    fold_over (zips fronts fronts) (λ (p : Bor Float × Bor Float). (p.0.now, p.1.now)) _
    (λ (ps : List (Float × Float)) (s : Float). s ≡ fold more zero64 ps) _
    (λ ps s p r f e k.
    let t : r ≡ more s (p.0.now, p.1.now) = search rules in
    (t ∙ ap (λ (n : Float). more n (p.0.now, p.1.now)) e ∙ sym (fold-append more zero64 ps ((p.0.now, p.1.now) ∷ [])), search rules))
    c.zip.result (zip a b) _ _
    (YieldsList-from_zip {s = c.zip.result} (YieldsList-from_slice a cc) (YieldsList-from_slice b cc)).runs refl c.fold.ensures.ran
    ∙ sym (dot_folds zero64 a b)
