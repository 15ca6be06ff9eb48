-- What a read adds to the bytes that are filled is what it takes off the reader's.
use Rattle.std.proofs.Common.{◌≡◌, ℕ, ◌+◌, ◌≤◌, List, ◌++◌, length, take, sym, ap, ◌∙◌, subst, length-take-le, rules}
use Rattle.std.proofs.lemmas.List.{take-append-le}
use Rattle.std.proofs.Math.Seq.{take-append-add}
use Rattle.std.specs.Io.KnownBytes.{Consumes}
use Rattle.std.proofs.KnownBytes.{Consumes-trans}
use Rattle.input.proofs.read_all.Goals as goal

joined : (n m : ℕ) (xs ys zs : List ℕ) → n ≤ length xs → m ≤ length ys → take n xs ++ take m ys ≡ take (n + m) (take n xs ++ (ys ++ zs))
joined n m xs ys zs within fits =
    let front = take n xs in
    sym
    (ap (λ k. take (k + m) (front ++ (ys ++ zs))) (sym (length-take-le n xs within)) ∙ take-append-add front (ys ++ zs) m
    ∙ ap (λ l. front ++ l) (take-append-le m ys zs fits))

pub loop-count-preserved : goal.loop-count-preserved
loop-count-preserved g c =
    let now = c.loop-count in
    let more = c.in-Ok.more in
    let buf = c.read.new.buf in
    let few : more ≤ length buf = c.in-Ok.ensures.bound.0 in
    record {
      within = search (rules, few);
      filled =
          subst (Consumes _ _) (joined now.count more now.text buf _ now.invariant.within few)
          (Consumes-trans _ _ _ _ _ now.invariant.filled c.in-Ok.ensures.bytes.0);
    }
