-- `tetra::word_by`: fields that fit are joined. Assumes nothing.
use mathlib.Core.Path.{◌≡◌, ap, ◌∙◌}
use Prim.Native.Nat.{ℕ, ◌/◌}
use lib.Bits.{and_mask, bit_and}
use Rattle.word.specs.Word.{join_of}
use Rattle.word.specs.Laws.{join-accepts, word_or_zero}
use Rattle.word.specs.declared.Fields.{Fields}
use Rattle.word.specs.Word.{Joined}
use Rattle.tetra.specs.Encode.{fields_by}
use Rattle.tetra.proofs.word_by.Goals as goal

-- the label's parts, by masks
made : (p x r i1 i2 i3 : ℕ)
    → ◌≡◌ {A = Fields}
    (record {
      p = p;
      r = r;
      s8 = bit_and x 63;
      b1 = bit_and (x / 64) 1;
      i1 = i1;
      b2 = bit_and (x / 128) 15;
      i2 = i2;
      b3 = bit_and (x / 2048) 1;
      i3 = i3;
      gain = 0;
    })
    (fields_by p x r i1 i2 i3)
made p x r i1 i2 i3 = rw (and_mask x 6, and_mask (x / 64) 1, and_mask (x / 128) 4, and_mask (x / 2048) 1)

pub returns : goal.returns
returns c =
    let a = c.args in
    c.unwrap_or.ensures ∙ word_or_zero c.join.result
    ∙ ap (λ (r : Joined). r.word)
    (c.join.ensures ∙ ap join_of (made a.p a.x a.r a.i1 a.i2 a.i3)
    ∙ join-accepts (fields_by a.p a.x a.r a.i1 a.i2 a.i3) c.requires)
