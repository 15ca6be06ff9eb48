-- `tetra::patterns`: the bytes are cut out by masks. Assumes nothing.
use mathlib.Core.Path.{◌≡◌, ap, ◌∙◌}
use Prim.Native.Nat.{ℕ, ◌/◌, ◌%◌, ◌^◌, ◌<◌}
use native.Mathlib.Nat.{mod-eq_of_lt}
use native.Mathlib.Omega.{arith}
use lib.Bits.{and_mask, bit_and}
use Rattle.word.specs.Word.{Narrow, fields_of}
use Rattle.word.specs.Laws.{split-narrow}
use Rattle.word.specs.declared.Fields.{Fields}
use Rattle.trellis.specs.Code.{codeword_of, columns, label, input_of}
use Rattle.trellis.specs.Laws.Code.{word_lt}
use Rattle.tetra.specs.declared.Bytes.{Bytes}
use Rattle.tetra.specs.Tetra.{codeword_at, patterns_of}
use Rattle.tetra.proofs.patterns.Goals as goal

-- fields that fit are not cut
input : (f : Fields) → Narrow f → input_of f.s8 f.b1 f.b2 f.b3 ≡ label f.s8 f.b1 f.b2 f.b3
input f n = rw (mod-eq_of_lt n.s8, mod-eq_of_lt n.b1, mod-eq_of_lt n.b2, mod-eq_of_lt n.b3)

bytes : (w c : ℕ) → c ≡ codeword_at (fields_of w)
    → ◌≡◌ {A = Bytes} (record { c1 = bit_and c 255; c2 = bit_and (c / 256) 255; c3 = bit_and (c / 65536) 255 }) (patterns_of w)
unfolding patterns_of codeword_at
bytes w c e =
    let h : c < 2 ^ 24 = rw e (word_lt (label (fields_of w).s8 (fields_of w).b1 (fields_of w).b2 (fields_of w).b3)) in
    let top : c / 65536 % 256 ≡ c / 65536 = omega arith in
    rw (and_mask c 8, and_mask (c / 256) 8, and_mask (c / 65536) 8, top, e)

pub returns : goal.returns
unfolding codeword_at
returns c =
    let w = c.args.word in
    bytes w c.codeword-c.result
    (c.codeword-c.ensures
    ∙ ap (codeword_of columns) (c.linear_input-x.ensures ∙ ap (λ (f : Fields). input_of f.s8 f.b1 f.b2 f.b3) c.split-f.ensures
    ∙ input (fields_of w) (split-narrow w)))
