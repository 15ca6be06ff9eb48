-- `tetra::encode`: the test that fails is the reason why the point has no word, and where all pass it has the one answered. Assumes nothing.
use Rattle.std.proofs.Common.{rules, arith, Some, None, Err, ◌≡◌, ap, sym, ◌∙◌, length, pos, w32, slice_index_or}
use mathlib.Core.Bool.{not}
use mir.Val.{SFits}
use Rattle.std.proofs.Math.Facts.{to_z-of_z}
use Rattle.rank.specs.Coord.{parity_of}
use Rattle.rank.specs.Section.{bits_of}
use Rattle.rows.specs.Table.{class_index_of, mixed_index_of}
use Rattle.refusal.specs.declared.Refusal.TheVariants.{NoCodeword}
use Rattle.trellis.specs.Trellis.{label_in}
use Rattle.tetra.specs.Lattice.{trio, section_ranks}
use Rattle.tetra.specs.Encode.{label_for, parity_at, encoded_by}
use Rattle.tetra.specs.Why.{OfParity, InCode}
use Rattle.tetra.proofs.Encoding.{label-read, seat-read, middle-read, parity-read, code_read, no_parity, no_code, no_first, no_second}
use Rattle.tetra.proofs.Encoding.{no_third, classes-lt, no-sum, read-narrow, read_word}
use Rattle.tetra.proofs.encode.Goals as goal
use Rattle.tetra.proofs.encode.Goals.{After-one_parity, After-to_trio-t, After-label_of, In_ok-x, After-class_index, In-Some, After-mixed_index}
use Rattle.tetra.proofs.encode.Goals.{In-Some-mixed_index, After-class_index-2, In-Some-class_index}

-- ---- what is known of the point once it is read that far
long : (c : After-one_parity) → length c.args.point ≡ 24
long c = search rules

one : (c : After-to_trio-t) → length c.args.point ≡ 24 → OfParity c.args.point c.parity-p.result
one c n = parity-read c.args.point n c.one_parity.ensures (ap not c.if-not-one_parity.false)

label : (c : After-label_of) → length c.args.point ≡ 24 → c.label_of.result ≡ label_in (bits_of (trio c.args.point))
label c n = label-read c.args.point n c.to_trio-t.ensures c.bits.ensures c.label_of.ensures

code : (c : In_ok-x) → length c.args.point ≡ 24 → InCode c.args.point × (c.in_ok-x.x ≡ label_for c.args.point)
code c n =
    code_read c.args.point n (label-read c.args.point n c.to_trio-t.ensures c.bits.ensures c.label_of.ensures) found
  where
    found : c.label_of.result ≡ Some c.in_ok-x.x
    found = c.in_ok-x.ensures.ok_part

-- the seats of the three sections
first : (c : After-class_index) → length c.args.point ≡ 24 → c.class_index.result ≡ class_index_of (section_ranks c.args.point 0)
first c n = seat-read c.args.point n c.to_trio-t.ensures 0 (omega arith) c.marks.ensures c.class_index.ensures

second : (c : After-mixed_index) → length c.args.point ≡ 24 → c.mixed_index.result ≡ mixed_index_of (section_ranks c.args.point 1)
second c n = middle-read c.args.point n c.to_trio-t.ensures c.marks-2.ensures c.mixed_index.ensures

third : (c : After-class_index-2) → length c.args.point ≡ 24 → c.class_index-2.result ≡ class_index_of (section_ranks c.args.point 2)
third c n = seat-read c.args.point n c.to_trio-t.ensures 2 (omega arith) c.marks-3.ensures c.class_index-2.ensures

-- ---- the test that fails
pub returns-then-not-one_parity : goal.returns-then-not-one_parity
returns-then-not-one_parity c =
    let y = c.args.point in
    let n = long (goal.at.returns-then-not-one_parity c).After-one_parity in
    let f : SFits w32 (slice_index_or y 0 (pos 0)) = search rules in
    let p : c.parity-p.result ≡ parity_at y = c.parity-p.ensures.0 ∙ ap parity_of (to_z-of_z f) in
    no_parity y n p c.one_parity.ensures (ap not c.if-not-one_parity.true)

pub returns-in_err-x : goal.returns-in_err-x
returns-in_err-x c =
    let y = c.args.point in
    let m = goal.at.returns-in_err-x c in
    let n = long m.After-one_parity in
    let absent : c.label_of.result ≡ None = c.in_err-x.ensures.ok_part in
    let told : c.from_residual.result ≡ Err NoCodeword = search rules in
    ap encoded_by told ∙ no_code y n (one m.After-to_trio-t n) (label m.After-label_of n) absent

pub returns-in_default : goal.returns-in_default
returns-in_default c =
    let y = c.args.point in
    let m = goal.at.returns-in_default c in
    let n = long m.After-one_parity in
    no_first y n (one m.After-to_trio-t n) (code m.In_ok-x n).0 (first m.After-class_index n) c.in_default.is

pub returns-in_default-mixed_index : goal.returns-in_default-mixed_index
returns-in_default-mixed_index c =
    let y = c.args.point in
    let m = goal.at.returns-in_default-mixed_index c in
    let n = long m.After-one_parity in
    let f0 = sym (first m.After-class_index n) ∙ c.in-Some.is in
    no_second y n (one m.After-to_trio-t n) (code m.In_ok-x n).0 f0 (second m.After-mixed_index n) c.in_default-mixed_index.is

pub returns-in_default-class_index : goal.returns-in_default-class_index
returns-in_default-class_index c =
    let y = c.args.point in
    let m = goal.at.returns-in_default-class_index c in
    let n = long m.After-one_parity in
    let f0 = sym (first m.After-class_index n) ∙ c.in-Some.is in
    let f1 = sym (second m.After-mixed_index n) ∙ c.in-Some-mixed_index.is in
    no_third y n (one m.After-to_trio-t n) (code m.In_ok-x n).0 f0 f1 (third m.After-class_index-2 n) c.in_default-class_index.is

pub overflow_add-p : goal.overflow_add-p
overflow_add-p c =
    let y = c.args.point in
    let m = goal.at.overflow_add-p c in
    let n = long m.After-one_parity in
    let f0 = sym (first m.After-class_index n) ∙ c.in-Some.is in
    let f1 = sym (second m.After-mixed_index n) ∙ c.in-Some-mixed_index.is in
    let f2 = sym (third m.After-class_index-2 n) ∙ c.in-Some-class_index.is in
    let small = classes-lt y n (one m.After-to_trio-t n) (code m.In_ok-x n).0 f0 f1 f2 in
    omega (arith, small.0, c.parity-p.ensures.1)

pub overflow_add-p-2 : goal.overflow_add-p-2
overflow_add-p-2 c =
    let y = c.args.point in
    let m = goal.at.overflow_add-p-2 c in
    let n = long m.After-one_parity in
    let f0 = sym (first m.After-class_index n) ∙ c.in-Some.is in
    let f1 = sym (second m.After-mixed_index n) ∙ c.in-Some-mixed_index.is in
    let f2 = sym (third m.After-class_index-2 n) ∙ c.in-Some-class_index.is in
    let small = classes-lt y n (one m.After-to_trio-t n) (code m.In_ok-x n).0 f0 f1 f2 in
    omega (arith, small.0, small.1, c.parity-p.ensures.1)

pub returns-then-last-p : goal.returns-then-last-p
returns-then-last-p c =
    let y = c.args.point in
    let m = goal.at.returns-then-last-p c in
    let n = long m.After-one_parity in
    let f0 = sym (first m.After-class_index n) ∙ c.in-Some.is in
    let f1 = sym (second m.After-mixed_index n) ∙ c.in-Some-mixed_index.is in
    let f2 = sym (third m.After-class_index-2 n) ∙ c.in-Some-class_index.is in
    no-sum y n (one m.After-to_trio-t n) (code m.In_ok-x n).0 f0 f1 f2 (λ e. omega (arith, c.if-last-p.true))

pub word_by-requires : goal.word_by-requires
word_by-requires c =
    let y = c.args.point in
    let m = goal.at.word_by-requires c in
    let n = long m.After-one_parity in
    let f0 = sym (first m.After-class_index n) ∙ c.in-Some.is in
    let f1 = sym (second m.After-mixed_index n) ∙ c.in-Some-mixed_index.is in
    let f2 = sym (third m.After-class_index-2 n) ∙ c.in-Some-class_index.is in
    let k = code m.In_ok-x n in
    read-narrow y n (one m.After-to_trio-t n) k.0 f0 f1 f2 k.1 (omega (arith, c.if-last-p.false))

pub returns : goal.returns
returns c =
    let y = c.args.point in
    let m = goal.at.returns c in
    let n = long m.After-one_parity in
    let f0 = sym (first m.After-class_index n) ∙ c.in-Some.is in
    let f1 = sym (second m.After-mixed_index n) ∙ c.in-Some-mixed_index.is in
    let f2 = sym (third m.After-class_index-2 n) ∙ c.in-Some-class_index.is in
    let k = code m.In_ok-x n in
    read_word y n (one m.After-to_trio-t n) k.0 f0 f1 f2 k.1 (omega (arith, c.if-last-p.false)) c.word_by.ensures
