-- `parse` meets its contract: a line at a time, each read where the one before it ends. Assumes nothing.
use native.Mathlib.Omega.{arith}
use mathlib.Core.Path.{◌≡◌, sym, ap, ◌∙◌}
use mathlib.Core.List.{List}
use Prim.Native.Nat.{ℕ, ◌-◌, ◌≤◌}
use lib.ListN.{length, take, drop}
use Rattle.std.specs.Prelude.{Some, None}
use Rattle.text.specs.Text.{bytes}
use Rattle.text.specs.Lines.{decimal_line_at}
use Rattle.text.specs.Laws.Lines.{decimal-rule, tail, line-fits}
use Rattle.page.specs.Answer.{parsed_of}
use Rattle.page.specs.Reader.{format_at, num_at, count_at, words_at, reading_of}
use Rattle.page.specs.Laws.Reader.{format_rule}
use Rattle.page.proofs.parse.Goals as goal

-- ---- what is read behind a line that is there
-- the part of a text behind its first n bytes
abbrev behind : List ℕ → ℕ → List ℕ
behind s n = take (length s - n) (drop n s)

one : (s : List ℕ) (z n : ℕ) → format_at s ≡ Some (z, n) → reading_of s ≡ num_at (behind s n)
unfolding reading_of
one s z n e = rw e (ap num_at (sym (tail s n)))

two : (s : List ℕ) (num n : ℕ) → decimal_line_at (bytes "num=") 1 65535 s ≡ Some (num, n) → num_at s ≡ count_at num (behind s n)
unfolding num_at
two s num n e = rw e (ap (count_at num) (sym (tail s n)))

three : (s : List ℕ) (num count n : ℕ) → decimal_line_at (bytes "count=") 0 64 s ≡ Some (count, n)
    → count_at num s ≡ words_at num count (behind s n)
unfolding count_at
three s num count n e = rw (e, tail s n)

-- a line stands within its text
format_within : (s : List ℕ) (z n : ℕ) → format_at s ≡ Some (z, n) → n ≤ length s
format_within s z n e = line-fits format_at _ _ format_rule s z n e

decimal_within : (key : List ℕ) (least most : ℕ) (s : List ℕ) (v n : ℕ) → decimal_line_at key least most s ≡ Some (v, n) → n ≤ length s
decimal_within key least most s v n e = line-fits _ _ _ (decimal-rule key least most) s v n e

pub returns-in_default : goal.returns-in_default
unfolding parsed_of reading_of
returns-in_default c =
    let e = sym c.format_line.ensures ∙ c.in_default.is in
    rw e

pub slice_bounds-s-count : goal.slice_bounds-s-count
slice_bounds-s-count c =
    let s = c.args.text.now in
    let e1 : format_at s ≡ Some (c.in-Some.field-0-0, c.in-Some.a) = sym c.format_line.ensures ∙ c.in-Some.is in
    format_within s _ _ e1

pub slice_bounds-s-start : goal.slice_bounds-s-start
slice_bounds-s-start c =
    let s = c.args.text.now in
    let e1 : format_at s ≡ Some (c.in-Some.field-0-0, c.in-Some.a) = sym c.format_line.ensures ∙ c.in-Some.is in
    format_within s _ _ e1

pub returns-in_default-decimal_line : goal.returns-in_default-decimal_line
unfolding parsed_of num_at
returns-in_default-decimal_line c =
    let s = c.args.text.now in
    let e1 : format_at s ≡ Some (c.in-Some.field-0-0, c.in-Some.a) = sym c.format_line.ensures ∙ c.in-Some.is in
    let s1 = behind s c.in-Some.a in
    let e : decimal_line_at (bytes "num=") 1 65535 s1 ≡ None = sym c.decimal_line.ensures ∙ c.in_default-decimal_line.is in
    rw (one s _ _ e1, e)

pub slice_bounds-t-count : goal.slice_bounds-t-count
slice_bounds-t-count c =
    let s = c.args.text.now in
    let s1 = behind s c.in-Some.a in
    let e2 : decimal_line_at (bytes "num=") 1 65535 s1 ≡ Some (c.in-Some-decimal_line.num, c.in-Some-decimal_line.b) =
    sym c.decimal_line.ensures ∙ c.in-Some-decimal_line.is in
    decimal_within (bytes "num=") 1 65535 s1 _ _ e2

pub slice_bounds-t-start : goal.slice_bounds-t-start
slice_bounds-t-start c =
    let s = c.args.text.now in
    let s1 = behind s c.in-Some.a in
    let e2 : decimal_line_at (bytes "num=") 1 65535 s1 ≡ Some (c.in-Some-decimal_line.num, c.in-Some-decimal_line.b) =
    sym c.decimal_line.ensures ∙ c.in-Some-decimal_line.is in
    decimal_within (bytes "num=") 1 65535 s1 _ _ e2

pub returns-in_default-decimal_line-2 : goal.returns-in_default-decimal_line-2
unfolding parsed_of count_at
returns-in_default-decimal_line-2 c =
    let s = c.args.text.now in
    let e1 : format_at s ≡ Some (c.in-Some.field-0-0, c.in-Some.a) = sym c.format_line.ensures ∙ c.in-Some.is in
    let s1 = behind s c.in-Some.a in
    let e2 : decimal_line_at (bytes "num=") 1 65535 s1 ≡ Some (c.in-Some-decimal_line.num, c.in-Some-decimal_line.b) =
    sym c.decimal_line.ensures ∙ c.in-Some-decimal_line.is in
    let s2 = behind s1 c.in-Some-decimal_line.b in
    let e : decimal_line_at (bytes "count=") 0 64 s2 ≡ None = sym c.decimal_line-2.ensures ∙ c.in_default-decimal_line-2.is in
    rw (one s _ _ e1, two s1 _ _ e2, e)

pub slice_bounds-words_of-count : goal.slice_bounds-words_of-count
slice_bounds-words_of-count c =
    let s = c.args.text.now in
    let s1 = behind s c.in-Some.a in
    let s2 = behind s1 c.in-Some-decimal_line.b in
    let e3 : decimal_line_at (bytes "count=") 0 64 s2 ≡ Some (c.in-Some-decimal_line-2.count, c.in-Some-decimal_line-2.c) =
    sym c.decimal_line-2.ensures ∙ c.in-Some-decimal_line-2.is in
    decimal_within (bytes "count=") 0 64 s2 _ _ e3

pub slice_bounds-words_of-start : goal.slice_bounds-words_of-start
slice_bounds-words_of-start c =
    let s = c.args.text.now in
    let s1 = behind s c.in-Some.a in
    let s2 = behind s1 c.in-Some-decimal_line.b in
    let e3 : decimal_line_at (bytes "count=") 0 64 s2 ≡ Some (c.in-Some-decimal_line-2.count, c.in-Some-decimal_line-2.c) =
    sym c.decimal_line-2.ensures ∙ c.in-Some-decimal_line-2.is in
    decimal_within (bytes "count=") 0 64 s2 _ _ e3

pub overflow_cast-num : goal.overflow_cast-num
overflow_cast-num c =
    let s = c.args.text.now in
    let s1 = behind s c.in-Some.a in
    let e2 : decimal_line_at (bytes "num=") 1 65535 s1 ≡ Some (c.in-Some-decimal_line.num, c.in-Some-decimal_line.b) =
    sym c.decimal_line.ensures ∙ c.in-Some-decimal_line.is in
    omega (arith, ((decimal-rule (bytes "num=") 1 65535).only s1 _ _ e2).0.1)

pub words_of-requires : goal.words_of-requires
words_of-requires c =
    let s = c.args.text.now in
    let s1 = behind s c.in-Some.a in
    let e2 : decimal_line_at (bytes "num=") 1 65535 s1 ≡ Some (c.in-Some-decimal_line.num, c.in-Some-decimal_line.b) =
    sym c.decimal_line.ensures ∙ c.in-Some-decimal_line.is in
    let s2 = behind s1 c.in-Some-decimal_line.b in
    let e3 : decimal_line_at (bytes "count=") 0 64 s2 ≡ Some (c.in-Some-decimal_line-2.count, c.in-Some-decimal_line-2.c) =
    sym c.decimal_line-2.ensures ∙ c.in-Some-decimal_line-2.is in
    let num = ((decimal-rule (bytes "num=") 1 65535).only s1 _ _ e2).0 in
    let count = ((decimal-rule (bytes "count=") 0 64).only s2 _ _ e3).0 in
    (num.0, num.1, count.1)

pub returns : goal.returns
returns c =
    let s = c.args.text.now in
    let e1 : format_at s ≡ Some (c.in-Some.field-0-0, c.in-Some.a) = sym c.format_line.ensures ∙ c.in-Some.is in
    let s1 = behind s c.in-Some.a in
    let e2 : decimal_line_at (bytes "num=") 1 65535 s1 ≡ Some (c.in-Some-decimal_line.num, c.in-Some-decimal_line.b) =
    sym c.decimal_line.ensures ∙ c.in-Some-decimal_line.is in
    let s2 = behind s1 c.in-Some-decimal_line.b in
    let e3 : decimal_line_at (bytes "count=") 0 64 s2 ≡ Some (c.in-Some-decimal_line-2.count, c.in-Some-decimal_line-2.c) =
    sym c.decimal_line-2.ensures ∙ c.in-Some-decimal_line-2.is in
    c.words_of.ensures ∙ sym (ap parsed_of (one s _ _ e1 ∙ two s1 _ _ e2 ∙ three s2 _ _ _ e3))
