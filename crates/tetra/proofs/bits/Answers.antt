-- `tetra::bits`: the bits from coordinate j on. Assumes nothing.
use mathlib.Core.Path.{◌≡◌, ap, sym, subst, ◌∙◌}
use Prim.Native.Nat.{ℕ, suc, ◌+◌, ◌*◌, ◌-◌, ◌%◌, ◌^◌, ◌<◌}
use native.Mathlib.Nat.{pow-suc}
use native.Mathlib.Omega.{arith}
use borrow.Author.Rules.{rules}
use mir.Syntax.{w32}
use mir.Val.{SFits}
use mir.Facts.{to_z-of_z}
use lib.ListN.{length, get_or, drop}
use lib.IntN.{pos}
use lib.Bits.{bit_or, or_shifted}
use lib.Pow.{shl_exact}
use Rattle.rank.specs.Coord.{bit_of}
use Rattle.rank.specs.Section.{bits_of}
use Rattle.tetra.proofs.Rows.{bits-next, bits_end}
use Rattle.tetra.proofs.bits.Goals as goal

pub loop-j-init : goal.loop-j-init
loop-j-init c =
    let e : length c.args.t ≡ 24 = search rules in
    (omega arith, sym (bits_end c.args.t e), omega arith)

pub loop-j-preserved : goal.loop-j-preserved
loop-j-preserved c =
    let l = c.loop-j in
    let t = c.args.t in
    let e : length t ≡ 24 = search rules in
    let i = l.j - 1 in
    let f : SFits w32 (get_or t i (pos 0)) = record { sfits = c.bit-arg-1.given } in
    let b = c.bit.result in
    let q : b ≡ bit_of (get_or t i (pos 0)) = c.bit.ensures.0 ∙ ap bit_of (to_z-of_z f) in
    let d : bit_or (l.c * 2 % 2 ^ 32) b ≡ l.c * 2 + b =
    ap (λ (x : ℕ). bit_or x b) (shl_exact (24 - l.j) 1 32 l.invariant.2 (omega arith)) ∙ or_shifted l.c 1 b c.bit.ensures.1 in
    let s : suc (24 - l.j) ≡ 24 - i = omega arith in
    let n : bits_of (drop i t) ≡ bit_of (get_or t i (pos 0)) + 2 * bits_of (drop (i + 1) t) = bits-next t i (omega arith) in
    let m : i + 1 ≡ l.j = omega arith in
    let r : l.c ≡ bits_of (drop (i + 1) t) = l.invariant.1 ∙ ap (λ (k : ℕ). bits_of (drop k t)) (sym m) in (
      omega arith,
      d ∙ sum l.c b _ _ r q ∙ sym n,
      subst (λ (x : ℕ). x < 2 ^ (24 - i)) (sym d)
          (subst (λ (k : ℕ). l.c * 2 + b < 2 ^ k) s (more (24 - l.j) l.c b l.invariant.2 c.bit.ensures.1)),
    )
  where
    sum : (c b x y : ℕ) → c ≡ y → b ≡ x → c * 2 + b ≡ x + 2 * y
    sum c b x y p q = omega arith

    more : (n c b : ℕ) → c < 2 ^ n → b < 2 → c * 2 + b < 2 ^ suc n
    more n c b h k = omega (arith, pow-suc 2 n)
