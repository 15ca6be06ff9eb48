-- The shrink 0: a target is then of no account, and the base of every pattern is within the middle's bound.
use Rattle.std.specs.Prelude.{◌≡◌, ◌≢◌, ◌⊎◌, Bool, true, false, cond, not, ◌&&◌, ◌||◌, List, T, ltb, leb, eqb, get_or, ℤ, pos, negsuc, Float}
use Rattle.std.proofs.Math.Path.{refl, ap}
use Rattle.std.proofs.Common.{sym, ap₂, ◌∙◌, subst, inl, inr, le_refl, le_trans, le_of_eq, le_of_mul-le-mul_right, mul-zero, zero-mul, mod-lt, zero-lt-suc, mul-le-mul, eq-eqb, ne_eqb, leb→le, le→leb, lt→ltb, eqb→eq, lit≤, pow_pos}
use Prim.Native.Nat.{ℕ, zero, suc, ◌+◌, ◌*◌, ◌/◌, ◌%◌, ◌^◌, ◌≤◌, ◌<◌}
use Rattle.std.proofs.Math.Decide.{ℕ_discrete}
use native.Mathlib.Omega.{arith}
use Rattle.std.specs.Float.{nan, fin, binary64}
use Rattle.std.specs.Float.Ieee.{fits, unlike, span, climb, size, odd, units, round, neg, sum, add, sub, mul, div, lt, of_int}
use Rattle.std.specs.Float.Ieee.Bits.{is_false}
use Rattle.std.specs.Float.Ieee.Scale.{finite}
use Rattle.laws.specs.Laws.Tests.{upto, below, is_true, split3, split4, eq→eqb, or_else, or_left, or_right, and_in}
use Rattle.rank.specs.Coord.{rank_of}
use Rattle.rank.specs.Vector.{sq, unpack}
use Rattle.rank.specs.Laws.Vector.{unpack-at}
use Rattle.rank.specs.Answers.{mark_of}
use Rattle.float.specs.Value.{U, mag_units, is_minus, zero64, four64}
use Rattle.float.specs.Calls.{abs_of, half_up, round_away, clamped, rounded}
use Rattle.float.specs.Laws.Exact.{zero-fits, zero_mag, no_digits, same_units, round-exactly}
use Rattle.float.specs.Laws.Arithmetic.{mul-fraction}
use Rattle.search.specs.declared.Coord.{Coord}
use Rattle.search.specs.declared.Top.{Top}
use Rattle.search.specs.Record.{coord_at, coord_of, row, shrinks, slot_k}
use Rattle.search.specs.Bound.{holds, lex_of, lex_num}
use Rattle.search.specs.Base.{toward_of, par_to, now_to}
use Rattle.search.specs.Solve.{fix_of, top_to}
use Rattle.search.specs.Tables.{tables}
use Rattle.nearest.specs.Laws.Forms.{sum_to}
use Rattle.nearest.specs.Laws.Sums.{sum-le, sum_set}
use Rattle.nearest.specs.Laws.Keys.{mark_k}
use Rattle.nearest.specs.Laws.Under.{clash}
use Rattle.nearest.specs.Laws.Shape.{o_at, o_lt, Shape, row_at, row-slots, now_shape}
use Rattle.nearest.specs.Laws.Rule.{k_base, top_ok, mid-lt, toward_mid}
use Rattle.members.specs.Laws.Sizes.{Target}

-- ---- a finite target times 0.0 is a zero
fits_zero : (s : Bool) → T (fits binary64 (fin s 0 (pos 0)))
unfolding fits
fits_zero true = tt
fits_zero false = tt

times_zero : (t : Float) → T (fits binary64 t) → T (finite t) → (s : Bool) × (mul binary64 t zero64 ≡ fin s 0 (pos 0))
times_zero t f i =
    let s = unlike (is_minus t) false in
    let q = mul-fraction t zero64 f zero-fits i tt in
    let x = round-exactly s q.num q.den 0 0 q.den_pos (lit≤ tt) (lit≤ tt) (none q.num q.den q.same ∙ sym (zero-mul q.den)) in (
      s,
      q.is ∙ same_units (round binary64 s q.num q.den) (fin s 0 (pos 0)) x.fit (fits_zero s) x.fin tt x.sign
          (x.mag ∙ sym (no_digits s (pos 0))),
    )
  where
    nil : (a : ℕ) → a ≤ 0 → a ≡ 0
    nil a h = omega arith

    none : (n d : ℕ) → n * U * U ≡ mag_units t * mag_units zero64 * d → n * U ≡ 0
    none n d e =
        nil (n * U)
        (le_of_mul-le-mul_right
        (le_of_eq (e ∙ ap (λ (z : ℕ). mag_units t * z * d) zero_mag ∙ ap (λ (z : ℕ). z * d) (mul-zero (mag_units t)) ∙ zero-mul d
        ∙ sym (zero-mul U))) (pow_pos 1074))

-- ---- the record of a coordinate, by the sign of that zero and the offset
abbrev z_f : Bool → ℕ → Float
z_f s o = div binary64 (sub binary64 (fin s 0 (pos 0)) (of_int binary64 (pos o))) four64

abbrev k_f : Bool → ℕ → ℤ
k_f s o = rounded (z_f s o)

abbrev dir_f : Bool → ℕ → ℤ
dir_f s o = cond (lt (of_int binary64 (k_f s o)) (clamped (z_f s o))) (pos 1) (negsuc 0)

abbrev reg_f : Bool → ℕ → Float
reg_f s o = abs_of (sub binary64 (clamped (z_f s o)) (of_int binary64 (k_f s o)))

pub record AtZero (o : ℕ) (x : Coord) : Type 0 where
  pub s : Bool
  pub k_is : x.k0 ≡ k_f s o
  pub dir_is : x.dir ≡ dir_f s o
  pub reg_is : x.regret ≡ reg_f s o

at_zero : (t : Float) → T (fits binary64 t) → T (finite t) → (o : ℕ) → AtZero o (coord_of t zero64 o)
unfolding coord_of
at_zero t f i o =
    let z = times_zero t f i in
    record {
      s = z.0;
      k_is = ap (λ (x : Float). rounded (div binary64 (sub binary64 x (of_int binary64 (pos o))) four64)) z.1;
      dir_is =
          ap
          (λ (x : Float).
          cond
          (lt (of_int binary64 (rounded (div binary64 (sub binary64 x (of_int binary64 (pos o))) four64)))
          (clamped (div binary64 (sub binary64 x (of_int binary64 (pos o))) four64))) (pos 1) (negsuc 0)) z.1;
      reg_is =
          ap
          (λ (x : Float).
          abs_of
          (sub binary64 (clamped (div binary64 (sub binary64 x (of_int binary64 (pos o))) four64))
          (of_int binary64 (rounded (div binary64 (sub binary64 x (of_int binary64 (pos o))) four64))))) z.1;
    }

-- the rank at the rounding, and a step toward the target
abbrev m2 : Bool → ℕ → ℕ
m2 s o = mark_k o (slot_k (k_f s o) 2)

abbrev mt : Bool → ℕ → ℕ
mt s o = mark_k o (slot_k (k_f s o) (toward_of (dir_f s o)))

marks : Bool → ℕ → Bool
marks s o = leb (m2 s o) 1 && ((eqb o 2 || eqb (m2 s o) 0) && (leb (mt s o) 2 && (eqb o 0 || leb (mt s o) 1)))

all-marks : (s : Bool) → T (upto 4 (marks s))
unfolding marks mark_of rank_of rounded clamped round_away half_up mag_units span climb size odd units round neg sum add sub div lt of_int
all-marks false = tt
all-marks true = tt

pub record Marks (s : Bool) (o : ℕ) : Type 0 where
  pub two-le : m2 s o ≤ 1
  pub two_none : o ≢ 2 → m2 s o ≡ 0
  pub to_le : mt s o ≤ 2
  pub to_one : o ≢ 0 → mt s o ≤ 1

marks-at : (s : Bool) (o : ℕ) → o < 4 → Marks s o
unfolding marks
marks-at s o h =
    let q = split4 (leb (m2 s o) 1) (eqb o 2 || eqb (m2 s o) 0) (leb (mt s o) 2) (eqb o 0 || leb (mt s o) 1) (below 4 (marks s) (all-marks s) o h) in
    record {
      two-le = leb→le (m2 s o) 1 q.0;
      two_none = λ d. eqb→eq (m2 s o) 0 (or_else (eqb o 2) (eqb (m2 s o) 0) q.1 (λ t. d (eqb→eq o 2 t)));
      to_le = leb→le (mt s o) 2 q.2;
      to_one = λ d. leb→le (mt s o) 1 (or_else (eqb o 0) (leb (mt s o) 1) q.3 (λ t. d (eqb→eq o 0 t)));
    }

-- the regrets of the offsets 0 and 2: that of 2 is the greater
order : Bool → Bool → Bool
order s r = lt (reg_f s 0) (reg_f r 2) && (not (lt (reg_f s 0) (reg_f r 0)) && not (lt (reg_f s 2) (reg_f r 0)))

all-order : (s r : Bool) → T (order s r)
unfolding order abs_of rounded clamped round_away half_up mag_units span climb size odd units round neg sum add sub div lt of_int
all-order false false = tt
all-order false true = tt
all-order true false = tt
all-order true true = tt

order-at : (s r : Bool) → (lt (reg_f s 0) (reg_f r 2) ≡ true) × (lt (reg_f s 0) (reg_f r 0) ≡ false) × (lt (reg_f s 2) (reg_f r 0) ≡ false)
unfolding order
order-at s r =
    let q = split3 (lt (reg_f s 0) (reg_f r 2)) (not (lt (reg_f s 0) (reg_f r 0))) (not (lt (reg_f s 2) (reg_f r 0))) (all-order s r) in
    (is_true _ q.0, is_false _ q.1, is_false _ q.2)

-- ---- ranks of at most 1 are within the middle's bound, and so is what costs less
square_le : (r m : ℕ) → 2 * r + 1 ≤ m → sq r ≤ m * m
square_le r m h = mul-le-mul h h

lex_le_lem : (a b c d e f g h : ℕ) → a ≤ 1 → b ≤ 1 → c ≤ 1 → d ≤ 1 → e ≤ 1 → f ≤ 1 → g ≤ 1 → h ≤ 1
    → ((((((((0 + a) * 16 + b) * 16 + c) * 16 + d) * 16 + e) * 16 + f) * 16 + g) * 16 + h) ≤ 0x30001010
lex_le_lem a b c d e f g h i j k l m n o p = omega arith

low_holds : (cost key : ℕ) → cost < 72 → holds tables.mixed cost key ≡ true
unfolding lex_num
low_holds cost key h = is_true (holds tables.mixed cost key) (or_left (ltb cost 72) (eqb cost 72 && leb (lex_of key) 0x30001010) (lt→ltb cost 72 h))

cut_holds : (cost key : ℕ) → cost ≤ 72 → lex_of key ≤ 0x30001010 → holds tables.mixed cost key ≡ true
unfolding lex_num
cut_holds cost key h k = go (ℕ_discrete cost 72)
  where
    less : cost ≤ 72 → cost ≢ 72 → cost < 72
    less h d = omega arith

    go : Dec (cost ≡ 72) → holds tables.mixed cost key ≡ true
    go (yes q) =
        is_true (holds tables.mixed cost key)
        (or_right (ltb cost 72) (eqb cost 72 && leb (lex_of key) 0x30001010)
        (and_in (eqb cost 72) (leb (lex_of key) 0x30001010) (eq→eqb cost 72 q) (le→leb (lex_of key) 0x30001010 k)))
    go (no d) = low_holds cost key (less h d)

module _ (p c : ℕ) (k : ℕ → ℤ) (cost key : ℕ) (C : Shape p c k cost key) where
  abbrev mark : ℕ → ℕ
  mark j = mark_k (o_at p c j) (k j)

  abbrev weights : ℕ → ℕ
  weights j = sq (mark_k (o_at p c j) (k j))

  ones_hold : ((j : ℕ) → j < 8 → mark j ≤ 1) → holds tables.mixed cost key ≡ true
  unfolding sum_to lex_of lex_num
  ones_hold h =
      cut_holds cost key (le_trans (le_of_eq C.cost_is) (sum-le weights (λ j. 0) 9 8 (λ j l. square_le (mark j) 3 (three (mark j) (h j l)))))
      (lex_le_lem _ _ _ _ _ _ _ _ (digit 0 (lit≤ tt)) (digit 1 (lit≤ tt)) (digit 2 (lit≤ tt)) (digit 3 (lit≤ tt)) (digit 4 (lit≤ tt))
      (digit 5 (lit≤ tt)) (digit 6 (lit≤ tt)) (digit 7 (lit≤ tt)))
    where
      three : (r : ℕ) → r ≤ 1 → 2 * r + 1 ≤ 3
      three r h = omega arith

      digit : (j : ℕ) → j < 8 → get_or (unpack 8 key) j 0 ≤ 1
      digit j l = le_trans (le_of_eq (unpack-at 8 key j l ∙ C.key_is j l)) (h j l)

  one_holds : (i : ℕ) → i < 8 → mark i ≤ 2 → ((j : ℕ) → j < 8 → j ≢ i → mark j ≡ 0) → holds tables.mixed cost key ≡ true
  unfolding sum_to
  one_holds i I0 h z =
      low_holds cost key (go cost (sum_to weights 8) (weights i) C.cost_is
      (sum_set weights (λ j. 1) i 8 I0 (λ j l d. ap sq (z j l d))) (square_le (mark i) 5 (five (mark i) h)))
    where
      five : (r : ℕ) → r ≤ 2 → 2 * r + 1 ≤ 5
      five r h = omega arith

      go : (c s w : ℕ) → c ≡ s → s + 1 ≡ 8 + w → w ≤ 25 → c < 72
      go c s w a b d = omega arith

-- ---- a row at the shrink 0
shrink_zero : get_or shrinks 7 nan ≡ zero64
unfolding shrinks
shrink_zero = refl

even_case : (c j : ℕ) → (o_at 0 c j ≡ 0) ⊎ (o_at 0 c j ≡ 2)
even_case c j = go (c / 2 ^ j % 2) (mod-lt (c / 2 ^ j) (zero-lt-suc 1))
  where
    go : (b : ℕ) → b < 2 → (0 + 2 * b ≡ 0) ⊎ (0 + 2 * b ≡ 2)
    go zero h = inl refl
    go (suc zero) h = inr refl
    go (suc (suc b)) h = absurd (omega arith)

odd-apart : (c j : ℕ) → (o_at 1 c j ≢ 0) × (o_at 1 c j ≢ 2)
odd-apart c j = let a = mod-lt (c / 2 ^ j) (zero-lt-suc 1) in (omega arith, omega arith)

module _ (ts : List Float) (p c : ℕ) (P0 : p < 2) (T0 : (j : ℕ) → j < 8 → Target (get_or ts j nan)) where
  abbrev e : List Coord
  e = row ts p c 7

  abbrev o : ℕ → ℕ
  o j = o_at p c j

  at : (j : ℕ) → j < 8 → AtZero (o j) (coord_at e j)
  at j h = subst (AtZero (o j)) (sym (row_at ts p c 7 j h ∙ ap (λ (x : Float). coord_of (get_or ts j nan) x (o j)) shrink_zero))
      (at_zero (get_or ts j nan) (T0 j h).fit (T0 j h).fin (o j))

  is_m2 : (j : ℕ) (h : j < 8) → mark_k (o j) (slot_k (coord_at e j).k0 2) ≡ m2 (at j h).s (o j)
  is_m2 j h = ap (λ (k : ℤ). mark_k (o j) (slot_k k 2)) (at j h).k_is

  is_mt : (j : ℕ) (h : j < 8) → mark_k (o j) (slot_k (coord_at e j).k0 (toward_of (coord_at e j).dir)) ≡ mt (at j h).s (o j)
  is_mt j h = ap (λ (k : ℤ). mark_k (o j) (slot_k k (toward_of (coord_at e j).dir))) (at j h).k_is
      ∙ ap (λ (d : ℤ). mark_k (o j) (slot_k (k_f (at j h).s (o j)) (toward_of d))) (at j h).dir_is

  two-le : (j : ℕ) → j < 8 → mark_k (o j) (slot_k (coord_at e j).k0 2) ≤ 1
  two-le j h = le_trans (le_of_eq (is_m2 j h)) (marks-at (at j h).s (o j) (o_lt p c j P0)).two-le

  two_none : (j : ℕ) → j < 8 → o j ≢ 2 → mark_k (o j) (slot_k (coord_at e j).k0 2) ≡ 0
  two_none j h d = is_m2 j h ∙ (marks-at (at j h).s (o j) (o_lt p c j P0)).two_none d

  to_le : (j : ℕ) → j < 8 → mark_k (o j) (slot_k (coord_at e j).k0 (toward_of (coord_at e j).dir)) ≤ 2
  to_le j h = le_trans (le_of_eq (is_mt j h)) (marks-at (at j h).s (o j) (o_lt p c j P0)).to_le

  to_one : (j : ℕ) → j < 8 → o j ≢ 0 → mark_k (o j) (slot_k (coord_at e j).k0 (toward_of (coord_at e j).dir)) ≤ 1
  to_one j h d = le_trans (le_of_eq (is_mt j h)) ((marks-at (at j h).s (o j) (o_lt p c j P0)).to_one d)

  -- ---- regrets: none is less than that of the offset 0, and that of 2 is greater
  reg_at : (j q : ℕ) (h : j < 8) → o j ≡ q → (coord_at e j).regret ≡ reg_f (at j h).s q
  reg_at j q h z = (at j h).reg_is ∙ ap (reg_f (at j h).s) z

  grows : (a b : ℕ) → a < 8 → b < 8 → o a ≡ 0 → o b ≡ 2 → lt (coord_at e a).regret (coord_at e b).regret ≡ true
  grows a b h k x y = ap₂ lt (reg_at a 0 h x) (reg_at b 2 k y) ∙ (order-at (at a h).s (at b k).s).0

  least : (a b : ℕ) → a < 8 → b < 8 → (o a ≡ 0) ⊎ (o a ≡ 2) → o b ≡ 0 → lt (coord_at e a).regret (coord_at e b).regret ≡ false
  least a b h k (inl x) y = ap₂ lt (reg_at a 0 h x) (reg_at b 0 k y) ∙ (order-at (at a h).s (at b k).s).1
  least a b h k (inr x) y = ap₂ lt (reg_at a 2 h x) (reg_at b 0 k y) ∙ (order-at (at a h).s (at b k).s).2

  -- where the largest regret is that of the offset 0, every offset is 0
  module _ (E : (j : ℕ) → (o j ≡ 0) ⊎ (o j ≡ 2)) where
    older : (a b : ℕ) → a < 8 → b < 8 → lt (coord_at e a).regret (coord_at e b).regret ≡ false → o a ≡ 0 → o b ≡ 0
    older a b h k q x = go (E b)
      where
        go : (o b ≡ 0) ⊎ (o b ≡ 2) → o b ≡ 0
        go (inl y) = y
        go (inr y) = absurd (clash (grows a b h k x y) q)

    abbrev AllZero : Top → ℕ → Type 0
    AllZero t n = o t.j0 ≡ 0 → (j : ℕ) → j < n → o j ≡ 0

    top_zero : (n : ℕ) → n ≤ 6 → AllZero (top_to e n) (n + 2)
    unfolding top_to
    top_zero zero h = go (lt (coord_at e 0).regret (coord_at e 1).regret) refl
      where
        two : (j : ℕ) → j < 0 + 2 → o 0 ≡ 0 → o 1 ≡ 0 → o j ≡ 0
        two zero l x y = x
        two (suc zero) l x y = y
        two (suc (suc j)) l x y = absurd (omega arith)

        go : (b : Bool) → lt (coord_at e 0).regret (coord_at e 1).regret ≡ b
            → AllZero (cond b (record { j0 = 1; j1 = 0 }) (record { j0 = 0; j1 = 1 })) (0 + 2)
        go true q x j l = absurd (clash q (least 0 1 (lit≤ tt) (lit≤ tt) (E 0) x))
        go false q x j l = two j l x (older 0 1 (lit≤ tt) (lit≤ tt) q x)
    top_zero (suc n) h = go (top_zero n (omega arith)) (lt (coord_at e a).regret (coord_at e (n + 2)).regret) refl
        (lt (coord_at e (top_to e n).j1).regret (coord_at e (n + 2)).regret)
      where
        a : ℕ
        a = (top_to e n).j0

        n8 : n + 2 < 8
        n8 = omega arith

        a8 : (top_to e n).j0 < 8
        a8 = let t = (top_ok e n).0 in omega arith

        more : AllZero (top_to e n) (n + 2) → o (top_to e n).j0 ≡ 0 → o (n + 2) ≡ 0 → (j : ℕ) → j < suc n + 2 → o j ≡ 0
        more r x y j l = at' (ℕ_discrete j (n + 2))
          where
            low : j < suc n + 2 → j ≢ n + 2 → j < n + 2
            low l d = omega arith

            at' : Dec (j ≡ n + 2) → o j ≡ 0
            at' (yes q) = ap o q ∙ y
            at' (no d) = r x j (low l d)

        go : AllZero (top_to e n) (n + 2) → (b : Bool) → lt (coord_at e (top_to e n).j0).regret (coord_at e (n + 2)).regret ≡ b → (d : Bool)
            → AllZero (cond b (record { j0 = n + 2; j1 = (top_to e n).j0 }) (cond d (record { j0 = (top_to e n).j0; j1 = n + 2 }) (top_to e n)))
            (suc n + 2)
        go r true q d x = absurd (clash q (least (top_to e n).j0 (n + 2) a8 n8 (E (top_to e n).j0) x))
        go r false q true x = more r x (older (top_to e n).j0 (n + 2) a8 n8 q x)
        go r false q false x = more r x (older (top_to e n).j0 (n + 2) a8 n8 q x)

  -- ---- the base of either class is within the middle's bound
  abbrev j0 : ℕ
  j0 = (top_to e 6).j0

  abbrev to : ℕ
  to = toward_of (coord_at e j0).dir

  J0 : j0 < 8
  J0 = (top_ok e 6).0

  plain-le : (j : ℕ) → j < 8 → mark_k (o j) (k_base e j0 2 j) ≤ 1
  plain-le j h = go (eqb j j0)
    where
      go : (b : Bool) → mark_k (o j) (slot_k (coord_at e j).k0 (cond b 2 2)) ≤ 1
      go true = two-le j h
      go false = two-le j h

  stepped-le : o j0 ≢ 0 → (j : ℕ) → j < 8 → mark_k (o j) (k_base e j0 to j) ≤ 1
  stepped-le d j h = go (eqb j j0) (eqb→eq j j0)
    where
      go : (b : Bool) → (T b → j ≡ j0) → mark_k (o j) (slot_k (coord_at e j).k0 (cond b to 2)) ≤ 1
      go true q = subst (λ (z : ℕ). mark_k (o z) (slot_k (coord_at e z).k0 to) ≤ 1) (sym (q tt)) (to_one j0 J0 d)
      go false q = two-le j h

  abbrev Held : ℕ → Type 0
  Held fix = holds tables.mixed (now_to e j0 fix 8).cost (now_to e j0 fix 8).key ≡ true

  t5 : to < 5
  t5 = mid-lt (toward_mid (coord_at e j0).dir)

  stepped-shape : Shape p c (k_base e j0 to) (now_to e j0 to 8).cost (now_to e j0 to 8).key
  stepped-shape = now_shape p c e (row-slots ts p c 7) j0 to t5

  zero_case : ((j : ℕ) → (o j ≡ 0) ⊎ (o j ≡ 2)) → (o j0 ≡ 0) ⊎ (o j0 ≡ 2) → Held to
  zero_case E (inr x) = ones_hold p c (k_base e j0 to) (now_to e j0 to 8).cost (now_to e j0 to 8).key stepped-shape (stepped-le (differ (o j0) x))
    where
      differ : (a : ℕ) → a ≡ 2 → a ≢ 0
      differ a q z = omega arith
  zero_case E (inl x) =
      one_holds p c (k_base e j0 to) (now_to e j0 to 8).cost (now_to e j0 to 8).key stepped-shape j0 J0
      (subst (λ (b : Bool). mark_k (o j0) (slot_k (coord_at e j0).k0 (cond b to 2)) ≤ 2) (sym (eq-eqb j0 j0 refl)) (to_le j0 J0))
      (λ j h d. ap (λ (b : Bool). mark_k (o j) (slot_k (coord_at e j).k0 (cond b to 2))) (ne_eqb j j0 d)
      ∙ two_none j h (differ (o j) (top_zero E 6 (le_refl 6) x j h)))
    where
      differ : (a : ℕ) → a ≡ 0 → a ≢ 2
      differ a q z = omega arith

  stepped-held : Held to
  stepped-held = go (parity p P0)
    where
      parity : (p : ℕ) → p < 2 → (p ≡ 0) ⊎ (p ≡ 1)
      parity zero h = inl refl
      parity (suc zero) h = inr refl
      parity (suc (suc p)) h = absurd (omega arith)

      go : (p ≡ 0) ⊎ (p ≡ 1) → Held to
      go (inl q) =
          let E : (j : ℕ) → (o j ≡ 0) ⊎ (o j ≡ 2) = λ j. subst (λ (z : ℕ). (o_at z c j ≡ 0) ⊎ (o_at z c j ≡ 2)) (sym q) (even_case c j) in
          zero_case E (E j0)
      go (inr q) =
          ones_hold p c (k_base e j0 to) (now_to e j0 to 8).cost (now_to e j0 to 8).key stepped-shape
          (stepped-le (subst (λ (z : ℕ). o_at z c j0 ≢ 0) (sym q) (odd-apart c j0).0))

  pub zero_held : (want : ℕ) → Held (fix_of e want j0)
  zero_held want = go (eqb (par_to e 8) want)
    where
      go : (b : Bool) → Held (cond b 2 to)
      go true = ones_hold p c (k_base e j0 2) (now_to e j0 2 8).cost (now_to e j0 2 8).key
          (now_shape p c e (row-slots ts p c 7) j0 2 (lit≤ tt)) plain-le
      go false = stepped-held
