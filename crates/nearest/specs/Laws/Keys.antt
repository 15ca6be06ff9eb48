-- Packed rows rank by rank, and ranks against whole numbers: small computed tests, lifted.
use Rattle.std.specs.Prelude.{◌≡◌, refl, ◌≢◌, Bool, true, false, cond, ℕ, zero, suc, ◌+◌, ◌-◌, ◌*◌, ◌/◌, ◌%◌, ◌^◌, ◌≤◌, ◌<◌, T, ltb, eqb, ℤ, pos, negsuc}
use Rattle.std.proofs.Common.{sym, ap, ap₂, ◌∙◌, mod-lt, zero-lt-suc, arith, ltb→lt, lt→ltb, eqb→eq, pow-add}
use Rattle.std.proofs.Math.Nat.{div-div-eq-div-mul}
use Rattle.std.specs.Int.Bits.{bit_and, bit_or, or_zero_l, or_zero_r, and_zero_r}
use Rattle.std.proofs.lemmas.Nat.{or_shr, or_mod, and_shr, and_mod}
use Rattle.std.proofs.Math.IntN.{ℤ_discrete}
use Rattle.laws.specs.Laws.Tests.{upto, below, below2, is_true}
use Rattle.laws.specs.Words.{mod_z, div_z, pos_part, neg_part}
use Rattle.laws.specs.Laws.Whole.{mod4-lt}
use Rattle.rank.specs.Coord.{rank_of, val_of}
use Rattle.rank.specs.Laws.Coord.{member_of, val_rank}
use Rattle.rank.specs.Answers.{mark_of, reach, no_rank}
use Rattle.rank.specs.Laws.Lookup.{mark-lt}
use Rattle.search.specs.Entries.{rank_at}
use Rattle.search.specs.Record.{member}
use Rattle.search.specs.Base.{key_set}
use Rattle.search.specs.Solve.{key_moved}
use Rattle.nearest.specs.Laws.Ints.{member-parts, apart_parts}

-- ---- the ranks of a packed row
pub nib-lt : (a j : ℕ) → rank_at a j < 16
nib-lt a j = mod-lt (a / 2 ^ (4 * j)) (zero-lt-suc 15)

nib-or : (a b j : ℕ) → rank_at (bit_or a b) j ≡ bit_or (rank_at a j) (rank_at b j)
nib-or a b j = ap (λ (z : ℕ). z % 16) (or_shr a b (4 * j)) ∙ or_mod (a / 2 ^ (4 * j)) (b / 2 ^ (4 * j)) 4

nib-and : (a b j : ℕ) → rank_at (bit_and a b) j ≡ bit_and (rank_at a j) (rank_at b j)
nib-and a b j = ap (λ (z : ℕ). z % 16) (and_shr a b (4 * j)) ∙ and_mod (a / 2 ^ (4 * j)) (b / 2 ^ (4 * j)) 4

placed : ℕ → ℕ → ℕ → Bool
placed x j i = eqb (rank_at (x * 2 ^ (4 * j) % 2 ^ 32) i) (cond (eqb i j) x 0)

all_placed : T (upto 16 (λ x. upto 8 (λ j. upto 8 (λ i. placed x j i))))
unfolding placed
all_placed = tt

nib_placed : (x j i : ℕ) → x < 16 → j < 8 → i < 8 → rank_at (x * 2 ^ (4 * j) % 2 ^ 32) i ≡ cond (eqb i j) x 0
unfolding placed
nib_placed x j i a b c = eqb→eq _ _ (below 8 (placed x j) (below2 16 8 (λ x j. upto 8 (placed x j)) all_placed x j a b) i c)

-- all ones but for the rank j, and but for the ranks j and k
abbrev mask_of : ℕ → ℕ
mask_of j = (2 ^ 32 - 1) - 15 * 2 ^ (4 * j) % 2 ^ 32

abbrev mask_of2 : ℕ → ℕ → ℕ
mask_of2 j k = (2 ^ 32 - 1) - bit_or (15 * 2 ^ (4 * j) % 2 ^ 32) (15 * 2 ^ (4 * k) % 2 ^ 32)

masked : ℕ → ℕ → Bool
masked j i = eqb (rank_at (mask_of j) i) (cond (eqb i j) 0 15)

all_masked : T (upto 8 (λ j. upto 8 (λ i. masked j i)))
unfolding masked
all_masked = tt

nib_masked : (j i : ℕ) → j < 8 → i < 8 → rank_at (mask_of j) i ≡ cond (eqb i j) 0 15
unfolding masked
nib_masked j i a b = eqb→eq _ _ (below2 8 8 masked all_masked j i a b)

masked2 : ℕ → ℕ → ℕ → Bool
masked2 j k i = eqb (rank_at (mask_of2 j k) i) (cond (eqb i j) 0 (cond (eqb i k) 0 15))

all_masked2 : T (upto 8 (λ j. upto 8 (λ k. upto 8 (λ i. masked2 j k i))))
unfolding masked2
all_masked2 = tt

nib_masked2 : (j k i : ℕ) → j < 8 → k < 8 → i < 8 → rank_at (mask_of2 j k) i ≡ cond (eqb i j) 0 (cond (eqb i k) 0 15)
unfolding masked2
nib_masked2 j k i a b c = eqb→eq _ _ (below 8 (masked2 j k) (below2 8 8 (λ j k. upto 8 (masked2 j k)) all_masked2 j k a b) i c)

and15 : T (upto 16 (λ x. eqb (bit_and x 15) x))
and15 = tt

and_full : (x : ℕ) → x < 16 → bit_and x 15 ≡ x
and_full x h = eqb→eq _ _ (below 16 (λ x. eqb (bit_and x 15) x) and15 x h)

-- a rank put in where there was none
pub nib_put : (key x j i : ℕ) → x < 16 → j < 8 → i < 8 → (i ≡ j → rank_at key i ≡ 0)
    → rank_at (bit_or key (x * 2 ^ (4 * j) % 2 ^ 32)) i ≡ cond (eqb i j) x (rank_at key i)
nib_put key x j i a b c h =
    nib-or key (x * 2 ^ (4 * j) % 2 ^ 32) i ∙ ap (bit_or (rank_at key i)) (nib_placed x j i a b c) ∙ go (eqb i j) (eqb→eq i j)
  where
    go : (t : Bool) → (T t → i ≡ j) → bit_or (rank_at key i) (cond t x 0) ≡ cond t x (rank_at key i)
    go true k = ap (λ (z : ℕ). bit_or z x) (h (k tt)) ∙ or_zero_l x
    go false k = or_zero_r (rank_at key i)

pub nib_set : (key x j i : ℕ) → x < 16 → j < 8 → i < 8 → rank_at (key_set key j x) i ≡ cond (eqb i j) x (rank_at key i)
unfolding key_set
nib_set key x j i a b c =
    nib-or (bit_and key (mask_of j)) (x * 2 ^ (4 * j) % 2 ^ 32) i
    ∙ ap₂ bit_or (nib-and key (mask_of j) i ∙ ap (bit_and (rank_at key i)) (nib_masked j i b c)) (nib_placed x j i a b c)
    ∙ go (eqb i j)
  where
    go : (t : Bool) → bit_or (bit_and (rank_at key i) (cond t 0 15)) (cond t x 0) ≡ cond t x (rank_at key i)
    go true = ap (λ (z : ℕ). bit_or z x) (and_zero_r (rank_at key i)) ∙ or_zero_l x
    go false = or_zero_r (bit_and (rank_at key i) 15) ∙ and_full (rank_at key i) (nib-lt key i)

pub nib_moved : (key x j y k i : ℕ) → x < 16 → y < 16 → j < 8 → k < 8 → i < 8 → j ≢ k
    → rank_at (key_moved key j x k y) i ≡ cond (eqb i j) x (cond (eqb i k) y (rank_at key i))
unfolding key_moved
nib_moved key x j y k i a a' b b' c d =
    nib-or (bit_or (bit_and key (mask_of2 j k)) (x * 2 ^ (4 * j) % 2 ^ 32)) (y * 2 ^ (4 * k) % 2 ^ 32) i
    ∙ ap₂ bit_or
    (nib-or (bit_and key (mask_of2 j k)) (x * 2 ^ (4 * j) % 2 ^ 32) i
    ∙ ap₂ bit_or (nib-and key (mask_of2 j k) i ∙ ap (bit_and (rank_at key i)) (nib_masked2 j k i b b' c)) (nib_placed x j i a b c))
    (nib_placed y k i a' b' c)
    ∙ go (eqb i j) (eqb i k) (eqb→eq i j) (eqb→eq i k)
  where
    go : (t s : Bool) → (T t → i ≡ j) → (T s → i ≡ k)
        → bit_or (bit_or (bit_and (rank_at key i) (cond t 0 (cond s 0 15))) (cond t x 0)) (cond s y 0) ≡ cond t x (cond s y (rank_at key i))
    go true true p q = absurd (d (sym (p tt) ∙ q tt))
    go true false p q = or_zero_r (bit_or (bit_and (rank_at key i) 0) x) ∙ ap (λ (z : ℕ). bit_or z x) (and_zero_r (rank_at key i)) ∙ or_zero_l x
    go false true p q = ap (λ (z : ℕ). bit_or (bit_or z 0) y) (and_zero_r (rank_at key i)) ∙ or_zero_l y
    go false false p q =
        or_zero_r (bit_or (bit_and (rank_at key i) 15) 0) ∙ or_zero_r (bit_and (rank_at key i) 15) ∙ and_full (rank_at key i) (nib-lt key i)

-- ---- o + 4 k fixes o and k
same_parts : (a b : ℤ) → pos_part a + neg_part b ≡ pos_part b + neg_part a → a ≡ b
same_parts a b e = decide (ℤ_discrete a b)
  where
    decide : Dec (a ≡ b) → a ≡ b
    decide (yes q) = q
    decide (no d) = absurd (apart_parts a b d e)

pub member_one : (o o' : ℕ) (k k' : ℤ) → o < 4 → o' < 4 → member o k ≡ member o' k' → (o ≡ o') × (k ≡ k')
member_one o o' k k' h h' e =
    let a = member-parts o k in
    let b = member-parts o' k' in
    let x =
    go o o' (pos_part k) (neg_part k) (pos_part k') (neg_part k') (pos_part (member o k)) (neg_part (member o k)) (pos_part (member o' k'))
    (neg_part (member o' k')) h h' (ap pos_part e) (ap neg_part e) a b in
    (x.0, same_parts k k' x.1)
  where
    go : (o o' p n p' n' x y x' y' : ℕ) → o < 4 → o' < 4 → x ≡ x' → y ≡ y' → x + 4 * n ≡ o + 4 * p + y → x' + 4 * n' ≡ o' + 4 * p' + y'
        → (o ≡ o') × (p + n' ≡ p' + n)
    go o o' p n p' n' x y x' y' h h' e f a b = (omega arith, omega arith)

-- every whole number is the member of its remainder and its quotient
pub member_self : (y : ℤ) → y ≡ member (mod_z y 4) (div_z y 4)
member_self (pos n) = ap pos (whole n)
  where
    whole : (n : ℕ) → n ≡ n % 4 + 4 * (n / 4)
    whole n = omega arith
member_self (negsuc n) =
    same_parts (negsuc n) (member (mod_z (negsuc n) 4) (div_z (negsuc n) 4))
    (go n (pos_part (member (mod_z (negsuc n) 4) (div_z (negsuc n) 4))) (neg_part (member (mod_z (negsuc n) 4) (div_z (negsuc n) 4)))
    (member-parts (mod_z (negsuc n) 4) (div_z (negsuc n) 4)))
  where
    go : (n p m : ℕ) → p + 4 * suc (n / 4) ≡ 4 - 1 - n % 4 + 4 * 0 + m → 0 + m ≡ p + suc n
    go n p m h = omega arith

-- and o + 4 k leaves o, its quotient is k
pub member_is : (o : ℕ) (k : ℤ) → o < 4 → (o ≡ mod_z (member o k) 4) × (k ≡ div_z (member o k) 4)
member_is o k h = member_one o (mod_z (member o k) 4) k (div_z (member o k) 4) h (mod4-lt (member o k)) (member_self (member o k))

-- ---- ranks
-- the mark of o + 4 k: its rank, 15 for none
abbrev pub mark_k : ℕ → ℤ → ℕ
mark_k o k = mark_of (member o k)

pub rank_lt : (o : ℕ) (k : ℤ) → mark_k o k < 16
rank_lt o k = mark-lt (member o k)

-- the whole number k of the member of rank r
abbrev pub k_at : ℕ → ℕ → ℤ
k_at o r = div_z (val_of o r) 4

pub val_is : (o r : ℕ) → o < 4 → r < 8 → val_of o r ≡ member o (k_at o r)
val_is o r h l = member_self (val_of o r) ∙ ap (λ (z : ℕ). member z (k_at o r)) (member_of o r h l)

-- a mark of at most 4 is a rank
marked : (y : ℤ) → mark_of y ≤ 4 → (mark_of y ≡ rank_of y) × (rank_of y < 8)
unfolding mark_of
marked y = go (ltb (rank_of y) reach) (ltb→lt (rank_of y) reach)
  where
    go : (t : Bool) → (T t → rank_of y < reach) → cond t (rank_of y) no_rank ≤ 4 → (cond t (rank_of y) no_rank ≡ rank_of y) × (rank_of y < 8)
    go true a l = (refl, a tt)
    go false a l = absurd (omega arith)

-- a rank that a bound admits gives its member back
pub rank_back : (o : ℕ) (k : ℤ) → o < 4 → mark_k o k ≤ 4 → val_of o (mark_k o k) ≡ member o k
rank_back o k h l =
    let q = marked (member o k) l in
    ap₂ val_of (member_is o k h).0 q.0 ∙ val_rank (member o k) q.1

pub rank_forth : (o r : ℕ) → o < 4 → r ≤ 4 → mark_of (val_of o r) ≡ r
unfolding mark_of
rank_forth o r h l =
    ap (λ (z : ℕ). cond (ltb z reach) z no_rank) (Rattle.rank.specs.Laws.Coord.member o r h (omega arith)).rank
    ∙ ap (λ (t : Bool). cond t r no_rank) (is_true (ltb r reach) (lt→ltb r reach (omega arith)))

-- ---- packed rows of n ranks are the same if the ranks are
-- one rank more is four bits more
pub four_more : (n : ℕ) → 2 ^ (4 * suc n) ≡ 16 * 2 ^ (4 * n)
four_more n = let a : 4 * suc n ≡ 4 + 4 * n = omega arith in ap (λ (z : ℕ). 2 ^ z) a ∙ pow-add 2 4 (4 * n)

pub nib_ext : (n a b : ℕ) → a < 2 ^ (4 * n) → b < 2 ^ (4 * n) → ((j : ℕ) → j < n → rank_at a j ≡ rank_at b j) → a ≡ b
nib_ext zero a b h k e = omega arith
nib_ext (suc n) a b h k e =
    let q = four_more n in
    let x =
    nib_ext n (a / 16) (b / 16) (cut a (2 ^ (4 * n)) (2 ^ (4 * suc n)) q h) (cut b (2 ^ (4 * n)) (2 ^ (4 * suc n)) q k)
    (λ j l. next a j ∙ e (suc j) (over l) ∙ sym (next b j)) in
    join a b x (e 0 (zero-lt-suc n))
  where
    cut : (a x y : ℕ) → y ≡ 16 * x → a < y → a / 16 < x
    cut a x y q h = omega arith

    over : {j : ℕ} → j < n → suc j < suc n
    over l = omega arith

    next : (a j : ℕ) → rank_at (a / 16) j ≡ rank_at a (suc j)
    next a j = ap (λ (z : ℕ). z % 16) (div-div-eq-div-mul a 16 (2 ^ (4 * j)) ∙ ap (λ (z : ℕ). a / z) (sym (four_more j)))

    join : (a b : ℕ) → a / 16 ≡ b / 16 → a / 1 % 16 ≡ b / 1 % 16 → a ≡ b
    join a b h k = omega arith
