-- What the listing is: 14,674 rows (`count`), each the packing of eight ranks of cost below 128 (`each`), every such vector among them
-- (`complete`), in lexicographic order, coordinate 0 most significant (`ordered`), and so each once (`once`). Assumes nothing.
use Rattle.std.specs.Prelude.{◌≡◌, refl, Bool, ◌&&◌, ℕ, suc, ◌+◌, ◌*◌, ◌-◌, ◌^◌, ◌<◌, T, ltb, eqb, length, get_or}
use Rattle.std.proofs.Common.{sym, subst, suc-le-suc, zero-lt-suc, arith, ltb→lt, eqb→eq}
use mathlib.Core.List.Memᴰ
use mathlib.Core.List.{List, [], ◌∷◌, Memᴰ}
use Rattle.laws.specs.Laws.Tests.{and_left, and_right}
use Rattle.laws.specs.Laws.Tables.{every, at, chain, chain_at}
use Rattle.laws.specs.Words.{lex_lt}
use Rattle.laws.specs.Laws.Order.{pick3_same}
use Rattle.rank.specs.Vector.{cost, pack, unpack, ranks_below}
use Rattle.rank.specs.Laws.Vector.{lex_lt-trans}
use Rattle.listing.specs.Listing.{grow, under, listing}
use Rattle.listing.specs.Laws.Growth.{reach}

-- ---- no rank vector stands before itself
lex_lt-irrefl : (v : List ℕ) → T (lex_lt v v) → ⊥
lex_lt-irrefl [] t = t
lex_lt-irrefl (x ∷ v) t = lex_lt-irrefl v (subst T (pick3_same x x (lex_lt v v) refl) t)

-- ---- a member of a list stands at some place of it
place_of : (A : Type 0) (d x : A) (l : List A) → Memᴰ x l → (i : ℕ) × (i < length l) × (get_or l i d ≡ x)
place_of A d x [] m = absurd (Memᴰ.not-nil m)
place_of A d x (y ∷ l) (Memᴰ.head e) = (0, zero-lt-suc (length l), sym e)
place_of A d x (y ∷ l) (Memᴰ.tail m) = let p = place_of A d x l m in (suc p.0, suc-le-suc p.1, p.2)

-- ---- how many
pub count : length listing ≡ 14674
unfolding listing under grow
count = refl

-- ---- each row
-- the row w packs the eight ranks v, none above 4, of cost below 128
pub record Packs (w : ℕ) (v : List ℕ) : Type 0 where
  pub row : w ≡ pack v
  pub eight : length v ≡ 8
  pub small : T (ranks_below 5 v)
  pub cheap : cost v < 128

-- the ranks that row i packs
unfoldable pub ranks : ℕ → List ℕ
ranks i = unpack 8 (get_or listing i 0)

-- the test of a row w and its ranks v, and what it says
holds : ℕ → List ℕ → Bool
holds w v = eqb (pack v) w && (ranks_below 5 v && ltb (cost v) 128)

held : (w : ℕ) (v : List ℕ) → length v ≡ 8 → T (holds w v) → Packs w v
unfolding holds
held w v e t =
    let p = eqb (pack v) w in
    let q = ranks_below 5 v in
    let r = ltb (cost v) 128 in
    let u = and_right p (q && r) t in
    record {
      row = sym (eqb→eq (pack v) w (and_left p (q && r) t));
      eight = e;
      small = and_left q r u;
      cheap = ltb→lt (cost v) 128 (and_right q r u);
    }

rule : ℕ → ℕ → Bool
rule i w = holds w (unpack 8 w)

all_hold : T (every rule 0 listing)
unfolding rule holds ranks_below listing under grow
all_hold = tt

pub each : (i : ℕ) → i < 14674 → Packs (get_or listing i 0) (ranks i)
unfolding ranks rule
each i h = held (get_or listing i 0) (ranks i) refl (at rule listing all_hold i (omega (arith, count)))

-- ---- the order
comes_before : ℕ → ℕ → Bool
comes_before w x = lex_lt (unpack 8 w) (unpack 8 x)

all_in-order : T (chain comes_before listing)
unfolding comes_before listing under grow
all_in-order = tt

pub ordered : (i j : ℕ) → i < j → j < 14674 → T (lex_lt (ranks i) (ranks j))
unfolding ranks comes_before
ordered i j h k =
    chain_at comes_before (λ w x y. lex_lt-trans (unpack 8 w) (unpack 8 x) (unpack 8 y)) listing all_in-order i j h (omega (arith, count))

pub once : (i j : ℕ) → i < 14674 → j < 14674 → get_or listing i 0 ≡ get_or listing j 0 → i ≡ j
unfolding ranks
once i j h k e =
    let a : i < j → ⊥ = λ p. lex_lt-irrefl (ranks i) (rw (← e) at (ordered i j p k)) in
    let b : j < i → ⊥ = λ p. lex_lt-irrefl (ranks i) (rw (← e) at (ordered j i p h)) in
    omega arith

-- ---- every vector is listed
pub complete : (v : List ℕ) → length v ≡ 8 → cost v < 128 → (i : ℕ) × (i < 14674) × (get_or listing i 0 ≡ pack v)
unfolding listing
complete v e h =
    let m = rw e at (reach v 0 0 (omega arith) (omega arith)) in
    let same : pack v ≡ 0 + pack v * 2 ^ (4 * (8 - 8)) = omega arith in
    let p = place_of ℕ 0 (pack v) (under 8 0 0) (Memᴰ.cast same m) in
    (p.0, omega (arith, p.1, count), p.2)
