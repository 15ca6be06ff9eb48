-- Pieces put into a buffer: where there is room and where there is none, what tells, and one behind another. Assumes nothing.
use Rattle.std.specs.Prelude.{◌≡◌, Bool, List, [], ◌++◌, ℕ, zero, suc, ◌+◌, ◌-◌, ◌^◌, ◌<◌, ◌≤◌, take, drop, replicate}
use Rattle.std.proofs.Math.Path.{refl}
use Rattle.std.proofs.Common.{ap, sym, ◌∙◌, arith, zero-add, length-append}
use Rattle.std.proofs.Math.Bool.{true, false, cond}
use Rattle.std.proofs.Math.Nat.{sub-zero, zero-sub, suc-sub-suc}
use borrow.Author.Tests.{le-leb, lt-leb, leb-true, leb-false}
use Rattle.std.proofs.Math.Dec.{leb}
use Rattle.std.proofs.Math.ListN.{length}
use Rattle.std.proofs.lemmas.List.{length-replicate}
use Rattle.std.proofs.lemmas.List.Edits.{sets, sets-eq}
use Rattle.std.proofs.Math.Seq.{length-sets, take-append_seam}
use Rattle.laws.specs.Laws.Lists.{sets-append}
use Rattle.text.specs.Text.{bytes, line, decimal, hex}
use Rattle.text.specs.Placed.{placed, place_behind}
use Rattle.text.specs.Laws.Text.{decimal-fits, hex-length}

module _ (old : List ℕ) (at : ℕ) (piece : List ℕ) where
  -- ---- there is room
  pub placed-fits : at + length piece ≤ length old → placed old at piece ≡ sets old at piece
  unfolding placed
  placed-fits room = rw (le-leb (at + length piece) (length old) room)

  pub behind-fits : at + length piece ≤ length old → place_behind old at piece ≡ at + length piece
  unfolding place_behind
  behind-fits room = rw (le-leb (at + length piece) (length old) room)

  -- ---- there is none
  pub placed_past : length old < at + length piece → placed old at piece ≡ old
  unfolding placed
  placed_past past = rw (lt-leb (at + length piece) (length old) past)

  -- ---- the place tells whether there is
  pub place_tells : place_behind old at piece ≤ length old → at + length piece ≤ length old
  unfolding place_behind
  place_tells = go (leb (at + length piece) (length old)) refl
    where
      go : (b : Bool) → leb (at + length piece) (length old) ≡ b → cond b (at + length piece) (length old + 1) ≤ length old
          → at + length piece ≤ length old
      go true e h = leb-true (at + length piece) (length old) e
      go false e h = absurd (omega arith)

  pub place_past : length old < place_behind old at piece → length old < at + length piece
  unfolding place_behind
  place_past = go (leb (at + length piece) (length old)) refl
    where
      go : (b : Bool) → leb (at + length piece) (length old) ≡ b → length old < cond b (at + length piece) (length old + 1)
          → length old < at + length piece
      go true e h = h
      go false e h = leb-false (at + length piece) (length old) e

-- ---- a text written piece by piece into the buffer `old`, from `start` on
pub record Written (old : List ℕ) (start : ℕ) (array : List ℕ) (at : ℕ) (text : List ℕ) : Type 0 where
  pub place : at ≡ start + length text
  pub holds : array ≡ sets old start text

-- no piece yet
written_none : (old : List ℕ) (start : ℕ) → Written old start old start []
written_none old start = record { place = omega arith; holds = refl }

-- one more piece, for which there is room
written-more : {old array : List ℕ} {start at : ℕ} {text : List ℕ} → Written old start array at text → (piece : List ℕ)
    {next : List ℕ} {end : ℕ} → at + length piece ≤ length array → end ≡ place_behind array at piece → next ≡ placed array at piece
    → Written old start next end (text ++ piece)
written-more {old} {array} {start} {at} {text} w piece room e h =
    record {
      place = omega (arith, e, behind-fits array at piece room, w.place, length-append text piece);
      holds = h ∙ placed-fits array at piece room ∙ rw (w.holds, w.place) (sym (sets-append ℕ text piece old start));
    }

-- the same text in other brackets
written_as : {old array : List ℕ} {start at : ℕ} {text same : List ℕ} → Written old start array at text → text ≡ same
    → Written old start array at same
written_as {old} {array} {start} {at} {text} w e =
    record { place = w.place ∙ ap (λ (l : List ℕ). start + length l) e; holds = w.holds ∙ ap (sets old start) e }

-- ---- the same within bounds: there is room for `top` bytes from `start` on, and the text so far has at most `most` of them. So whether the
-- next piece fits is a question of numbers alone
pub record Grown (old : List ℕ) (start top : ℕ) (array : List ℕ) (at most : ℕ) (text : List ℕ) : Type 0 where
  pub wrote : Written old start array at text
  pub near : length text ≤ most
  pub room : start + top ≤ length old

-- no piece yet
pub grown-none : (old : List ℕ) (start top : ℕ) → start + top ≤ length old → Grown old start top old start 0 []
grown-none old start top room = record { wrote = written_none old start; near = omega arith; room = room }

-- one more piece, of at most k bytes
pub grown-more : {old array : List ℕ} {start top at most : ℕ} {text : List ℕ} → Grown old start top array at most text
    → (piece : List ℕ) (k : ℕ) {next : List ℕ} {end : ℕ} → length piece ≤ k → most + k ≤ top → end ≡ place_behind array at piece
    → next ≡ placed array at piece → Grown old start top next end (most + k) (text ++ piece)
grown-more {old} {array} {start} {top} {at} {most} {text} g piece k h fits e s =
    let n : length array ≡ length old = rw g.wrote.holds (length-sets old start text) in
    record {
      wrote = written-more g.wrote piece (omega (arith, g.wrote.place, g.near, g.room)) e s;
      near = omega (arith, length-append text piece, g.near);
      room = g.room;
    }

-- a text that is known, and hexadecimal digits
pub grown-text : {old array : List ℕ} {start top at most : ℕ} {text : List ℕ} → Grown old start top array at most text
    → (piece : List ℕ) {next : List ℕ} {end : ℕ} → most + length piece ≤ top → end ≡ place_behind array at piece
    → next ≡ placed array at piece → Grown old start top next end (most + length piece) (text ++ piece)
grown-text g piece fits e s = grown-more g piece (length piece) (omega arith) fits e s

pub grown-hex : {old array : List ℕ} {start top at most : ℕ} {text : List ℕ} → Grown old start top array at most text
    → (k n : ℕ) {next : List ℕ} {end : ℕ} → most + k ≤ top → end ≡ place_behind array at (hex k n)
    → next ≡ placed array at (hex k n) → Grown old start top next end (most + k) (text ++ hex k n)
grown-hex g k n fits e s = grown-more g (hex k n) k (omega (arith, hex-length k n)) fits e s

-- a line of a key and a number of at most suc k digits: the key, the digits and LF
pub grown-line : {old array : List ℕ} {start top at most : ℕ} {text : List ℕ} → Grown old start top array at most text
    → (key : List ℕ) (k n : ℕ) {next : List ℕ} {end : ℕ} → n < 10 ^ suc k → most + (length key + (k + 2)) ≤ top
    → end ≡ place_behind array at (line key (decimal n)) → next ≡ placed array at (line key (decimal n))
    → Grown old start top next end (most + (length key + (k + 2))) (text ++ line key (decimal n))
grown-line g key k n below fits e s =
    let l : length (line key (decimal n)) ≤ length key + (k + 2) =
    omega (arith, decimal-fits k n below, length-append key (decimal n ++ bytes "\n"), length-append (decimal n) (bytes "\n")) in
    grown-more g (line key (decimal n)) (length key + (k + 2)) l fits e s

-- the whole text, in other brackets: the place behind it, how far that can be, and the buffer
pub grown-all : {old array : List ℕ} {start top at most : ℕ} {text : List ℕ} → Grown old start top array at most text
    → (same : List ℕ) → text ≡ same → (at ≡ start + length same) × (at ≤ start + most) × (array ≡ sets old start same)
grown-all {old} {array} {start} {top} {at} {most} {text} g same e =
    let w = written_as g.wrote e in
    (w.place, omega (arith, g.wrote.place, g.near), w.holds)

-- the same from the buffer's start on
pub grown_front : {old array : List ℕ} {top at most : ℕ} {text : List ℕ} → Grown old 0 top array at most text
    → (same : List ℕ) → text ≡ same → (at ≡ length same) × (at ≤ most) × (array ≡ sets old 0 same)
grown_front {most = most} g same e =
    let w = grown-all g same e in
    (omega (arith, w.0), omega (arith, w.1), w.2)

-- ---- a text in an array of zeros
pub drop_zeros : (n m : ℕ) → drop n (replicate {A = ℕ} m 0) ≡ replicate (m - n) 0
drop_zeros zero m = rw sub-zero
drop_zeros (suc n) zero = rw zero-sub
drop_zeros (suc n) (suc m) = drop_zeros n m ∙ rw suc-sub-suc

-- a text written into zeros, from their start on
pub into_zeros : (n : ℕ) (text : List ℕ) → length text ≤ n → sets (replicate n 0) 0 text ≡ text ++ replicate (n - length text) 0
into_zeros n text h =
    let l : 0 + length text ≤ length (replicate {A = ℕ} n 0) = rw length-replicate (omega arith) in
    sets-eq text (replicate n 0) 0 l ∙ ap (λ (r : List ℕ). text ++ r) (rw zero-add (drop_zeros (length text) n))

-- a text at an array's front, taken out again
pub front_back : (array text : List ℕ) → length text ≤ length array → take (length text) (sets array 0 text) ≡ text
front_back array text h =
    rw (sets-eq text array 0 (omega arith)) (take-append_seam text (drop (0 + length text) array))
