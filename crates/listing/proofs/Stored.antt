-- A part of a buffer, from some cell on, in which a list is stored at the start: the list is stored in the buffer from that cell on.
-- Assumes nothing.
use Rattle.std.proofs.Common.{◌≡◌, refl, sym, List, [], ◌++◌, ℕ, ◌+◌, ◌-◌, ◌≤◌, arith, length, drop, append_assoc, length-drop}
use Rattle.std.proofs.lemmas.List.{drop-drop, append-nil, take_all}
use Rattle.std.proofs.lemmas.List.Edits.{sets, sets-eq}
use Rattle.std.proofs.Math.ListN.{drop_of_length-le}
use borrow.Rule.Slice.PartMut.{put_mid, mid_of}

module _ (vs l : List ℕ) (i : ℕ) (h : i + length vs ≤ length l) where
  -- the part is all that lies from the cell i on
  whole_part : mid_of i (length l - i) l ≡ drop i l
  whole_part = take_all (length l - i) (drop i l) (omega (arith, length-drop i l))

  pub room_left : length vs ≤ length (mid_of i (length l - i) l)
  room_left = rw whole_part (omega (arith, length-drop i l))

  stored_at-start : sets (drop i l) 0 vs ≡ vs ++ drop (i + length vs) l
  stored_at-start =
      let z : 0 + length vs ≡ length vs = omega arith in
      rw (sets-eq vs (drop i l) 0 (omega (arith, length-drop i l)), z, drop-drop) refl

  pub stored_from : {part : List ℕ} → part ≡ sets (mid_of i (length l - i) l) 0 vs → put_mid i (length l - i) l part ≡ sets l i vs
  stored_from q =
      let none : drop (length l - i) (drop i l) ≡ [] = drop_of_length-le (drop i l) (omega (arith, length-drop i l)) in
      rw (q, whole_part, none, stored_at-start, append-nil) (sym (simp append_assoc at (sets-eq vs l i h)))
