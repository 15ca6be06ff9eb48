-- Laws of the lookup of a rank: when it answers one, that it and val undo each other, and the marks of a row. Assumes nothing.
use Rattle.std.specs.Prelude.{◌≡◌, refl, Bool, true, false, cond, ◌&&◌, List, [], ◌∷◌, ℕ, ◌<◌, ◌≤◌, T, ltb, eqb, ℤ}
use Rattle.std.proofs.Common.{ap, ap₂, sym, ◌∙◌, arith, lt-ltb, le-ltb, eq-eqb, ltb-true, eqb-true}
use Rattle.laws.specs.Words.{mod_z}
use Rattle.rank.specs.Coord.{rank_of, val_of}
use Rattle.rank.specs.Laws.Coord.{member, member_of, val_rank}
use Rattle.rank.specs.Vector.{ranks_below, sq}
use Rattle.rank.specs.Laws.Vector.{rank_first, rank_rest}
use Rattle.rank.specs.Section.{ranks_of}
use Rattle.rank.specs.Answers.{reach, valued_of, Rank, Nothing, Refused, ranked_of, no_rank, mark_of, marks_of}

-- ---- a rank that the lookup reaches is found
pub ranked-found : (o : ℕ) (y : ℤ) (r : ℕ) → o < 4 → r < reach → val_of o r ≡ y → ranked_of o y ≡ Rank r
unfolding ranked_of
ranked-found o y r ho hr e =
    let q : rank_of y ≡ r = ap rank_of (sym e) ∙ (member o r ho (omega arith)).rank in
    let m : mod_z y 4 ≡ o = ap (λ (z : ℤ). mod_z z 4) (sym e) ∙ member_of o r ho (omega arith) in
    rw (lt-ltb o 4 ho, q, m, eq-eqb o o refl, lt-ltb r reach hr)

-- ---- the lookup and val undo each other: of all ranks that val accepts, and wherever a rank is answered
pub rank_of-val : (o r : ℕ) → o < 4 → r < 8 → ranked_of o (val_of o r) ≡ Rank r
rank_of-val o r ho hr = ranked-found o (val_of o r) r ho (omega arith) refl

-- and from rank 8 on the lookup answers nothing
pub rank_past : (o : ℕ) (y : ℤ) → o < 4 → 8 ≤ rank_of y → ranked_of o y ≡ Nothing
unfolding ranked_of
rank_past o y ho h = go (eqb (mod_z y 4) o) (le-ltb (rank_of y) reach (omega arith))
  where
    go : (b : Bool) → ltb (rank_of y) reach ≡ false
        → cond (ltb o 4) (cond (b && ltb (rank_of y) reach) (Rank (rank_of y)) Nothing) Refused ≡ Nothing
    go true e = rw (lt-ltb o 4 ho, e)
    go false e = rw (lt-ltb o 4 ho)

-- what the answer of a rank says
ranked-says : (o : ℕ) (y : ℤ) (r : ℕ) → ranked_of o y ≡ Rank r → (o < 4) × (mod_z y 4 ≡ o) × (rank_of y ≡ r) × (r < reach)
unfolding ranked_of
ranked-says o y r = go (ltb o 4) refl (eqb (mod_z y 4) o) refl (ltb (rank_of y) reach) refl
  where
    go : (a : Bool) → ltb o 4 ≡ a → (b : Bool) → eqb (mod_z y 4) o ≡ b → (c : Bool) → ltb (rank_of y) reach ≡ c
        → cond a (cond (b && c) (Rank (rank_of y)) Nothing) Refused ≡ Rank r
        → (o < 4) × (mod_z y 4 ≡ o) × (rank_of y ≡ r) × (r < reach)
    go true p true q true s e =
        let i : rank_of y ≡ r = cc in
        (ltb-true o 4 p, eqb-true (mod_z y 4) o q, i, omega (arith, ltb-true (rank_of y) reach s))
    go true p true q false s e = let z : ◌≡◌ {A = ℕ} 0 1 = cc in absurd (omega arith)
    go true p false q c s e = let z : ◌≡◌ {A = ℕ} 0 1 = cc in absurd (omega arith)
    go false p b q c s e = let z : ◌≡◌ {A = ℕ} 0 1 = cc in absurd (omega arith)

pub val_of_rank : (o : ℕ) (y : ℤ) (r : ℕ) → ranked_of o y ≡ Rank r → valued_of o r ≡ record { number = 0; value = y }
unfolding valued_of
val_of_rank o y r e =
    let h = ranked-says o y r e in
    let v : val_of o r ≡ y =
    ap₂ val_of (sym h.1) (sym h.2) ∙ val_rank y (omega (arith, h.2, h.3)) in
    rw (lt-ltb o 4 h.0, lt-ltb r 8 (omega (arith, h.3)), v)

-- ---- marks
pub mark-lt : (y : ℤ) → mark_of y < 16
unfolding mark_of
mark-lt y = go (ltb (rank_of y) reach) refl
  where
    go : (b : Bool) → ltb (rank_of y) reach ≡ b → cond b (rank_of y) no_rank < 16
    go true e = omega (arith, ltb-true (rank_of y) reach e)
    go false e = omega arith

-- from rank 8 on the mark is 15, whose weight is 961
pub mark_past : (y : ℤ) → 8 ≤ rank_of y → (mark_of y ≡ 15) × (sq (mark_of y) ≡ 961)
unfolding mark_of
mark_past y h =
    let e : cond (ltb (rank_of y) reach) (rank_of y) no_rank ≡ 15 = rw (le-ltb (rank_of y) reach (omega arith)) in
    (e, ap sq e)

-- a mark below b is the rank
mark_is : (b : ℕ) → b ≤ no_rank → (y : ℤ) → mark_of y < b → mark_of y ≡ rank_of y
unfolding mark_of
mark_is b hb y = go (ltb (rank_of y) reach)
  where
    go : (t : Bool) → cond t (rank_of y) no_rank < b → cond t (rank_of y) no_rank ≡ rank_of y
    go true h = refl
    go false h = absurd (omega arith)

mark-near : (y : ℤ) → rank_of y < reach → mark_of y ≡ rank_of y
unfolding mark_of
mark-near y h = rw (lt-ltb (rank_of y) reach h)

-- where the marks of a row are below b they are its ranks
pub marks_are : (b : ℕ) → b ≤ no_rank → (t : List ℤ) → T (ranks_below b (marks_of t)) → marks_of t ≡ ranks_of t
marks_are b hb [] s = refl
marks_are b hb (y ∷ t) s =
    ap₂ {C = List ℕ} (λ a l. a ∷ l) (mark_is b hb y (rank_first b (mark_of y) (marks_of t) s))
    (marks_are b hb t (rank_rest b (mark_of y) (marks_of t) s))

-- and where its ranks are below b, and the lookup reaches so far, they are its marks
pub marks-near : (b : ℕ) → b ≤ reach → (t : List ℤ) → T (ranks_below b (ranks_of t)) → marks_of t ≡ ranks_of t
marks-near b hb [] s = refl
marks-near b hb (y ∷ t) s =
    ap₂ {C = List ℕ} (λ a l. a ∷ l) (mark-near y (omega (arith, rank_first b (rank_of y) (ranks_of t) s)))
    (marks-near b hb t (rank_rest b (rank_of y) (ranks_of t) s))
