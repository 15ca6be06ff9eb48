-- What `write` answers by its tests, and what its answer says of them. Assumes nothing.
use Rattle.std.specs.Prelude.{◌≡◌, refl, Bool, true, false, cond, not, List, ◌++◌, ◌⊎◌, ℕ, ◌*◌, ◌<◌, ◌≤◌, ltb, ℤ, drop}
use Rattle.std.proofs.Math.Logic.{inl, inr}
use Rattle.std.proofs.Common.{arith}
use borrow.Author.Tests.{lt-ltb, le-ltb, ltb-true, ltb-false}
use Rattle.std.proofs.Math.ListN.{length}
use Rattle.refusal.specs.Refusal.{too_large, no_scale, too_far, no_room, no_page}
use Rattle.page.specs.Form.{is_num}
use Rattle.writer.specs.Writer.{Written, scale_of, first_wide, first_far, text_of, refused_at, written_of, text_after, Gives}

-- ---- from the tests to the answer
module _ (num count : ℕ) (xs : List ℤ) (old : List ℕ) where
  pub bad_num : is_num num ≡ false → Gives num count xs old (refused_at 3 0) old
  unfolding written_of text_after
  bad_num h = rw h (refl, refl)

  module _ (good : is_num num ≡ true) where
    pub many : 64 < count → Gives num count xs old (refused_at 9 0) old
    unfolding written_of text_after
    many h = rw (good, lt-ltb 64 count h) (refl, refl)

    module _ (few : count ≤ 64) where
      pub few_samples : length xs < 24 * count → Gives num count xs old (refused_at 8 0) old
      unfolding written_of text_after
      few_samples h = rw (good, le-ltb 64 count few, lt-ltb (length xs) (24 * count) h) (refl, refl)

      module _ (enough : 24 * count ≤ length xs) where
        pub wide : first_wide xs count < count → Gives num count xs old (refused_at 2 (first_wide xs count)) old
        unfolding written_of text_after
        wide h =
            rw (good, le-ltb 64 count few, le-ltb (length xs) (24 * count) enough, lt-ltb (first_wide xs count) count h) (refl, refl)

        module _ (narrow : count ≤ first_wide xs count) where
          pub far : first_far (scale_of num) xs count < count → Gives num count xs old (refused_at 4 (first_far (scale_of num) xs count)) old
          unfolding written_of text_after
          far h =
              rw (
                good,
                le-ltb 64 count few,
                le-ltb (length xs) (24 * count) enough,
                le-ltb (first_wide xs count) count narrow,
                lt-ltb (first_far (scale_of num) xs count) count h,
              ) (refl, refl)

          module _ (near : count ≤ first_far (scale_of num) xs count) where
            pub short_text : length old < length (text_of num count xs) → Gives num count xs old (refused_at 8 0) old
            unfolding written_of text_after
            short_text h =
                rw (
                  good,
                  le-ltb 64 count few,
                  le-ltb (length xs) (24 * count) enough,
                  le-ltb (first_wide xs count) count narrow,
                  le-ltb (first_far (scale_of num) xs count) count near,
                  lt-ltb (length old) (length (text_of num count xs)) h,
                ) (refl, refl)

            pub wrote : length (text_of num count xs) ≤ length old
                → Gives num count xs old (record { number = 0; block = 0; length = length (text_of num count xs) })
                (text_of num count xs ++ drop (length (text_of num count xs)) old)
            unfolding written_of text_after
            wrote h =
                rw (
                  good,
                  le-ltb 64 count few,
                  le-ltb (length xs) (24 * count) enough,
                  le-ltb (first_wide xs count) count narrow,
                  le-ltb (first_far (scale_of num) xs count) count near,
                  le-ltb (length old) (length (text_of num count xs)) h,
                ) (refl, refl)

-- ---- from the answer to the tests
-- the answer by its six tests, with the two blocks and the text's length
abbrev answer : Bool → Bool → Bool → Bool → Bool → Bool → ℕ → ℕ → ℕ → Written
answer a b c d e f wide far size =
    cond (not a) (refused_at no_scale 0)
    (cond b (refused_at no_page 0)
    (cond c (refused_at no_room 0)
    (cond d (refused_at too_large wide)
    (cond e (refused_at too_far far) (cond f (refused_at no_room 0) (record { number = 0; block = 0; length = size }))))))

-- number 0 says that each is passed, 2 and 4 which block fails; any other number has block 0, and a refusal length 0
passed : (a b c d e f : Bool) (wide far size : ℕ) → (answer a b c d e f wide far size).number ≡ 0
    → (a ≡ true) × (b ≡ false) × (c ≡ false) × (d ≡ false) × (e ≡ false) × ((answer a b c d e f wide far size).length ≡ size)
passed false b c d e f wide far size h = absurd (omega arith)
passed true true c d e f wide far size h = absurd (omega arith)
passed true false true d e f wide far size h = absurd (omega arith)
passed true false false true e f wide far size h = absurd (omega arith)
passed true false false false true f wide far size h = absurd (omega arith)
passed true false false false false true wide far size h = absurd (omega arith)
passed true false false false false false wide far size h = (refl, refl, refl, refl, refl, refl)

on_2 : (a b c d e f : Bool) (wide far size : ℕ) → (answer a b c d e f wide far size).number ≡ 2
    → (d ≡ true) × ((answer a b c d e f wide far size).block ≡ wide)
on_2 false b c d e f wide far size h = absurd (omega arith)
on_2 true true c d e f wide far size h = absurd (omega arith)
on_2 true false true d e f wide far size h = absurd (omega arith)
on_2 true false false true e f wide far size h = (refl, refl)
on_2 true false false false true f wide far size h = absurd (omega arith)
on_2 true false false false false true wide far size h = absurd (omega arith)
on_2 true false false false false false wide far size h = absurd (omega arith)

on_4 : (a b c d e f : Bool) (wide far size : ℕ) → (answer a b c d e f wide far size).number ≡ 4
    → (e ≡ true) × ((answer a b c d e f wide far size).block ≡ far)
on_4 false b c d e f wide far size h = absurd (omega arith)
on_4 true true c d e f wide far size h = absurd (omega arith)
on_4 true false true d e f wide far size h = absurd (omega arith)
on_4 true false false true e f wide far size h = absurd (omega arith)
on_4 true false false false true f wide far size h = (refl, refl)
on_4 true false false false false true wide far size h = absurd (omega arith)
on_4 true false false false false false wide far size h = absurd (omega arith)

on_other : (a b c d e f : Bool) (wide far size : ℕ) → ((answer a b c d e f wide far size).number ≡ 2 → ⊥)
    → ((answer a b c d e f wide far size).number ≡ 4 → ⊥) → (answer a b c d e f wide far size).block ≡ 0
on_other false b c d e f wide far size h k = refl
on_other true true c d e f wide far size h k = refl
on_other true false true d e f wide far size h k = refl
on_other true false false true e f wide far size h k = absurd (h refl)
on_other true false false false true f wide far size h k = absurd (k refl)
on_other true false false false false true wide far size h k = refl
on_other true false false false false false wide far size h k = refl

on_refusal : (a b c d e f : Bool) (wide far size : ℕ) → ((answer a b c d e f wide far size).number ≡ 0 → ⊥)
    → (answer a b c d e f wide far size).length ≡ 0
on_refusal false b c d e f wide far size h = refl
on_refusal true true c d e f wide far size h = refl
on_refusal true false true d e f wide far size h = refl
on_refusal true false false true e f wide far size h = refl
on_refusal true false false false true f wide far size h = refl
on_refusal true false false false false true wide far size h = refl
on_refusal true false false false false false wide far size h = absurd (h refl)

on_any : (most : ℕ) (a b c d e f : Bool) (wide far size : ℕ) → 0 < most → (b ≡ false → d ≡ true → wide < most)
    → (b ≡ false → e ≡ true → far < most) → (answer a b c d e f wide far size).block < most
on_any most false b c d e f wide far size h p q = h
on_any most true true c d e f wide far size h p q = h
on_any most true false true d e f wide far size h p q = h
on_any most true false false true e f wide far size h p q = p refl refl
on_any most true false false false true f wide far size h p q = q refl refl
on_any most true false false false false true wide far size h p q = h
on_any most true false false false false false wide far size h p q = h

on_number : (a b c d e f : Bool) (wide far size : ℕ) → (answer a b c d e f wide far size).number ≤ 9
on_number false b c d e f wide far size = omega arith
on_number true true c d e f wide far size = omega arith
on_number true false true d e f wide far size = omega arith
on_number true false false true e f wide far size = omega arith
on_number true false false false true f wide far size = omega arith
on_number true false false false false true wide far size = omega arith
on_number true false false false false false wide far size = omega arith

on_8 : (a b c d e f : Bool) (wide far size : ℕ) → (answer a b c d e f wide far size).number ≡ 8
    → (a ≡ true) × (b ≡ false) × ((c ≡ true) ⊎ (f ≡ true))
on_8 false b c d e f wide far size h = absurd (omega arith)
on_8 true true c d e f wide far size h = absurd (omega arith)
on_8 true false true d e f wide far size h = (refl, refl, inl refl)
on_8 true false false true e f wide far size h = absurd (omega arith)
on_8 true false false false true f wide far size h = absurd (omega arith)
on_8 true false false false false true wide far size h = (refl, refl, inr refl)
on_8 true false false false false false wide far size h = absurd (omega arith)

-- what number 0 says of the call
pub record Passed (num count : ℕ) (xs : List ℤ) (room : ℕ) : Type 0 where
  pub good : is_num num ≡ true
  pub few : count ≤ 64
  pub narrow : count ≤ first_wide xs count
  pub near : count ≤ first_far (scale_of num) xs count
  pub size : (written_of num count xs room).length ≡ length (text_of num count xs)

module _ (num count : ℕ) (xs : List ℤ) (room : ℕ) where
  pub when_0 : (written_of num count xs room).number ≡ 0 → Passed num count xs room
  unfolding written_of
  when_0 h =
      let p =
      passed (is_num num) (ltb 64 count) (ltb (length xs) (24 * count)) (ltb (first_wide xs count) count)
      (ltb (first_far (scale_of num) xs count) count) (ltb room (length (text_of num count xs))) (first_wide xs count) (first_far (scale_of num) xs count)
      (length (text_of num count xs)) h in
      record {
        good = p.0;
        few = ltb-false 64 count p.1;
        narrow = ltb-false (first_wide xs count) count p.3;
        near = ltb-false (first_far (scale_of num) xs count) count p.4;
        size = p.5;
      }

  pub when_2 : (written_of num count xs room).number ≡ 2
      → (first_wide xs count < count) × ((written_of num count xs room).block ≡ first_wide xs count)
  unfolding written_of
  when_2 h =
      let p =
      on_2 (is_num num) (ltb 64 count) (ltb (length xs) (24 * count)) (ltb (first_wide xs count) count)
      (ltb (first_far (scale_of num) xs count) count) (ltb room (length (text_of num count xs))) (first_wide xs count) (first_far (scale_of num) xs count)
      (length (text_of num count xs)) h in
      (ltb-true (first_wide xs count) count p.0, p.1)

  pub when_4 : (written_of num count xs room).number ≡ 4
      → (first_far (scale_of num) xs count < count) × ((written_of num count xs room).block ≡ first_far (scale_of num) xs count)
  unfolding written_of
  when_4 h =
      let p =
      on_4 (is_num num) (ltb 64 count) (ltb (length xs) (24 * count)) (ltb (first_wide xs count) count)
      (ltb (first_far (scale_of num) xs count) count) (ltb room (length (text_of num count xs))) (first_wide xs count) (first_far (scale_of num) xs count)
      (length (text_of num count xs)) h in
      (ltb-true (first_far (scale_of num) xs count) count p.0, p.1)

  pub when_other : ((written_of num count xs room).number ≡ 2 → ⊥) → ((written_of num count xs room).number ≡ 4 → ⊥)
      → (written_of num count xs room).block ≡ 0
  unfolding written_of
  when_other h k =
      on_other (is_num num) (ltb 64 count) (ltb (length xs) (24 * count)) (ltb (first_wide xs count) count)
      (ltb (first_far (scale_of num) xs count) count) (ltb room (length (text_of num count xs))) (first_wide xs count) (first_far (scale_of num) xs count)
      (length (text_of num count xs)) h k

  pub when_refused : ((written_of num count xs room).number ≡ 0 → ⊥) → (written_of num count xs room).length ≡ 0
  unfolding written_of
  when_refused h =
      on_refusal (is_num num) (ltb 64 count) (ltb (length xs) (24 * count)) (ltb (first_wide xs count) count)
      (ltb (first_far (scale_of num) xs count) count) (ltb room (length (text_of num count xs))) (first_wide xs count) (first_far (scale_of num) xs count)
      (length (text_of num count xs)) h

  pub when_any : (written_of num count xs room).block < 64
  unfolding written_of
  when_any =
      on_any 64 (is_num num) (ltb 64 count) (ltb (length xs) (24 * count)) (ltb (first_wide xs count) count)
      (ltb (first_far (scale_of num) xs count) count) (ltb room (length (text_of num count xs))) (first_wide xs count) (first_far (scale_of num) xs count)
      (length (text_of num count xs)) (omega arith)
      (λ b d. omega (arith, ltb-false 64 count b, ltb-true (first_wide xs count) count d))
      (λ b e. omega (arith, ltb-false 64 count b, ltb-true (first_far (scale_of num) xs count) count e))

  pub number-le : (written_of num count xs room).number ≤ 9
  unfolding written_of
  number-le =
      on_number (is_num num) (ltb 64 count) (ltb (length xs) (24 * count)) (ltb (first_wide xs count) count)
      (ltb (first_far (scale_of num) xs count) count) (ltb room (length (text_of num count xs))) (first_wide xs count) (first_far (scale_of num) xs count)
      (length (text_of num count xs))

  pub when_8 : (written_of num count xs room).number ≡ 8
      → (is_num num ≡ true) × (count ≤ 64) × ((length xs < 24 * count) ⊎ (room < length (text_of num count xs)))
  unfolding written_of
  when_8 h =
      let p =
      on_8 (is_num num) (ltb 64 count) (ltb (length xs) (24 * count)) (ltb (first_wide xs count) count)
      (ltb (first_far (scale_of num) xs count) count) (ltb room (length (text_of num count xs))) (first_wide xs count) (first_far (scale_of num) xs count)
      (length (text_of num count xs)) h in
      (p.0, ltb-false 64 count p.1, short p.2)
    where
      short : (ltb (length xs) (24 * count) ≡ true) ⊎ (ltb room (length (text_of num count xs)) ≡ true)
          → (length xs < 24 * count) ⊎ (room < length (text_of num count xs))
      short (inl e) = inl (ltb-true (length xs) (24 * count) e)
      short (inr e) = inr (ltb-true room (length (text_of num count xs)) e)
