-- The members by rank past the eight that a lookup answers, and past the offsets 0 to 3. Assumes nothing.
use mathlib.Core.Path.{◌≡◌, refl, ap, ◌∙◌}
use mathlib.Core.Bool.{Bool, true, false, cond, ◌&&◌}
use Prim.Native.Nat.{ℕ, zero, suc, ◌-◌, ◌<◌, ◌≤◌}
use native.Mathlib.Omega.{arith}
use borrow.Author.Tests.{ltb-true, ltb-false, eqb-true, eqb-false, ne_eqb}
use lib.Dec.{ltb, eqb}
use lib.IntN.{ℤ, pos, negsuc}
use Rattle.rank.specs.Coord.{val_of}
use Rattle.rank.specs.Answers.{Valued, valued_of}

-- no offset above 3 has a member
pub past_three : (o rho : ℕ) → 4 ≤ o → val_of o rho ≡ pos 0
unfolding val_of
past_three o rho h =
    let z : eqb o 0 ≡ false = ne_eqb o 0 (λ q. omega arith) in
    let a : eqb 0 o ≡ false = ne_eqb 0 o (λ q. omega arith) in
    let b : eqb 1 o ≡ false = ne_eqb 1 o (λ q. omega arith) in
    let c : eqb 2 o ≡ false = ne_eqb 2 o (λ q. omega arith) in
    let d : eqb 3 o ≡ false = ne_eqb 3 o (λ q. omega arith) in
    simp (z, a, b, c, d)

-- -16 is the ninth of 4Z
pub ninth : val_of 0 8 ≡ negsuc 15
unfolding val_of
ninth = refl

past0 : (k : ℕ) → val_of 0 (suc (suc (suc (suc (suc (suc (suc (suc (suc k))))))))) ≡ pos 0
unfolding val_of
past0 k = refl

past : (o k : ℕ) → 0 < o → o < 4 → val_of o (suc (suc (suc (suc (suc (suc (suc (suc k)))))))) ≡ pos 0
unfolding val_of
past zero k h l = absurd (omega arith)
past (suc zero) k h l = refl
past (suc (suc zero)) k h l = refl
past (suc (suc (suc zero))) k h l = refl
past (suc (suc (suc (suc o)))) k h l = absurd (omega arith)

-- what the lookup answers
abbrev answer : Bool → ℤ → Valued
answer b v = cond b (record { number = 0; value = v }) (record { number = 7; value = pos 0 })

pub looked_up : (o rho : ℕ) → (valued_of o rho).number ≡ 0 → (valued_of o rho).value ≡ val_of o rho
unfolding valued_of
looked_up o rho = go (ltb o 4 && ltb rho 8)
  where
    go : (b : Bool) → (answer b (val_of o rho)).number ≡ 0 → (answer b (val_of o rho)).value ≡ val_of o rho
    go true e = refl
    go false e = absurd (omega arith)

-- what it refuses, but for that ninth one, is 0
pub refused : (o rho : ℕ) → ((valued_of o rho).number ≡ 0 → ⊥) → (o ≡ 0 → rho ≡ 8 → ⊥) → val_of o rho ≡ pos 0
unfolding valued_of
refused o rho n m = by (ltb o 4) refl (ltb rho 8) refl n
  where
    far : o < 4 → 8 ≤ rho → val_of o rho ≡ pos 0
    far l h = go (eqb o 0) refl
      where
        go : (b : Bool) → eqb o 0 ≡ b → val_of o rho ≡ pos 0
        go true e =
            let i : o ≡ 0 = eqb-true o 0 e in
            let g : rho ≡ 8 → ⊥ = m i in
            let j : rho ≡ suc (suc (suc (suc (suc (suc (suc (suc (suc (rho - 9))))))))) = omega arith in
            ap (λ (x : ℕ). val_of x rho) i ∙ ap (val_of 0) j ∙ past0 (rho - 9)
        go false e =
            let i : 0 < o = omega (arith, eqb-false o 0 e) in
            let j : rho ≡ suc (suc (suc (suc (suc (suc (suc (suc (rho - 8)))))))) = omega arith in
            ap (val_of o) j ∙ past o (rho - 8) i l

    by : (a : Bool) → ltb o 4 ≡ a → (b : Bool) → ltb rho 8 ≡ b → ((answer (a && b) (val_of o rho)).number ≡ 0 → ⊥) → val_of o rho ≡ pos 0
    by false e b f n = past_three o rho (ltb-false o 4 e)
    by true e true f n = absurd (n refl)
    by true e false f n = far (ltb-true o 4 e) (ltb-false rho 8 f)
