-- No second answer fits: what the contract of `write` says of its answer leaves one. Assumes nothing.
use Rattle.std.specs.Prelude.{◌≡◌, refl, List, ℕ, ◌*◌, not, ltb, ℤ, length, Result, Ok, Err}
use Rattle.std.proofs.Common.{ap, ap₂, sym, ◌∙◌}
use Rattle.refusal.specs.declared.Refusal.{Refusal}
use Rattle.refusal.proofs.Apart.{told_at_all, told_by_number}
use Rattle.refusal.proofs.Once.{Tells, tells, tells-record}
use Rattle.page.specs.Form.{is_num}
use Rattle.writer.specs.declared.Unwritten.{Unwritten}
use Rattle.writer.specs.Writer.{scale_of, first_wide, first_far, text_of, Written, written_by, written_of}

-- the numbers: 3, 9, 8, 2, 4, so each tells its reason
write-tells : (num count : ℕ) (xs : List ℤ) (room : ℕ) → Tells (written_of num count xs room).number
unfolding written_of
write-tells num count xs room =
    let number : Written → ℕ = λ w. w.number in
    tells-record number (not (is_num num)) _ _ (tells 3 refl)
    (tells-record number (ltb 64 count) _ _ (tells 9 refl)
    (tells-record number (ltb (length xs) (24 * count)) _ _ (tells 8 refl)
    (tells-record number (ltb (first_wide xs count) count) _ _ (tells 2 refl)
    (tells-record number (ltb (first_far (scale_of num) xs count) count) _ _ (tells 4 refl)
    (tells-record number (ltb room (length (text_of num count xs))) _ _ (tells 8 refl) (tells 0 refl))))))

-- the record of a refusal keeps its block
only : (x : Written) → Tells x.number → (a b : Result ℕ Unwritten) → written_by a ≡ x → written_by b ≡ x → a ≡ b
only x t (Ok m) (Ok n) p q = let ok : ℕ → Result ℕ Unwritten = λ k. Ok k in ap ok (ap (λ (w : Written). w.length) (p ∙ sym q))
only x t (Ok m) (Err v) p q = absurd (told_at_all v.refusal (sym (ap (λ (w : Written). w.number) (p ∙ sym q))))
only x t (Err u) (Ok n) p q = absurd (told_at_all u.refusal (ap (λ (w : Written). w.number) (p ∙ sym q)))
only x t (Err u) (Err v) p q =
    let err : Refusal → ℕ → Result ℕ Unwritten = λ r i. Err (record { refusal = r; block = i }) in
    ap₂ err (told_by_number u.refusal v.refusal (ap (λ (w : Written). w.number) (p ∙ sym q)) (λ e. t (sym (ap (λ (w : Written). w.number) q) ∙ e)))
    (ap (λ (w : Written). w.block) (p ∙ sym q))

pub one_answer : (num count : ℕ) (xs : List ℤ) (room : ℕ) (a b : Result ℕ Unwritten)
    → written_by a ≡ written_of num count xs room → written_by b ≡ written_of num count xs room → a ≡ b
one_answer num count xs room = only (written_of num count xs room) (write-tells num count xs room)
