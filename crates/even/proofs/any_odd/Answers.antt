-- `even::any_odd` meets its contract: what the search through the words answers. Assumes nothing.
use Rattle.std.specs.Prelude.{◌≡◌, refl, Bool, true, false, not, ◌||◌, List, [], ◌∷◌, ℕ, ◌<◌, eqb, length, take, Result, Ok, Err, is_err}
use Rattle.std.proofs.Common.{rules, tests, sym, ap, ◌∙◌}
use Rattle.std.specs.Bool.{MatchBool}
use Rattle.std.specs.List.{AllWithin, HoldsAt, list_any}
use Rattle.std.proofs.lemmas.Iterator.{YieldsList-from_slice, cases_from_any}
use Rattle.std.proofs.lemmas.List.Elements.{All-from_all_within}
use Rattle.std.proofs.lemmas.List.Folds.{list_any_at, list_any_none}
use Rattle.refusal.specs.declared.Refusal.{Refusal}
use Rattle.refusal.specs.Refusal.{number_in}
use Rattle.refusal.proofs.Apart.{never_zero}
use Rattle.even.specs.Even.{word_number, any_odd}
use Rattle.even.proofs.any_odd.Goals as goal

odd : ℕ → Bool
odd w = not (eqb (word_number w) 0)

-- what the check of a word says
told : {A : Type 0} (r : Result A Refusal) (w : ℕ) → number_in r ≡ word_number w → is_err r ≡ odd w
unfolding odd
told (Ok x) w e = rw (← e)
told (Err f) w e = rw (← e, never_zero f)

said_odd : {A : Type 0} (r : Result A Refusal) (w : ℕ) → number_in r ≡ word_number w → is_err r ≡ true → odd w ≡ true
said_odd r w e h = sym (told r w e) ∙ h

said_even : {A : Type 0} (r : Result A Refusal) (w : ℕ) → number_in r ≡ word_number w → is_err r ≡ false → odd w ≡ false
said_even r w e h = sym (told r w e) ∙ h

odd_listed : (ws : List ℕ) → any_odd ws ≡ list_any odd ws
unfolding any_odd odd
odd_listed [] = refl
odd_listed (w ∷ ws) = ap (λ (b : Bool). odd w || b) (odd_listed ws)

found : (ws : List ℕ) (r : Bool)
    → MatchBool r ((k : ℕ) × (k < length ws) × HoldsAt (λ (w : ℕ). odd w ≡ true) ws k) (AllWithin (λ (w : ℕ). odd w ≡ false) ws 0 (length ws))
    → r ≡ any_odd ws
found ws true (k, i, h) = sym (odd_listed ws ∙ list_any_at odd ws k 0 i (h 0))
found ws false h = sym (odd_listed ws ∙ list_any_none odd ws (All-from_all_within (λ (w : ℕ). odd w ≡ false) ws h))

pub returns : goal.returns
returns c =
    let ws = take c.args.count c.args.words in
    found ws _ (cases_from_any _ _ _ (λ (w : ℕ). odd w ≡ true) (λ (w : ℕ). odd w ≡ false) c.any.ensures.ran
    (YieldsList-from_slice ws cc) (λ w q k. search (rules, tests, said_odd)) (λ w q k. search (rules, tests, said_even)))
