-- The lists that the loop of `quotients` goes through. Assumes nothing.
use Rattle.std.proofs.Common.{◌≡◌, ℕ, ◌<◌, List, length, get_or, sym, ◌∙◌}
use lib.Ieee.{Float, nan, binary64, div}
use Rattle.laws.specs.Laws.Lists.{filled}
use Rattle.float.specs.Calls.{quotients_of}
use Rattle.float.specs.Laws.Arrays.{quotients-length, quotients-at}

-- a list that has every quotient in its place
pub quotients-filled : (xs : List Float) (s : Float) (t : List Float) → length t ≡ length xs
    → ((k : ℕ) → k < length xs → get_or t k nan ≡ div binary64 (get_or xs k nan) s) → t ≡ quotients_of xs s
quotients-filled xs s t l p =
    filled Float nan (length xs) (λ (k : ℕ). div binary64 (get_or xs k nan) s) t l p
    ∙ sym (filled Float nan (length xs) (λ (k : ℕ). div binary64 (get_or xs k nan) s) (quotients_of xs s) (quotients-length xs s) (quotients-at xs s))
