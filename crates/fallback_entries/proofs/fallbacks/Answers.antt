-- `fallback_entries::fallbacks` meets its contract: what the calls make together. Assumes nothing.
use Rattle.std.proofs.Common.{◌≡◌, ◌∙◌, List, ℕ, ◌+◌, ◌*◌, ◌/◌, ◌%◌, ◌<◌, rules, arith}
use Rattle.std.specs.Prelude.{Float}
use Rattle.laws.specs.Words.{tab}
use Rattle.laws.specs.Laws.Lists.{tab-eq}
use Rattle.laws.specs.Laws.Made.{made}
use Rattle.search.specs.declared.Entry.{Entry}
use Rattle.search.specs.Tables.{tables, fallback_bytes, fallback_keys}
use Rattle.search.specs.Entries.{fallback}
use Rattle.search.specs.Join.{no_entry}
use Rattle.fallback_entries.specs.Inner.Flat.{members_of, squares_of, fallback_in}
use Rattle.fallback_entries.specs.Laws.{fallback_flat}
use Rattle.fallback_entries.proofs.fallbacks.Goals as goal

-- what the calls make together
all-fallbacks : (ts : List Float) (kind p : ℕ) → kind < 2 → p < 2 → {bytes keys : List ℕ} {members squares : List Float} {r : List Entry}
    → bytes ≡ fallback_bytes → keys ≡ fallback_keys → members ≡ members_of p → squares ≡ squares_of members ts
    → r ≡ tab (λ (i : ℕ). fallback_in bytes keys squares ((kind * 2 + p) * 128 + i)) 128
    → r ≡ tab (λ (i : ℕ). fallback tables ts kind p (i / 64) (i % 64)) 128
all-fallbacks ts kind p hk hp {bytes} {keys} {members} {squares} qb qk qm qs h =
    h ∙ tab-eq Entry no_entry (λ (i : ℕ). fallback_in bytes keys squares ((kind * 2 + p) * 128 + i))
    (λ (i : ℕ). fallback tables ts kind p (i / 64) (i % 64)) 128 (λ i l. rw (qb, qk, qs, qm) (fallback_flat ts kind p i hk hp l))

pub returns : goal.returns
returns c =
    let s = c.args in
    let bytes = c.fallback_bytes-bytes.result.now in
    let keys = c.fallback_keys-keys.result.now in
    let place : ℕ → ℕ = λ i. (s.kind % 2 * 2 + s.p % 2) * 128 + i in
    let all = made _ _ (λ (i : ℕ). fallback_in bytes keys c.squares-squares.result (place i)) c.from_fn.result 128
    (λ i y q l e. search rules) no_entry c.from_fn.ensures.items in
    all-fallbacks s.t (s.kind % 2) (s.p % 2) (omega arith) (omega arith) c.fallback_bytes-bytes.ensures c.fallback_keys-keys.ensures
    c.members.ensures c.squares-squares.ensures all
