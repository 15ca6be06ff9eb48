-- The table of fallbacks has an entry for each end (kind 0 is the first section, kind 1 the third), parity, class and state of the trellis, and no
-- more. That each is the point of least norm of its region, ties to the smaller point (Region), and that no other would do: proofs/Fallbacks.
-- Assumes nothing.
use Rattle.std.specs.Prelude.{◌≡◌, refl, length}
use Rattle.search.specs.Tables.{tables, fallback_bytes, fallback_keys}

-- it has no more entries than there are regions
pub fallback_count : (length tables.fb_byte ≡ 512) × (length tables.fb_key ≡ 512)
unfolding fallback_bytes fallback_keys
fallback_count = (refl, refl)
