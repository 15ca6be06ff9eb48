-- The facts of the search's constant tables that the theorem asks for, the fallbacks as members of their regions. Assumes nothing.
use Rattle.std.proofs.Common.{◌∙◌, subst, le_refl, arith, lit≤}
use Rattle.std.specs.Prelude.{ℕ, ◌<◌}
use Rattle.rank.specs.Vector.{unpack}
use Rattle.rank.specs.Laws.Vector.{unpack-at, below_at_lem}
use Rattle.trellis.specs.Laws.Path.{prefix-lt, middle-lt, next-entry-lt}
use Rattle.trellis.specs.Laws.Rows.{prefix-read, middle-read}
use Rattle.search.specs.Tables.{tables}
use Rattle.search.specs.Laws.Tables.{entry_at, entry_byte}
use Rattle.fallbacks.specs.Region.{byte_of, key_of}
use Rattle.fallbacks.specs.Laws.Member.{member-class, member-ranks, member-lt, member-even}
use Rattle.nearest.specs.Laws.Packed.{key_class}
use Rattle.nearest.specs.Laws.Winner.{GoodTables}
use Rattle.nearest.specs.Laws.Premises.{MoreTables}
use Rattle.nearest.specs.Laws.Sections.{Bytes}
use Rattle.fallbacks.specs.Laws.Entries.{entry-member}

-- ---- bytes
pub tables-bytes : Bytes tables
tables-bytes =
    record {
      pre = λ s b h. subst (λ (n : ℕ). n < 256) (prefix-read s b h) (prefix-lt s b);
      mid = λ s b h. subst (λ (n : ℕ). n < 256) (middle-read s b h) (middle-lt s b);
    }

-- ---- branches: the state that each leads to, and its middle entry, which has its byte
pub tables-good : GoodTables tables
tables-good =
    record { ix-lt = λ k h. omega (arith, entry_at k h); nxt-lt = λ k h. next-entry-lt k; ix_byte = entry_byte }

-- ---- fallbacks: members of their regions, so a byte of the state, ranks below 8, the class of the region
pub tables_more : MoreTables tables
tables_more =
    record {
      cost0 = lit≤ tt;
      cost1 = le_refl 96;
      cost_m = lit≤ tt;
      fb_byte_lem = λ kind p r st a b c d. let m = entry-member kind p r st a b c d in (m.b, m.b_lt, m.byte);
      fb_rank = λ kind p r st j a b c d h.
          let key = key_of kind p r st in
          subst (λ (n : ℕ). n < 8) (unpack-at 8 key j h)
          (below_at_lem 8 (unpack 8 key) (member-ranks kind r st _ key c (entry-member kind p r st a b c d)) j h);
      fb_class = λ kind p r st a b c d.
          let m = entry-member kind p r st a b c d in
          key_class p (byte_of kind p r st) (key_of kind p r st) b (member-lt kind r st _ _ c m) (member-even kind r st _ _ c m d)
          (member-ranks kind r st _ _ c m)
          ∙ member-class kind r st _ _ c m;
    }
