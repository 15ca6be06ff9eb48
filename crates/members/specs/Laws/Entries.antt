-- The entries of the join: before the last join every one has a finite value, and an exact one holds a member.
use Rattle.std.specs.Prelude.{◌≡◌, ◌⊎◌, Bool, cond, ◌&&◌, List, ℕ, ◌^◌, ◌≤◌, ◌<◌, get_or, Float}
use Rattle.std.proofs.Math.Path.{refl}
use Rattle.std.proofs.Common.{sym, subst, inr, le_refl, lt_of_lt_of_le, lit≤}
use Rattle.std.proofs.Math.Logic.{inl}
use Rattle.std.proofs.Math.Bool.{true, false}
use Rattle.std.specs.Float.{nan}
use Rattle.std.specs.Float.Ieee.{lt}
use Rattle.rank.specs.Vector.{sq, unpack, bound_cost, bound_cut}
use Rattle.rank.specs.Laws.Vector.{unpack-below}
use Rattle.search.specs.declared.Entry.{Entry}
use Rattle.search.specs.declared.Best.{Best}
use Rattle.search.specs.declared.Closed.{Closed}
use Rattle.search.specs.Record.{row}
use Rattle.search.specs.Bound.{holds}
use Rattle.search.specs.Base.{base_now, base_best}
use Rattle.search.specs.Solve.{infinity, solve}
use Rattle.search.specs.Tables.{tables, class_of, end_byte}
use Rattle.search.specs.Entries.{Rule, Start, rank_at, section_at, infeasible, fallback, better, end_resolve, mid_of, mid_resolve}
use Rattle.search.specs.Entries.{with_base, settle, end_start, mid_start}
use Rattle.fallbacks.specs.Region.{byte_of, key_of}
use Rattle.fallbacks.specs.Laws.Member.{member_packed, member_in}
use Rattle.nearest.specs.Laws.Forms.{sum_to, RuleOk}
use Rattle.nearest.specs.Laws.Keys.{k_at, val_is, nib-lt}
use Rattle.nearest.specs.Laws.Under.{clash, lt_inf}
use Rattle.nearest.specs.Laws.Shape.{o_at, o_lt}
use Rattle.nearest.specs.Laws.Packed.{packed_lt, packed_holds, class_bound, cut_size, cut_below}
use Rattle.nearest.specs.Laws.Entries.{EndByte, entry_of, better-keeps}
use Rattle.nearest.specs.Laws.Premises.{val-small, class-cost}
use Rattle.nearest.specs.Laws.TableFacts.{tables_more}
use Rattle.members.specs.Laws.Sizes.{Below, wider, Target, dist_below}
use Rattle.members.specs.Laws.Candidates.{Good, Far, base_below, base_member, solve-good}
use Rattle.members.specs.Laws.Middle.{always_met}
use Rattle.fallbacks.specs.Laws.Entries.{entry-member}

-- an exact entry that holds a member of parity p and class r, within the bound b, whose byte is one of those asked for
pub record Held (Byte : ℕ → Type 0) (p r : ℕ) (b : Closed) (e : Entry) : Type 0 where
  pub exact : e.exact ≡ true
  pub byte : Byte e.byte
  pub good : Good p e.byte r b e.key e.value

-- an entry of a finite value that, if exact, holds a member
pub record Fine (Byte : ℕ → Type 0) (p r : ℕ) (b : Closed) (e : Entry) : Type 0 where
  pub below : Below Far e.value
  pub held : e.exact ≡ true → Held Byte p r b e

pub held-fine : {Byte : ℕ → Type 0} {p r : ℕ} {b : Closed} {e : Entry} → Held Byte p r b e → Fine Byte p r b e
held-fine h = record { below = h.good.below; held = λ q. h }

-- a best that, if met, is a member at a finite distance
abbrev pub Sure : ℕ → ℕ → ℕ → Closed → Best → Type 0
Sure p c r b x = x.met ≡ true → Good p c r b x.key x.d

module _ (Byte : ℕ → Type 0) (p r : ℕ) (b : Closed) where
  better-held : (e : Entry) (x : Best) (c : ℕ) → Byte c → Held Byte p r b e → Sure p c r b x → Held Byte p r b (better e x c)
  better-held e x c h f s = better-keeps (Held Byte p r b) e x c f (λ q. record { exact = refl; byte = h; good = s q })

  -- an end entry in the making
  pub record Begun (s : Start) : Type 0 where
    pub ent : Held Byte p r b s.ent
    pub lb : (s.lb ≡ infinity) ⊎ Below Far s.lb

  with_begun : (s : Start) (x : Best) (c : ℕ) → Byte c → Begun s → Sure p c r b x → Below Far x.d → Begun (with_base s x c)
  with_begun s x c h f q d = go x.met
    where
      least : (l : Bool) → ((cond l x.d s.lb) ≡ infinity) ⊎ Below Far (cond l x.d s.lb)
      least true = inr d
      least false = f.lb

      go : (m : Bool) → Begun (cond {A = Start} m (record { ent = better s.ent x c; lb = s.lb; loose = s.loose })
          (record { ent = s.ent; lb = cond (lt x.d s.lb) x.d s.lb; loose = true }))
      go true = record { ent = better-held s.ent x c h f.ent q; lb = f.lb }
      go false = record { ent = f.ent; lb = least (lt x.d s.lb) }

  settle-fine : (s : Start) → Begun s → Fine Byte p r b (settle s)
  settle-fine s f = go s.loose (lt s.lb s.ent.value) refl
    where
      bound : (s.lb ≡ infinity) ⊎ Below Far s.lb → lt s.lb s.ent.value ≡ true → Below Far s.lb
      bound (inl e) q =
          absurd (clash (subst (λ (z : Float). lt z s.ent.value ≡ true) e q) (lt_inf s.ent.value f.ent.good.below.fin))
      bound (inr d) q = d

      go : (m l : Bool) → lt s.lb s.ent.value ≡ l
          → Fine Byte p r b (cond (m && l) (record { value = s.lb; exact = false; byte = s.ent.byte; key = s.ent.key }) s.ent)
      go true true q = record { below = bound f.lb q; held = λ w. absurd (clash w refl) }
      go true false q = held-fine f.ent
      go false l q = held-fine f.ent

-- ---- fallbacks: each is a row of its class, so within the bound
abbrev Targets8 : List Float → Type 0
Targets8 ts = (j : ℕ) → j < 8 → Target (get_or ts j nan)

fallback-held : (ts : List Float) → Targets8 ts → (kind p r st : ℕ) → kind < 2 → p < 2 → r < 2 → st < 64
    → Held (EndByte tables kind st) p r (class_of tables r) (fallback tables ts kind p r st)
fallback-held ts T0 kind p r st K0 P0 R0 S0 =
    let c = byte_of kind p r st in
    let key = key_of kind p r st in
    let v = unpack 8 key in
    let m = entry-member kind p r st K0 P0 R0 S0 in
    let e = member_packed kind r st c key R0 m in
    let low = unpack-below 8 key in
    record {
      exact = refl;
      byte = tables_more.fb_byte_lem kind p r st K0 P0 R0 S0;
      good = record {
        is = record {
          sec = record {
            k = λ j. k_at (o_at p c j) (rank_at key j);
            at = λ j h. val_is (o_at p c j) (rank_at key j) (o_lt p c j P0) (tables_more.fb_rank kind p r st j K0 P0 R0 S0 h);
            class = tables_more.fb_class kind p r st K0 P0 R0 S0;
          };
          key-lt = subst (λ (n : ℕ). n < 2 ^ 32) (sym e) (packed_lt v refl low);
          within =
              subst (λ (n : ℕ). holds (class_of tables r) (sum_to (λ j. sq (rank_at n j)) 8) n ≡ true) (sym e)
              (packed_holds v refl low (class_of tables r) (bound_cost r) (bound_cut r) (class_bound r R0) (cut_size r) (cut_below r)
              (member_in kind r st c key R0 m));
        };
        below = wider Far (lit≤ tt) (dist_below (section_at p c key) ts
            (λ j h. lt_of_lt_of_le (val-small (o_at p c j) (rank_at key j) (o_lt p c j P0) (nib-lt key j)) (lit≤ tt)) T0 8 (le_refl 8));
      };
    }

-- ---- an end state
module _ (u : Rule) (U0 : RuleOk u) (ts : List Float) (T0 : (j : ℕ) → j < 8 → Target (get_or ts j nan)) (p : ℕ) (P0 : p < 2) where
  module _ (kind r st : ℕ) (K0 : kind < 2) (R0 : r < 2) (S0 : st < 64) where
    abbrev b : Closed
    b = class_of tables r

    abbrev Byte : ℕ → Type 0
    Byte = EndByte tables kind st

    byte0 : Byte (end_byte tables kind st 0)
    byte0 = (0, lit≤ tt, refl)

    byte1 : Byte (end_byte tables kind st 1)
    byte1 = (1, lit≤ tt, refl)

    b96 : (class_of tables r).cost ≤ 96
    b96 = class-cost tables tables_more r

    solved : (c : ℕ) → Sure p c r b (solve ts p c r b u.ends)
    solved c = solve-good ts p c P0 T0 r R0 b b96 u.ends U0.ends

    based : (c : ℕ) → Sure p c r b (base_best b (base_now (row ts p c 0) r))
    based c h = record { is = base_member ts p c 0 P0 T0 r R0 b b96 h; below = base_below ts p c 0 P0 T0 r }

    first : Held Byte p r b (fallback tables ts kind p r st)
    first = fallback-held ts T0 kind p r st K0 P0 R0 S0

    pub end_held : Held Byte p r b (end_resolve tables u ts kind p r st)
    unfolding end_resolve
    end_held =
        better-held Byte p r b _ _ (end_byte tables kind st 1) byte1
        (better-held Byte p r b _ _ (end_byte tables kind st 0) byte0 first (solved (end_byte tables kind st 0))) (solved (end_byte tables kind st 1))

    pub end_start_lem : Fine Byte p r b (end_start tables ts kind p r st)
    unfolding end_start
    end_start_lem =
        settle-fine Byte p r b _
        (with_begun Byte p r b _ _ (end_byte tables kind st 1) byte1
        (with_begun Byte p r b _ _ (end_byte tables kind st 0) byte0 (record { ent = first; lb = inl refl })
        (based (end_byte tables kind st 0)) (base_below ts p (end_byte tables kind st 0) 0 P0 T0 r))
        (based (end_byte tables kind st 1)) (base_below ts p (end_byte tables kind st 1) 0 P0 T0 r))

  -- ---- the middle
  module _ (c d : ℕ) (D0 : d < 2) where
    abbrev m : Closed
    m = tables.mixed

    abbrev Own : ℕ → Type 0
    Own x = x ≡ c

    mid_of_lem : (x : Best) → Sure p c d m x → x.met ≡ true → Held Own p d m (mid_of x c)
    mid_of_lem x s q = subst (λ (t : Bool).
        Held Own p d m (cond t (entry_of x c) infeasible)) (sym q)
        (record { exact = refl; byte = refl; good = s q })

    pub mid_held : Held Own p d m (mid_resolve tables u ts p c d)
    unfolding mid_resolve
    mid_held = go (solve ts p c d m u.mids).met refl
      where
        go : (t : Bool) → (solve ts p c d m u.mids).met ≡ t
            → Held Own p d m (cond t (mid_of (solve ts p c d m u.mids) c) (mid_of (solve ts p c d m 8) c))
        go true q = mid_of_lem (solve ts p c d m u.mids) (solve-good ts p c P0 T0 d D0 m tables_more.cost_m u.mids U0.mids) q
        go false q = mid_of_lem (solve ts p c d m 8) (solve-good ts p c P0 T0 d D0 m tables_more.cost_m 8 (le_refl 8)) (always_met ts p c P0 T0 d)

    pub mid_start_lem : Fine Own p d m (mid_start tables ts p c d)
    unfolding mid_start
    mid_start_lem = record {
      below = base_below ts p c 0 P0 T0 d;
      held = λ q. record {
        exact = q;
        byte = refl;
        good =
            record { is = base_member ts p c 0 P0 T0 d D0 m tables_more.cost_m q; below = base_below ts p c 0 P0 T0 d };
      };
    }
