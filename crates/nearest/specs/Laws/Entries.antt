-- An exact entry is infinite or stands for a section; y's entries are exact and cheap from the start; no step touches an exact entry.
use Rattle.std.specs.Prelude.{◌≡◌, refl, ◌⊎◌, Bool, cond, ◌&&◌, List, [], ◌∷◌, ℕ, zero, suc, ◌^◌, ◌≤◌, ◌<◌, get_or, set, Float}
use Rattle.std.proofs.Common.{sym, ap, ◌∙◌, subst, inl}
use Rattle.std.proofs.Math.Logic.{inr}
use Rattle.std.proofs.Math.Bool.{true, false}
use native.Mathlib.Omega.{arith}
use Rattle.std.specs.Float.Ieee.{lt}
use Rattle.float.specs.Value.{U}
use Rattle.float.specs.Laws.Near.{Near}
use Rattle.search.specs.Tables.{Tables, end_byte, class_of}
use Rattle.search.specs.Entries.{Rule, Start, section_at, infeasible, fallback, better, end_resolve, mid_of, mid_resolve}
use Rattle.search.specs.Entries.{with_base, settle, end_start, mid_start}
use Rattle.search.specs.Parity.{fixed, closed}
use Rattle.search.specs.declared.Entry.{Entry}
use Rattle.search.specs.Join.{no_entry, ent_at}
use Rattle.search.specs.declared.Best.{Best}
use Rattle.search.specs.Solve.{infinity, solve}
use Rattle.search.specs.Base.{base_best, base_now}
use Rattle.search.specs.Record.{row}
use Rattle.nearest.specs.Laws.Lattice.{Sec, dist8}
use Rattle.nearest.specs.Laws.Under.{Num, Under, clash, under-lt, under_not-lt}

-- the error of a section's value, and the room for it
abbrev pub ES : ℕ
ES = 2 ^ 2119

abbrev pub Room : ℕ
Room = 2 ^ 2167

-- the value d of the row key
pub record Stands (p c r : ℕ) (ts : List Float) (key : ℕ) (d : Float) : Type 0 where
  pub sec : Sec p c r (section_at p c key)
  pub near : Near U d (dist8 (section_at p c key) ts) 0 ES
  pub room : dist8 (section_at p c key) ts ≤ Room

abbrev pub SoundB : ℕ → ℕ → ℕ → List Float → Best → Type 0
SoundB p c r ts b = b.met ≡ true → Stands p c r ts b.key b.d

pub record Good (P : ℕ → Type 0) (p r : ℕ) (ts : List Float) (e : Entry) : Type 0 where
  pub byte : P e.byte
  pub stands : Stands p e.byte r ts e.key e.value

abbrev pub Final : (ℕ → Type 0) → ℕ → ℕ → List Float → Entry → Type 0
Final P p r ts e = (e.value ≡ infinity) ⊎ Good P p r ts e

abbrev pub Sound : (ℕ → Type 0) → ℕ → ℕ → List Float → Entry → Type 0
Sound P p r ts e = e.exact ≡ true → Final P p r ts e

-- y's: exact, and at most B
pub record Mine (e : Entry) (B : ℕ) : Type 0 where
  pub exact : e.exact ≡ true
  pub under : Under e.value B

-- ---- what the old entry and the one put in its place both have, the answer has
-- the entry of a member that was met
abbrev pub entry_of : Best → ℕ → Entry
entry_of b c = record { value = b.d; exact = true; byte = c; key = b.key }

module _ (Q : Entry → Type 0) where
  pub better-keeps : (e : Entry) (b : Best) (c : ℕ) → Q e → (b.met ≡ true → Q (entry_of b c)) → Q (better e b c)
  better-keeps e b c f s = go b.met (lt b.d e.value) s
    where
      go : (m l : Bool) → (m ≡ true → Q (entry_of b c)) → Q (cond (m && l) (entry_of b c) e)
      go true true s = s refl
      go true false s = f
      go false l s = f

  with_keeps : (s : Start) (b : Best) (c : ℕ) → Q s.ent → (b.met ≡ true → Q (entry_of b c)) → Q (with_base s b c).ent
  with_keeps s b c f q = go b.met
    where
      go : (m : Bool) → Q (cond {A = Start} m (record { ent = better s.ent b c; lb = s.lb; loose = s.loose })
          (record { ent = s.ent; lb = cond (lt b.d s.lb) b.d s.lb; loose = true })).ent
      go true = better-keeps s.ent b c f q
      go false = f

  pub closed-keeps : (e : Entry) (b : Bool) (new : Entry) → (e.exact ≡ true → Q e) → Q new → Q infeasible → Q (closed e b new)
  closed-keeps e b new s f n = go e.exact s
    where
      at : (b : Bool) → Q (cond b new infeasible)
      at true = f
      at false = n

      go : (m : Bool) → (m ≡ true → Q e) → Q (cond m e (cond b new infeasible))
      go true k = k refl
      go false k = at b

-- ---- an exact entry is infinite or stands for a section, whatever is asked of its byte
module _ (P : ℕ → Type 0) (p r : ℕ) (ts : List Float) where
  better_final : (e : Entry) (b : Best) (c : ℕ) → P c → Final P p r ts e → SoundB p c r ts b → Final P p r ts (better e b c)
  better_final e b c h f s = better-keeps (Final P p r ts) e b c f (λ q. inr (record { byte = h; stands = s q }))

  with_final : (s : Start) (b : Best) (c : ℕ) → P c → Final P p r ts s.ent → SoundB p c r ts b → Final P p r ts (with_base s b c).ent
  with_final s b c h f i = with_keeps (Final P p r ts) s b c f (λ q. inr (record { byte = h; stands = i q }))

  settle_sound : (s : Start) → Final P p r ts s.ent → Sound P p r ts (settle s)
  settle_sound s f = go (s.loose && (lt s.lb s.ent.value))
    where
      go : (m : Bool) → Sound P p r ts (cond m (record { value = s.lb; exact = false; byte = s.ent.byte; key = s.ent.key }) s.ent)
      go true q = absurd (clash q refl)
      go false q = f

  pub closed_final : (e : Entry) (b : Bool) (new : Entry) → Sound P p r ts e → Final P p r ts new → Final P p r ts (closed e b new)
  closed_final e b new s f = closed-keeps (Final P p r ts) e b new s f (inl refl)

pub closed-mine : (e : Entry) (b : Bool) (new : Entry) {B : ℕ} → Mine e B → Mine (closed e b new) B
closed-mine e b new {B} m = subst (λ (x : Bool). Mine (cond x e (cond b new infeasible)) B) (sym m.exact) m

-- ---- an end state
abbrev pub EndByte : Tables → ℕ → ℕ → ℕ → Type 0
EndByte g kind st c = (b : ℕ) × (b < 2) × (c ≡ end_byte g kind st b)

pub record EndFacts (g : Tables) (u : Rule) (ts : List Float) (kind p : ℕ) : Type 0 where
  pub fb : (r st : ℕ) → r < 2 → st < 64 → Good (EndByte g kind st) p r ts (fallback g ts kind p r st)
  pub sol : (c r : ℕ) → r < 2 → SoundB p c r ts (solve ts p c r (class_of g r) u.ends)
  pub bas : (c r : ℕ) → r < 2 → SoundB p c r ts (base_best (class_of g r) (base_now (row ts p c 0) r))

pub record MidFacts (g : Tables) (u : Rule) (ts : List Float) (p : ℕ) : Type 0 where
  pub mids : u.mids ≤ 8
  pub sol : (c d n : ℕ) → d < 2 → n ≤ 8 → SoundB p c d ts (solve ts p c d g.mixed n)
  pub bas : (c d : ℕ) → d < 2 → SoundB p c d ts (base_best g.mixed (base_now (row ts p c 0) d))

module _ (g : Tables) (u : Rule) (ts : List Float) (kind p : ℕ) (F : EndFacts g u ts kind p) (r st : ℕ) (R0 : r < 2) (S0 : st < 64) where
  pub resolve_final : Final (EndByte g kind st) p r ts (end_resolve g u ts kind p r st)
  unfolding end_resolve
  resolve_final =
      better_final (EndByte g kind st) p r ts
      (better (fallback g ts kind p r st) (solve ts p (end_byte g kind st 0) r (class_of g r) u.ends) (end_byte g kind st 0))
      (solve ts p (end_byte g kind st 1) r (class_of g r) u.ends) (end_byte g kind st 1) (1, omega arith, refl)
      (better_final (EndByte g kind st) p r ts (fallback g ts kind p r st) (solve ts p (end_byte g kind st 0) r (class_of g r) u.ends)
      (end_byte g kind st 0) (0, omega arith, refl)
      (inr (F.fb r st R0 S0)) (F.sol (end_byte g kind st 0) r R0))
      (F.sol (end_byte g kind st 1) r R0)

  abbrev base0 : Best
  base0 = base_best (class_of g r) (base_now (row ts p (end_byte g kind st 0) 0) r)

  abbrev base1 : Best
  base1 = base_best (class_of g r) (base_now (row ts p (end_byte g kind st 1) 0) r)

  abbrev st0 : Start
  st0 = record { ent = fallback g ts kind p r st; lb = infinity; loose = false }

  abbrev st1 : Start
  st1 = with_base st0 base0 (end_byte g kind st 0)

  abbrev st2 : Start
  st2 = with_base st1 base1 (end_byte g kind st 1)

  final1 : Final (EndByte g kind st) p r ts st1.ent
  final1 = with_final (EndByte g kind st) p r ts st0 base0 (end_byte g kind st 0) (0, omega arith, refl) (inr (F.fb r st R0 S0))
      (F.bas (end_byte g kind st 0) r R0)

  pub start_sound : Sound (EndByte g kind st) p r ts (end_start g ts kind p r st)
  unfolding end_start
  start_sound = settle_sound (EndByte g kind st) p r ts st2
      (with_final (EndByte g kind st) p r ts st1 base1 (end_byte g kind st 1) (1, omega arith, refl) final1 (F.bas (end_byte g kind st 1) r R0))

-- ---- the start at an end: two bases, each of which is a member if it is cheap, and one of which is cheap
pub record Open (s : Start) (B : ℕ) : Type 0 where
  pub exact : s.ent.exact ≡ true
  pub num : Num s.ent.value
  pub lb_num : Num s.lb
  pub high : Under s.lb B → ⊥

better_exact : (e : Entry) (b : Best) (c : ℕ) → e.exact ≡ true → (better e b c).exact ≡ true
better_exact e b c h = better-keeps (λ e. e.exact ≡ true) e b c h (λ q. refl)

better_num : (e : Entry) (b : Best) (c : ℕ) → Num e.value → Num b.d → Num (better e b c).value
better_num e b c h k = better-keeps (λ e. Num e.value) e b c h (λ q. k)

-- a cheap value stays cheap; a cheap member makes it cheap
better_old : (e : Entry) (b : Best) (c : ℕ) {B : ℕ} → Under e.value B → Num b.d → Under (better e b c).value B
better_old e b c {B} u n = go b.met (lt b.d e.value) refl
  where
    go : (m l : Bool) → lt b.d e.value ≡ l → Under (cond (m && l) (entry_of b c) e).value B
    go true true q = under-lt b.d e.value n u q
    go true false q = u
    go false l q = u

better_new : (e : Entry) (b : Best) (c : ℕ) {B : ℕ} → Num e.value → b.met ≡ true → Under b.d B → Under (better e b c).value B
better_new e b c {B} n m u =
    subst (λ (x : Bool). Under (cond (x && lt b.d e.value) (entry_of b c) e).value B) (sym m) (go (lt b.d e.value) refl)
  where
    go : (l : Bool) → lt b.d e.value ≡ l → Under (cond l (entry_of b c) e).value B
    go true q = u
    go false q = under_not-lt b.d e.value u n q

open_base : (s : Start) (b : Best) (c : ℕ) {B : ℕ} → Open s B → Num b.d → (Under b.d B → b.met ≡ true) → Open (with_base s b c) B
open_base s b c {B} o n k = go b.met k
  where
    go : (m : Bool) → (Under b.d B → m ≡ true)
        → Open (cond m (record { ent = better s.ent b c; lb = s.lb; loose = s.loose })
        (record { ent = s.ent; lb = cond (lt b.d s.lb) b.d s.lb; loose = true })) B
    go true k = record { exact = better_exact s.ent b c o.exact; num = better_num s.ent b c o.num n; lb_num = o.lb_num; high = o.high }
    go false k = record { exact = o.exact; num = o.num; lb_num = at (lt b.d s.lb); high = hi (lt b.d s.lb) }
      where
        at : (l : Bool) → Num (cond l b.d s.lb)
        at true = n
        at false = o.lb_num

        hi : (l : Bool) → Under (cond l b.d s.lb) B → ⊥
        hi true u = clash (k u) refl
        hi false u = o.high u

cheap_old : (s : Start) (b : Best) (c : ℕ) {B : ℕ} → Under s.ent.value B → Num b.d → Under (with_base s b c).ent.value B
cheap_old s b c {B} u n = go b.met
  where
    go : (m : Bool) → Under (cond {A = Start} m (record { ent = better s.ent b c; lb = s.lb; loose = s.loose })
        (record { ent = s.ent; lb = cond (lt b.d s.lb) b.d s.lb; loose = true })).ent.value B
    go true = better_old s.ent b c u n
    go false = u

cheap_new : (s : Start) (b : Best) (c : ℕ) {B : ℕ} → Num s.ent.value → b.met ≡ true → Under b.d B → Under (with_base s b c).ent.value B
cheap_new s b c {B} n m u = subst
    (λ (x : Bool). Under (cond {A = Start} x (record { ent = better s.ent b c; lb = s.lb; loose = s.loose })
    (record { ent = s.ent; lb = cond (lt b.d s.lb) b.d s.lb; loose = true })).ent.value B) (sym m)
    (better_new s.ent b c n m u)

settle-mine : (s : Start) {B : ℕ} → Open s B → Under s.ent.value B → Mine (settle s) B
settle-mine s {B} o u = go s.loose (lt s.lb s.ent.value) refl
  where
    go : (m l : Bool) → lt s.lb s.ent.value ≡ l
        → Mine (cond (m && l) (record { value = s.lb; exact = false; byte = s.ent.byte; key = s.ent.key }) s.ent) B
    go true true q = absurd (o.high (under-lt s.lb s.ent.value o.lb_num u q))
    go true false q = record { exact = o.exact; under = u }
    go false l q = record { exact = o.exact; under = u }

-- the base of byte b of an end state
abbrev pub base_at : Tables → List Float → ℕ → ℕ → ℕ → ℕ → ℕ → Best
base_at g ts kind p r st b = base_best (class_of g r) (base_now (row ts p (end_byte g kind st b) 0) r)

abbrev start_at : Tables → List Float → ℕ → ℕ → ℕ → ℕ → Start
start_at g ts kind p r st = record { ent = fallback g ts kind p r st; lb = infinity; loose = false }

module _ (g : Tables) (ts : List Float) (kind p r st : ℕ) (B : ℕ) (f : Num (fallback g ts kind p r st).value)
    (n : (a : ℕ) → a < 2 → Num (base_at g ts kind p r st a).d)
    (k : (a : ℕ) → a < 2 → Under (base_at g ts kind p r st a).d B → (base_at g ts kind p r st a).met ≡ true) where
  abbrev one : Start
  one = with_base (start_at g ts kind p r st) (base_at g ts kind p r st 0) (end_byte g kind st 0)

  o0 : Open (start_at g ts kind p r st) B
  o0 = record { exact = refl; num = f; lb_num = inl refl; high = λ (x : Under infinity B). x.fin }

  o1 : Open one B
  o1 = open_base (start_at g ts kind p r st) (base_at g ts kind p r st 0) (end_byte g kind st 0) o0 (n 0 (omega arith)) (k 0 (omega arith))

  cheap : (b : ℕ) → b < 2 → Under (base_at g ts kind p r st b).d B
      → Under (with_base one (base_at g ts kind p r st 1) (end_byte g kind st 1)).ent.value B
  cheap zero h u = cheap_old one (base_at g ts kind p r st 1) (end_byte g kind st 1)
      (cheap_new (start_at g ts kind p r st) (base_at g ts kind p r st 0) (end_byte g kind st 0) f (k 0 h u) u) (n 1 (omega arith))
  cheap (suc zero) h u = cheap_new one (base_at g ts kind p r st 1) (end_byte g kind st 1) o1.num (k 1 h u) u
  cheap (suc (suc b)) h u = absurd (omega arith)

  -- y's entry at an end starts exact and cheap
  pub start-mine : (b : ℕ) → b < 2 → Under (base_at g ts kind p r st b).d B → Mine (end_start g ts kind p r st) B
  unfolding end_start
  start-mine b h u = settle-mine (with_base one (base_at g ts kind p r st 1) (end_byte g kind st 1))
      (open_base one (base_at g ts kind p r st 1) (end_byte g kind st 1) o1 (n 1 (omega arith)) (k 1 (omega arith))) (cheap b h u)

-- ---- the middle
module _ (g : Tables) (u : Rule) (ts : List Float) (p : ℕ) (F : MidFacts g u ts p) (c d : ℕ) (D0 : d < 2) where
  abbrev Byte : ℕ → Type 0
  Byte x = x ≡ c

  mid_final : (b : Best) → SoundB p c d ts b → Final Byte p d ts (mid_of b c)
  mid_final b s = go b.met s
    where
      go : (m : Bool) → (m ≡ true → Stands p c d ts b.key b.d) → Final Byte p d ts (cond m (entry_of b c) infeasible)
      go true k = inr (record { byte = refl; stands = k refl })
      go false k = inl refl

  pub mid_resolve_final : Final Byte p d ts (mid_resolve g u ts p c d)
  unfolding mid_resolve
  mid_resolve_final = go (solve ts p c d g.mixed u.mids).met
    where
      go : (m : Bool) → Final Byte p d ts (cond m (mid_of (solve ts p c d g.mixed u.mids) c) (mid_of (solve ts p c d g.mixed 8) c))
      go true = mid_final (solve ts p c d g.mixed u.mids) (F.sol c d u.mids D0 F.mids)
      go false = mid_final (solve ts p c d g.mixed 8) (F.sol c d 8 D0 (omega arith))

  pub mid_start_sound : Sound Byte p d ts (mid_start g ts p c d)
  unfolding mid_start
  mid_start_sound q = inr (record { byte = refl; stands = F.bas c d D0 q })

-- ---- a list with one entry put in
pub set_either : {A : Type 0} (l : List A) (i j : ℕ) (a d : A) → ((i ≡ j) × (get_or (set l i a) j d ≡ a)) ⊎ (get_or (set l i a) j d ≡ get_or l j d)
set_either [] i j a d = inr refl
set_either (x ∷ l) zero zero a d = inl (refl, refl)
set_either (x ∷ l) zero (suc j) a d = inr refl
set_either (x ∷ l) (suc i) zero a d = inr refl
set_either (x ∷ l) (suc i) (suc j) a d = go (set_either l i j a d)
  where
    go : ((i ≡ j) × (get_or (set l i a) j d ≡ a)) ⊎ (get_or (set l i a) j d ≡ get_or l j d) → ((suc i ≡ suc j) × (get_or (set l i a) j d ≡ a))
        ⊎ (get_or (set l i a) j d ≡ get_or l j d)
    go (inl h) = inl (ap suc h.0, h.1)
    go (inr h) = inr h

-- what holds at each index is kept, if the new entry has it at its own
pub fixed-keeps : (Q : ℕ → Entry → Type 0) (e : List Entry) (i : ℕ) (new : Entry) (j : ℕ) → (i ≡ j → Q j new) → Q j (ent_at e j)
    → Q j (ent_at (fixed e i new) j)
fixed-keeps Q e i new j h q = go (ent_at e i).exact
  where
    go : (m : Bool) → Q j (get_or (cond m e (set e i new)) j no_entry)
    go true = q
    go false = at (set_either e i j new no_entry)
      where
        at : ((i ≡ j) × (get_or (set e i new) j no_entry ≡ new)) ⊎ (get_or (set e i new) j no_entry ≡ get_or e j no_entry) → Q j (get_or (set e i new) j no_entry)
        at (inl k) = subst (Q j) (sym k.1) (h k.0)
        at (inr k) = subst (Q j) (sym k) q

-- an exact entry stays
pub fixed-mine : (e : List Entry) (i : ℕ) (new : Entry) (j : ℕ) {B : ℕ} → Mine (ent_at e j) B → Mine (ent_at (fixed e i new) j) B
fixed-mine e i new j {B} m = go (ent_at e i).exact refl
  where
    go : (x : Bool) → (ent_at e i).exact ≡ x → Mine (get_or (cond x e (set e i new)) j no_entry) B
    go true q = m
    go false q = at (set_either e i j new no_entry)
      where
        at : ((i ≡ j) × (get_or (set e i new) j no_entry ≡ new)) ⊎ (get_or (set e i new) j no_entry ≡ get_or e j no_entry)
            → Mine (get_or (set e i new) j no_entry) B
        at (inl k) = absurd (clash (ap (λ (x : ℕ). (ent_at e x).exact) k.0 ∙ m.exact) q)
        at (inr k) = subst (λ (x : Entry). Mine x B) (sym k) m
