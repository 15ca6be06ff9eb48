-- The rows of a section, filled record by record: what holds once the records before i are in, and that one more keeps it so. Assumes nothing.
use mathlib.Core.Path.{◌≡◌, ap, ap₂, sym, ◌∙◌}
use mathlib.Core.Bool.{Bool, false}
use mathlib.Core.List.{List}
use Prim.Native.Nat.{ℕ, ◌+◌, ◌*◌, ◌/◌, ◌%◌, ◌<◌}
use native.Mathlib.Omega.{arith}
use lib.IntN.{pos}
use lib.Signed.{lt_z}
use lib.ListN.{length, get_or, set, length-set}
use lib.Ieee.{Float, nan}
use Rattle.laws.specs.Words.{tab}
use Rattle.laws.specs.Laws.Lists.{filled, filled_more, tab_at}
use Rattle.laws.specs.Words.{mod_z}
use Rattle.search.specs.declared.Coord.{Coord}
use Rattle.search.specs.Record.{coord_at, no_coord}
use Rattle.coord.specs.declared.Rows.{Rows}
use Rattle.coord.specs.Inner.Rows.{coord_in, table_of, regrets_of, dists_of, weights_of, ranks_of, odds_of, ups_of, rows_of}

-- ---- one row: of its n places the first m hold f 0, f 1, ..
pub record Upto (A : Type 0) (d : A) (f : ℕ → A) (n : ℕ) (xs : List A) (m : ℕ) : Type 0 where
  pub long : length xs ≡ n
  pub are : (k : ℕ) → k < m → get_or xs k d ≡ f k

module _ (A : Type 0) (d : A) (f : ℕ → A) (n : ℕ) (xs : List A) where
  more : (m next : ℕ) {v : A} → next ≡ m + 1 → m < n → v ≡ f m → Upto A d f n xs m → Upto A d f n (set xs m v) next
  more m next q h e u =
      record { long = simp length-set u.long; are = λ k l. filled_more A d f xs m _ (omega (arith, u.long)) e u.are k (omega arith) }

  all : {m : ℕ} → m ≡ n → Upto A d f n xs m → xs ≡ tab f n
  all q u = filled A d n f xs u.long (rw q at u.are)

-- ---- the rows of one place a record
abbrev regret_at : List Coord → ℕ → Float
regret_at e k = (coord_at e k).regret

abbrev odd_at : List Coord → ℕ → ℕ
odd_at e k = mod_z (coord_at e k).k0 2

abbrev up_at : List Coord → ℕ → Bool
up_at e k = lt_z (pos 0) (coord_at e k).dir

pub record Ones (e : List Coord) (regret : List Float) (odd : List ℕ) (up : List Bool) (i : ℕ) : Type 0 where
  pub regrets : Upto Float nan (regret_at e) 128 regret i
  pub odds : Upto ℕ 0 (odd_at e) 128 odd i
  pub ups : Upto Bool false (up_at e) 128 up i

module _ (e : List Coord) (regret : List Float) (odd : List ℕ) (up : List Bool) where
  pub ones-more : (i : ℕ) (c : Coord) {o : ℕ} {b : Bool} → i < 128 → c ≡ coord_at e i → o ≡ mod_z c.k0 2 → b ≡ lt_z (pos 0) c.dir
      → Ones e regret odd up i → Ones e (set regret i c.regret) (set odd i o) (set up i b) (i + 1)
  ones-more i c h hc ho hb s =
      let next : i + 1 ≡ i + 1 = omega arith in
      record {
        regrets = more Float nan (regret_at e) 128 regret i (i + 1) next h (ap (λ (x : Coord). x.regret) hc) s.regrets;
        odds = more ℕ 0 (odd_at e) 128 odd i (i + 1) next h (ho ∙ ap (λ (x : Coord). mod_z x.k0 2) hc) s.odds;
        ups = more Bool false (up_at e) 128 up i (i + 1) next h (hb ∙ ap (λ (x : Coord). lt_z (pos 0) x.dir) hc) s.ups;
      }

-- ---- the rows of five places a record
abbrev dist_at : List Coord → ℕ → ℕ → Float
dist_at e a f = get_or (coord_at e a).d f nan

abbrev weight_at : List Coord → ℕ → ℕ → ℕ
weight_at e a f = get_or (coord_at e a).w f 0

abbrev rank_at : List Coord → ℕ → ℕ → ℕ
rank_at e a f = get_or (coord_at e a).rank f 0

abbrev by_five : {A : Type 0} → (ℕ → ℕ → A) → ℕ → A
by_five g k = g (k / 5) (k % 5)

pub record Fives (e : List Coord) (dist : List Float) (weight rank : List ℕ) (m : ℕ) : Type 0 where
  pub dists : Upto Float nan (by_five (dist_at e)) 640 dist m
  pub weights : Upto ℕ 0 (by_five (weight_at e)) 640 weight m
  pub ranks : Upto ℕ 0 (by_five (rank_at e)) 640 rank m

-- slot f of record i
slot_is : (A : Type 0) (g : ℕ → ℕ → A) (i f : ℕ) → f < 5 → g i f ≡ by_five g (5 * i + f)
slot_is A g i f l =
    let q : i ≡ (5 * i + f) / 5 = omega arith in
    let r : f ≡ (5 * i + f) % 5 = omega arith in
    ap₂ g q r

module _ (e : List Coord) (dist : List Float) (weight rank : List ℕ) where
  pub fives-more : (i f : ℕ) (c : Coord) → i < 128 → f < 5 → c ≡ coord_at e i → Fives e dist weight rank (5 * i + f)
      → Fives e (set dist (5 * i + f) (get_or c.d f nan)) (set weight (5 * i + f) (get_or c.w f 0)) (set rank (5 * i + f) (get_or c.rank f 0))
      (5 * i + (f + 1))
  fives-more i f c h l hc s =
      let k = 5 * i + f in
      let next : 5 * i + (f + 1) ≡ k + 1 = omega arith in
      let d = ap (λ (x : Coord). get_or x.d f nan) hc ∙ slot_is Float (dist_at e) i f l in
      let w = ap (λ (x : Coord). get_or x.w f 0) hc ∙ slot_is ℕ (weight_at e) i f l in
      let r = ap (λ (x : Coord). get_or x.rank f 0) hc ∙ slot_is ℕ (rank_at e) i f l in
      record {
        dists = more Float nan (by_five (dist_at e)) 640 dist k (5 * i + (f + 1)) next (omega arith) d s.dists;
        weights = more ℕ 0 (by_five (weight_at e)) 640 weight k (5 * i + (f + 1)) next (omega arith) w s.weights;
        ranks = more ℕ 0 (by_five (rank_at e)) 640 rank k (5 * i + (f + 1)) next (omega arith) r s.ranks;
      }

-- ---- all six, and record i of the table
pub rows_all : (e : List Coord) (regret dist : List Float) (weight rank odd : List ℕ) (up : List Bool) {i : ℕ} → i ≡ 128
    → Ones e regret odd up i → Fives e dist weight rank (5 * i)
    → ◌≡◌ {A = Rows} (record { regret = regret; dist = dist; weight = weight; rank = rank; odd = odd; up = up }) (rows_of e)
unfolding rows_of regrets_of dists_of weights_of ranks_of odds_of ups_of
rows_all e regret dist weight rank odd up {i} q s v =
    let p : 5 * i ≡ 640 = omega arith in
    rw (
      all Float nan (regret_at e) 128 regret q s.regrets,
      all Float nan (by_five (dist_at e)) 640 dist p v.dists,
      all ℕ 0 (by_five (weight_at e)) 640 weight p v.weights,
      all ℕ 0 (by_five (rank_at e)) 640 rank p v.ranks,
      all ℕ 0 (odd_at e) 128 odd q s.odds,
      all Bool false (up_at e) 128 up q s.ups,
    )

pub record_is : (ts : List Float) (p i : ℕ) → i < 128 → coord_in ts p i ≡ coord_at (table_of ts p) i
unfolding table_of
record_is ts p i h = sym (tab_at Coord no_coord (coord_in ts p) 128 i h)
