-- What the conditions of the ladder say, as facts about numbers, and back. Assumes nothing.
use Prim.Native.Nat.{ℕ, ◌+◌, ◌<◌, ◌≤◌}
use native.Mathlib.Omega.{arith}
use mathlib.Core.Path.{◌≡◌, refl, sym, ◌∙◌}
use mathlib.Core.Logic.{◌⊎◌, inl, inr, ◌≢◌}
use mathlib.Core.Bool.{Bool, true, false, not, ◌&&◌, false≢true}
use mathlib.Core.List.{List}
use lib.Dec.{ltb, leb, eqb}
use lib.ListN.{length, get_or}
use borrow.Author.Tests.{ltb-true, ltb-false, leb-false, eqb-true, eqb-false, not-false, lt-ltb, le-ltb, lt-leb, eq-eqb, ne_eqb}
use Rattle.geometry.specs.declared.Settings.{Settings}
use Rattle.conditions.specs.Conditions.{ranges_hold, limit_holds, lengths_hold}
use Rattle.geometry.specs.Entry.{empty}
use Rattle.basics.proofs.Cases.{split}
use Rattle.conditions.proofs.Facts.{Ranges, ranges_facts}
use Rattle.basics.specs.Portions.{portion}
use Rattle.banks.specs.Banks.{bank_of}
use Rattle.banks.proofs.Banks.{bank_in}
use Rattle.basics.proofs.Tests.{and_left, and_right, or_left, or_right}
use Rattle.basics.proofs.Below.{none_below, fails_below}
use Rattle.scan.specs.Scan.{some}
use Rattle.scan.proofs.Scans.{some_none}
use Rattle.engine.specs.declared.Asked.{Asked}
use Rattle.engine.specs.State.{Tables, State, Tracker, lengths_of, tracker_of, tracker_at, ring_of, forward_of, reverse_of}
use Rattle.engine.specs.Steps.{place, moves, destination, rise}
use Rattle.engine.specs.Ladder.{stops, ◌▹◌, settings_number, fit_number, ring_unsound, tracker_unsound, trackers_unsound, control_unsound, control_number}
use Rattle.engine.specs.Ladder.{look_asked, points_back, row_unsound, destination_unsound, row_number, set_up_number, tick_number, inspect_number, access_number}
use Rattle.engine.proofs.Rungs.{pass, unmet, passes, goes_by, halts, goes_on, applies, reach, only, past, stops_all, ladder_all, either}

-- a row of the table whose condition is that a test fails
pub fails_not : {test : Bool} → test ≡ true → not test ≡ false
fails_not e = rw e

-- ---- 1 to 4

-- past 1, 2 and 3
pub record Fit (S : Settings) (σ : State) : Type 0 where
  pub ranges : ranges_hold S ≡ true
  pub limit : limit_holds S ≡ true
  pub lengths : lengths_hold S (lengths_of σ) ≡ true

pub settings_facts : (S : Settings) → settings_number S ≡ 0 → (ranges_hold S ≡ true) × (limit_holds S ≡ true)
unfolding settings_number
settings_facts S h = let p = pass _ _ h in (not-false (ranges_hold S) (unmet _ _ p.0), not-false (limit_holds S) (unmet _ _ p.1))

pub settings_pass : (S : Settings) → ranges_hold S ≡ true → limit_holds S ≡ true → settings_number S ≡ 0
unfolding settings_number
settings_pass S r l = passes (goes_by 1 (fails_not r)) (goes_by 2 (fails_not l))

pub fit : (S : Settings) (σ : State) → set_up_number S σ ≡ 0 → Fit S σ
unfolding fit_number
fit S σ h =
    let p = pass _ _ h in
    let s = settings_facts S p.0 in
    record { ranges = s.0; limit = s.1; lengths = not-false (lengths_hold S (lengths_of σ)) (unmet _ _ p.1) }

pub fit_passes : (S : Settings) (σ : State) → Fit S σ → set_up_number S σ ≡ 0
unfolding fit_number
fit_passes S σ f = passes (settings_pass S f.ranges f.limit) (goes_by 3 (fails_not f.lengths))

-- past 1 to 4
pub tick_facts : (S : Settings) (σ : State) → tick_number S σ ≡ 0 → Fit S σ × (control_unsound S σ.control σ.counts ≡ false)
unfolding control_number
tick_facts S σ h = let p = pass _ _ h in (fit S σ p.0, unmet _ _ p.1)

pub tick_passes : (S : Settings) (σ : State) → Fit S σ → control_unsound S σ.control σ.counts ≡ false → tick_number S σ ≡ 0
unfolding control_number
tick_passes S σ f c = passes (fit_passes S σ f) (goes_by 4 c)

-- what 4 asks of a bank's tracker
pub record Trusted (S : Settings) (t : Tracker) : Type 0 where
  pub acts_in : t.acts ≤ S.l
  pub spill_in : t.spill ≤ t.acts
  pub spill_below : t.spill < S.a
  pub none_above : some (λ count. ltb t.acts count) t.counts ≡ false

-- what it asks of the whole
pub record Steady (S : Settings) (σ : State) : Type 0 where
  pub head_in : σ.control.head < S.q
  pub passed_in : σ.control.passed ≤ S.q
  pub banks : (c : ℕ) → c < S.b → Trusted S (tracker_of S σ c)

trusted : (S : Settings) (t : Tracker) → tracker_unsound S t.spill t.acts t.counts ≡ false → Trusted S t
unfolding tracker_unsound
trusted S t h =
    record {
      acts_in = ltb-false S.l t.acts (search (or_left, or_right) depth 8);
      spill_in = ltb-false t.acts t.spill (search (or_left, or_right) depth 8);
      spill_below = leb-false S.a t.spill (search (or_left, or_right) depth 8);
      none_above = search (or_left, or_right) depth 8;
    }

trusted_passes : (S : Settings) (t : Tracker) → Trusted S t → tracker_unsound S t.spill t.acts t.counts ≡ false
unfolding tracker_unsound
trusted_passes S t w =
    rw (le-ltb S.l t.acts w.acts_in, le-ltb t.acts t.spill w.spill_in, lt-leb S.a t.spill w.spill_below, w.none_above)

-- a bank whose counts are at most its accesses
pub none_above_all : (acts : ℕ) (counts : List ℕ) → ((i : ℕ) → i < length counts → get_or counts i 0 ≤ acts) → some (λ count. ltb acts count) counts ≡ false
none_above_all acts counts most = some_none (λ count. ltb acts count) counts (λ i b. le-ltb acts (get_or counts i 0) (most i b))

pub steady : (S : Settings) (σ : State) → control_unsound S σ.control σ.counts ≡ false → Steady S σ
unfolding control_unsound ring_unsound trackers_unsound
steady S σ h =
    let ring = or_left (ring_unsound S (ring_of σ.control)) (trackers_unsound S σ.control.spill σ.control.acts σ.counts) h in
    let banks = or_right (ring_unsound S (ring_of σ.control)) (trackers_unsound S σ.control.spill σ.control.acts σ.counts) h in
    record {
      head_in = leb-false S.q σ.control.head (or_left _ (ltb S.q σ.control.passed) ring);
      passed_in = ltb-false S.q σ.control.passed (or_right (leb S.q σ.control.head) _ ring);
      banks = λ c b. trusted S (tracker_of S σ c) (fails_below _ S.b c banks b);
    }

pub steady_passes : (S : Settings) (σ : State) → Steady S σ → control_unsound S σ.control σ.counts ≡ false
unfolding control_unsound ring_unsound trackers_unsound
steady_passes S σ s =
    rw (
      lt-leb S.q σ.control.head s.head_in,
      le-ltb S.q σ.control.passed s.passed_in,
      none_below (λ c. tracker_unsound S (get_or σ.control.spill c 0) (get_or σ.control.acts c 0) (portion S.k c σ.counts)) S.b
          (λ c b. trusted_passes S (tracker_of S σ c) (s.banks c b)),
    )

-- ---- the two rows with 7

module _ (S : Settings) (σ : State) where
  -- row r's pointers are sound, and slot d's are
  abbrev pub RowSound : ℕ → Type 0
  RowSound r = (forward_of σ r ≡ empty) ⊎ ((forward_of σ r < S.q) × (reverse_of σ (forward_of σ r) ≡ r))

  abbrev pub SlotSound : ℕ → Type 0
  SlotSound d = (reverse_of σ d ≡ empty) ⊎ ((reverse_of σ d < S.n) × (forward_of σ (reverse_of σ d) ≡ d))

pub points-back : (e m : ℕ) (other : List ℕ) (x : ℕ) → points_back e m other x ≡ true → (e ≡ empty) ⊎ ((e < m) × (get_or other e empty ≡ x))
unfolding points_back
points-back e m other x h =
    let b : ℕ = get_or other e empty in
    elim (either (eqb e empty) (ltb e m && eqb b x) h) [
      | inl k ↦ inl (eqb-true e empty k)
      | inr k ↦ inr (ltb-true e m (and_left (ltb e m) (eqb b x) k), eqb-true b x (and_right (ltb e m) (eqb b x) k))
    ]

pub points_back-holds : (e m : ℕ) (other : List ℕ) (x : ℕ) → (e ≡ empty) ⊎ ((e < m) × (get_or other e empty ≡ x)) → points_back e m other x ≡ true
unfolding points_back
points_back-holds e m other x h =
    elim (split (eqb e empty)) [
      | inl k ↦ rw k
      | inr k ↦ elim h [
        | inl z ↦ absurd (eqb-false e empty k z)
        | inr c ↦ rw (k, lt-ltb e m c.0, eq-eqb (get_or other e empty) x c.1)
      ]
    ]

pub row_sound : (S : Settings) (σ : State) (r : ℕ) → row_unsound S σ.tables r ≡ false → RowSound S σ r
unfolding row_unsound
row_sound S σ r h =
    points-back (forward_of σ r) S.q σ.tables.reverse r (not-false (points_back (forward_of σ r) S.q σ.tables.reverse r) h)

pub row-holds : (S : Settings) (σ : State) (r : ℕ) → RowSound S σ r → row_unsound S σ.tables r ≡ false
unfolding row_unsound
row-holds S σ r h = fails_not (points_back-holds (forward_of σ r) S.q σ.tables.reverse r h)

pub slot_sound : (S : Settings) (σ : State) (d : ℕ) → destination_unsound S σ.tables d ≡ false → SlotSound S σ d
unfolding destination_unsound
slot_sound S σ d h =
    points-back (reverse_of σ d) S.n σ.tables.forward d (not-false (points_back (reverse_of σ d) S.n σ.tables.forward d) h)

pub slot-holds : (S : Settings) (σ : State) (d : ℕ) → SlotSound S σ d → destination_unsound S σ.tables d ≡ false
unfolding destination_unsound
slot-holds S σ d h = fails_not (points_back-holds (reverse_of σ d) S.n σ.tables.forward d h)

-- the place of a row with sound pointers is a row of the store
pub place_below : (S : Settings) (σ : State) (r : ℕ) → Ranges S → r < S.n → row_unsound S σ.tables r ≡ false → place S σ r < S.n + S.q
place_below S σ r R row_in h =
    elim (row_sound S σ r h) [
      | inl e ↦ rw (eq-eqb (forward_of σ r) empty e) (omega arith)
      | inr c ↦ rw (ne_eqb (forward_of σ r) empty (λ e. omega (arith, c.0, R.q_high))) (omega (arith, c.0))
    ]

-- ---- what holds of every number that the rows can give

pub fit_all : (P : ℕ → Type 0) → P 0 → P 1 → P 2 → P 3 → (S : Settings) (σ : State) → P (set_up_number S σ)
unfolding fit_number settings_number
fit_all P p0 p1 p2 p3 S σ =
    ladder_all P _ _
    (ladder_all P _ _ (stops_all P _ 1 p0 (λ e. p1)) (λ e. stops_all P _ 2 p0 (λ e. p2)))
    (λ e. stops_all P _ 3 p0 (λ e. p3))

pub tick_all : (P : ℕ → Type 0) → P 0 → P 1 → P 2 → P 3 → P 4 → (S : Settings) (σ : State) → P (tick_number S σ)
unfolding control_number
tick_all P p0 p1 p2 p3 p4 S σ = ladder_all P _ _ (fit_all P p0 p1 p2 p3 S σ) (λ e. stops_all P _ 4 p0 (λ e. p4))

-- where a row with 6 or 7 can apply at all
pub row_all : (P : ℕ → Type 0) → P 0 → P 5 → (S : Settings) (tables : Tables) (a : Asked) → (a.off ≡ true → P 6)
    → (a.row < S.n → row_unsound S tables a.row ≡ true → P 7) → P (row_number S tables a)
unfolding row_number
row_all P p0 p5 S tables a p6 p7 =
    ladder_all P _ _ (stops_all P _ 5 p0 (λ e. p5)) (λ row.
    ladder_all P _ _ (stops_all P _ 6 p0 p6) (λ f.
    stops_all P _ 7 p0 (λ e. p7 (leb-false S.n a.row (unmet _ _ row)) e)))

-- an access, by what holds of 1 to 4 and of 5 to 7; where the destination's 7 can apply at all
pub rows_all : (P : ℕ → Type 0) → P 0 → P 8 → P 9 → (S : Settings) (σ : State) (a : Asked) → P (tick_number S σ) → P (row_number S σ.tables a)
    → (moves S σ a.row ≡ true → destination_unsound S σ.tables (destination S σ a.row) ≡ true → P 7) → P (access_number S σ a)
unfolding access_number
rows_all P p0 p8 p9 S σ a first row p7 =
    let due : Bool = moves S σ a.row in
    let unsound : Bool = destination_unsound S σ.tables (destination S σ a.row) in
    ladder_all P _ _ first (λ e.
    ladder_all P _ _ row (λ e.
    ladder_all P _ _ (stops_all P _ 8 p0 (λ e. p8)) (λ e.
    ladder_all P _ _ (stops_all P _ 9 p0 (λ e. p9)) (λ e.
    stops_all P _ 7 p0 (λ f. p7 (and_left due unsound f) (and_right due unsound f))))))

pub access_all : (P : ℕ → Type 0) → P 0 → P 1 → P 2 → P 3 → P 4 → P 5 → P 6 → P 7 → P 8 → P 9 → (S : Settings) (σ : State) (a : Asked) → P (access_number S σ a)
access_all P p0 p1 p2 p3 p4 p5 p6 p7 p8 p9 S σ a =
    rows_all P p0 p8 p9 S σ a (tick_all P p0 p1 p2 p3 p4 S σ) (row_all P p0 p5 S σ.tables a (λ e. p6) (λ b e. p7)) (λ d e. p7)

pub inspect_all : (P : ℕ → Type 0) → P 0 → P 1 → P 2 → P 3 → P 4 → P 5 → P 7 → (S : Settings) (σ : State) (r : ℕ) → P (inspect_number S σ r)
unfolding inspect_number
inspect_all P p0 p1 p2 p3 p4 p5 p7 S σ r =
    ladder_all P _ _ (tick_all P p0 p1 p2 p3 p4 S σ) (λ e.
    row_all P p0 p5 S σ.tables (look_asked r) (λ e. absurd (false≢true e)) (λ b e. p7))

-- neither a tick nor an inspect is refused with 9
pub tick_not_9 : (S : Settings) (σ : State) → tick_number S σ ≢ 9
tick_not_9 S σ = tick_all (λ x. x ≢ 9) (λ z. omega arith) (λ z. omega arith) (λ z. omega arith) (λ z. omega arith) (λ z. omega arith) S σ

pub inspect_not_9 : (S : Settings) (σ : State) (r : ℕ) → inspect_number S σ r ≢ 9
inspect_not_9 S σ r = inspect_all (λ x. x ≢ 9) (λ z. omega arith) (λ z. omega arith) (λ z. omega arith) (λ z. omega arith) (λ z. omega arith) (λ z. omega arith) (λ z. omega arith) S σ r

-- ---- 5, 6 and 7

pub row_facts : (S : Settings) (tables : Tables) (a : Asked) → row_number S tables a ≡ 0
    → (a.row < S.n) × (a.off ≡ false) × (row_unsound S tables a.row ≡ false)
unfolding row_number
row_facts S tables a h =
    let p5 = pass _ _ h in
    let p6 = pass _ _ p5.1 in
    (leb-false S.n a.row (unmet _ _ p5.0), unmet _ _ p6.0, unmet _ _ p6.1)

pub row_passes : (S : Settings) (tables : Tables) (a : Asked) → a.row < S.n → a.off ≡ false
    → row_unsound S tables a.row ≡ false → row_number S tables a ≡ 0
unfolding row_number
row_passes S tables a row_in span_in sound =
    passes (goes_by 5 (lt-leb S.n a.row row_in)) (passes (goes_by 6 span_in) (goes_by 7 sound))

-- ---- an inspect of row r

pub inspect_facts : (S : Settings) (σ : State) (r : ℕ) → inspect_number S σ r ≡ 0
    → (tick_number S σ ≡ 0) × (r < S.n) × (row_unsound S σ.tables r ≡ false)
unfolding inspect_number
inspect_facts S σ r h =
    let p = pass _ _ h in
    let f = row_facts S σ.tables (look_asked r) p.1 in
    (p.0, f.0, f.2)

-- ---- an access

-- past 1 to 8
pub record Reached (S : Settings) (σ : State) (a : Asked) : Type 0 where
  pub fit : Fit S σ
  pub control : control_unsound S σ.control σ.counts ≡ false
  pub row_in : a.row < S.n
  pub span_in : a.off ≡ false
  pub pointers : row_unsound S σ.tables a.row ≡ false
  -- the bank of the place has accesses left
  pub more : (tracker_at S σ (place S σ a.row)).acts < S.l

-- past 9 and the destination's 7 too
pub record Accepted (S : Settings) (σ : State) (a : Asked) : Type 0 where
  pub reached : Reached S σ a
  pub room : moves S σ a.row ≡ true → σ.control.passed + rise S σ a.row ≤ S.q
  pub target : moves S σ a.row ≡ true → destination_unsound S σ.tables (destination S σ a.row) ≡ false

-- refused with 9
pub record Wanting (S : Settings) (σ : State) (a : Asked) : Type 0 where
  pub reached : Reached S σ a
  pub moving : moves S σ a.row ≡ true
  pub full : S.q < σ.control.passed + rise S σ a.row

-- a condition of an access that moves its row
and_fails : (a b : Bool) → (a && b) ≡ false → a ≡ true → b ≡ false
and_fails a b h e = rw e at h

and_none : (a b : Bool) → (a ≡ true → b ≡ false) → (a && b) ≡ false
and_none true b h = h refl
and_none false b h = refl

module _ (S : Settings) (σ : State) (a : Asked) where
  abbrev r : ℕ
  r = a.row

  abbrev full : Bool
  full = ltb S.q (σ.control.passed + rise S σ r)

  abbrev unsound : Bool
  unsound = destination_unsound S σ.tables (destination S σ r)

  reached : tick_number S σ ≡ 0 → row_number S σ.tables a ≡ 0 → eqb (tracker_at S σ (place S σ r)).acts S.l ≡ false → Reached S σ a
  reached t row e =
      let f = tick_facts S σ t in
      let g = row_facts S σ.tables a row in
      let c : ℕ = bank_of S (place S σ r) in
      let c_in : c < S.b = bank_in S (place S σ r) (ranges_facts S f.0.ranges).b_low in
      let most : (tracker_of S σ c).acts ≤ S.l = ((steady S σ f.1).banks c c_in).acts_in in
      let n : (tracker_of S σ c).acts ≢ S.l = eqb-false (tracker_of S σ c).acts S.l e in
      record { fit = f.0; control = f.1; row_in = g.0; span_in = g.1; pointers = g.2; more = omega arith }

  pub accepted : access_number S σ a ≡ 0 → Accepted S σ a
  unfolding access_number
  accepted h =
      let p1 = pass _ _ h in
      let p2 = pass _ _ p1.1 in
      let p3 = pass _ _ p2.1 in
      let p4 = pass _ _ p3.1 in
      record {
        reached = reached p1.0 p2.0 (unmet _ _ p3.0);
        room = λ d. ltb-false S.q (σ.control.passed + rise S σ r) (and_fails (moves S σ r) full (unmet _ _ p4.0) d);
        target = and_fails (moves S σ r) unsound (unmet _ _ p4.1);
      }

  -- past 8 there are 9 and the destination's 7
  past_8 : Reached S σ a → access_number S σ a ≡ stops (moves S σ r && full) 9 ▹ stops (moves S σ r && unsound) 7
  unfolding access_number
  past_8 R =
      let acts : ℕ = (tracker_at S σ (place S σ r)).acts in
      let acts_more : acts < S.l = R.more in
      goes_on _ (tick_passes S σ R.fit R.control)
      ∙ goes_on _ (row_passes S σ.tables a R.row_in R.span_in R.pointers)
      ∙ goes_on _ (goes_by 8 (ne_eqb acts S.l (λ e. omega arith)))

  pub accepts : Accepted S σ a → access_number S σ a ≡ 0
  accepts A =
      past_8 A.reached
      ∙ passes (goes_by 9 (and_none (moves S σ r) full (λ d. le-ltb S.q (σ.control.passed + rise S σ r) (A.room d))))
      (goes_by 7 (and_none (moves S σ r) unsound A.target))

  pub refuses : Wanting S σ a → access_number S σ a ≡ 9
  refuses W =
      let nine : stops (moves S σ r && full) 9 ≡ 9 = applies 9 (rw W.moving (lt-ltb S.q (σ.control.passed + rise S σ r) W.full)) in
      past_8 W.reached ∙ halts _ (λ z. let e : 9 ≡ 0 = sym nine ∙ z in omega arith) ∙ nine

  pub wanting : access_number S σ a ≡ 9 → Wanting S σ a
  unfolding access_number
  wanting h =
      elim (reach _ _ _ h) [
        | inl e ↦ absurd (tick_not_9 S σ e)
        | inr c ↦ elim (reach _ _ _ c.1) [
          | inl e ↦ absurd (row_all (λ x. x ≢ 9) (λ z. omega arith) (λ z. omega arith) S σ.tables a (λ k z. omega arith) (λ b k z. omega arith) e)
          | inr d ↦
              let p = past _ 7 _ 7 (λ z. omega arith) d.1 in
              elim (reach _ _ _ p.1) [
                | inl e ↦
                    let m = (only _ _ _ e).0 in
                    record {
                      reached = reached c.0 d.0 p.0;
                      moving = and_left (moves S σ r) full m;
                      full = ltb-true S.q (σ.control.passed + rise S σ r) (and_right (moves S σ r) full m);
                    }
                | inr k ↦ absurd (let z : 7 ≡ 9 = (only _ _ _ k.1).1 in omega arith)
              ]
        ]
      ]
