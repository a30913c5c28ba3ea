-- The places for banks from B on: what a call answers and makes of the other memory does not depend on them, and it leaves
-- them. Each law has the memory with other numbers there on the left, and ends in `alike`. Assumes nothing.
use Prim.Native.Nat.{ℕ, zero, suc, ◌<◌, ◌≤◌}
use native.Mathlib.Omega.{arith}
use mathlib.Core.Path.{◌≡◌, sym, ap, fun_ext, ◌∙◌}
use mathlib.Core.Bool.{Bool, ◌||◌}
use mathlib.Core.List.{List, [], ◌∷◌, ◌++◌}
use lib.ListN.{length, get_or, set, take, drop, replicate, length-replicate, get_or-append}
use lib.Seq.{length-take-le, get_or-take, take-set-lt, set-append_left, take_at, drop_at}
use Rattle.geometry.specs.declared.Settings.{Settings}
use Rattle.basics.proofs.Below.{same_below}
use Rattle.conditions.proofs.Facts.{ranges_facts}
use Rattle.banks.specs.Banks.{bank_of}
use Rattle.banks.proofs.Banks.{bank_in}
use Rattle.tracking.specs.Track.{Tracked, track, is_due}
use Rattle.engine.specs.declared.Move.{Move}
use Rattle.engine.specs.declared.Asked.{Asked}
use Rattle.engine.specs.State.{State, Tracker, Storage, tracker_of, tracker_at, with_tracker, ring_of, control_of}
use Rattle.engine.specs.Round.{skipped_of}
use Rattle.engine.specs.Steps.{place, tracked, tracker_after, counted}
use Rattle.engine.specs.Steps.{moves, skips, skipped, move, relocated, settled, state_after}
use Rattle.engine.specs.Ladder.{stops, ◌▹◌, ring_unsound, tracker_unsound, trackers_unsound, control_unsound, control_number}
use Rattle.engine.specs.Ladder.{look_asked, row_number, set_up_number, tick_number, inspect_number, access_number}
use Rattle.engine.specs.Calls.{zero_below, ticked, inspect_part}
use Rattle.engine.specs.Unused.{HasPlaces, with_unused}
use Rattle.engine.proofs.Rungs.{rest_alike}
use Rattle.engine.proofs.Facts.{Fit, fit, tick_facts}

-- ---- a list of numbers, and the same with others from the b-th on

module _ (b : ℕ) (numbers others : List ℕ) (long : b ≤ length numbers) where
  front : length (take b numbers) ≡ b
  front = length-take-le b numbers long

  number_alike : (c : ℕ) → c < b → get_or (take b numbers ++ others) c 0 ≡ get_or numbers c 0
  number_alike c inside =
      get_or-append (take b numbers) others 0 c (omega (arith, front)) ∙ get_or-take b numbers c 0 inside

  set_alike : (c v : ℕ) → c < b → set (take b numbers ++ others) c v ≡ take b (set numbers c v) ++ others
  set_alike c v inside =
      set-append_left (take b numbers) others c v (omega (arith, front))
      ∙ ap (λ (l : List ℕ). l ++ others) (sym (take-set-lt b numbers c v inside))

  zero_alike : zero_below b (take b numbers ++ others) ≡ take b (zero_below b numbers) ++ others
  unfolding zero_below
  zero_alike =
      ap (λ (l : List ℕ). replicate b 0 ++ l) (drop_at (take b numbers) others b front)
      ∙ ap (λ (l : List ℕ). l ++ others) (sym (take_at (replicate b 0) (drop b numbers) b (length-replicate b 0)))

-- a list that is unchanged by it has them there
pub behind : (b : ℕ) (numbers others : List ℕ) → numbers ≡ take b numbers ++ others → drop b numbers ≡ others
behind zero numbers others e = e
behind (suc b) [] others e = e
behind (suc b) (x ∷ numbers) others e = behind b numbers others (cc)

-- ---- an access of row r

-- there is a bank, and a place for each
pub record Places (S : Settings) (σ : State) : Type 0 where
  pub some : 1 ≤ S.b
  pub spill_long : S.b ≤ length σ.control.spill
  pub acts_long : S.b ≤ length σ.control.acts

pub places : (S : Settings) (σ : State) → HasPlaces σ.control → Fit S σ → Places S σ
places S σ has fits =
    let R = ranges_facts S fits.ranges in
    record {
      some = R.b_low;
      spill_long = omega (arith, R.b_high, has.spill);
      acts_long = omega (arith, R.b_high, has.acts);
    }

module _ (S : Settings) (spill acts : List ℕ) (σ : State) (P : Places S σ) where
  tracker_alike : (c : ℕ) → c < S.b → tracker_of S (with_unused S spill acts σ) c ≡ tracker_of S σ c
  tracker_alike c inside =
      rw (
        number_alike S.b σ.control.spill spill P.spill_long c inside,
        number_alike S.b σ.control.acts acts P.acts_long c inside,
      )

  -- 4's condition
  control_alike : control_unsound S (with_unused S spill acts σ).control σ.counts
      ≡ control_unsound S σ.control σ.counts
  unfolding control_unsound trackers_unsound
  control_alike =
      ap (λ (found : Bool). ring_unsound S (ring_of σ.control) || found)
      (same_below _ _ S.b
      (λ c inside. ap (λ (t : Tracker). tracker_unsound S t.spill t.acts t.counts) (tracker_alike c inside)))

  module _ (r : ℕ) where
    bank : bank_of S (place S σ r) < S.b
    bank = bank_in S (place S σ r) P.some

    own_alike : tracker_at S (with_unused S spill acts σ) (place S σ r) ≡ tracker_at S σ (place S σ r)
    own_alike = tracker_alike (bank_of S (place S σ r)) bank

    -- steps 2 and 3
    pub tracked_alike : tracked S (with_unused S spill acts σ) r ≡ tracked S σ r
    tracked_alike = ap (λ (t : Tracker). track (place S σ r) t.rows t.counts t.spill) own_alike

    after_alike : tracker_after S (with_unused S spill acts σ) r ≡ tracker_after S σ r
    after_alike = cc (tracked_alike, own_alike)

    counted_alike : counted S (with_unused S spill acts σ) r ≡ with_unused S spill acts (counted S σ r)
    counted_alike =
        let c : ℕ = bank_of S (place S σ r) in
        let t : Tracker = tracker_after S σ r in
        ap (with_tracker S (with_unused S spill acts σ) c) after_alike
        ∙ rw (
          set_alike S.b σ.control.spill spill P.spill_long c t.spill bank,
          set_alike S.b σ.control.acts acts P.acts_long c t.acts bank,
        )

    -- step 4
    moves_alike : moves S (with_unused S spill acts σ) r ≡ moves S σ r
    moves_alike = ap (λ (t : Tracked). is_due S.a t.estimate) tracked_alike

    skips_alike : (s : ℕ) → skips S (with_unused S spill acts σ) r s ≡ skips S σ r s
    skips_alike s = cc tracked_alike

    skipped_alike : skipped S (with_unused S spill acts σ) r ≡ skipped S σ r
    skipped_alike = ap (λ (skip : ℕ → Bool). skipped_of skip S.q S.q σ.control.head) (fun_ext skips_alike)

    pub move_alike : move S (with_unused S spill acts σ) r ≡ move S σ r
    unfolding move
    move_alike = rw (moves_alike, skipped_alike)

    -- what it leaves
    settled_alike : (store : List ℕ) (m : Move)
        → settled S (with_unused S spill acts σ) r store m ≡ with_unused S spill acts (settled S σ r store m)
    settled_alike store m =
        let now : Storage =
        relocated S r (place S σ r) m (record { store = store; tables = σ.tables; ring = ring_of σ.control })
        in
        let left : State → State =
        λ t. record {
          store = now.store;
          tables = now.tables;
          rows = t.rows;
          counts = t.counts;
          control = control_of now.ring t.control.spill t.control.acts;
        }
        in
        ap left counted_alike

    pub state_alike : (store : List ℕ)
        → state_after S (with_unused S spill acts σ) r store ≡ with_unused S spill acts (state_after S σ r store)
    state_alike store = ap (settled S (with_unused S spill acts σ) r store) move_alike ∙ settled_alike store (move S σ r)

-- ---- the ladder, a tick and inspect's part

module _ (S : Settings) (spill acts : List ℕ) (σ : State) (has : HasPlaces σ.control) where
  past_4 : tick_number S σ ≡ 0 → Places S σ
  past_4 z = places S σ has (tick_facts S σ z).0

  pub tick_alike : tick_number S (with_unused S spill acts σ) ≡ tick_number S σ
  unfolding control_number
  tick_alike =
      rest_alike (set_up_number S σ) (λ z.
      ap (λ (condition : Bool). stops condition 4) (control_alike S spill acts σ (places S σ has (fit S σ z))))

  pub inspect_alike : (r : ℕ) → inspect_number S (with_unused S spill acts σ) r ≡ inspect_number S σ r
  unfolding inspect_number
  inspect_alike r = ap (λ (number : ℕ). number ▹ row_number S σ.tables (look_asked r)) tick_alike

  pub access_alike : (a : Asked) → access_number S (with_unused S spill acts σ) a ≡ access_number S σ a
  unfolding access_number
  access_alike a =
      rw tick_alike
      (rest_alike (tick_number S σ) (λ z.
      rw (
        ap (λ (t : Tracker). t.acts) (own_alike S spill acts σ (past_4 z) a.row),
        moves_alike S spill acts σ (past_4 z) a.row,
        skipped_alike S spill acts σ (past_4 z) a.row,
      )))

  pub part_alike : (r : ℕ) → inspect_part S (with_unused S spill acts σ) r ≡ inspect_part S σ r
  unfolding inspect_part
  part_alike r = rw (inspect_alike r)

  pub ticked_alike : tick_number S σ ≡ 0 → ticked S (with_unused S spill acts σ) ≡ with_unused S spill acts (ticked S σ)
  ticked_alike z =
      rw (
        zero_alike S.b σ.control.spill spill (past_4 z).spill_long,
        zero_alike S.b σ.control.acts acts (past_4 z).acts_long,
      )
