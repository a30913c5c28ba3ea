-- One call: it carries the invariant on, and what it answers. Assumes nothing.
use Prim.Native.Nat.{ℕ, ◌+◌, ◌*◌, ◌/◌, ◌<◌, ◌≤◌, zero-le}
use native.Mathlib.Omega.{arith}
use mathlib.Core.Path.{◌≡◌, refl, sym, ◌∙◌, subst}
use mathlib.Core.Logic.{◌⊎◌, inl, inr, ◌≢◌}
use mathlib.Core.Bool.{true, false, false≢true}
use lib.Dec.{eqb}
use lib.ListN.{length, length-replicate}
use borrow.Author.Tests.{eq-eqb, ne_eqb, lt-leb}
use Rattle.geometry.specs.declared.Settings.{Settings}
use Rattle.conditions.specs.Conditions.{ranges_hold, limit_holds}
use Rattle.geometry.specs.Entry.{empty}
use Rattle.conditions.proofs.Facts.{Ranges, Exact, limit_fact, lengths-hold}
use Rattle.tracking.proofs.View.{counting_new, estimate-new, quotients_new}
use Rattle.tracking.proofs.View.{spill_within, spill_below, count_within}
use Rattle.banks.proofs.Banks.{bank_itself}
use Rattle.row_layout.proofs.Laws.{length-written}
use Rattle.engine.specs.State.{State, Tracker, lengths_of, tracker_of, tracker_at, forward_of, reverse_of}
use Rattle.engine.specs.Steps.{place, moves, destination, rise, move, state_after}
use Rattle.engine.specs.declared.Asked.{Asked}
use Rattle.engine.specs.Ladder.{look_asked, row_unsound, destination_unsound, row_number, tick_number, inspect_number, access_number}
use Rattle.engine.specs.Calls as calls
use Rattle.engine.specs.Inverse.{Inverse}
use Rattle.engine.proofs.Rungs.{passes, ladder_all}
use Rattle.engine.proofs.Facts.{Trusted, none_above_all, steady_passes, tick_passes, row_all, rows_all, row_passes, row-holds, slot-holds}
use Rattle.engine.proofs.Facts.{tick_facts, Reached, accepted, accepts, wanting}
use Rattle.engine.proofs.GoneBy.{gone_none}
use Rattle.engine.proofs.Ahead.{ahead_none}
use Rattle.engine.proofs.Pointers.{Sound, place-in}
use Rattle.engine.proofs.Moves.{destination_in}
use Rattle.history.specs.Tally as tally
use Rattle.history.specs.Run.{Access, read, write, access, look, Call, rank, tick, row_of, asked_of, row_looked}
use Rattle.history.specs.Run.{Step, step, event_of, OfAccepted, report_of}
use Rattle.history.specs.Demand3.{Bounded, AnswersPlace}
use Rattle.history.proofs.Groups.{store_by, write_within, ladder, at_9, step_cases, of_accepted}
use Rattle.history.proofs.Openings.{here, home_bound, home-new, slot_bound, slot-new}
use Rattle.engine.proofs.Trackers.{CountingBy, estimate_for, estimate, zero_long, all_new, quotients_most}
use Rattle.history.proofs.Charge.{occupied_is, charge_most}
use Rattle.history.proofs.Invariant.{worn_slot, Inv}
use Rattle.history.proofs.Access.{tally_after, inv_access, never_wanting}

-- ---- a new epoch: tables as they stand, a tracker as set up, nothing gone by

pub inv_new : (S : Settings) (σ : State) (τ : tally.Tally) → ranges_hold S ≡ true → limit_holds S ≡ true
    → Sound S (calls.ticked S σ) → σ.control.head < S.q
    → ((x : ℕ) → x < S.n → τ.place x ≡ place S σ x) → Inv S (calls.ticked S σ) τ τ
inv_new S σ τ ranges limit sound head_in places =
    let pos : 0 < S.a = sound.ranges.a_low in
    let some : 1 ≤ S.b = sound.ranges.b_low in
    let none : (p : ℕ) → estimate S (calls.ticked S σ) p ≡ 0 = λ p. all_new S σ some (λ t. estimate_for t p ≡ 0) (estimate-new S.k p) p in
    record {
      ranges = ranges;
      limit = limit;
      sound = sound;
      head_in = head_in;
      passed_in = zero-le;
      acts_in = all_new S σ some (λ t. t.acts ≤ S.l) zero-le;
      counting = all_new S σ some (CountingBy S.k) (counting_new S.k);
      quarantines = omega (arith, quotients_new S.a (S.b * S.k));
      passed_few =
          omega (arith, ahead_none S.q σ.control.head 0 (worn_slot S (calls.ticked S σ)) (λ s b. rw (none (S.n + s)) (lt-leb S.a 0 pos)));
      places = places;
      homes = λ x b. rw (none x) (elim (sound.inverse.forward x b) [
        | inl e ↦ rw (eq-eqb (forward_of σ x) empty e) (here (omega arith) pos)
        | inr c ↦
            rw (gone_none S.q σ.control.head (forward_of σ x) c.0)
            (home-new (eqb (forward_of σ x) empty) (τ.openings x) pos)
      ]);
      slots = λ s b.
          rw (none (S.n + s), gone_none S.q σ.control.head s b, occupied_is S (calls.ticked S σ) sound τ places s b)
          (slot-new (eqb (reverse_of σ s) empty) (τ.openings (S.n + s)) pos);
    }

pub sound_ticked : {S : Settings} {σ : State} → Ranges S → Exact S (lengths_of σ) → Inverse S σ → Sound S (calls.ticked S σ)
sound_ticked {S} {σ} ranges lengths inverse =
    record {
      ranges = ranges;
      lengths = record {
        store = lengths.store;
        forward = lengths.forward;
        reverse = lengths.reverse;
        rows = length-replicate (S.b * S.k) empty;
        counts = length-replicate (S.b * S.k) 0;
      };
      spill_long = zero_long S.b σ.control.spill;
      acts_long = zero_long S.b σ.control.acts;
      inverse = record { forward = inverse.forward; reverse = inverse.reverse };
    }

module _ (S : Settings) (σ : State) (τ₀ τ : tally.Tally) (I : Inv S σ τ₀ τ) where
  -- ---- the call ends the epoch, or the epoch runs on

  abbrev pub Carried : Call → Step → Type 0
  Carried c s =
      let told : tally.Report = report_of (event_of c s) in
      let τ' : tally.Tally = tally.feed S τ told in
      ((tally.ends_epoch told ≡ true) × (τ' ≡ tally.next_epoch τ) × Inv S s.state τ' τ')
      ⊎ ((tally.ends_epoch told ≡ false) × Inv S s.state τ₀ τ')

  -- step 3 keeps the store's length
  pub store_long : (a : Access) → ladder S σ (rank (access a)) ≡ 0 → length (store_by S σ a) ≡ (S.n + S.q) * S.w
  store_long (read r buffer) z = I.sound.lengths.store
  store_long (write r column bytes) z =
      let R = (accepted S σ _ z).reached in
      length-written S.w (S.n + S.q) σ.store (place S σ r) column bytes I.sound.lengths.store
      (place-in S σ I.sound r R.row_in)
      (write_within S r column bytes R.span_in)
      ∙ I.sound.lengths.store

  inv_accepted : (a : Access) → ladder S σ (rank (access a)) ≡ 0
      → Inv S (state_after S σ (row_of a) (store_by S σ a)) τ₀ (tally_after S τ (row_of a) (move S σ (row_of a)))
  inv_accepted a z =
      let A = accepted S σ _ z in
      inv_access S σ τ₀ τ I (row_of a) A.reached.row_in A.reached.more A.room (store_by S σ a) (store_long a z)

  pub carried : (c : Call) → Carried c (step S σ c)
  carried =
      step_cases S σ Carried
      (λ c n. rw (ne_eqb (ladder S σ c) 0 n) (inr (refl, I)))
      (λ a z. inr (refl, inv_accepted a z))
      (λ x z. inr (refl, I))
      (λ z. inl (refl, refl, inv_new S σ (tally.next_epoch τ) I.ranges I.limit (sound_ticked I.sound.ranges I.sound.lengths I.sound.inverse) I.head_in I.places))

  -- in either case the invariant holds after it
  pub carried_on : (c : Call)
      → (τ₁ : tally.Tally) × Inv S (step S σ c).state τ₁ (tally.feed S τ (report_of (event_of c (step S σ c))))
  carried_on c = elim (carried c) [ inl v ↦ (_, v.2) | inr v ↦ (τ₀, v.1) ]

  -- ---- the figures of an epoch that ends here, or runs on

  pub bounded : Bounded S (record { first = τ₀; last = τ })
  bounded =
      record {
        homes = λ r b. omega (arith, home_bound (I.homes r b));
        slots = λ s b. omega (arith, slot_bound (I.slots s b), charge_most S τ₀ s);
        quarantines =
            omega (arith, I.quarantines, quotients_most S σ I.sound.ranges I.sound.lengths.counts I.counting I.acts_in);
      }

  -- the same with the tick that ends it
  pub bounded_ended : Bounded S (record { first = τ₀; last = tally.next_epoch τ })
  bounded_ended = record { homes = bounded.homes; slots = bounded.slots; quarantines = bounded.quarantines }

  -- ---- what is answered

  -- with slots enough it is not 9
  pub not_9 : 2 * (S.b * (S.l / S.a)) ≤ S.q → (c : Call) → (step S σ c).answer.number ≢ 9
  not_9 enough =
      at_9 S σ (λ c. ⊥) (λ a e.
      let W = wanting S σ _ e in
      never_wanting S σ τ₀ τ I (row_of a) W.reached.row_in W.reached.more enough W.moving W.full)

  -- an accepted access answers the tally's place
  pub answers-place : (c : Call) → OfAccepted (AnswersPlace τ) (event_of c (step S σ c))
  answers-place = of_accepted S σ (AnswersPlace τ) (λ a z. sym (I.places (row_of a) (accepted S σ _ z).reached.row_in))

  -- ---- which numbers can be answered

  -- 4 finds nothing in the tracker that serves a physical row
  trusted_at : (p : ℕ) → Trusted S (tracker_at S σ p)
  trusted_at p =
      let t : Tracker = tracker_at S σ p in
      let C : CountingBy S.k t = I.counting p in
      record {
        acts_in = I.acts_in p;
        spill_in = spill_within C;
        spill_below = spill_below C S.a S.l (I.acts_in p) (limit_fact S I.limit);
        none_above = none_above_all t.acts t.counts (count_within C);
      }

  -- so a tick is accepted
  pub tick_passed : tick_number S σ ≡ 0
  tick_passed =
      tick_passes S σ
      (record { ranges = I.ranges; limit = I.limit; lengths = lengths-hold S (lengths_of σ) I.sound.lengths })
      (steady_passes S σ
      (record {
        head_in = I.head_in;
        passed_in = I.passed_in;
        banks = λ c b. subst (λ (d : ℕ). Trusted S (tracker_of S σ d)) (bank_itself S c b) (trusted_at c);
      }))

  -- a row's pointers hold
  row_sure : (r : ℕ) → r < S.n → row_unsound S σ.tables r ≡ false
  row_sure r row_in = row-holds S σ r (I.sound.inverse.forward r row_in)

  -- inspect is refused for no row
  pub inspect_0 : (r : ℕ) → r < S.n → inspect_number S σ r ≡ 0
  unfolding inspect_number
  inspect_0 r row_in = passes tick_passed (row_passes S σ.tables (look_asked r) row_in refl (row_sure r row_in))

  -- a slot's pointers hold, of the destination
  target_sure : (r : ℕ) → destination_unsound S σ.tables (destination S σ r) ≡ false
  target_sure r = let d : ℕ = destination S σ r in slot-holds S σ d (I.sound.inverse.reverse d (destination_in S σ r I.head_in))

  -- an access of a row in its range, with a span that is not off, and accesses left: it is past 1 to 8,
  module _ (a : Asked) (row_in : a.row < S.n) (span_in : a.off ≡ false) (more : (tracker_at S σ (place S σ a.row)).acts < S.l) where
    pub is_reached : Reached S σ a
    is_reached =
        let f = tick_facts S σ tick_passed in
        record { fit = f.0; control = f.1; row_in = row_in; span_in = span_in; pointers = row_sure a.row row_in; more = more }

    -- and accepted, where there is room for a move
    pub access_0 : (moves S σ a.row ≡ true → σ.control.passed + rise S σ a.row ≤ S.q) → access_number S σ a ≡ 0
    access_0 room = accepts S σ a (record { reached = is_reached; room = room; target = λ m. target_sure a.row })

  -- P holds of 0, 5, 6, 8 and 9
  module _ (P : ℕ → Type 0) (p0 : P 0) (p5 : P 5) (p6 : P 6) (p8 : P 8) (p9 : P 9) where
    usual_row : (a : Asked) → P (row_number S σ.tables a)
    usual_row a =
        row_all P p0 p5 S σ.tables a (λ e. p6) (λ row_in e. absurd (false≢true (sym (row_sure a.row row_in) ∙ e)))

    usual_access : (a : Asked) → P (access_number S σ a)
    usual_access a =
        rows_all P p0 p8 p9 S σ a (rw tick_passed p0) (usual_row a) (λ m k. absurd (false≢true (sym (target_sure a.row) ∙ k)))

    pub usual : (c : Call) → P (ladder S σ c)
    unfolding inspect_number
    usual (rank (access a)) = usual_access (asked_of S a)
    usual (rank (look x)) = ladder_all P _ _ (rw tick_passed p0) (λ e. usual_row (look_asked (row_looked x)))
    usual tick = rw tick_passed p0
