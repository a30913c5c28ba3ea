-- An accepted access carries the invariant on. Assumes nothing.
use Prim.Native.Nat.{ℕ, ◌+◌, ◌-◌, ◌*◌, ◌/◌, ◌<◌, ◌≤◌}
use native.Mathlib.Omega.{arith}
use mathlib.Core.Path.{◌≡◌, sym, ap, ◌∙◌}
use mathlib.Core.Logic.{inl, inr, ◌≢◌}
use mathlib.Core.Bool.{Bool, true, false}
use mathlib.Core.List.{List}
use lib.ListN.{length}
use Rattle.geometry.specs.declared.Settings.{Settings}
use Rattle.geometry.specs.Numbering.{visible, slot}
use Rattle.basics.proofs.Cases.{lt?}
use Rattle.conditions.proofs.Facts.{limit_fact}
use Rattle.tracking.proofs.Sums.{quotients}
use Rattle.tracking.proofs.Tracking.{one_if}
use Rattle.engine.specs.declared.Move.{Move}
use Rattle.engine.specs.declared.Move.TheVariants.{Stayed, ToSlot, OverSlot}
use Rattle.engine.specs.State.{State, tracker_at, forward_of}
use Rattle.engine.specs.Answer.{slot_moved_to, row_sent_home}
use Rattle.engine.specs.Steps.{place, counted, moves, skips, rise, move, settled, state_after}
use Rattle.engine.proofs.Pointers.{marks_none, holder, inverse_moved}
use Rattle.engine.proofs.Ahead.{ahead, ahead_same, ahead_but, ahead_all}
use Rattle.engine.proofs.Worn.{skips-worn}
use Rattle.engine.proofs.Trackers.{CountingAt, TracksAt, counted_rows_long, counted_counts_long, counted_spill_long, counted_acts_long, quotients_most}
use Rattle.engine.proofs.Counting.{Estimated, estimated, rests_after, counting_after, acts_after, quotients_after}
use Rattle.engine.proofs.Moves.{Moved, not_own, tracks_access, Fate, stays, goes, ousts, fate}
use Rattle.history.specs.Tally as tally
use Rattle.history.proofs.Tallied.{Tallied, tallied_to, tallied_over}
use Rattle.history.proofs.Invariant.{Inv, worn_slot}
use Rattle.history.proofs.Rows.{home_stays, slot_stays, worn_stays, worn_rests, place-moves, home-moves, slot-moves}

-- the tally after an access of row r that leaves it so
abbrev pub tally_after : Settings → tally.Tally → ℕ → Move → tally.Tally
tally_after S τ r m = tally.after_access S τ r (slot_moved_to m) (row_sent_home m)

module _ (S : Settings) (σ : State) (τ₀ τ : tally.Tally) (I : Inv S σ τ₀ τ) (r : ℕ) (row_in : r < S.n)
    (more : (tracker_at S σ (place S σ r)).acts < S.l) where
  pub T : TracksAt S σ r
  T = tracks_access S σ I.sound r row_in (limit_fact S I.limit) more (I.counting (place S σ r))

  -- the quarantines of the epoch, this access included
  quarantined : (b : Bool) → moves S σ r ≡ b → quotients S.a (counted S σ r).counts ≡ quotients S.a σ.counts + one_if b
  quarantined b e = quotients_after S σ I.sound r T ∙ ap (λ (c : Bool). quotients S.a σ.counts + one_if c) e

  -- the trackers of all banks after it, wherever the row is left
  counting_then : (x : ℕ) → CountingAt S (counted S σ r) x
  counting_then = counting_after S σ I.sound r T I.counting

  acts_then : (x : ℕ) → (tracker_at S (counted S σ r) x).acts ≤ S.l
  acts_then = acts_after S σ I.sound r more I.acts_in

  estimated_then : (store : List ℕ) (m : Move) → Estimated S σ (settled S σ r store m) (place S σ r)
  estimated_then store m =
      let E = estimated S σ I.sound r T in
      record { same = E.same; other = E.other; drifts = E.drifts; spill_grows = E.spill_grows }

  -- ---- the slots that the head skips

  -- of an access that moves its row: those that are worn after step 2
  pub skip_is : moves S σ r ≡ true → (store : List ℕ) (m : Move) (s : ℕ) → s < S.q → skips S σ r s ≡ worn_slot S (settled S σ r store m) s
  skip_is e store m s b =
      skips-worn S σ r I.sound (limit_fact S I.limit) counting_then acts_then e s b

  -- step 2 makes at most one slot more worn: the row's own
  ahead_up : moves S σ r ≡ true
      → ahead (skips S σ r) S.q σ.control.head σ.control.passed ≤ ahead (worn_slot S σ) S.q σ.control.head σ.control.passed + 1
  ahead_up e =
      let after : State = settled S σ r σ.store Stayed in
      let rest : (s : ℕ) → s < S.q → s ≢ forward_of σ r → skips S σ r s ≡ worn_slot S σ s =
      λ s b n. skip_is e σ.store Stayed s b ∙ worn_rests S σ τ₀ τ I r row_in after (estimated_then σ.store Stayed) s b n in
      elim (lt? (forward_of σ r) S.q) [
        | inl b ↦ ahead_but S.q σ.control.head σ.control.passed (forward_of σ r) (skips S σ r) (worn_slot S σ) b rest
        | inr b ↦ omega (arith, ahead_same S.q σ.control.head σ.control.passed (skips S σ r) (worn_slot S σ) (λ s l. rest s l (λ w. omega arith)))
      ]

  -- where an access wants a slot, two for each quarantine of the epoch, this one included, exceed Q
  pub wanting_few : moves S σ r ≡ true → S.q < σ.control.passed + rise S σ r → S.q < 2 * quotients S.a σ.counts + 2
  wanting_few e full =
      let k : ℕ = S.q - σ.control.passed in
      let all : k ≤ ahead (skips S σ r) S.q σ.control.head σ.control.passed =
      ahead_all (skips S σ r) S.q k S.q σ.control.head σ.control.passed I.head_in (omega (arith, I.passed_in)) (omega arith) in
      omega (arith, I.passed_few, I.passed_in, ahead_up e)

  -- with slots enough no access wants one
  pub never_wanting : 2 * (S.b * (S.l / S.a)) ≤ S.q → moves S σ r ≡ true → S.q < σ.control.passed + rise S σ r → ⊥
  never_wanting enough e full =
      omega (
        arith,
        quarantined true e,
        quotients_most S (counted S σ r) I.sound.ranges (counted_counts_long S σ I.sound r) counting_then acts_then,
        wanting_few e full,
      )

  module _ (room : moves S σ r ≡ true → σ.control.passed + rise S σ r ≤ S.q) (store : List ℕ) (long : length store ≡ (S.n + S.q) * S.w) where
    stayed : moves S σ r ≡ false → Inv S (settled S σ r store Stayed) τ₀ (tally.after_stay S τ r)
    stayed e =
        let not_a = rests_after S σ I.sound r T e 1 (omega arith) in
        record {
          ranges = I.ranges;
          limit = I.limit;
          sound = record {
            ranges = I.sound.ranges;
            lengths = record {
              store = long;
              forward = I.sound.lengths.forward;
              reverse = I.sound.lengths.reverse;
              rows = counted_rows_long S σ I.sound r;
              counts = counted_counts_long S σ I.sound r;
            };
            spill_long = counted_spill_long S σ I.sound r;
            acts_long = counted_acts_long S σ I.sound r;
            inverse = record { forward = I.sound.inverse.forward; reverse = I.sound.inverse.reverse };
          };
          head_in = I.head_in;
          passed_in = I.passed_in;
          acts_in = acts_then;
          counting = counting_then;
          quarantines = omega (arith, I.quarantines, quarantined false e);
          passed_few =
              omega (
                arith,
                I.passed_few,
                quarantined false e,
                ahead_same S.q σ.control.head σ.control.passed (worn_slot S (settled S σ r store Stayed)) (worn_slot S σ)
                    (worn_stays S σ τ₀ τ I r row_in (settled S σ r store Stayed) (estimated_then store Stayed) not_a),
              );
          places = I.places;
          homes = home_stays S σ τ₀ τ I r row_in (settled S σ r store Stayed) (estimated_then store Stayed) not_a;
          slots = slot_stays S σ τ₀ τ I r row_in (settled S σ r store Stayed) (estimated_then store Stayed) not_a;
        }

    -- slot d is not the row's own
    free : {d : ℕ} {σ' : State} → Moved S σ r store d σ' → d ≢ forward_of σ r
    free {d} M = not_own S σ r d M.slide.free

    moved : (d : ℕ) (m : Move) → moves S σ r ≡ true → Moved S σ r store d (settled S σ r store m) → Tallied S σ τ (tally_after S τ r m) r d
        → Inv S (settled S σ r store m) τ₀ (tally_after S τ r m)
    moved d m e M told =
        record {
          ranges = I.ranges;
          limit = I.limit;
          sound = record {
            ranges = I.sound.ranges;
            lengths = M.lengths;
            spill_long = counted_spill_long S σ I.sound r;
            acts_long = counted_acts_long S σ I.sound r;
            inverse = inverse_moved S σ I.sound r row_in d M.slide.inside (free M) (settled S σ r store m) M.links;
          };
          head_in = M.head_in;
          passed_in = omega (arith, M.passed, room e);
          acts_in = acts_then;
          counting = counting_then;
          quarantines = omega (arith, I.quarantines, quarantined true e, told.quarantine);
          passed_few =
              let σ' : State = settled S σ r store m in
              omega (
                arith,
                I.passed_few,
                quarantined true e,
                M.passed,
                M.ahead,
                ahead_up e,
                ahead_same S.q σ'.control.head σ'.control.passed (skips S σ r) (worn_slot S σ') (skip_is e store m),
              );
          places = place-moves S σ τ₀ τ I r row_in (settled S σ r store m) (estimated_then store m) d (tally_after S τ r m) M.links told (skip_is e store m) M.slide;
          homes = home-moves S σ τ₀ τ I r row_in (settled S σ r store m) (estimated_then store m) d (tally_after S τ r m) M.links told (skip_is e store m) M.slide;
          slots = slot-moves S σ τ₀ τ I r row_in (settled S σ r store m) (estimated_then store m) d (tally_after S τ r m) M.links told (skip_is e store m) M.slide;
        }

    by_fate : (m : Move) → Fate S σ I.sound r row_in store m → Inv S (settled S σ r store m) τ₀ (tally_after S τ r m)
    by_fate m (stays e) = stayed e
    by_fate m (goes e d vacant M) =
        moved d (ToSlot (slot d)) e M
        (tallied_to S σ I.sound τ r row_in (I.places r row_in) d M.slide.inside (free M) vacant
        (λ x b at. marks_none S I.sound.ranges x (omega arith) (sym (holder S σ I.sound r row_in d M.slide.inside (free M) x b at) ∙ vacant)))
    by_fate m (ousts e d v held v-in back M) =
        moved d (OverSlot (slot d) (visible v)) e M
        (tallied_over S σ I.sound τ r row_in (I.places r row_in) d M.slide.inside (free M) v held v-in back
        (λ x b at. sym (holder S σ I.sound r row_in d M.slide.inside (free M) x b at) ∙ held))

    pub its_fate : Fate S σ I.sound r row_in store (move S σ r)
    its_fate = fate S σ I.sound r row_in I.head_in room store long

    pub inv_access : Inv S (state_after S σ r store) τ₀ (tally_after S τ r (move S σ r))
    inv_access = by_fate (move S σ r) its_fate
