-- No access gets 9 early in an epoch, after every list of calls. Assumes nothing.
use Prim.Native.Nat.{ℕ, suc, ◌*◌, ◌≤◌, ◌<◌}
use native.Mathlib.Omega.{arith}
use mathlib.Core.Path.{◌≡◌, refl, sym, subst}
use mathlib.Core.Logic.{inl, inr}
use borrow.Author.Tests.{eq-eqb, ne_eqb}
use Rattle.geometry.specs.declared.Settings.{Settings}
use Rattle.geometry.specs.Entry.{empty}
use Rattle.conditions.proofs.Facts.{limit_fact}
use Rattle.tracking.proofs.Sums.{total, quotients, sum_zeros, quotients_low}
use Rattle.tracking.proofs.View.{quotients_new}
use Rattle.engine.specs.State.{State, tracker_at}
use Rattle.engine.specs.Answer.{slot_moved_to}
use Rattle.engine.specs.Steps.{place, counted, move}
use Rattle.engine.specs.Calls as calls
use Rattle.engine.proofs.Facts.{accepted, wanting}
use Rattle.engine.proofs.Trackers.{TracksAt}
use Rattle.engine.proofs.Counting.{quotients_after, total_after}
use Rattle.engine.proofs.Moves.{tracks_access, slot-told}
use Rattle.history.specs.Tally as tally
use Rattle.history.specs.Run.{Call, row_of, step, event_of}
use Rattle.history.specs.Chain.{OfChains, AnyCall}
use Rattle.history.specs.Spent.{Progress, begun, progress_access, progress, progressed, Spent, NotSpentEarlyHolds, NotSpentEarly}
use Rattle.history.proofs.Groups.{ladder, at_9, step_cases}
use Rattle.history.proofs.Invariant.{Inv}
use Rattle.history.proofs.Access.{wanting_few}
use Rattle.history.proofs.Chain.{lists, idle_progress}
use Rattle.history.proofs.History.{set_up-new, inv_set_up, inv_chain, followed}

-- what the answers said against the counts of all banks: the quarantines, and at least as many accesses as were counted
record Paced (S : Settings) (σ : State) (p : Progress) : Type 0 where
  quarantines : p.quarantines ≡ quotients S.a σ.counts
  accesses : total σ.counts ≤ p.accesses

paced_new : (S : Settings) (σ : State) → Paced S (calls.ticked S σ) begun
paced_new S σ =
    record {
      quarantines = sym (quotients_new S.a (S.b * S.k));
      accesses = omega (arith, sum_zeros (λ x. x) (S.b * S.k) refl);
    }

module _ (S : Settings) (σ : State) (τ₀ τ : tally.Tally) (I : Inv S σ τ₀ τ) (p : Progress) (P : Paced S σ p) where
  module _ (r : ℕ) (row_in : r < S.n) (more : (tracker_at S σ (place S σ r)).acts < S.l) where
    T : TracksAt S σ r
    T = tracks_access S σ I.sound r row_in (limit_fact S I.limit) more (I.counting (place S σ r))

    -- the counts after step 2
    counts_few : total (counted S σ r).counts ≤ suc p.accesses
    counts_few = omega (arith, P.accesses, total_after S σ I.sound r T (I.counting (place S σ r)))

    -- a slot is answered exactly where there is a quarantine more
    quarantines_told : (progress_access p (slot_moved_to (move S σ r))).quarantines ≡ quotients S.a (counted S σ r).counts
    quarantines_told =
        let next = quotients_after S σ I.sound r T in
        elim (slot-told S σ r I.sound.ranges I.head_in) [
          | inl t ↦ rw (eq-eqb (slot_moved_to (move S σ r)) empty t.0) (omega (arith, P.quarantines, (rw t.1 at next)))
          | inr t ↦ rw (ne_eqb (slot_moved_to (move S σ r)) empty t.0) (omega (arith, P.quarantines, (rw t.1 at next)))
        ]

  paced_step : (c : Call) → Paced S (step S σ c).state (progress p (event_of c (step S σ c)))
  paced_step =
      step_cases S σ (λ c s. Paced S s.state (progress p (event_of c s)))
      (λ c n. rw (ne_eqb (ladder S σ c) 0 n) P)
      (λ a z.
      let R = (accepted S σ _ z).reached in
      record {
        quarantines = quarantines_told (row_of a) R.row_in R.more;
        accesses = counts_few (row_of a) R.row_in R.more;
      })
      (λ x z. P)
      (λ z. paced_new S σ)

  spent : (c : Call) → (step S σ c).answer.number ≡ 9 → Spent S p
  spent =
      at_9 S σ (λ c. Spent S p) (λ a e.
      let W = wanting S σ _ e in
      let r : ℕ = row_of a in
      let row_in = W.reached.row_in in
      let more = W.reached.more in
      let next : quotients S.a (counted S σ r).counts ≡ suc p.quarantines =
      omega (arith, P.quarantines, (rw W.moving at (quotients_after S σ I.sound r (T r row_in more)))) in
      record {
        slots = omega (arith, P.quarantines, wanting_few S σ τ₀ τ I r row_in more W.moving W.full);
        accesses =
            omega (arith, (rw next at (quotients_low S.a (counted S σ r).counts)), counts_few r row_in more);
      })

pub spent_late : OfChains (AnyCall NotSpentEarlyHolds)
spent_late S blank σ es z chain =
    let I = inv_set_up S blank z in
    let new : Paced S (calls.set_up S blank).state begun =
    subst (λ (σ' : State). Paced S σ' begun) (set_up-new S blank z) (paced_new S (calls.cleared S blank)) in
    let J = inv_chain S chain tally.start tally.start I in
    spent S σ J.0 J.1 J.2 (progressed begun es)
    (followed S progress progressed (λ p. refl) (λ p e es. refl) (λ e p. idle_progress p) (Paced S) (paced_step S) chain tally.start tally.start I begun new)

pub not_spent_early : NotSpentEarly
not_spent_early = lists (AnyCall NotSpentEarlyHolds) spent_late
