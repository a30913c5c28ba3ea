-- What follows from an estimate for its place, after every list of calls. Assumes nothing.
use Prim.Native.Nat.{ℕ, suc, ◌+◌, ◌%◌, ◌<◌, ◌≤◌}
use native.Mathlib.Nat.{mod-eq_of_lt, mod_self}
use native.Mathlib.Omega.{arith}
use mathlib.Core.Path.{◌≡◌, refl, sym, ◌∙◌, subst}
use mathlib.Core.Logic.{inl, inr, ◌≢◌}
use mathlib.Core.Bool.{true, false, not, true≢false}
use mathlib.Core.List.{List}
use lib.Dec.{eqb}
use borrow.Author.Tests.{eq-eqb, ne_eqb, eqb-true, eqb-false, not-true}
use Rattle.geometry.specs.declared.Settings.{Settings}
use Rattle.geometry.specs.Entry.{empty}
use Rattle.basics.proofs.Cases.{eq?, lt?}
use Rattle.basics.proofs.Tests.{and_left, and_right}
use Rattle.conditions.proofs.Facts.{Ranges, limit_fact}
use Rattle.tracking.specs.Track.{is_due}
use Rattle.tracking.proofs.View.{estimate-new, spill_below}
use Rattle.engine.specs.declared.Move.{Move}
use Rattle.engine.specs.State.{State, Tracker, tracker_at}
use Rattle.engine.specs.Answer.{slot_moved_to}
use Rattle.engine.specs.Steps.{place, tracked, tracker_after, counted, move, settled}
use Rattle.engine.specs.Calls as calls
use Rattle.engine.proofs.Facts.{accepted}
use Rattle.engine.proofs.Pointers.{marks_none, place-in}
use Rattle.engine.proofs.Trackers.{estimate_for, estimate, TracksAt, tracker_same, all_new}
use Rattle.engine.proofs.Counting.{Estimated, estimated}
use Rattle.engine.proofs.Moves.{tracks_access, slot-told}
use Rattle.history.specs.Tally as tally
use Rattle.history.specs.Tally.{hit}
use Rattle.history.specs.Run.{access, Call, rank, row_of, Answer, step, event_of, OfAccepted}
use Rattle.history.specs.Chain.{OfChains, AnyCall}
use Rattle.history.specs.Estimates.{Observed, unobserved, observe_access, observe, observed, Conclusions, Concludes, EstimatesHold, Estimates}
use Rattle.history.proofs.Groups.{accepted_step, refused_step, ladder, store_by, not_accepted, step_cases}
use Rattle.history.proofs.Invariant.{Inv}
use Rattle.history.proofs.Openings.{hit_same, hit_other}
use Rattle.history.proofs.Rows.{place_low}
use Rattle.history.proofs.Chain.{lists, idle_observe}
use Rattle.history.proofs.History.{set_up-new, inv_set_up, inv_chain, followed}

-- what was observed of a place against the tracker's estimate of it
record Counted (estimate spill accesses latest since : ℕ) : Type 0 where
  most : accesses ≤ estimate
  least : estimate ≤ accesses + spill
  last : latest + since ≤ estimate

-- of every place
abbrev Watched : Settings → State → Observed → Type 0
Watched S σ o = (p : ℕ) → p ≢ empty
    → Counted (estimate S σ p) (tracker_at S σ p).spill (o.accesses p) (o.latest p) (o.since p)

-- ---- a new epoch

watched_new : (S : Settings) → 1 ≤ S.b → (σ : State) → Watched S (calls.ticked S σ) unobserved
watched_new S some σ p n =
    all_new S σ some (λ t. Counted (estimate_for t p) t.spill 0 0 0)
    (rw (estimate-new S.k p) (record { most = omega arith; least = omega arith; last = omega arith })) p

-- ---- an accepted access

-- an estimate that is at most a calls for a move where it is a
due : (a e : ℕ) → e ≤ a → is_due a e ≡ true → e ≡ a
due a e few d =
    let some : e ≢ 0 = eqb-false e 0 (not-true (eqb e 0) (and_left (not (eqb e 0)) (eqb (e % a) 0) d)) in
    let none : e % a ≡ 0 = eqb-true (e % a) 0 (and_right (not (eqb e 0)) (eqb (e % a) 0) d) in
    elim (lt? e a) [ inl below ↦ absurd (some (sym (mod-eq_of_lt below) ∙ none)) | inr all ↦ omega arith ]

not_due : (a e : ℕ) → 0 < a → is_due a e ≡ false → e ≢ a
not_due a e pos d same =
    let some : e ≢ 0 = λ z. omega arith in
    let none : e % a ≡ 0 = rw same (mod_self a) in
    true≢false (rw (ne_eqb e 0 some, eq-eqb (e % a) 0 none) at d)

module _ (S : Settings) (σ : State) (τ₀ τ : tally.Tally) (I : Inv S σ τ₀ τ) (o : Observed) (W : Watched S σ o) where
  module _ (r : ℕ) (row_in : r < S.n) (more : (tracker_at S σ (place S σ r)).acts < S.l) (store : List ℕ) where
    abbrev p : ℕ
    p = place S σ r

    abbrev given : ℕ
    given = (tracked S σ r).estimate

    real : p ≢ empty
    real = marks_none S I.sound.ranges p (place-in S σ I.sound r row_in)

    -- what step 2 does to the estimates
    K : TracksAt S σ r
    K = tracks_access S σ I.sound r row_in (limit_fact S I.limit) more (I.counting p)

    E : Estimated S σ (counted S σ r) p
    E = estimated S σ I.sound r K

    -- the tracker of its bank after it
    here : tracker_at S (counted S σ r) p ≡ tracker_after S σ r
    here = tracker_same S σ I.sound r p refl

    below : (tracked S σ r).spill < S.a
    below = spill_below K.after S.a S.l more (limit_fact S I.limit)

    -- what is answered is one more than the tracker's estimate of the place before; where it is 0, `spill` is that
    given_is : given ≢ 0 → given ≡ suc (estimate S σ p)
    given_is n = elim K.given [ inl g ↦ g ∙ K.same | inr g ↦ absurd (n g.0) ]

    spill_is : given ≡ 0 → (tracked S σ r).spill ≡ suc (estimate S σ p)
    spill_is z = elim K.given [ inl g ↦ omega (arith, g, K.same) | inr g ↦ sym g.1 ∙ K.same ]

    given_most : given ≤ suc (estimate S σ p)
    given_most = elim (eq? given 0) [ inl z ↦ omega arith | inr n ↦ omega (arith, given_is n) ]

    watched_access : (m : Move) → Watched S (settled S σ r store m) (observe_access o p given)
    watched_access m x n =
        elim (eq? x p) [
          | inl e ↦
              let was = W p real in
              let one : hit p p ≡ 1 = hit_same p p refl in
              let after : State = settled S σ r store m in
              let seen : Observed = observe_access o p given in
              subst (λ (y : ℕ).
              Counted (estimate S after y) (tracker_at S after y).spill (seen.accesses y) (seen.latest y) (seen.since y))
              (sym e)
              (record {
                most = omega (arith, was.most, E.same);
                least = omega (arith, was.least, E.same, E.spill_grows p);
                last = elim (eq? given 0) [
                  | inl z ↦ rw (eq-eqb p p refl, eq-eqb given 0 z) (omega (arith, was.last, E.same))
                  | inr g ↦ rw (eq-eqb p p refl, ne_eqb given 0 g) (omega (arith, given_is g, E.same))
                ];
              })
          | inr k ↦
              let was = W x n in
              let none : hit p x ≡ 0 = hit_other p x k in
              let up = (E.other x k n).0 in
              rw (ne_eqb x p k) (record {
                most = omega (arith, was.most);
                least = elim (E.drifts x k n) [ inl g ↦ omega (arith, was.least, g, E.spill_grows x) | inr g ↦ omega (arith, g) ];
                last = omega (arith, was.last);
              })
        ]

    concluded : (answer : Answer) → answer.slot ≡ slot_moved_to (move S σ r) → answer.estimate ≡ given
        → Conclusions S (suc (o.accesses p)) (o.latest p) (o.since p) (tracked S σ r).spill answer
    concluded answer at is =
        let was = W p real in
        let told = slot-told S σ r I.sound.ranges I.head_in in
        let low = place_low S σ τ₀ τ I r row_in in
        let pos : 0 < S.a = I.sound.ranges.a_low in
        let few : given ≤ S.a = omega (arith, given_most, low) in
        rw (at, is) (record {
          within = few;
          moved = λ n. elim told [ inl t ↦ absurd (n t.0) | inr t ↦ due S.a given few t.1 ];
          stayed = λ z. elim told [ inl t ↦ not_due S.a given pos t.1 | inr t ↦ absurd (t.0 z) ];
          rises = λ n. omega (arith, was.last, given_is n);
          further = omega (arith, was.last, low);
          last = λ e. elim (eq? given 0) [
            | inl z ↦ absurd (omega (arith, was.last, spill_is z, below, low))
            | inr n ↦ omega (arith, was.last, given_is n, low)
          ];
          most = λ n. omega (arith, was.most, given_is n);
          least = omega (arith, given_most, was.least, K.spill_grows);
          few = λ z. omega (arith, was.most, spill_is z);
          spill_above = λ z. omega (arith, was.last, spill_is z);
          below = below;
        })

  -- ---- one call

  watched_step : (c : Call) → Watched S (step S σ c).state (observe o (event_of c (step S σ c)))
  watched_step =
      step_cases S σ (λ c s. Watched S s.state (observe o (event_of c s)))
      (λ c n. rw (ne_eqb (ladder S σ c) 0 n) W)
      (λ a z.
      let R = (accepted S σ _ z).reached in
      watched_access (row_of a) R.row_in R.more (store_by S σ a) (move S σ (row_of a)))
      (λ x z. W)
      (λ z. watched_new S I.sound.ranges.b_low σ)

  concluded_step : (c : Call) → OfAccepted (Concludes S o (step S σ c).state) (event_of c (step S σ c))
  concluded_step =
      step_cases S σ (λ c s. OfAccepted (Concludes S o s.state) (event_of c s))
      (λ c n. not_accepted (Concludes S o σ) (event_of c (refused_step S σ c)) n)
      (λ a z w.
      let R = (accepted S σ _ z).reached in
      let answer : Answer = (accepted_step S σ (rank (access a))).answer in
      let p : ℕ = place S σ (row_of a) in
      subst (λ (t : Tracker). Conclusions S (suc (o.accesses p)) (o.latest p) (o.since p) t.spill answer)
      (sym (here (row_of a) R.row_in R.more (store_by S σ a)))
      (concluded (row_of a) R.row_in R.more (store_by S σ a) answer refl refl))
      (λ x z. tt)
      (λ z. tt)

-- ---- every list

pub concludes : OfChains (AnyCall EstimatesHold)
concludes S blank σ es z chain c =
    let I = inv_set_up S blank z in
    let R : Ranges S = I.sound.ranges in
    let begun : Watched S (calls.set_up S blank).state unobserved =
    subst (λ (σ' : State). Watched S σ' unobserved) (set_up-new S blank z) (watched_new S R.b_low (calls.cleared S blank)) in
    let J = inv_chain S chain tally.start tally.start I in
    concluded_step S σ J.0 J.1 J.2 (observed unobserved es)
    (followed S observe observed (λ o. refl) (λ o e es. refl) (λ e o. idle_observe o) (Watched S) (watched_step S) chain tally.start tally.start I unobserved begun) c

pub estimates : Estimates
estimates = lists (AnyCall EstimatesHold) concludes
