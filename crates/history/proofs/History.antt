-- Every list of events after set-up: demand 3, and demand 2's tables and numbers. Assumes nothing.
use Prim.Native.Nat.{ℕ, ◌*◌, ◌<◌}
use native.Mathlib.Omega.{arith}
use mathlib.Core.Path.{◌≡◌, refl, sym, ap, ◌∙◌, subst}
use mathlib.Core.Logic.{inl, inr}
use mathlib.Core.List.{List, [], ◌∷◌, map}
use lib.ListN.{get_or-replicate, length-replicate}
use borrow.Author.Tests.{eq-eqb}
use Rattle.geometry.specs.declared.Settings.{Settings}
use Rattle.geometry.specs.Entry.{empty}
use Rattle.conditions.proofs.Facts.{ranges_facts, lengths_facts}
use Rattle.engine.specs.State.{State, lengths_of, forward_of}
use Rattle.engine.specs.Ladder.{set_up_number}
use Rattle.engine.specs.Calls as calls
use Rattle.engine.proofs.Facts.{Fit, fit}
use Rattle.engine.proofs.Trackers.{cleared-new}
use Rattle.basics.specs.Lists.{Each, OneOf}
use Rattle.history.specs.Run.{Call, Event, step, event_of, report_of}
use Rattle.history.specs.Tally as tally
use Rattle.history.specs.Chain.{Idle, Chain, end, call, idle, OfChains, AnyCall}
use Rattle.history.specs.Demand2.{InverseHolds, TablesInverse, Usual, UsualHolds, OnlyUsual}
use Rattle.history.specs.Demand3.{Bounded, NoSlotWanting, AnswersPlace, PlacesAnswered, Demand3Holds, Demand3}
use Rattle.history.proofs.Invariant.{Inv}
use Rattle.history.proofs.Groups.{step-number}
use Rattle.history.proofs.Calls.{inv_new, sound_ticked, carried, carried_on, bounded, bounded_ended, not_9, answers-place, usual}
use Rattle.history.proofs.Chain.{lists, each_call, idle_feed, idle_runs, idle_not_9, idle_accepted}

-- ---- set-up

pub set_up_state : (S : Settings) (σ : State) → (calls.set_up S σ).number ≡ 0 → (calls.set_up S σ).state ≡ calls.cleared S σ
unfolding calls.set_up calls.noted
set_up_state S σ z = rw (eq-eqb (set_up_number S σ) 0 z)

-- it is what a tick would leave
pub set_up-new : (S : Settings) (σ : State) → (calls.set_up S σ).number ≡ 0 → calls.ticked S (calls.cleared S σ) ≡ (calls.set_up S σ).state
unfolding calls.set_up calls.noted
set_up-new S σ z = cleared-new S σ (ranges_facts S (fit S σ z).ranges).b_high ∙ sym (set_up_state S σ z)

inv_cleared : (S : Settings) (σ : State) → set_up_number S σ ≡ 0 → Inv S (calls.cleared S σ) tally.start tally.start
inv_cleared S σ z =
    let f : Fit S σ = fit S σ z in
    let R = ranges_facts S f.ranges in
    let X = lengths_facts S (lengths_of σ) f.lengths in
    let none : (x : ℕ) → x < S.n → forward_of (calls.cleared S σ) x ≡ empty = λ x b. get_or-replicate S.n x empty empty b in
    subst (λ (σ' : State). Inv S σ' tally.start tally.start) (cleared-new S σ R.b_high)
    (inv_new S (calls.cleared S σ) tally.start f.ranges f.limit
    (sound_ticked {σ = calls.cleared S σ} R
    (record {
      store = X.store;
      forward = length-replicate S.n empty;
      reverse = length-replicate S.q empty;
      rows = length-replicate (S.b * S.k) empty;
      counts = length-replicate {A = ℕ} (S.b * S.k) 0;
    })
    (record {
      forward = λ x b. inl (none x b);
      reverse = λ s b. inl (get_or-replicate S.q s empty empty b);
    }))
    (omega (arith, R.q_low))
    (λ x b. rw (none x b)))

pub inv_set_up : (S : Settings) (σ : State) → (calls.set_up S σ).number ≡ 0 → Inv S (calls.set_up S σ).state tally.start tally.start
unfolding calls.set_up calls.noted
inv_set_up S σ z = rw (eq-eqb (set_up_number S σ) 0 z) (inv_cleared S σ z)

-- ---- the list

module _ (S : Settings) where
  -- the invariant after a chain
  pub inv_chain : {σ σ' : State} {es : List Event} → Chain S σ es σ' → (τ₀ τ : tally.Tally) → Inv S σ τ₀ τ
      → (τ₁ : tally.Tally) × (τ₂ : tally.Tally) × Inv S σ' τ₁ τ₂
  inv_chain end τ₀ τ I = (τ₀, τ, I)
  inv_chain (call {σ} c rest) τ₀ τ I = inv_chain rest _ _ (carried_on S σ τ₀ τ I c).1
  inv_chain (idle z rest) τ₀ τ I = inv_chain rest τ₀ τ I

  -- what holds of an idle event, and of every answer given under the invariant, holds of each event
  each : (P : Event → Type 0) → ((e : Event) → Idle e → P e)
      → ((σ : State) (τ₀ τ : tally.Tally) → Inv S σ τ₀ τ → (c : Call) → P (event_of c (step S σ c)))
      → {σ σ' : State} {es : List Event} → Chain S σ es σ' → (τ₀ τ : tally.Tally) → Inv S σ τ₀ τ → Each P es
  each P k h end τ₀ τ I = tt
  each P k h (call {σ} c rest) τ₀ τ I = (h σ τ₀ τ I c, each P k h rest _ _ (carried_on S σ τ₀ τ I c).1)
  each P k h (idle {e = e} z rest) τ₀ τ I = (k e z, each P k h rest τ₀ τ I)

  epochs_bounded : {σ σ' : State} {es : List Event} → Chain S σ es σ' → (τ₀ τ : tally.Tally) → Inv S σ τ₀ τ
      → Each (Bounded S) (tally.epochs S τ₀ τ (map report_of es))
  epochs_bounded (end {σ}) τ₀ τ I = (bounded S σ τ₀ τ I, tt)
  epochs_bounded (call {σ} c rest) τ₀ τ I =
      elim (carried S σ τ₀ τ I c) [
        | inl v ↦ rw v.0 (rw v.1 (bounded_ended S σ τ₀ τ I), epochs_bounded rest _ _ v.2)
        | inr v ↦ rw v.0 (epochs_bounded rest τ₀ _ v.1)
      ]
  epochs_bounded (idle z rest) τ₀ τ I = rw (idle_runs z, idle_feed S τ z) (epochs_bounded rest τ₀ τ I)

  places_answered : {σ σ' : State} {es : List Event} → Chain S σ es σ' → (τ₀ τ : tally.Tally) → Inv S σ τ₀ τ → PlacesAnswered S τ es
  places_answered end τ₀ τ I = tt
  places_answered (call {σ} c rest) τ₀ τ I =
      (answers-place S σ τ₀ τ I c, places_answered rest _ _ (carried_on S σ τ₀ τ I c).1)
  places_answered (idle z rest) τ₀ τ I =
      (idle_accepted (AnswersPlace τ) z, rw (idle_feed S τ z) (places_answered rest τ₀ τ I))

-- What holds of a memory and of what an observer has seen of the events, and is kept by every call under the invariant, holds
-- after a chain (one, all: what it has seen after an event, and after a list of them).
module _ (S : Settings) {O : Type 0} (one : O → Event → O) (all : O → List Event → O) (none : (o : O) → all o [] ≡ o)
    (next : (o : O) (e : Event) (es : List Event) → all o (e ∷ es) ≡ all (one o e) es)
    (unseen : (e : Event) (o : O) → Idle e → one o e ≡ o)
    (P : State → O → Type 0)
    (keeps : (σ : State) (τ₀ τ : tally.Tally) → Inv S σ τ₀ τ → (o : O) → P σ o → (c : Call) → P (step S σ c).state (one o (event_of c (step S σ c)))) where
  pub followed : {σ σ' : State} {es : List Event} → Chain S σ es σ' → (τ₀ τ : tally.Tally) → Inv S σ τ₀ τ → (o : O) → P σ o → P σ' (all o es)
  followed (end {σ}) τ₀ τ I o p = subst (P σ) (sym (none o)) p
  followed (call {σ} {σ'} {es} c rest) τ₀ τ I o p =
      subst (P σ') (sym (next o (event_of c (step S σ c)) es)) (followed rest _ _ (carried_on S σ τ₀ τ I c).1 _ (keeps σ τ₀ τ I o p c))
  followed (idle {σ} {σ'} {es} {e} z rest) τ₀ τ I o p =
      subst (P σ') (sym (next o e es ∙ ap (λ (x : O). all x es) (unseen e o z))) (followed rest τ₀ τ I o p)

-- ---- the theorems

pub kept : OfChains Demand3Holds
kept S blank σ' es z chain =
    let I = inv_set_up S blank z in
    record {
      bounded = epochs_bounded S chain tally.start tally.start I;
      enough = λ q. each S NoSlotWanting (λ e k. idle_not_9 k) (λ σ τ₀ τ I c. not_9 S σ τ₀ τ I q c) chain tally.start tally.start I;
      places = places_answered S chain tally.start tally.start I;
    }

pub demand_3 : Demand3
demand_3 = lists Demand3Holds kept

pub inverse_kept : OfChains InverseHolds
inverse_kept S blank σ es z chain = (inv_chain S chain tally.start tally.start (inv_set_up S blank z)).2.sound.inverse

pub tables_inverse : TablesInverse
tables_inverse = lists InverseHolds inverse_kept

-- the number of a call under the invariant
usual_number : (S : Settings) (σ : State) (τ₀ τ : tally.Tally) → Inv S σ τ₀ τ
    → (c : Call) → Usual (event_of c (step S σ c))
usual_number S σ τ₀ τ I c =
    rw (step-number S σ c)
    (usual S σ τ₀ τ I (OneOf (0 ∷ 5 ∷ 6 ∷ 8 ∷ 9 ∷ []))
    (inl refl) (inr (inl refl)) (inr (inr (inl refl))) (inr (inr (inr (inl refl)))) (inr (inr (inr (inr (inl refl))))) c)

pub next_usual : OfChains (AnyCall UsualHolds)
next_usual S blank σ es z chain =
    let J = inv_chain S chain tally.start tally.start (inv_set_up S blank z) in
    usual_number S σ J.0 J.1 J.2

pub only_usual : OnlyUsual
only_usual S blank cs z = each_call S (calls.set_up S blank).state Usual (λ σ es. next_usual S blank σ es z) cs end
