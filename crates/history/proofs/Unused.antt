-- No call looks at or changes the places for banks from B on, and set-up makes them 0. Assumes nothing.
use Prim.Native.Nat.{ℕ}
use mathlib.Core.Path.{◌≡◌, refl, sym, ap, ◌∙◌}
use mathlib.Core.Logic.{inl, inr}
use mathlib.Core.List.{List, []}
use lib.Dec.{eqb}
use lib.ListN.{drop, take-append-drop}
use borrow.Author.Tests.{eq-eqb, eqb-true, eqb-false}
use Rattle.geometry.specs.declared.Settings.{Settings}
use Rattle.basics.proofs.Cases.{split}
use Rattle.conditions.proofs.Facts.{ranges_facts}
use Rattle.banks.specs.Banks.{most_banks}
use Rattle.engine.specs.State.{State}
use Rattle.engine.specs.Ladder.{set_up_number}
use Rattle.engine.specs.Calls as calls
use Rattle.engine.specs.Unused.{HasPlaces, with_unused, SameUnused, UnusedZero}
use Rattle.engine.proofs.Facts.{fit, accepted}
use Rattle.engine.proofs.Trackers.{fill_behind}
use Rattle.engine.proofs.Unused.{behind, places, tracked_alike, move_alike, state_alike}
use Rattle.engine.proofs.Unused.{tick_alike, inspect_alike, access_alike, part_alike, ticked_alike}
use Rattle.history.specs.Run.{Access, read, write, access, look, Call, rank, tick}
use Rattle.history.specs.Run.{row_of, asked_of, row_looked, figureless, Step, step}
use Rattle.history.specs.Demand1.{buffer_of}
use Rattle.history.specs.Unused.{Unused}
use Rattle.history.proofs.Groups.{store_by, filled_by, ladder, refused-step, accepted_step, accepted-step}

-- ---- a call

-- a step that leaves other numbers there
abbrev elsewhere : Settings → List ℕ → List ℕ → Step → Step
elsewhere S spill acts s = record { state = with_unused S spill acts s.state; answer = s.answer }

module _ (S : Settings) (σ : State) (spill acts : List ℕ) (has : HasPlaces σ.control) where
  ladder_alike : (c : Call) → ladder S (with_unused S spill acts σ) c ≡ ladder S σ c
  ladder_alike (rank (access a)) = access_alike S spill acts σ has (asked_of S a)
  ladder_alike (rank (look x)) = inspect_alike S spill acts σ has (row_looked x)
  ladder_alike tick = tick_alike S spill acts σ has

  store_alike : (a : Access) → store_by S (with_unused S spill acts σ) a ≡ store_by S σ a
  store_alike (read r buffer) = refl
  store_alike (write r column bytes) = refl

  filled_alike : (a : Access) → filled_by S (with_unused S spill acts σ) a ≡ filled_by S σ a
  filled_alike (read r buffer) = refl
  filled_alike (write r column bytes) = refl

  accepted_alike : (c : Call) → ladder S σ c ≡ 0
      → accepted_step S (with_unused S spill acts σ) c ≡ elsewhere S spill acts (accepted_step S σ c)
  accepted_alike (rank (access a)) z =
      let P = places S σ has (accepted S σ (asked_of S a) z).reached.fit in
      rw (
        store_alike a,
        filled_alike a,
        state_alike S spill acts σ P (row_of a) (store_by S σ a),
        tracked_alike S spill acts σ P (row_of a),
        move_alike S spill acts σ P (row_of a),
      )
  accepted_alike (rank (look x)) z = refl
  accepted_alike tick z =
      ap (λ (τ : State). record { state = τ; answer = figureless 0 [] }) (ticked_alike S spill acts σ has z)

  step_alike : (c : Call) → step S (with_unused S spill acts σ) c ≡ elsewhere S spill acts (step S σ c)
  step_alike c =
      elim (split (eqb (ladder S σ c) 0)) [
        | inl e ↦
            let z = eqb-true (ladder S σ c) 0 e in
            accepted-step S (with_unused S spill acts σ) c (ladder_alike c ∙ z)
            ∙ accepted_alike c z
            ∙ ap (elsewhere S spill acts) (sym (accepted-step S σ c z))
        | inr e ↦
            let n = eqb-false (ladder S σ c) 0 e in
            refused-step S (with_unused S spill acts σ) c (λ z. n (sym (ladder_alike c) ∙ z))
            ∙ ap (λ (x : ℕ). record { state = with_unused S spill acts σ; answer = figureless x (buffer_of c) }) (ladder_alike c)
            ∙ ap (elsewhere S spill acts) (sym (refused-step S σ c n))
      ]

-- put in what stands there, and it stands there after the call
itself : (S : Settings) (σ : State) → with_unused S (drop S.b σ.control.spill) (drop S.b σ.control.acts) σ ≡ σ
itself S σ = rw (take-append-drop S.b σ.control.spill, take-append-drop S.b σ.control.acts)

module _ (S : Settings) (σ : State) (has : HasPlaces σ.control) (c : Call) where
  abbrev after : State
  after = (step S σ c).state

  after_is : after ≡ with_unused S (drop S.b σ.control.spill) (drop S.b σ.control.acts) after
  after_is =
      ap (λ (τ : State). (step S τ c).state) (sym (itself S σ))
      ∙ ap (λ (s : Step). s.state) (step_alike S σ (drop S.b σ.control.spill) (drop S.b σ.control.acts) has c)

  call_keeps : SameUnused S after.control σ.control
  call_keeps = (
    behind S.b after.control.spill _ (ap (λ (τ : State). τ.control.spill) after_is),
    behind S.b after.control.acts _ (ap (λ (τ : State). τ.control.acts) after_is),
  )

-- ---- set-up

module _ (S : Settings) (σ : State) where
  set_up_alike : (spill acts : List ℕ) → (calls.set_up S (with_unused S spill acts σ)).number ≡ (calls.set_up S σ).number
  unfolding calls.set_up calls.noted
  set_up_alike spill acts = refl

  set_up-same : (spill acts : List ℕ) → (calls.set_up S σ).number ≡ 0
      → (calls.set_up S (with_unused S spill acts σ)).state ≡ (calls.set_up S σ).state
  unfolding calls.set_up calls.noted
  set_up-same spill acts z = rw (eq-eqb (set_up_number S σ) 0 z)

  set_up_zeros : (calls.set_up S σ).number ≡ 0 → UnusedZero S (calls.set_up S σ).state.control
  unfolding calls.set_up calls.noted
  set_up_zeros z =
      let zeros = fill_behind S.b most_banks 0 (ranges_facts S (fit S σ z).ranges).b_high in
      rw (eq-eqb (set_up_number S σ) 0 z) (zeros, zeros)

pub unused : Unused
unused =
    record {
      same = step_alike;
      kept = call_keeps;
      part = λ S σ spill acts has. part_alike S spill acts σ has;
      set_up-number = set_up_alike;
      set_up_state = set_up-same;
      set_up_zero = set_up_zeros;
    }
