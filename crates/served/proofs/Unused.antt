-- The C functions do not look at or change the places for banks from B on. Assumes nothing.
use Prim.Native.Nat.{ℕ}
use mathlib.Core.Path.{◌≡◌, refl, sym, ap, ◌∙◌}
use mathlib.Core.List.{List}
use Rattle.geometry.specs.declared.Settings.{Settings}
use Rattle.engine.specs.State.{State}
use Rattle.engine.specs.Calls as calls
use Rattle.engine.specs.Unused.{HasPlaces, with_unused, SameUnused, UnusedZero}
use Rattle.engine.proofs.Unused.{inspect_alike}
use Rattle.figures.specs.Promises.{SetUpPromise}
use Rattle.figures.specs.Span.{span_of}
use Rattle.history.specs.Run as run
use Rattle.history.proofs.Unused.{unused}
use Rattle.served.specs.Transcript.{Exchange, Promised, seen}
use Rattle.served.specs.Unused.{UnusedServed}
use Rattle.served.proofs.Exchange.{exchange_cases, step_of, told, heard}

-- ---- a call

module _ (S : Settings) (before after : State) (has : HasPlaces before.control) where
  span_alike : (spill acts : List ℕ) (row : ℕ) → span_of S (with_unused S spill acts before) row ≡ span_of S before row
  unfolding span_of
  span_alike spill acts row = rw (inspect_alike S spill acts before has row)

  same-served : (spill acts : List ℕ) (x : Exchange) → Promised S before x after
      → Promised S (with_unused S spill acts before) x (with_unused S spill acts after)
  same-served spill acts =
      exchange_cases (λ x. Promised S before x after → Promised S (with_unused S spill acts before) x (with_unused S spill acts after))
      (λ x t p.
      heard S (with_unused S spill acts before) (with_unused S spill acts after) x t
      (ap (λ (s : run.Step). step_of (with_unused S spill acts s.state) s.answer) (told S before after x t p)
      ∙ sym (unused.same S before spill acts has (seen x).call)))
      (λ row span p. (p.0 ∙ sym (span_alike spill acts row), ap (with_unused S spill acts) p.1))

  kept-served : (x : Exchange) → Promised S before x after → SameUnused S after.control before.control
  kept-served =
      exchange_cases (λ x. Promised S before x after → SameUnused S after.control before.control)
      (λ x t p.
      let at : after ≡ (run.step S before (seen x).call).state = ap (λ (s : run.Step). s.state) (told S before after x t p) in
      rw at (unused.kept S before has (seen x).call))
      (λ row span p. rw p.1 (refl, refl))

-- ---- set-up

module _ (S : Settings) (before after : State) (begun : SetUpPromise S before after 0) where
  zero : (calls.set_up S before).number ≡ 0
  zero = sym (ap (λ (n : calls.Noted). n.number) begun)

  new : after ≡ (calls.set_up S before).state
  new = ap (λ (n : calls.Noted). n.state) begun

  set_up-served : (spill acts : List ℕ) → SetUpPromise S (with_unused S spill acts before) after 0
  set_up-served spill acts =
      ap (λ (number : ℕ). calls.noted_of after number) (sym (unused.set_up-number S before spill acts ∙ zero))
      ∙ ap (λ (σ : State). calls.noted_of σ (calls.set_up S (with_unused S spill acts before)).number)
      (new ∙ sym (unused.set_up_state S before spill acts zero))

  zero_served : UnusedZero S after.control
  zero_served = rw new (unused.set_up_zero S before zero)

pub unused_served : UnusedServed
unused_served =
    record {
      same = λ S before after spill acts x has. same-served S before after has spill acts x;
      kept = λ S before after x has. kept-served S before after has x;
      set-up = λ S before after spill acts begun. set_up-served S before after begun spill acts;
      set_up_zero = zero_served;
    }
