-- Document 02, Ask 5, as one claim, of any settings, arguments and lent memory, sound or not: 'the record's places for banks
-- from B on are 0 at set-up and not looked at or changed afterwards.' Its proof is `unused` of proofs/Unused.antt; the same of
-- the C functions is `UnusedServed` of crate `served`.
-- Assumes nothing.
use Rattle.std.specs.Prelude.{ℕ, ◌≡◌, List}
use Rattle.geometry.specs.declared.Settings.{Settings}
use Rattle.engine.specs.State.{State}
use Rattle.engine.specs.Calls.{set_up, inspect_part}
use Rattle.engine.specs.Unused.{HasPlaces, with_unused, SameUnused, UnusedZero}
use Rattle.history.specs.Run.{Call, step}

pub record Unused : Type 0 where
  -- whatever stands there, a call answers the same and leaves the same memory, and what stands there stays
  pub same : (S : Settings) (σ : State) (spill acts : List ℕ) → HasPlaces σ.control → (c : Call)
      → step S (with_unused S spill acts σ) c
      ≡ record { state = with_unused S spill acts (step S σ c).state; answer = (step S σ c).answer }
  -- so no call changes them
  pub kept : (S : Settings) (σ : State) → HasPlaces σ.control → (c : Call)
      → SameUnused S (step S σ c).state.control σ.control
  -- inspect's part is the same too
  pub part : (S : Settings) (σ : State) (spill acts : List ℕ) → HasPlaces σ.control → (r : ℕ)
      → inspect_part S (with_unused S spill acts σ) r ≡ inspect_part S σ r
  -- set-up does not look at them, ..
  pub set_up-number : (S : Settings) (σ : State) (spill acts : List ℕ)
      → (set_up S (with_unused S spill acts σ)).number ≡ (set_up S σ).number
  pub set_up_state : (S : Settings) (σ : State) (spill acts : List ℕ) → (set_up S σ).number ≡ 0
      → (set_up S (with_unused S spill acts σ)).state ≡ (set_up S σ).state
  -- .. and makes them 0
  pub set_up_zero : (S : Settings) (σ : State) → (set_up S σ).number ≡ 0
      → UnusedZero S (set_up S σ).state.control
