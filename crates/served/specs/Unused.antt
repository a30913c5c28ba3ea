-- Document 02, Ask 5, of the C functions, on any memory: 'the record's places for banks from B on are 0 at set-up and not looked at
-- or changed afterwards.' The proof is `unused_served` of proofs/Unused.antt.
-- Assumes nothing.
use Rattle.std.specs.Prelude.{ℕ, List}
use Rattle.geometry.specs.declared.Settings.{Settings}
use Rattle.engine.specs.State.{State}
use Rattle.engine.specs.Unused.{HasPlaces, with_unused, SameUnused, UnusedZero}
use Rattle.figures.specs.Promises.{SetUpPromise}
use Rattle.served.specs.Transcript.{Exchange, Promised}

pub record UnusedServed : Type 0 where
  -- whatever stands there, a call answers the same and leaves the same memory, and what stands there stays
  pub same : (S : Settings) (before after : State) (spill acts : List ℕ) (x : Exchange) → HasPlaces before.control
      → Promised S before x after → Promised S (with_unused S spill acts before) x (with_unused S spill acts after)
  -- so no call changes them
  pub kept : (S : Settings) (before after : State) (x : Exchange) → HasPlaces before.control → Promised S before x after
      → SameUnused S after.control before.control
  -- an accepted set-up leaves the same memory, whatever stood there, and makes them 0
  pub set-up : (S : Settings) (before after : State) (spill acts : List ℕ) → SetUpPromise S before after 0
      → SetUpPromise S (with_unused S spill acts before) after 0
  pub set_up_zero : (S : Settings) (before after : State) → SetUpPromise S before after 0
      → UnusedZero S after.control
