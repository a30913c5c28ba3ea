-- Demand 1, as one claim: any call with any settings, arguments and lent memory, sound or not, gets the service or one
-- refusal by number. Its proof is `demand_1` of proofs/Refusals.antt.
-- Assumes nothing.
use Rattle.std.specs.Prelude.{ℕ, ◌≡◌, ◌≢◌, List, [], ◌∷◌, length}
use Rattle.geometry.specs.declared.Settings.{Settings}
use Rattle.engine.specs.State.{State}
use Rattle.engine.specs.Ladder.{inspect_number}
use Rattle.engine.specs.Calls.{set_up, inspect_part}
use Rattle.basics.specs.Lists.{OneOf}
use Rattle.history.specs.Run.{Access, read, write, access, look, Call, rank, tick, figureless, step}

-- the column 'calls' of 'Where each call can stop', and 0 for the service: the numbers that a call may answer
abbrev pub allowed : Call → List ℕ
allowed (rank (access a)) = 0 ∷ 1 ∷ 2 ∷ 3 ∷ 4 ∷ 5 ∷ 6 ∷ 7 ∷ 8 ∷ 9 ∷ []
allowed (rank (look x)) = 0 ∷ 1 ∷ 2 ∷ 3 ∷ 4 ∷ 5 ∷ 7 ∷ []
allowed tick = 0 ∷ 1 ∷ 2 ∷ 3 ∷ 4 ∷ []

-- the read buffer that an access is lent; a write is lent none
abbrev pub lent_buffer : Access → List ℕ
lent_buffer (read r buffer) = buffer
lent_buffer (write r column bytes) = []

-- the read buffer that a call is lent
abbrev pub buffer_of : Call → List ℕ
buffer_of (rank (access a)) = lent_buffer a
buffer_of (rank (look x)) = []
buffer_of tick = []

pub record Demand1 : Type 0 where
  -- set-up's numbers, and that a set-up that is refused changes nothing
  pub set_up-number : (S : Settings) (σ : State) → OneOf (0 ∷ 1 ∷ 2 ∷ 3 ∷ []) (set_up S σ).number
  pub set_up_refused : (S : Settings) (σ : State) → (set_up S σ).number ≢ 0 → (set_up S σ).state ≡ σ
  -- the numbers of the other calls
  pub number : (S : Settings) (σ : State) (c : Call) → OneOf (allowed c) (step S σ c).answer.number
  -- 'Control record and all lent memory remain as before the call, the read buffer too. Beside the number a refusal holds
  -- nothing: each figure in it is 0, and slot moved to and row sent home are none.'
  pub refused : (S : Settings) (σ : State) (c : Call) → (step S σ c).answer.number ≢ 0
      → step S σ c ≡ record { state = σ; answer = figureless (step S σ c).answer.number (buffer_of c) }
  -- 'the part has length 0 exactly when the number isn't 0'
  pub part_none : (S : Settings) (σ : State) (r : ℕ) → inspect_number S σ r ≢ 0 → length (inspect_part S σ r) ≡ 0
  pub part_some : (S : Settings) (σ : State) (r : ℕ) → inspect_number S σ r ≡ 0 → length (inspect_part S σ r) ≢ 0
