-- A chain: a list of events from one memory to another. The run of a list of calls is a chain, and so is a transcript
-- of the C functions (crate `served`). What is claimed of every list of calls is proved of every chain.
-- Assumes nothing.
use Rattle.std.specs.Prelude.{◌≡◌, List, [], ◌∷◌}
use Rattle.geometry.specs.declared.Settings.{Settings}
use Rattle.engine.specs.State.{State}
use Rattle.engine.specs.Calls.{set_up}
use Rattle.history.specs.Run.{Look, look, Call, rank, Answer, Event, step, run, event_of, events}

-- an event that changes nothing: a call that was lent another length, or one that only looks and tells no number
pub data Idle : Event → Type 0 where
  misfit : {e : Event} → e.answer.number ≡ 3 → Idle e
  looks : {answer : Answer} (x : Look) → answer.number ≡ 0 → Idle (record { call = rank (look x); answer = answer })

-- each event is a call as the definitions answer it, or idle
pub data Chain (S : Settings) : State → List Event → State → Type 0 where
  end : {σ : State} → Chain S σ [] σ
  call : {σ σ' : State} {es : List Event} (c : Call) → Chain S (step S σ c).state es σ'
      → Chain S σ (event_of c (step S σ c) ∷ es) σ'
  idle : {σ σ' : State} {es : List Event} {e : Event} → Idle e → Chain S σ es σ' → Chain S σ (e ∷ es) σ'

-- ---- claims

-- What is claimed of settings, the memory that set-up was lent, the events after it, and the memory that they leave.
abbrev pub Claim : Type 1
Claim = Settings → State → List Event → State → Type 0

-- For all settings, all lent memory and all chains: if set-up is accepted, then it holds of the chain from there.
abbrev pub OfChains : Claim → Type 0
OfChains P = (S : Settings) (blank σ : State) (es : List Event) → (set_up S blank).number ≡ 0
    → Chain S (set_up S blank).state es σ → P S blank es σ

-- For all settings, all lent memory and all lists of calls: if set-up is accepted, then it holds of the list.
abbrev pub OfLists : Claim → Type 0
OfLists P = (S : Settings) (blank : State) (cs : List Call) → (set_up S blank).number ≡ 0
    → P S blank (events S (set_up S blank).state cs) (run S (set_up S blank).state cs)

-- What is claimed of settings, the events after set-up, one event more, and the memory that it leaves.
abbrev pub CallClaim : Type 1
CallClaim = Settings → List Event → Event → State → Type 0

-- It holds of any call after these events.
abbrev pub AnyCall : CallClaim → Claim
AnyCall P S blank es σ = (c : Call) → P S es (event_of c (step S σ c)) (step S σ c).state
