-- What can be had through the C functions: every list of calls, with the answers that the definitions give, and so every figure.
-- The proofs are `lists_served` and `tight_served` of proofs/Reached.antt.
-- Assumes nothing.
use Rattle.std.specs.Prelude.{◌≡◌, List, map}
use Rattle.geometry.specs.declared.Settings.{Settings}
use Rattle.engine.specs.State.{State}
use Rattle.figures.specs.Promises.{SetUpPromise}
use Rattle.history.specs.Run.{Call, Event, run, events}
use Rattle.history.specs.Tight.{Part, calls_of, TightBy}
use Rattle.served.specs.Transcript.{Logged, Transcript, seen_of}

-- Every list of calls has a transcript in which the caller sees exactly what the definitions answer. So no claim about transcripts
-- is empty.
abbrev pub ListsServed : Type 0
ListsServed = (S : Settings) (σ : State) (cs : List Call)
    → (es : List Logged) × (Transcript S σ es (run S σ cs) × (map seen_of es ≡ events S σ cs))

-- a transcript from σ, of these calls, of which P holds
pub record Realized (S : Settings) (σ : State) (cs : List Call) (P : List Event → Type 0) : Type 0 where
  pub log : List Logged
  pub end : State
  pub transcript : Transcript S σ log end
  pub calls : map (λ (e : Event). e.call) (map seen_of log) ≡ cs
  pub holds : P (map seen_of log)

-- `aqua_set_up` answers 0 with these settings on some memory, and wherever it does there is a transcript of the list of which P
-- holds
pub record WitnessServed (S : Settings) (parts : List Part) (P : List Event → Type 0) : Type 0 where
  pub accepts : (blank : State) × ((σ : State) × SetUpPromise S blank σ 0)
  pub reached : (blank σ : State) → SetUpPromise S blank σ 0 → Realized S σ (calls_of parts) P

-- No figure of demand 3, or of a stretch over one tick, can be lowered: `Tight` of crate `history`, of the C functions.
abbrev pub TightServed : Type 0
TightServed = TightBy WitnessServed
