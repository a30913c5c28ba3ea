-- Chains: what holds of every chain holds of every list of calls, and what an idle event does not do. Assumes nothing.
use native.Mathlib.Omega.{arith}
use mathlib.Core.Path.{◌≡◌}
use mathlib.Core.Logic.{◌≢◌}
use mathlib.Core.Bool.{false}
use mathlib.Core.List.{List, [], ◌∷◌, ◌++◌}
use Rattle.geometry.specs.declared.Settings.{Settings}
use Rattle.engine.specs.State.{State}
use Rattle.engine.specs.Calls.{set_up}
use Rattle.history.specs.Tally as tally
use Rattle.basics.specs.Lists.{Each}
use Rattle.history.specs.Run.{Access, Call, Answer, Event, step, run, event_of, events, OfAccepted, report_of}
use Rattle.history.specs.Chain.{Idle, misfit, looks, Chain, end, call, idle, Claim, OfChains, OfLists}
use Rattle.history.specs.Demand2.{Memory, remember}
use Rattle.history.specs.Estimates.{Observed, observe}
use Rattle.history.specs.Spent.{Progress, progress}
use Rattle.history.proofs.Groups.{not_accepted}

-- the run of a list of calls
chain_of : (S : Settings) (cs : List Call) (σ : State) → Chain S σ (events S σ cs) (run S σ cs)
chain_of S [] σ = end
chain_of S (c ∷ cs) σ = call c (chain_of S cs (step S σ c).state)

-- what holds of every chain holds of every list of calls
pub lists : (P : Claim) → OfChains P → OfLists P
lists P h S blank cs z = h S blank _ _ z (chain_of S cs (set_up S blank).state)

-- one chain after another
pub chain_append : {S : Settings} {σ σ' σ'' : State} {es fs : List Event} → Chain S σ es σ' → Chain S σ' fs σ'' → Chain S σ (es ++ fs) σ''
chain_append end next = next
chain_append (call c rest) next = call c (chain_append rest next)
chain_append (idle z rest) next = idle z (chain_append rest next)

-- what holds of any call after every chain from σ₀ holds of each call of a list
module _ (S : Settings) (σ₀ : State) (P : Event → Type 0)
    (next : (σ : State) (es : List Event) → Chain S σ₀ es σ → (c : Call) → P (event_of c (step S σ c))) where
  pub each_call : (cs : List Call) {σ : State} {es : List Event} → Chain S σ₀ es σ → Each P (events S σ cs)
  each_call [] chain = tt
  each_call (c ∷ cs) {σ} {es} chain = (next σ es chain c, each_call cs (chain_append chain (call c end)))

-- ---- an idle event

-- the tally passes it by,
pub idle_feed : {e : Event} (S : Settings) (τ : tally.Tally) → Idle e → tally.feed S τ (report_of e) ≡ τ
idle_feed S τ (misfit z) = rw z
idle_feed S τ (looks x z) = rw z

pub idle_runs : {e : Event} → Idle e → tally.ends_epoch (report_of e) ≡ false
idle_runs (misfit z) = rw z
idle_runs (looks x z) = rw z

-- it is not refused for want of a slot,
pub idle_not_9 : {e : Event} → Idle e → e.answer.number ≢ 9
idle_not_9 (misfit z) n = omega arith
idle_not_9 (looks x z) n = omega arith

-- it is no accepted access, which would answer a place or return bytes,
pub idle_accepted : {e : Event} (P : Access → Answer → Type 0) → Idle e → OfAccepted P e
idle_accepted {e} P (misfit z) = not_accepted P e (λ n. omega arith)
idle_accepted P (looks x z) = tt

-- an observer of places and estimates passes it by,
pub idle_observe : {e : Event} (o : Observed) → Idle e → observe o e ≡ o
idle_observe o (misfit z) = rw z
idle_observe o (looks x z) = rw z

-- and so does one of the epoch's progress,
pub idle_progress : {e : Event} (p : Progress) → Idle e → progress p e ≡ p
idle_progress p (misfit z) = rw z
idle_progress p (looks x z) = rw z

-- and it writes no byte
pub idle_memory : {e : Event} (mem : Memory) → Idle e → remember mem e ≡ mem
idle_memory mem (misfit z) = rw z
idle_memory mem (looks x z) = rw z
