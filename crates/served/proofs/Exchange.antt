-- One call of a C function: what its promise says is the step of the call, as `history` has it. Assumes nothing.
use Prim.Native.Nat.{ℕ}
use mathlib.Core.Path.{◌≡◌, sym, ap, subst}
use mathlib.Core.List.{List, []}
use Rattle.geometry.specs.declared.Settings.{Settings}
use Rattle.engine.specs.State.{State}
use Rattle.engine.specs.Calls as calls
use Rattle.figures.specs.declared.Outcome.{Outcome}
use Rattle.figures.specs.declared.Span.{Span}
use Rattle.figures.specs.Promises.{AccessPromise}
use Rattle.history.specs.Run as run
use Rattle.served.specs.Transcript.{inspect_number, inspect_span, read, write, look, Exchange, rank, tick, Promised, answer_of, seen}

-- an exchange with an answer of its own; a span has none
pub data Tells : Exchange → Type 0 where
  tells_read : (row : ℕ) (buffer : List ℕ) (outcome : Outcome) (filled : List ℕ) → Tells (rank (read row buffer outcome filled))
  tells_write : (row column : ℕ) (bytes : List ℕ) (outcome : Outcome) → Tells (rank (write row column bytes outcome))
  tells_number : (row number : ℕ) → Tells (rank (look (inspect_number row number)))
  tells_tick : (number : ℕ) → Tells (tick number)

-- what holds of each exchange with an answer of its own, and of each span, holds of every exchange
pub exchange_cases : (P : Exchange → Type 0) → ((x : Exchange) → Tells x → P x)
    → ((row : ℕ) (span : Span) → P (rank (look (inspect_span row span)))) → (x : Exchange) → P x
exchange_cases P tells spans (rank (read row buffer o filled)) = tells _ (tells_read row buffer o filled)
exchange_cases P tells spans (rank (write row column bytes o)) = tells _ (tells_write row column bytes o)
exchange_cases P tells spans (rank (look (inspect_number row number))) = tells _ (tells_number row number)
exchange_cases P tells spans (rank (look (inspect_span row span))) = spans row span
exchange_cases P tells spans (tick number) = tells _ (tells_tick number)

abbrev pub step_of : State → run.Answer → run.Step
step_of σ answer = record { state = σ; answer = answer }

access_told : (a : calls.Accessed) (after : State) (o : Outcome) (filled : List ℕ) → AccessPromise a after o filled
    → step_of after (answer_of o filled) ≡ run.of_access a
access_told a after o filled p = rw (p.0, p.1, p.2)

-- what the promise says: the step of the call, as `history` has it
pub told : (S : Settings) (before after : State) (x : Exchange) → Tells x → Promised S before x after
    → step_of after (seen x).answer ≡ run.step S before (seen x).call
unfolding run.step
told S before after x (tells_read row buffer outcome filled) p = access_told (calls.read S before row buffer) after outcome filled p
told S before after x (tells_write row column bytes outcome) p = access_told (calls.write S before row column bytes) after outcome [] p
told S before after x (tells_number row number) p = rw (p.0, p.1)
told S before after x (tells_tick number) p = ap run.of_noted p

-- and the other way round: an answer that is the step of the call is as promised
outcome_in : run.Answer → Outcome
outcome_in a = record { number = a.number; slot = a.slot; row = a.row; estimate = a.estimate; place = a.place }

access_heard : (a : calls.Accessed) (after : State) (o : Outcome) (filled : List ℕ)
    → step_of after (answer_of o filled) ≡ run.of_access a → AccessPromise a after o filled
unfolding outcome_in
access_heard a after o filled e = (
  ap (λ (s : run.Step). s.state) e,
  ap (λ (s : run.Step). outcome_in s.answer) e,
  ap (λ (s : run.Step). s.answer.buffer) e,
)

pub heard : (S : Settings) (before after : State) (x : Exchange) → Tells x
    → step_of after (seen x).answer ≡ run.step S before (seen x).call → Promised S before x after
unfolding run.step
heard S before after x (tells_read row buffer outcome filled) e = access_heard (calls.read S before row buffer) after outcome filled e
heard S before after x (tells_write row column bytes outcome) e = access_heard (calls.write S before row column bytes) after outcome [] e
heard S before after x (tells_number row number) e =
    (ap (λ (s : run.Step). s.answer.number) e, ap (λ (s : run.Step). s.state) e)
heard S before after x (tells_tick number) e =
    ap (λ (s : run.Step). calls.noted_of s.state s.answer.number) e

-- a look that tells no number
abbrev pub silent : run.Look → run.Event
silent x = record { call = run.rank (run.look x); answer = run.figureless 0 [] }

-- what holds of any call on the memory σ, and of a look that tells no number, holds of an exchange there
pub exchanged : (S : Settings) (P : run.Event → State → Type 0) (σ σ' : State)
    → ((c : run.Call) → P (run.event_of c (run.step S σ c)) (run.step S σ c).state) → ((x : run.Look) → P (silent x) σ')
    → (x : Exchange) → Promised S σ x σ' → P (seen x) σ'
exchanged S P σ σ' answered quiet =
    exchange_cases (λ x. Promised S σ x σ' → P (seen x) σ')
    (λ x t p. subst (λ (s : run.Step). P (run.event_of (seen x).call s) s.state) (sym (told S σ σ' x t p)) (answered (seen x).call))
    (λ row span p. quiet (run.inspect row))
