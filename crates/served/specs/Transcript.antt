-- A transcript: calls of the C functions after set-up, each with its arguments and what the caller sees after it.
-- Assumes nothing.
use Rattle.std.specs.Prelude.{ℕ, ◌≡◌, false, List, [], ◌∷◌}
use Rattle.geometry.specs.declared.Settings.{Settings}
use Rattle.conditions.specs.Conditions.{lengths_hold}
use Rattle.engine.specs.State.{State, lengths_of}
use Rattle.figures.specs.declared.Outcome.{Outcome}
use Rattle.figures.specs.declared.Span.{Span}
use Rattle.figures.specs.Promises.{ReadPromise, WritePromise, TickPromise, InspectNumberPromise, InspectSpanPromise}
use Rattle.history.specs.Run as run

-- A call of a C function that only looks at a row: its arguments, and what it answers.
pub data Looked : Type 0 where
  -- `aqua_inspect_number`
  inspect_number : (row number : ℕ) → Looked
  -- `aqua_inspect_span`
  inspect_span : (row : ℕ) (span : Span) → Looked

-- A call of a C function, the tick apart: its arguments, and what it answers.
pub data RankExchange : Type 0 where
  -- `aqua_read`: the row and the buffer before; the numbers answered, and the buffer after
  read : (row : ℕ) (buffer : List ℕ) (outcome : Outcome) (filled : List ℕ) → RankExchange
  -- `aqua_write`
  write : (row column : ℕ) (bytes : List ℕ) (outcome : Outcome) → RankExchange
  look : Looked → RankExchange

-- Any call of a C function.
pub data Exchange : Type 0 where
  rank : RankExchange → Exchange
  -- `aqua_tick`
  tick : (number : ℕ) → Exchange

-- What its function promises of a call that only looks; lent: what it is lent.
abbrev pub LookPromised : Settings → State → Looked → Type 0
LookPromised S lent (inspect_number row number) = InspectNumberPromise S lent row number
LookPromised S lent (inspect_span row span) = InspectSpanPromise S lent row span

-- What its function promises of a call; before, after: what it is lent. A function that only looks may write nothing.
abbrev pub Promised : Settings → State → Exchange → State → Type 0
Promised S before (rank (read row buffer outcome filled)) after =
    ReadPromise S before row buffer after outcome filled
Promised S before (rank (write row column bytes outcome)) after =
    WritePromise S before row column bytes after outcome
Promised S before (rank (look x)) after = LookPromised S before x × (after ≡ before)
Promised S before (tick number) after = TickPromise S before after number

-- A call as the transcript logs it, with what it is lent.
pub data Logged : Type 0 where
  -- it is lent the memory as the call before it left it
  whole : Exchange → Logged
  -- it is lent other slices, which are `lent` before it and `after` after it
  misfit : (lent after : State) → Exchange → Logged

-- A logged call takes the memory from σ to σ'. Of other slices one at least has another length than document 01 asks. They may
-- be parts of the memory or not; what is supposed is that the memory stays as it is where they do.
abbrev pub Meets : Settings → State → Logged → State → Type 0
Meets S σ (whole x) σ' = Promised S σ x σ'
Meets S σ (misfit lent after x) σ' =
    (lengths_hold S (lengths_of lent) ≡ false) × Promised S lent x after × (after ≡ lent → σ' ≡ σ)

-- The calls of a list, one after the other, take the memory from σ to σ'.
abbrev pub Transcript : Settings → State → List Logged → State → Type 0
Transcript S σ [] σ' = σ' ≡ σ
Transcript S σ (e ∷ es) σ' = (between : State) × (Meets S σ e between × Transcript S between es σ')

-- ---- what a caller sees, in the words of `history`: the tally is fed `report_of` of it, which leaves out all memory

-- the numbers of an access, and the read buffer after it
abbrev pub answer_of : Outcome → List ℕ → run.Answer
answer_of o filled = run.access_answer o.number o.slot o.row o.place o.estimate filled

-- the call that was made
abbrev pub look_of : Looked → run.Look
look_of (inspect_number row number) = run.inspect row
look_of (inspect_span row span) = run.inspect row

-- the number that it tells; a span comes with none, and stands with 0
abbrev pub number_told : Looked → ℕ
number_told (inspect_number row number) = number
number_told (inspect_span row span) = 0

-- likewise of any call but the tick: the call that was made, and what it answered
abbrev pub call_of : RankExchange → run.RankCall
call_of (read row buffer o filled) = run.access (run.read row buffer)
call_of (write row column bytes o) = run.access (run.write row column bytes)
call_of (look x) = run.look (look_of x)

abbrev pub answer_told : RankExchange → run.Answer
answer_told (read row buffer o filled) = answer_of o filled
answer_told (write row column bytes o) = answer_of o []
answer_told (look x) = run.figureless (number_told x) []

abbrev pub seen : Exchange → run.Event
seen (rank x) = record { call = run.rank (call_of x); answer = answer_told x }
seen (tick number) = record { call = run.tick; answer = run.figureless number [] }

abbrev pub seen_of : Logged → run.Event
seen_of (whole x) = seen x
seen_of (misfit lent after x) = seen x
