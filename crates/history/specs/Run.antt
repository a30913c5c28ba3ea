-- A history: a list of calls after set-up, each getting the memory as the last left it.
-- Assumes nothing.
use Rattle.std.specs.Prelude.{ℕ, ◌≡◌, Bool, List, [], ◌∷◌, length}
use Rattle.geometry.specs.declared.Settings.{Settings}
use Rattle.geometry.specs.Entry.{empty}
use Rattle.engine.specs.State.{State}
use Rattle.engine.specs.Answer.{number_of, place_of, estimate_in, move_of, slot_moved_to, row_sent_home}
use Rattle.engine.specs.declared.Asked.{Asked}
use Rattle.engine.specs.Ladder.{inspect_number, read_off, write_off}
use Rattle.engine.specs.Calls as calls
use Rattle.history.specs.Tally as tally

-- A read or a write with its arguments. 'A read's buffer and a write's bytes serve their own call only.'
-- (The enum `Access` of crate `engine` is what such a call answers.)
pub data Access : Type 0 where
  -- row, buffer
  read : ℕ → List ℕ → Access
  -- row, column, bytes
  write : ℕ → ℕ → List ℕ → Access

-- A call that only looks at a row, with its arguments: 'It opens nothing and counts nothing.'
pub data Look : Type 0 where
  -- row; either of inspect's two calls. The part that the second gives is no part of the list: it is asked for after it
  inspect : ℕ → Look

-- A call with its arguments, the tick apart. Calls that are judged and tallied alike stand in one group, under one
-- constructor.
pub data RankCall : Type 0 where
  access : Access → RankCall
  look : Look → RankCall

-- Any call.
pub data Call : Type 0 where
  rank : RankCall → Call
  tick : Call

-- ---- a read or a write

-- its row
abbrev pub row_of : Access → ℕ
row_of (read r buffer) = r
row_of (write r column bytes) = r

-- the condition of 6: 'read buffer not W long; write runs past W'
abbrev pub span_off : Settings → Access → Bool
span_off S (read r buffer) = read_off S (length buffer)
span_off S (write r column bytes) = write_off S column (length bytes)

-- what it asks of its row
abbrev pub asked_of : Settings → Access → Asked
asked_of S a = record { row = row_of a; off = span_off S a }

-- what it leaves and answers
abbrev pub access_of : Settings → State → Access → calls.Accessed
access_of S σ (read r buffer) = calls.read S σ r buffer
access_of S σ (write r column bytes) = calls.write S σ r column bytes

-- ---- a call that only looks

-- its row
abbrev pub row_looked : Look → ℕ
row_looked (inspect r) = r

-- its number; a look makes inspect's checks
abbrev pub look_number : Settings → State → Look → ℕ
look_number S σ x = inspect_number S σ (row_looked x)

-- ---- what a call answers and leaves

-- What a call answers, in document 01's numbers.
pub record Answer : Type 0 where
  pub number : ℕ
  -- the slot moved to and the row sent home, 65535 for none
  pub slot : ℕ
  pub row : ℕ
  pub place : ℕ
  -- the estimate after the access, 0 for none (document 02, Ask 2)
  pub estimate : ℕ
  -- the read buffer afterwards
  pub buffer : List ℕ

-- an answer that has no figure beside its number: 'each figure in it is 0, and slot moved to and row sent home are none'
abbrev pub figureless : ℕ → List ℕ → Answer
figureless number buffer =
    record { number = number; slot = empty; row = empty; place = 0; estimate = 0; buffer = buffer }

-- the answer of an access, from its figures
abbrev pub access_answer : (number slot row place estimate : ℕ) (buffer : List ℕ) → Answer
access_answer number slot row place estimate buffer =
    record { number = number; slot = slot; row = row; place = place; estimate = estimate; buffer = buffer }

-- what a call leaves and answers
pub record Step : Type 0 where
  pub state : State
  pub answer : Answer

abbrev pub of_access : calls.Accessed → Step
of_access c =
    record {
      state = c.state;
      answer =
          access_answer (number_of c.answer) (slot_moved_to (move_of c.answer)) (row_sent_home (move_of c.answer))
          (place_of c.answer) (estimate_in c.answer) c.buffer;
    }

abbrev pub of_noted : calls.Noted → Step
of_noted c = record { state = c.state; answer = figureless c.number [] }

-- one call, by the definitions that the engine's promises cite
unfoldable pub step : Settings → State → Call → Step
step S σ (rank (access a)) = of_access (access_of S σ a)
step S σ (rank (look x)) = record { state = σ; answer = figureless (look_number S σ x) [] }
step S σ tick = of_noted (calls.tick S σ)

-- the memory that a list of calls leaves
abbrev pub run : Settings → State → List Call → State
run S σ [] = σ
run S σ (c ∷ cs) = run S (step S σ c).state cs

-- a call of the list and what it answered
pub record Event : Type 0 where
  pub call : Call
  pub answer : Answer

-- a call and its step, as an event
abbrev pub event_of : Call → Step → Event
event_of c s = record { call = c; answer = s.answer }

abbrev pub events : Settings → State → List Call → List Event
events S σ [] = []
events S σ (c ∷ cs) = event_of c (step S σ c) ∷ events S (step S σ c).state cs

-- P holds of the access, if the call is one; of any other call nothing is said
abbrev pub OfAccess : (Access → Type 0) → Call → Type 0
OfAccess P (rank (access a)) = P a
OfAccess P (rank (look x)) = Unit {0}
OfAccess P tick = Unit {0}

-- P holds of the access and its answer, if the event is an accepted access; of any other event nothing is said
abbrev pub OfAccepted : (Access → Answer → Type 0) → Event → Type 0
OfAccepted P e = OfAccess (λ a. e.answer.number ≡ 0 → P a e.answer) e.call

-- ---- what the tally is fed of an event

abbrev pub request_of : Call → tally.Request
request_of (rank (access a)) = tally.access (row_of a)
request_of (rank (look x)) = tally.look (row_looked x)
request_of tick = tally.tick

abbrev pub report_of : Event → tally.Report
report_of e =
    record {
      request = request_of e.call;
      number = e.answer.number;
      slot = e.answer.slot;
      row = e.answer.row;
    }
