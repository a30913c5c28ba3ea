-- Document 01, 'Trace program': the steps of a trace, and their lines.
-- Assumes nothing.
use Rattle.std.specs.Prelude.{ℕ, suc, Bool, true, false, cond, ◌&&◌, List, [], ◌∷◌, ◌++◌, map, eqb, replicate}
use Rattle.geometry.specs.declared.Settings.{Settings}
use Rattle.engine.specs.State.{State}
use Rattle.engine.specs.Calls.{set_up}
use Rattle.history.specs.Run.{read, access, look, Call, rank, tick, Answer, Event, step, events}
use Rattle.lines.specs.declared.Line.{Line}
use Rattle.lines.specs.Lines.{access_line, bare}
use Rattle.line_text.specs.LineText.{line_bytes}

-- ---- what the memory has room for

-- the most bytes in a row that the range of W allows
abbrev pub widest : ℕ
widest = 8192

-- the most bytes in a line
abbrev pub line_room : ℕ
line_room = 105

-- ---- one step

-- 'A step is a row to read, or 65535 for a tick.' A read gets a new buffer, whose bytes are not printed
abbrev pub call_of : Settings → ℕ → Call
call_of S x = cond (eqb x 65535) tick (rank (access (read x (replicate S.w 0))))

-- a read or a write; a trace makes reads and ticks
abbrev pub is_access : Call → Bool
is_access (rank (access a)) = true
is_access (rank (look x)) = false
is_access tick = false

-- the line of a step; '`-` .. for all three on a tick or refusal'
abbrev pub line_of : Event → Line
line_of e =
    let a : Answer = e.answer in
    cond (is_access e.call && eqb a.number 0) (access_line a.place a.slot a.row) (bare a.number)

-- a step as `trace_steps::make_step` gives it: the memory after it, and its line
pub record StepLine : Type 0 where
  pub state : State
  pub line : Line

abbrev pub stepped_of : State → Line → StepLine
stepped_of σ line = record { state = σ; line = line }

-- the step that is a call
abbrev pub call_step : Settings → State → Call → StepLine
call_step S σ c = stepped_of (step S σ c).state (line_of (record { call = c; answer = (step S σ c).answer }))

-- the step that is the number x of the trace
unfoldable pub stepped : Settings → State → ℕ → StepLine
stepped S σ x = call_step S σ (call_of S x)

-- ---- all steps

-- the steps on the memory that set-up left, with their answers: the history of which `history`'s theorems speak
unfoldable pub steps_from : Settings → State → List ℕ → List Event
steps_from S σ steps = events S σ (map (call_of S) steps)

-- a line for each, 'step from 1'
unfoldable pub lines_from : ℕ → List Event → List ℕ
lines_from i [] = []
lines_from i (e ∷ es) = line_bytes i (line_of e) ++ lines_from (suc i) es

-- set-up on the memory lent, and then the steps: what is printed
abbrev pub run_lines : Settings → State → List ℕ → List ℕ
run_lines S σ steps = lines_from 1 (steps_from S (set_up S σ).state steps)
