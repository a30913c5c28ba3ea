-- What a trace prints is what a history answered, so that the theorems of crate `history` speak of it; and what is printed
-- for each kind of file. The proofs are `traces_are_histories` and `every_file` of proofs/History.antt.
-- Assumes nothing.
use Rattle.std.specs.Prelude.{ℕ, ◌≡◌, ◌≢◌, true, false, List, [], map, None, Some}
use Rattle.geometry.specs.declared.Settings.{Settings}
use Rattle.engine.specs.Ladder.{settings_number}
use Rattle.engine.specs.Calls.{set_up}
use Rattle.history.specs.Run.{Event, events}
use Rattle.history.specs.Demand3.{Kept}
use Rattle.history.specs.Window.{EachWindow}
use Rattle.trace_file.specs.Form.{trace_in, is_empty_trace}
use Rattle.lines.specs.Lines.{bare}
use Rattle.line_text.specs.LineText.{line_bytes}
use Rattle.trace_steps.specs.Steps.{call_of, lines_from}
use Rattle.replay.specs.Memory.{lent, memory_fits}
use Rattle.replay.specs.Replay.{refused_line, replayed}

-- ---- a file that is played

-- its form is a trace's
abbrev pub Says : List ℕ → Settings → List ℕ → Type 0
Says text S steps = trace_in text ≡ Some (record { settings = S; steps = steps })

-- .. its settings are accepted, and its memory fits
pub record Plays (text : List ℕ) (S : Settings) (steps : List ℕ) : Type 0 where
  pub form : Says text S steps
  pub settings : settings_number S ≡ 0
  pub memory : memory_fits S ≡ true

-- what the calls of the steps answered, after set-up on new memory
abbrev pub answered : Settings → List ℕ → List Event
answered S steps = events S (set_up S (lent S)).state (map (call_of S) steps)

-- what is printed is what a history answered
pub record IsHistory (S : Settings) (steps printed : List ℕ) : Type 0 where
  -- set-up accepted, so that the theorems speak of the steps
  pub set-up : (set_up S (lent S)).number ≡ 0
  -- a line for each step, in order: its number, 'from 1', and what the call answered
  pub lines : printed ≡ lines_from 1 (answered S steps)
  -- demand 3, and the figures over one tick (document 02, Ask 6)
  pub kept : Kept S (answered S steps)
  pub window : EachWindow S (answered S steps)

abbrev pub TracesAreHistories : Type 0
TracesAreHistories =
    (text : List ℕ) (S : Settings) (steps : List ℕ) → Plays text S steps → IsHistory S steps (replayed text)

-- ---- every file

-- an empty trace (document 02, Ask 1), or what is judged: 'the file's form .. first, then the settings, then the store's size'
pub data Prints (text : List ℕ) : Type 0 where
  nothing : is_empty_trace text ≡ true → replayed text ≡ [] → Prints text
  formless : is_empty_trace text ≡ false → trace_in text ≡ None → replayed text ≡ refused_line → Prints text
  unsettled : {S : Settings} {steps : List ℕ} → Says text S steps → settings_number S ≢ 0
      → replayed text ≡ line_bytes 0 (bare (settings_number S)) → Prints text
  too_large : {S : Settings} {steps : List ℕ} → Says text S steps → settings_number S ≡ 0 → memory_fits S ≡ false
      → replayed text ≡ refused_line → Prints text
  plays : {S : Settings} {steps : List ℕ} → Plays text S steps → IsHistory S steps (replayed text) → Prints text

abbrev pub EveryFile : Type 0
EveryFile = (text : List ℕ) → Prints text
