-- Document 01, 'Trace program', with document 02, Asks 1 and 5: from the bytes of a trace file to the bytes printed.
-- Assumes nothing.
use Rattle.std.specs.Prelude.{ℕ, ◌+◌, ◌*◌, cond, List, [], eqb, leb, Option, None, Some}
use Rattle.geometry.specs.declared.Settings.{Settings}
use Rattle.engine.specs.Ladder.{settings_number}
use Rattle.trace_file.specs.Form.{Recorded, trace_in, is_empty_trace}
use Rattle.page.specs.Ascii.{ascii}
use Rattle.lines.specs.Lines.{bare}
use Rattle.line_text.specs.LineText.{line_bytes}
use Rattle.trace_steps.specs.Steps.{line_room, run_lines}
use Rattle.replay.specs.Memory.{lent, memory_fits}

-- 'n (0 to 4,096)'
abbrev pub most_steps : ℕ
most_steps = 4096

-- room for what any file prints: the lines of all steps, and one more
abbrev pub page_room : ℕ
page_room = line_room * (most_steps + 1)

-- 'Anything else prints the one line `trace refused`'
abbrev pub refused_line : List ℕ
refused_line = ascii "trace refused\n"

-- 'the settings, then the store's size': 'Settings refused print `0`, the number, `- - -`, and nothing more'; 'K × B above
-- 4,096 prints `trace refused`, judged with the store's size' (document 02, Ask 5)
unfoldable pub played : Settings → List ℕ → List ℕ
played S steps =
    cond (eqb (settings_number S) 0)
    (cond (memory_fits S) (run_lines S (lent S) steps) refused_line)
    (line_bytes 0 (bare (settings_number S)))

-- the same, where the form is refused too
abbrev pub played_form : Option Recorded → List ℕ
played_form None = refused_line
played_form (Some trace) = played trace.settings trace.steps

-- what is printed for a file; 'the file's form is judged first'. An empty trace 'shall be read as a trace of no steps and
-- print nothing' (document 02, Ask 1): it has no settings that could be refused
unfoldable pub replayed : List ℕ → List ℕ
replayed text = cond (is_empty_trace text) [] (played_form (trace_in text))

-- all of it on a page with that room; nothing on a shorter one. What the page has after the bytes printed is left free
unfoldable pub printed_on : ℕ → List ℕ → List ℕ
printed_on room text = cond (leb page_room room) (replayed text) []
