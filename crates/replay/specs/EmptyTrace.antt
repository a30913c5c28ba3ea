-- Document 02, Ask 1, 'An empty file is a trace': what is printed, for every file.
-- Assumes nothing.
use Rattle.std.specs.Prelude.{ℕ, ◌<◌, ◌≤◌, ◌≡◌, ◌⊎◌, true, List, [], length, Some}
use Rattle.number_text.specs.Numbers.{blank, numbers}
use Rattle.trace_file.specs.Form.{Recorded, steps_at, trace_in}
use Rattle.replay.specs.Replay.{refused_line, played, replayed}

-- 'A file of no bytes, or of blanks and newlines alone within 01's file length, shall .. print nothing'
abbrev pub EmptyPrintsNothing : Type 0
EmptyPrintsNothing = (text : List ℕ) → length text ≤ 65536 → blank text ≡ true → replayed text ≡ []

-- 01's file length holds for blanks and newlines too
abbrev pub LongRefused : Type 0
LongRefused = (text : List ℕ) → 65536 < length text → replayed text ≡ refused_line

-- 'A file with a first count and no second section is refused as before': it has a number, and fewer than the eight that two
-- sections have at least, or fewer than the first count requires (nine where it is 7)
abbrev pub OneSectionRefused : Type 0
OneSectionRefused =
    (text : List ℕ) → 1 ≤ length (numbers text)
    → (length (numbers text) < 8) ⊎ (length (numbers text) < steps_at (numbers text))
    → replayed text ≡ refused_line

-- a file in 01's form prints what it printed before: none is taken for an empty trace
abbrev pub TracesStay : Type 0
TracesStay =
    (text : List ℕ) (said : Recorded) → trace_in text ≡ Some said
    → replayed text ≡ played said.settings said.steps
