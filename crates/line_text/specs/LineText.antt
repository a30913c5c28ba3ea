-- Document 01, 'Trace program': what a step prints. Fields have a blank (32) between them, `-` (45) stands for none,
-- and a newline (10) at the end.
-- Assumes nothing.
use Rattle.std.specs.Prelude.{ℕ, List, [], ◌∷◌, ◌++◌, Option, None, Some}
use Rattle.page.specs.Decimal.{decimal}
use Rattle.lines.specs.declared.Line.{Line}

-- '`-` for none'
abbrev pub figure_bytes : Option ℕ → List ℕ
figure_bytes None = 45 ∷ []
figure_bytes (Some n) = decimal n

-- a field after another
abbrev pub field : List ℕ → List ℕ
field bytes = 32 ∷ bytes

-- 'Each step prints: step from 1, refusal number or 0, place, slot moved to, row sent home'
unfoldable pub line_bytes : ℕ → Line → List ℕ
line_bytes step line =
    decimal step
    ++ field (decimal line.number)
    ++ field (figure_bytes line.place)
    ++ field (figure_bytes line.slot)
    ++ field (figure_bytes line.row)
    ++ 10 ∷ []
