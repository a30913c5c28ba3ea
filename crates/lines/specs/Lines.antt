-- Document 01, 'Trace program': the line of an answer.
-- Assumes nothing.
use Rattle.std.specs.Prelude.{ℕ, cond, eqb, Option, None, Some}
use Rattle.geometry.specs.Entry.{empty}
use Rattle.figures.specs.declared.Outcome.{Outcome}
use Rattle.lines.specs.declared.Line.{Line}

-- '`-` for none'
abbrev pub figure_of : ℕ → Option ℕ
figure_of x = cond (eqb x empty) None (Some x)

-- 'refusal number or 0, place, slot moved to, row sent home'
abbrev pub access_line : ℕ → ℕ → ℕ → Line
access_line place slot row = record { number = 0; place = Some place; slot = figure_of slot; row = figure_of row }

-- '`-` .. for all three on a tick or refusal'
abbrev pub bare : ℕ → Line
bare number = record { number = number; place = None; slot = None; row = None }

-- the line of a read, from its answer in numbers. 'Trace lines keep their five fields' (document 02, Ask 2)
abbrev pub line_of_access : Outcome → Line
line_of_access o = cond (eqb o.number 0) (access_line o.place o.slot o.row) (bare o.number)
