-- Document 01, 'Trace program': a step of a trace.
-- Assumes nothing.
use Rattle.std.specs.Prelude.{ℕ, cond, eqb}
use Rattle.trace_steps.specs.declared.Step.{Step}
use Rattle.trace_steps.specs.declared.Step.TheVariants.{Tick, Read}

-- 'A step is a row to read, or 65535 for a tick.'
abbrev pub step_of : ℕ → Step
step_of x = cond (eqb x 65535) Tick (Read x)
