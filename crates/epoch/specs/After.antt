-- The control record after a set-up or a tick, by what the call answers. Assumes nothing.
use Rattle.std.specs.Prelude.{Result, Ok, Err}
use Rattle.geometry.specs.declared.Control.{Control}
use Rattle.refusals.specs.declared.Refusal.{Refusal}

-- the one that the call answers; where it refuses, the one that it was given
abbrev pub control_after : Control → Result Control Refusal → Control
control_after before (Ok after) = after
control_after before (Err e) = before
