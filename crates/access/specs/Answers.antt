-- What an access answers and leaves, by what its code gives back.
-- Assumes nothing.
use Rattle.std.specs.Prelude.{Result, Ok, Err}
use Rattle.refusals.specs.declared.Refusal.{Refusal}
use Rattle.refusals.specs.Refusals.{refusal_number}
use Rattle.geometry.specs.declared.Control.{Control}
use Rattle.banks.specs.Banks.{with_bank}
use Rattle.engine.specs.Answer.{Reply}
use Rattle.access.specs.declared.Accepted.{Accepted}

-- the answer, a refusal by its number
abbrev pub reply_of : Result Accepted Refusal → Reply
reply_of (Ok a) = Ok a.served
reply_of (Err x) = Err (refusal_number x)

-- the control record afterwards; a refusal leaves it
abbrev pub control_after : Control → Result Accepted Refusal → Control
control_after control (Ok a) = with_bank control a.ring a.bank
control_after control (Err x) = control
