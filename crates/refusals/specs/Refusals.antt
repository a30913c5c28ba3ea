-- Document 01, 'Where each call can stop': the numbers of the refusals. The definitions answer by numbers, the code by an enum.
-- Assumes nothing.
use Rattle.std.specs.Prelude.{ℕ, Result, Ok, Err}
use Rattle.refusals.specs.declared.Refusal.{Refusal}
use Rattle.refusals.specs.declared.Refusal.TheVariants.{Settings, Together, Buffers, Control, Row, Span, Pointers, Epoch, Quarantine}

-- the column 'number' of the table
abbrev pub refusal_number : Refusal → ℕ
refusal_number Settings = 1
refusal_number Together = 2
refusal_number Buffers = 3
refusal_number Control = 4
refusal_number Row = 5
refusal_number Span = 6
refusal_number Pointers = 7
refusal_number Epoch = 8
refusal_number Quarantine = 9

-- the number that an answer has: 0 where the call is accepted
abbrev pub number_in : {A : Type 0} → Result A Refusal → ℕ
number_in (Ok x) = 0
number_in (Err e) = refusal_number e

-- an answer with the number in place of the refusal
abbrev pub numbered : {A : Type 0} → Result A Refusal → Result A ℕ
numbered (Ok x) = Ok x
numbered (Err e) = Err (refusal_number e)
