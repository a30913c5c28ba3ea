-- What the C functions promise, one definition for each. The function's `ensures` in crate `rank` is this definition, and
-- crate `served` supposes it, and nothing else, of each call of a transcript. Each says by equations with a definition of
-- `engine` what the call answers and leaves, refusals included.
-- before, after: all that is lent and the control record, before the call and after it; lent: the same of a call that may
-- write nothing.
-- Assumes nothing.
use Rattle.std.specs.Prelude.{ℕ, ◌≡◌, List, []}
use Rattle.geometry.specs.declared.Settings.{Settings}
use Rattle.engine.specs.State.{State}
use Rattle.engine.specs.Ladder as ladder
use Rattle.engine.specs.Calls.{noted_of, set_up, Accessed, read, write, tick, inspect_part}
use Rattle.figures.specs.declared.Outcome.{Outcome}
use Rattle.figures.specs.declared.Span.{Span}
use Rattle.figures.specs.Outcome.{outcome_of}
use Rattle.figures.specs.Span.{span_of, span_address}

-- `aqua_set_up`
abbrev pub SetUpPromise : Settings → State → State → ℕ → Type 0
SetUpPromise S before after number = noted_of after number ≡ set_up S before

-- an access (a: what the definition gives) as a C caller sees it
abbrev pub AccessPromise : Accessed → State → Outcome → List ℕ → Type 0
AccessPromise a after outcome filled = (after ≡ a.state) × (outcome ≡ outcome_of a.answer) × (filled ≡ a.buffer)

-- `aqua_read`; buffer, filled: the read buffer before and after
abbrev pub ReadPromise : Settings → State → ℕ → List ℕ → State → Outcome → List ℕ → Type 0
ReadPromise S before row buffer after outcome filled = AccessPromise (read S before row buffer) after outcome filled

-- `aqua_write`
abbrev pub WritePromise : Settings → State → ℕ → ℕ → List ℕ → State → Outcome → Type 0
WritePromise S before row column bytes after outcome = AccessPromise (write S before row column bytes) after outcome []

-- `aqua_tick`
abbrev pub TickPromise : Settings → State → State → ℕ → Type 0
TickPromise S before after number = noted_of after number ≡ tick S before

-- `aqua_inspect_number`
abbrev pub InspectNumberPromise : Settings → State → ℕ → ℕ → Type 0
InspectNumberPromise S lent row number = number ≡ ladder.inspect_number S lent row

-- `aqua_inspect_span`
abbrev pub InspectSpanPromise : Settings → State → ℕ → Span → Type 0
InspectSpanPromise S lent row span = span ≡ span_of S lent row

-- `inspect_part`, for Rattle: the bytes of the part that is returned are the row's, and its address is where the span begins in the
-- store; store: the address of the lent store
abbrev pub InspectPartPromise : Settings → State → ℕ → ℕ × ℕ → List ℕ → ℕ × ℕ → Type 0
InspectPartPromise S lent row store bytes address =
    (bytes ≡ inspect_part S lent row) × (address ≡ span_address (span_of S lent row) store)
