-- What the trace program prints, by what it read.
-- Assumes nothing.
use Rattle.std.specs.Prelude.{ℕ, List, take, Result, Ok, Err}
use Rattle.std.specs.declared.io.Error.{Error}
use Rattle.replay.specs.Replay.{refused_line, replayed}

-- a file that cannot be read is refused; it is not taken for an empty one. `buffer` holds the bytes that came
abbrev pub printed_for : Result ℕ Error → List ℕ → List ℕ
printed_for (Err error) buffer = refused_line
printed_for (Ok count) buffer = replayed (take count buffer)
