-- What follows a read, by what it answered.
-- Assumes nothing.
use Rattle.std.specs.Prelude.{ℕ, cond, eqb, Result, Ok, Err}
use Rattle.std.specs.declared.io.Error.{Error}
use Rattle.std.specs.declared.ops.ControlFlow.{ControlFlow}
use Rattle.std.specs.declared.ops.ControlFlow.TheVariants.{Continue, Break}

-- `io::Read::read` answers an error, or how many bytes it put at the start of buf, 0 at the end of the input; done: the bytes
-- that came before. What follows is Break and what reading answers, where it is over, or Continue and how many bytes more
-- stand in the buffer
unfoldable pub next_of : ℕ → Result ℕ Error → ControlFlow (Result ℕ Error) ℕ
next_of done (Err error) = Break (Err error)
next_of done (Ok k) = cond (eqb k 0) (Break (Ok done)) (Continue k)

-- how many bytes stand in the buffer; none are spoken of where a read failed
abbrev pub bytes_read : Result ℕ Error → ℕ
bytes_read (Err error) = 0
bytes_read (Ok count) = count
