-- The place's first byte and W, or length 0.
use Rattle.std.proofs.Common.{arith}
use Rattle.look.proofs.Serves.{part_inside, span_there, span_refused}
use Rattle.look.proofs.inspect_span.Goals as goal

pub overflow_mul-result : goal.overflow_mul-result
overflow_mul-result c = omega (arith, part_inside _ _ _ c.in-Ok.ensures.number _ c.in-Ok.ensures.place)

pub returns-in-Ok : goal.returns-in-Ok
returns-in-Ok c = span_there _ _ _ c.in-Ok.ensures.number _ c.in-Ok.ensures.place

pub returns-in-Err : goal.returns-in-Err
returns-in-Err c = span_refused _ _ _ _ c.in-Err.ensures.number
