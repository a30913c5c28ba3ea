-- The row's part, or nothing.
use Rattle.look.proofs.Serves.{part_inside, part_there, part_refused}
use Rattle.look.proofs.inspect_part.Goals as goal

pub row_part-requires : goal.row_part-requires
row_part-requires c = part_inside _ _ _ c.in-Ok.ensures.number _ c.in-Ok.ensures.place

pub returns-in-Ok : goal.returns-in-Ok
returns-in-Ok c =
    part_there _ _ _ c.in-Ok.ensures.number _ c.in-Ok.ensures.place _ _ _ c.row_part.ensures.bytes c.row_part.ensures.lies

pub returns-in-Err : goal.returns-in-Err
returns-in-Err c = part_refused _ _ _ _ c.in-Err.ensures.number _
