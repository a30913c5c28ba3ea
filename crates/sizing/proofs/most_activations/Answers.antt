-- Within the ranges nothing wraps.
use Rattle.std.proofs.Common.{sym, arith}
use Rattle.sizing.proofs.Ranges.{refresh_bounds}
use Rattle.sizing.proofs.most_activations.Goals as goal

pub overflow_mul-over : goal.overflow_mul-over
overflow_mul-over c = let h = refresh_bounds (sym c.if-not-ranges_hold.ensures) in omega arith

pub overflow_sub-over : goal.overflow_sub-over
overflow_sub-over c = let h = refresh_bounds (sym c.if-not-ranges_hold.ensures) in omega arith

pub overflow_mul-under : goal.overflow_mul-under
overflow_mul-under c = let h = refresh_bounds (sym c.if-not-ranges_hold.ensures) in omega arith

pub nonzero_div-result : goal.nonzero_div-result
nonzero_div-result c = let h = refresh_bounds (sym c.if-not-ranges_hold.ensures) in omega arith
