-- Within the ranges nothing wraps.
use Rattle.std.proofs.Common.{sym, arith, ◌+◌, ◌*◌}
use Rattle.sizing.proofs.Ranges.{size_bounds, rounded_up}
use Rattle.sizing.specs.Sums.{least_size}
use Rattle.sizing.proofs.least_size.Goals as goal

pub overflow_mul-over : goal.overflow_mul-over
overflow_mul-over c = let h = size_bounds (sym c.if-not-ranges_hold.ensures) in omega arith

pub overflow_mul-under : goal.overflow_mul-under
overflow_mul-under c = let h = size_bounds (sym c.if-not-ranges_hold.ensures) in omega arith

pub overflow_mul-under-2 : goal.overflow_mul-under-2
overflow_mul-under-2 c = let h = size_bounds (sym c.if-not-ranges_hold.ensures) in omega arith

pub overflow_add-under : goal.overflow_add-under
overflow_add-under c = let h = size_bounds (sym c.if-not-ranges_hold.ensures) in omega arith

pub div_ceil-requires : goal.div_ceil-requires
div_ceil-requires c = let h = size_bounds (sym c.if-not-ranges_hold.ensures) in omega arith

pub returns : goal.returns
unfolding least_size
returns c =
    let a = c.args.t in
    let held = sym c.if-not-ranges_hold.ensures in
    let h = size_bounds held in
    rw (held, c.div_ceil.ensures, rounded_up (a.trefw * a.banks) (a.threshold * a.trc + a.banks * a.tmov) (omega arith))
