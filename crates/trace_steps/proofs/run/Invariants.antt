-- What was printed, and the lines that are left, are the whole.
use Rattle.engine.specs.State.{state_of}
use Rattle.trace_steps.proofs.Running.{Running}
use Rattle.trace_steps.proofs.run.Given as goal

abbrev pub invariant-loop-i : goal.invariant-loop-i
invariant-loop-i l =
    let b = l.initial in
    let start = state_of b.store b.forward b.reverse b.rows b.counts b.last in
    Running l.s start l.steps (state_of l.store l.forward l.reverse l.rows l.counts l.last) l.page l.at l.i
