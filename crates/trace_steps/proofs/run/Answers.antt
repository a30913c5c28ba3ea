use Rattle.engine.specs.State.{state_of, new_control}
use Rattle.trace_steps.proofs.Running.{running_more, running_all}
use Rattle.trace_steps.proofs.run.Goals as goal

pub loop-i-preserved : goal.loop-i-preserved
loop-i-preserved c =
    let l = c.loop-i in
    let put = c.put_line-at.ensures in
    let left = state_of l.store l.forward l.reverse l.rows l.counts l.last in
    running_more c.args.s {σ = left} c.loop-i-test.true c.make_step-done.ensures put.put put.short l.invariant

pub returns-clause-printed : goal.returns-clause-printed
returns-clause-printed c =
    let a = c.args in
    let lent = state_of a.store.now a.forward.now a.reverse.now a.rows.now a.counts.now new_control in
    running_all a.s new_control c.set_up-set_up.result lent c.loop-i-test.false c.loop-i.invariant c.unwrap_or-last.ensures c.set_up-set_up.ensures
