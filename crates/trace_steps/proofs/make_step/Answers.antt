-- A tick or a read, and what it shows.
use Rattle.std.proofs.Common.{rules, refl, ◌∙◌, ap}
use Rattle.lines.specs.Lines.{line_of_access}
use Rattle.engine.specs.State.{state_of}
use Rattle.figures.specs.Outcome.{outcome_of}
use Rattle.trace_steps.specs.Steps.{widest}
use Rattle.trace_steps.proofs.Blank.{part}
use Rattle.trace_steps.proofs.Stepping.{served_of, tick-step, read_step}
use Rattle.trace_steps.proofs.make_step.Goals as goal

pub returns-in-Ok : goal.returns-in-Ok
returns-in-Ok c =
    let a = c.args in
    let before = state_of a.store.now a.forward.now a.reverse.now a.rows.now a.counts.now a.control in
    tick-step a.s before a.x c.in-Tick.ensures c.bare.ensures c.in-Ok.ensures

pub returns-in-Err : goal.returns-in-Err
returns-in-Err c =
    let a = c.args in
    let before = state_of a.store.now a.forward.now a.reverse.now a.rows.now a.counts.now a.control in
    tick-step a.s before a.x c.in-Tick.ensures (rw (← c.number.ensures) c.bare-in-Err.ensures) c.in-Err.ensures

pub returns-in-Read : goal.returns-in-Read
returns-in-Read c =
    let a = c.args in
    let before = state_of a.store.now a.forward.now a.reverse.now a.rows.now a.counts.now a.control in
    let read = c.read-read in
    let buffer = part {m = widest} refl c.requires in
    let reply = served_of read.result c.map.result (λ a x p. search rules) c.map.ensures.cases in
    let line = c.from-in-Read-2.ensures ∙ ap line_of_access (c.from-in-Read.ensures ∙ ap outcome_of reply) in
    rw c.record_after.ensures (read_step a.s before a.x c.in-Read.ensures line buffer.blank read.ensures.promise)
