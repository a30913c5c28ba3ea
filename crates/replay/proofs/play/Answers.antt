use Rattle.std.proofs.Common.{arith, ◌≡◌, refl, ◌∙◌}
use Rattle.engine.specs.Ladder.{settings_number}
use Rattle.replay.proofs.Judging.{store_bound, ranges_accepted, memory_refused, all_run}
use Rattle.refusals.proofs.Numbers.{refusal_not_0}
use Rattle.replay.proofs.play.Goals as goal

pub overflow_mul-size : goal.overflow_mul-size
overflow_mul-size c =
    let accepted : settings_number c.args.s ≡ 0 = grind (arith, refusal_not_0) in
    record { fits = omega (arith, store_bound c.args.s accepted) }

pub returns-then-not-fits-clause-printed : goal.returns-then-not-fits-clause-printed
returns-then-not-fits-clause-printed c =
    let a = c.args in
    let accepted : settings_number a.s ≡ 0 = grind (arith, refusal_not_0) in
    c.put_refused.ensures.printed ∙ memory_refused a.s a.steps.now accepted c.if-not-fits.true

pub on_new_memory-requires : goal.on_new_memory-requires
on_new_memory-requires c =
    let accepted : settings_number c.args.s ≡ 0 = grind (arith, refusal_not_0) in
    (ranges_accepted c.args.s accepted, c.if-not-fits.false, refl, refl, omega arith)

pub returns-clause-printed : goal.returns-clause-printed
returns-clause-printed c =
    let a = c.args in
    let accepted : settings_number a.s ≡ 0 = grind (arith, refusal_not_0) in
    c.on_new_memory.ensures.printed ∙ all_run a.s a.steps.now accepted c.if-not-fits.false
