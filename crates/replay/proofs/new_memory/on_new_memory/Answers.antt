-- Each part is as long as the settings say, and zero.
use Rattle.std.proofs.Common.{refl}
use Rattle.conditions.proofs.Facts.{ranges_facts}
use Rattle.trace_steps.proofs.Blank.{part}
use Rattle.replay.proofs.Memory.{new_memory, new-lines}
use Rattle.replay.specs.Memory.{most_rows, most_slots}
use Rattle.replay.proofs.new_memory.on_new_memory.Goals as goal

pub slice_bounds-forward-end : goal.slice_bounds-forward-end
slice_bounds-forward-end c = (part {m = most_rows} refl (ranges_facts c.args.s c.requires.0).n_high).fits

pub slice_bounds-run-end-2 : goal.slice_bounds-run-end-2
slice_bounds-run-end-2 c = (part {m = most_rows} refl (ranges_facts c.args.s c.requires.0).n_high).long

pub slice_bounds-reverse-end : goal.slice_bounds-reverse-end
slice_bounds-reverse-end c = (part {m = most_slots} refl (ranges_facts c.args.s c.requires.0).q_high).fits

pub slice_bounds-run-end-3 : goal.slice_bounds-run-end-3
slice_bounds-run-end-3 c = (part {m = most_slots} refl (ranges_facts c.args.s c.requires.0).q_high).long

pub run-requires : goal.run-requires
run-requires c = ((ranges_facts c.args.s c.requires.0).w_high, c.requires.4)

pub returns-clause-printed : goal.returns-clause-printed
returns-clause-printed c =
    let pre = c.requires in
    new-lines pre.2 pre.3 c.args.steps.now (new_memory pre.2 pre.3 pre.0 pre.1 refl refl refl refl refl) c.run.ensures.printed
