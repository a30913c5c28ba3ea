-- `trace::put_lines`: the page has the room that any file's lines need. Assumes nothing.
use Rattle.std.proofs.Common.{take}
use Rattle.replay.proofs.Judging.{page_wide}
use Rattle.trace.proofs.put_lines.Goals as goal

pub returns-in-Ok-clause-printed : goal.returns-in-Ok-clause-printed
returns-in-Ok-clause-printed g c =
    let wide = page_wide (take c.in-Ok.count c.args.text.now) c.requires.1 in
    cc
