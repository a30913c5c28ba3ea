use Rattle.number_text.proofs.Outcomes.{past_blank}
use Rattle.number_text.proofs.scanner.end_number.Goals as goal

pub returns-in-None-clause-past : goal.returns-in-None-clause-past
returns-in-None-clause-past c = past_blank c.args.list.now c.args.s c.in-None.is c.requires
