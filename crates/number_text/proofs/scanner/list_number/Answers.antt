-- The list is full, or has a number more.
use Rattle.std.proofs.Common.{arith}
use Rattle.number_text.proofs.Outcomes.{past_number, past_full}
use Rattle.number_text.proofs.scanner.list_number.Goals as goal

pub returns-then-s-list-clause-past : goal.returns-then-s-list-clause-past
returns-then-s-list-clause-past c = past_number c.args.list.now c.args.s c.requires.1 (omega arith) c.if-s-list.true

pub returns-clause-past : goal.returns-clause-past
returns-clause-past c = past_full c.args.list.now c.args.s c.args.list.now c.requires.1 c.if-s-list.false
