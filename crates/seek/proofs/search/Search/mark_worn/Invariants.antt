-- Invariant: the marks are right for the banks that are done.
use Rattle.seek.proofs.Marks.{MarkedBelow}
use Rattle.seek.proofs.search.Search.mark_worn.Given as goal

abbrev pub invariant-loop-bank : goal.invariant-loop-bank
invariant-loop-bank l = MarkedBelow l.self.s l.self.changed l.self.rows.now l.self.counts.now l.marks l.bank
