-- Invariant: the marks are those of the bank's entries from i on.
use Rattle.seek.proofs.Marks.{Marking}
use Rattle.seek.proofs.search.Search.mark_bank.Given as goal

abbrev pub invariant-loop-i : goal.invariant-loop-i
invariant-loop-i l =
    Marking l.self.s l.self.changed l.self.rows.now l.self.counts.now l.bank l.initial.marks l.marks l.i
