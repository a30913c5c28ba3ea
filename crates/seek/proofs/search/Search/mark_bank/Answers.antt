use Rattle.std.proofs.Common.{arith}
use Rattle.seek.proofs.Marks.{marking_none, marking_leave, marking_more, marking_all}
use Rattle.seek.proofs.search.Search.mark_bank.Goals as goal

pub loop-i-init : goal.loop-i-init
loop-i-init c = let p = c.requires in marking_none c.args.self.now.seekable p.0 p.2

pub loop-i-preserved-then-i-self : goal.loop-i-preserved-then-i-self
loop-i-preserved-then-i-self c =
    let p = c.requires in
    rw c.mark.ensures
    (marking_more c.args.self.now.seekable p.0 _ (omega arith) c.loop-i-test.true c.loop-i.invariant c.if-i-self.true p.1)

pub loop-i-preserved : goal.loop-i-preserved
loop-i-preserved c =
    let p = c.requires in
    marking_leave c.args.self.now.seekable p.0 _ (omega arith) c.loop-i-test.true c.loop-i.invariant (omega arith)

pub returns : goal.returns
returns c = marking_all c.args.self.now.seekable c.requires.0 c.loop-i.invariant c.loop-i-test.false
