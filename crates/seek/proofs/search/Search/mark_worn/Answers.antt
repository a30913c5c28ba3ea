use Rattle.seek.proofs.Marks.{below_none, below_all}
use Rattle.seek.proofs.search.Search.mark_worn.Goals as goal

pub loop-bank-init : goal.loop-bank-init
loop-bank-init c = below_none c.args.self.now.seekable c.requires

pub returns : goal.returns
returns c = below_all c.args.self.now.seekable c.loop-bank.invariant c.loop-bank-test.false
