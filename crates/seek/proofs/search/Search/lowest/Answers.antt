-- Where the lowest entry is the one left out, the next counts.
use Rattle.std.proofs.Common.{arith}
use Rattle.seek.proofs.OfBank.{rows_fit}
use Rattle.seek.proofs.LeftOut.{lowest_none, lowest_beside, lowest_next, lowest_last}
use Rattle.seek.proofs.search.Search.lowest.Goals as goal

pub returns-in_err-i-clause-lowest : goal.returns-in_err-i-clause-lowest
returns-in_err-i-clause-lowest c =
    let fits = rows_fit c.args.self.now.seekable c.requires.0 in
    rw c.from_residual.ensures (lowest_none _ _ _ _ _ c.requires.1 fits c.in_err-i.ensures.place)

pub returns-then-from-i-clause-lowest : goal.returns-then-from-i-clause-lowest
returns-then-from-i-clause-lowest c =
    let fits = rows_fit c.args.self.now.seekable c.requires.0 in
    lowest_beside _ _ _ _ _ c.requires.1 fits _ c.in_ok-i.ensures.place c.if-from-i.true

pub returns-in_err-index_of-clause-lowest : goal.returns-in_err-index_of-clause-lowest
returns-in_err-index_of-clause-lowest c =
    let fits = rows_fit c.args.self.now.seekable c.requires.0 in
    rw c.from_residual-in_err-index_of.ensures
    (lowest_last _ _ _ _ _ c.requires.1 fits _ c.in_ok-i.ensures.place (omega arith) c.in_ok-i.ensures.inside
    c.in_err-index_of.ensures.place)

pub returns-clause-lowest : goal.returns-clause-lowest
returns-clause-lowest c =
    let fits = rows_fit c.args.self.now.seekable c.requires.0 in
    lowest_next _ _ _ _ _ c.requires.1 fits _ c.in_ok-i.ensures.place (omega arith) c.in_ok-i.ensures.inside
    c.in_ok-index_of.ensures.place
