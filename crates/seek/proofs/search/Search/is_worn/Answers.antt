-- The entry that is found has the count that is asked for.
use Rattle.std.proofs.Common.{arith}
use Rattle.seek.proofs.OfBank.{counts_fit, bank_known, worn_found, worn_missed}
use Rattle.seek.proofs.search.Search.is_worn.Goals as goal

pub lowest-requires : goal.lowest-requires
lowest-requires c = (bank_known c.args.self.now.seekable _ c.bank_of.ensures, λ e. omega arith)

pub offset_bounds-self-i : goal.offset_bounds-self-i
offset_bounds-self-i c =
    let known = bank_known c.args.self.now.seekable _ c.bank_of.ensures in
    omega (arith, counts_fit c.args.self.now.seekable known, c.in-Some.ensures.inside)

pub bounds-self-i : goal.bounds-self-i
bounds-self-i c =
    let known = bank_known c.args.self.now.seekable _ c.bank_of.ensures in
    omega (arith, counts_fit c.args.self.now.seekable known, c.in-Some.ensures.inside)

pub returns-in-Some : goal.returns-in-Some
returns-in-Some c =
    worn_found c.args.self.now.seekable _ c.bank_of.ensures c.in-Some.ensures.lowest c.in-Some.ensures.inside

pub returns-in-None : goal.returns-in-None
returns-in-None c = worn_missed c.args.self.now.seekable _ c.bank_of.ensures c.in-None.ensures.lowest (omega arith)
