-- The judgement, the bytes, and what comes after them.
use Rattle.std.proofs.lemmas.Result.{err_from_is_err_and}
use Rattle.engine.specs.State.{state_of}
use Rattle.access.proofs.Serves.{read-refused, readable, read-ready, read_done}
use Rattle.access.proofs.read.Goals as goal

pub returns-in_err-j-clause-promise : goal.returns-in_err-j-clause-promise
returns-in_err-j-clause-promise c =
    let l = c.args in
    let σ₀ = state_of l.store.now l.forward.now l.reverse.now l.rows.now l.counts.now l.control in
    let p = err_from_is_err_and c.from_residual.result c.from_residual.ensures.1 in
    let told = rw c.read_asked-asked.ensures at c.in_err-j.ensures in
    rw (p.1, p.2) (read-refused l.s σ₀ l.row l.buffer.now told)

pub read_row-requires : goal.read_row-requires
read_row-requires c =
    let l = c.args in
    let σ₀ = state_of l.store.now l.forward.now l.reverse.now l.rows.now l.counts.now l.control in
    let told = rw c.read_asked-asked.ensures at c.in_ok-j.ensures in
    readable l.s σ₀ l.row l.buffer.now told

pub finish-requires : goal.finish-requires
finish-requires c =
    let l = c.args in
    let σ₀ = state_of l.store.now l.forward.now l.reverse.now l.rows.now l.counts.now l.control in
    let told = rw c.read_asked-asked.ensures at c.in_ok-j.ensures in
    read-ready l.s σ₀ l.row l.buffer.now told

pub returns-clause-promise : goal.returns-clause-promise
returns-clause-promise c =
    let l = c.args in
    let σ₀ = state_of l.store.now l.forward.now l.reverse.now l.rows.now l.counts.now l.control in
    let told = rw c.read_asked-asked.ensures at c.in_ok-j.ensures in
    read_done l.s σ₀ l.row l.buffer.now told c.read_row.ensures c.finish.ensures.served c.finish.ensures.state
