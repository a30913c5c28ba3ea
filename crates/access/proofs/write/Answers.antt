-- The judgement, the bytes, and what comes after them.
use Rattle.std.proofs.lemmas.Result.{err_from_is_err_and}
use Rattle.engine.specs.State.{state_of}
use Rattle.access.proofs.Serves.{write-refused, writable, write-ready, write_done}
use Rattle.access.proofs.write.Goals as goal

pub returns-in_err-j-clause-promise : goal.returns-in_err-j-clause-promise
returns-in_err-j-clause-promise c =
    let l = c.args in
    let σ₀ = state_of l.store.now l.forward.now l.reverse.now l.rows.now l.counts.now l.control in
    let p = err_from_is_err_and c.from_residual.result c.from_residual.ensures.1 in
    let told = rw c.write_asked-asked.ensures at c.in_err-j.ensures in
    rw (p.1, p.2) (write-refused l.s σ₀ l.row l.column l.bytes.now told)

pub write_row-requires : goal.write_row-requires
write_row-requires c =
    let l = c.args in
    let σ₀ = state_of l.store.now l.forward.now l.reverse.now l.rows.now l.counts.now l.control in
    let told = rw c.write_asked-asked.ensures at c.in_ok-j.ensures in
    writable l.s σ₀ l.row l.column l.bytes.now told

pub finish-requires : goal.finish-requires
finish-requires c =
    let l = c.args in
    let σ₀ = state_of l.store.now l.forward.now l.reverse.now l.rows.now l.counts.now l.control in
    let told = rw c.write_asked-asked.ensures at c.in_ok-j.ensures in
    write-ready l.s σ₀ l.row l.column l.bytes.now told c.write_row.ensures

pub returns-clause-promise : goal.returns-clause-promise
returns-clause-promise c =
    let l = c.args in
    let σ₀ = state_of l.store.now l.forward.now l.reverse.now l.rows.now l.counts.now l.control in
    let told = rw c.write_asked-asked.ensures at c.in_ok-j.ensures in
    write_done l.s σ₀ l.row l.column l.bytes.now told c.write_row.ensures c.finish.ensures.served c.finish.ensures.state
