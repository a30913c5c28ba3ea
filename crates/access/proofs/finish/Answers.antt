-- What comes after the bytes. What is known of the access is said once.
use Rattle.engine.specs.State.{state_of}
use Rattle.engine.specs.Ladder.{look_asked}
use Rattle.access.proofs.Finishes.{taken, followable, countable, movable, stays, goes}
use Rattle.access.proofs.finish.Goals as goal

pub follow-requires : goal.follow-requires
follow-requires c =
    let l = c.args in
    let σ₀ = state_of l.store.now l.forward.now l.reverse.now l.rows.now l.counts.now l.control in
    followable (taken l.s σ₀ (look_asked l.j.found.row.0) l.j c.requires)

pub done-requires : goal.done-requires
done-requires c =
    let l = c.args in
    let σ₀ = state_of l.store.now l.forward.now l.reverse.now l.rows.now l.counts.now l.control in
    countable (taken l.s σ₀ (look_asked l.j.found.row.0) l.j c.requires)

pub relocate-ring-requires : goal.relocate-ring-requires
relocate-ring-requires c =
    let l = c.args in
    let σ₀ = state_of l.store.now l.forward.now l.reverse.now l.rows.now l.counts.now l.control in
    movable (taken l.s σ₀ (look_asked l.j.found.row.0) l.j c.requires) c.in-Some.is c.ring_of-in-Some.ensures

pub done-requires-in-Some : goal.done-requires-in-Some
done-requires-in-Some c =
    let l = c.args in
    let σ₀ = state_of l.store.now l.forward.now l.reverse.now l.rows.now l.counts.now l.control in
    countable (taken l.s σ₀ (look_asked l.j.found.row.0) l.j c.requires)

pub returns-in-None : goal.returns-in-None
returns-in-None c =
    let l = c.args in
    let σ₀ = state_of l.store.now l.forward.now l.reverse.now l.rows.now l.counts.now l.control in
    let T = taken l.s σ₀ (look_asked l.j.found.row.0) l.j c.requires in
    let x = stays T c.follow.ensures.rows c.follow.ensures.counts c.in-None.is c.ring_of.ensures c.done.ensures in
    record { bank = x.bank; served = x.served; state = x.state }

pub returns-in-Some : goal.returns-in-Some
returns-in-Some c =
    let l = c.args in
    let σ₀ = state_of l.store.now l.forward.now l.reverse.now l.rows.now l.counts.now l.control in
    let T = taken l.s σ₀ (look_asked l.j.found.row.0) l.j c.requires in
    let x = goes T c.follow.ensures.rows c.follow.ensures.counts c.in-Some.is c.ring_of-in-Some.ensures
    c.relocate-ring.ensures c.from.ensures c.done-in-Some.ensures in
    record { bank = x.bank; served = x.served; state = x.state }
