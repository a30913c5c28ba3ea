-- For each answer of the two searches, each of the bank's part of a table, there is one law of the entry that is found.
use Rattle.std.proofs.Common.{arith, rules, ◌≡◌, length, sym, ◌∙◌}
use Rattle.std.specs.Prelude.{Some, None}
use Rattle.basics.specs.Portions.{portion}
use Rattle.basics.proofs.Portions.{length-portion, portion-lent}
use Rattle.tracking.proofs.Banks.{entry_named, entry_free, entry_none}
use Rattle.tracker.proofs.Searched.{searched_none, searched_some, searched_within}
use Rattle.tracker.proofs.find.Goals as goal

pub returns-in-Some : goal.returns-in-Some
returns-in-Some c =
    let a = c.args in
    let lent = portion-lent a.k a.bank.index a.rows.now in
    let found : c.index_of.result ≡ Some c.in-Some.i = search rules in
    let inside = searched_within a.place.0 lent c.index_of.result c.index_of.ensures.inside found in
    sym (entry_named a.k a.bank.index a.rows.now a.counts.now c.requires.in_rows c.requires.in_counts a.place.0 a.bank.spill
    c.in-Some.i (searched_some a.place.0 lent c.index_of.result c.index_of.ensures.place found)
    (omega (arith, inside, length-portion a.k a.bank.index a.rows.now c.requires.in_rows)))

pub returns-in_err-i : goal.returns-in_err-i
returns-in_err-i c =
    let a = c.args in
    let unnamed : c.index_of.result ≡ None = search rules in
    let taken : c.index_of-2.result ≡ None = search rules in
    let none : c.from_residual.result ≡ None = search rules in
    none ∙ sym (entry_none a.k a.bank.index a.rows.now a.counts.now c.requires.in_rows c.requires.in_counts a.place.0 a.bank.spill
    (length (portion a.k a.bank.index a.rows.now))
    (searched_none a.place.0 (portion-lent a.k a.bank.index a.rows.now) c.index_of.result c.index_of.ensures.place unnamed)
    (length (portion a.k a.bank.index a.counts.now))
    (searched_none a.bank.spill (portion-lent a.k a.bank.index a.counts.now) c.index_of-2.result c.index_of-2.ensures.place taken)
    (omega (arith, length-portion a.k a.bank.index a.rows.now c.requires.in_rows))
    (omega (arith, length-portion a.k a.bank.index a.counts.now c.requires.in_counts)))

pub returns : goal.returns
returns c =
    let a = c.args in
    let lent = portion-lent a.k a.bank.index a.counts.now in
    let unnamed : c.index_of.result ≡ None = search rules in
    let found : c.index_of-2.result ≡ Some c.in_ok-i.i = search rules in
    let inside = searched_within a.bank.spill lent c.index_of-2.result c.index_of-2.ensures.inside found in
    sym (entry_free a.k a.bank.index a.rows.now a.counts.now c.requires.in_rows c.requires.in_counts a.place.0 a.bank.spill
    (length (portion a.k a.bank.index a.rows.now))
    (searched_none a.place.0 (portion-lent a.k a.bank.index a.rows.now) c.index_of.result c.index_of.ensures.place unnamed)
    c.in_ok-i.i (searched_some a.bank.spill lent c.index_of-2.result c.index_of-2.ensures.place found)
    (omega (arith, length-portion a.k a.bank.index a.rows.now c.requires.in_rows))
    (omega (arith, inside, length-portion a.k a.bank.index a.counts.now c.requires.in_counts)))
