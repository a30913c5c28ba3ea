-- The refusals in the order of the code, and what is found. What is known at each stage is said once, at its place in the code.
use Rattle.std.proofs.Common.{arith}
use Rattle.std.proofs.lemmas.Result.{err_from_is_err_and}
use Rattle.geometry.specs.Numbering.{visible}
use Rattle.engine.specs.State.{State, state_of}
use Rattle.verdict.specs.declared.Found.{Found}
use Rattle.access.proofs.Judges.{Passed, tick_stops, rows_few, row-stops, passed, row_small}
use Rattle.access.proofs.Judges.{Banked, bankable, banked, findable, countable_there, full_stops}
use Rattle.access.proofs.Judges.{Sought, all_found, due_able, stays_unchanged, stays_below, decidable, last_stops, goes_there}
use Rattle.access.proofs.judge.Goals as goal
use Rattle.access.proofs.judge.Goals.{In_ok-check_control, In_ok-check_row, After-bank_at-bank, After-update_of-update}

-- ---- past 5 to 7

abbrev σ₁ : In_ok-check_row → State
σ₁ n =
    let l = n.args in
    state_of l.store.now l.forward.now l.reverse.now l.rows.now l.counts.now l.control

past_7 : (n : In_ok-check_row) → Passed n.args.s (σ₁ n) n.args.asked
past_7 n = passed n.args.s (σ₁ n) n.lengths_of-lengths.ensures n.in_ok-check_control.ensures n.args.asked n.in_ok-check_row.ensures

-- ---- the place and its bank

abbrev σ₂ : After-bank_at-bank → State
σ₂ n =
    let l = n.args in
    state_of l.store.now l.forward.now l.reverse.now l.rows.now l.counts.now l.control

at_bank : (n : After-bank_at-bank)
    → Banked n.args.s (σ₂ n) n.args.asked n.forward_of-entry.result n.place-place.result n.bank_at-bank.result
at_bank n =
    let P = passed n.args.s (σ₂ n) n.lengths_of-lengths.ensures n.in_ok-check_control.ensures n.args.asked n.in_ok-check_row.ensures in
    banked P n.forward_of-entry.ensures n.place-place.ensures n.bank_at-bank.ensures

-- ---- past 8, all that is found

abbrev σ : After-update_of-update → State
σ n =
    let l = n.args in
    state_of l.store.now l.forward.now l.reverse.now l.rows.now l.counts.now l.control

abbrev f : After-update_of-update → Found
f n =
    record {
      row = visible n.args.asked.row;
      entry = n.forward_of-entry.result;
      place = n.place-place.result;
      bank = n.bank_at-bank.result;
      update = n.update_of-update.result;
    }

known : (n : After-update_of-update) → Sought n.args.s (σ n) n.args.asked (f n)
known n =
    let P = passed n.args.s (σ n) n.lengths_of-lengths.ensures n.in_ok-check_control.ensures n.args.asked n.in_ok-check_row.ensures in
    let B = banked P n.forward_of-entry.ensures n.place-place.ensures n.bank_at-bank.ensures in
    all_found B n.is_full.ensures n.if-is_full.false n.find-entry_changed.ensures n.update_of-update.ensures

-- ---- the answers

pub returns-in_err-check_control : goal.returns-in_err-check_control
returns-in_err-check_control c =
    let l = c.args in
    let σ₀ = state_of l.store.now l.forward.now l.reverse.now l.rows.now l.counts.now l.control in
    let p = err_from_is_err_and c.from_residual.result c.from_residual.ensures.1 in
    rw (p.1, p.2) (tick_stops l.s σ₀ c.lengths_of-lengths.ensures l.asked c.in_err-check_control.field-0.0 c.in_err-check_control.ensures)

pub check_row-requires : goal.check_row-requires
check_row-requires c =
    let l = c.args in
    let σ₀ = state_of l.store.now l.forward.now l.reverse.now l.rows.now l.counts.now l.control in
    rows_few l.s σ₀ c.lengths_of-lengths.ensures c.in_ok-check_control.ensures

pub returns-in_err-check_row : goal.returns-in_err-check_row
returns-in_err-check_row c =
    let l = c.args in
    let σ₀ = state_of l.store.now l.forward.now l.reverse.now l.rows.now l.counts.now l.control in
    let p = err_from_is_err_and c.from_residual-in_err-check_row.result c.from_residual-in_err-check_row.ensures.1 in
    rw (p.1, p.2) (row-stops l.s σ₀ c.lengths_of-lengths.ensures c.in_ok-check_control.ensures l.asked c.in_err-check_row.field-0.0 c.in_err-check_row.ensures)

pub overflow_cast-row : goal.overflow_cast-row
overflow_cast-row c = omega (arith, row_small (past_7 (goal.at.overflow_cast-row c).In_ok-check_row))

pub bank_at-bank-requires : goal.bank_at-bank-requires
bank_at-bank-requires c =
    bankable (past_7 (goal.at.bank_at-bank-requires c).In_ok-check_row) c.forward_of-entry.ensures c.place-place.ensures

pub returns-then-is_full : goal.returns-then-is_full
returns-then-is_full c =
    full_stops (at_bank (goal.at.returns-then-is_full c).After-bank_at-bank) c.is_full.ensures c.if-is_full.true

pub find-entry_changed-requires : goal.find-entry_changed-requires
find-entry_changed-requires c = findable (at_bank (goal.at.find-entry_changed-requires c).After-bank_at-bank)

pub update_of-update-requires : goal.update_of-update-requires
update_of-update-requires c =
    countable_there (at_bank (goal.at.update_of-update-requires c).After-bank_at-bank) c.find-entry_changed.ensures

pub is_due-requires : goal.is_due-requires
is_due-requires c = due_able (known (goal.at.is_due-requires c).After-update_of-update)

pub decide-requires : goal.decide-requires
decide-requires c =
    let K = known (goal.at.decide-requires c).After-update_of-update in
    decidable K c.in-Some.is c.is_due.ensures c.if-is_due.true c.ring_of-ring.ensures

pub returns-in_err-d-in-Some : goal.returns-in_err-d-in-Some
returns-in_err-d-in-Some c =
    let K = known (goal.at.returns-in_err-d-in-Some c).After-update_of-update in
    let p = err_from_is_err_and c.from_residual-in_err-d-in-Some.result c.from_residual-in_err-d-in-Some.ensures.1 in
    rw (p.1, p.2)
    (last_stops K c.in-Some.is c.is_due.ensures c.if-is_due.true c.ring_of-ring.ensures c.decide.result c.decide.ensures
    c.in_err-d-in-Some.field-0.0 c.in_err-d-in-Some.was)

pub returns-in_ok-d-in-Some : goal.returns-in_ok-d-in-Some
returns-in_ok-d-in-Some c =
    let K = known (goal.at.returns-in_ok-d-in-Some c).After-update_of-update in
    goes_there K c.in-Some.is c.is_due.ensures c.if-is_due.true c.ring_of-ring.ensures c.decide.result c.decide.ensures
    c.in_ok-d-in-Some.d c.in_ok-d-in-Some.was

-- step 2 gives no estimate that is due, or changes nothing
pub returns-in_default : goal.returns-in_default
returns-in_default c =
    stays_below (known (goal.at.returns-in_default c).After-update_of-update) c.in-Some.is c.is_due.ensures c.if-is_due.false

pub returns-in_default-2 : goal.returns-in_default-2
returns-in_default-2 c = stays_unchanged (known (goal.at.returns-in_default-2 c).After-update_of-update) c.in_default.is
