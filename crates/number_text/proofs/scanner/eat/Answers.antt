-- One law of `outcome` for each return.
use Rattle.std.proofs.Common.{sym, ◌∙◌}
use Rattle.number_text.proofs.Outcomes.{past_large, past_digit, past_gap, past_other}
use Rattle.number_text.proofs.scanner.eat.Goals as goal

pub returns-in_err-value : goal.returns-in_err-value
returns-in_err-value c =
    let a = c.args in
    let digit = sym c.is_ascii_digit.ensures.value ∙ c.if-is_ascii_digit.true in
    rw c.from_residual.ensures (past_large a.list.now a.s a.b a.list.now digit (sym c.append.ensures ∙ c.in_err-value.was))

pub returns-then-is_ascii_digit : goal.returns-then-is_ascii_digit
returns-then-is_ascii_digit c =
    let a = c.args in
    let digit = sym c.is_ascii_digit.ensures.value ∙ c.if-is_ascii_digit.true in
    past_digit a.list.now a.s a.b c.in_ok-value.value digit (sym c.append.ensures ∙ c.in_ok-value.was) c.requires

pub returns-then-not-is_gap : goal.returns-then-not-is_gap
returns-then-not-is_gap c =
    let a = c.args in
    let other = sym c.is_ascii_digit.ensures.value ∙ c.if-is_ascii_digit.false in
    past_other a.list.now a.s a.b a.list.now other (sym c.is_gap.ensures ∙ c.if-not-is_gap.true)

pub returns : goal.returns
returns c =
    let a = c.args in
    let other = sym c.is_ascii_digit.ensures.value ∙ c.if-is_ascii_digit.false in
    let gap = sym c.is_gap.ensures ∙ c.if-not-is_gap.false in
    past_gap a.list.now a.s a.b other gap c.end_number.ensures.past
