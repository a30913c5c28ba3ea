use Rattle.std.proofs.Common.{rules, sym, ◌∙◌, None, Some}
use Rattle.number_text.proofs.Outcomes.{starts, past_text, all_listed}
use Rattle.number_text.proofs.read_numbers.Goals as goal

pub loop-b-init : goal.loop-b-init
loop-b-init c = record { counted = search rules; same = starts c.args.list.now c.args.text.now }

pub returns-in_err-last-clause-numbers : goal.returns-in_err-last-clause-numbers
returns-in_err-last-clause-numbers c =
    let l = c.loop-b in
    let past = past_text l.list l.s c.args.text.now l.b-index c.end_number.new.list None c.loop-b-test.false c.in_err-last.ensures.past in
    rw c.from_residual-in_err-last.ensures (sym (l.invariant.same ∙ past))

pub returns-clause-numbers : goal.returns-clause-numbers
returns-clause-numbers c =
    let l = c.loop-b in
    let e = c.in_ok-last in
    let list = c.end_number.new.list in
    let past = past_text l.list l.s c.args.text.now l.b-index list (Some e.last) c.loop-b-test.false e.ensures.past in
    sym (l.invariant.same ∙ past ∙ all_listed list e.last e.ensures.outside e.ensures.past.within)
