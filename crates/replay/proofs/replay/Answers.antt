-- An empty trace, then what the file says.
use native.Mathlib.Nat.{le_refl}
use Rattle.std.proofs.Common.{arith, refl, sym, ◌∙◌}
use Rattle.trace_file.specs.Form.{most_numbers}
use Rattle.trace_file.proofs.Sections.{steps_within}
use Rattle.replay.proofs.Judging.{page_short, page_blank, page_long}
use Rattle.replay.proofs.replay.Goals as goal

pub returns-then-page-lt-PAGE-clause-printed : goal.returns-then-page-lt-PAGE-clause-printed
returns-then-page-lt-PAGE-clause-printed c = page_short c.args.text.now c.if-page-lt-PAGE.true

pub returns-then-is_empty_trace-clause-printed : goal.returns-then-is_empty_trace-clause-printed
returns-then-is_empty_trace-clause-printed c =
    page_blank c.args.text.now c.if-page-lt-PAGE.false (sym c.is_empty_trace.ensures ∙ c.if-is_empty_trace.true)

pub returns-in-None-clause-printed : goal.returns-in-None-clause-printed
returns-in-None-clause-printed c =
    let filled = sym c.is_empty_trace.ensures ∙ c.if-is_empty_trace.false in
    c.put_refused.ensures.printed
    ∙ page_long c.args.text.now c.if-page-lt-PAGE.false filled (le_refl most_numbers) c.in-None.ensures.said

-- the places of the steps are within the list
pub offset_bounds-numbers-steps : goal.offset_bounds-numbers-steps
offset_bounds-numbers-steps c = let w = steps_within most_numbers c.args.text.now c.in-Some.ensures.form in omega (arith, w.0, w.1, w.2)

pub slice_bounds-play-count : goal.slice_bounds-play-count
slice_bounds-play-count c = let w = steps_within most_numbers c.args.text.now c.in-Some.ensures.form in omega (arith, w.0, w.1, w.2)

pub slice_bounds-play-start : goal.slice_bounds-play-start
slice_bounds-play-start c = let w = steps_within most_numbers c.args.text.now c.in-Some.ensures.form in omega (arith, w.0, w.1, w.2)

pub slice_bounds-play-end : goal.slice_bounds-play-end
slice_bounds-play-end c = let w = steps_within most_numbers c.args.text.now c.in-Some.ensures.form in omega (arith, w.0, w.1, w.2)

pub play-requires : goal.play-requires
play-requires c =
    let within = steps_within most_numbers c.args.text.now c.in-Some.ensures.form in
    omega (arith, within.1, within.2, c.if-page-lt-PAGE.false)

pub returns-in-Some-clause-printed : goal.returns-in-Some-clause-printed
returns-in-Some-clause-printed c =
    let filled = sym c.is_empty_trace.ensures ∙ c.if-is_empty_trace.false in
    c.play.ensures.printed
    ∙ rw (c.steps.ensures.start, c.steps.ensures.end) refl
    ∙ page_long c.args.text.now c.if-page-lt-PAGE.false filled (le_refl most_numbers) c.in-Some.ensures.said
