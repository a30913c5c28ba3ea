-- The claims on the empty trace. Assumes nothing.
use native.Mathlib.Omega.{arith}
use mathlib.Core.Path.{refl, sym, ◌∙◌}
use mathlib.Core.Logic.{inl, inr}
use Rattle.std.proofs.lemmas.Option.{none-some}
use lib.ListN.{length}
use borrow.Author.Tests.{le-leb, lt-leb}
use Rattle.basics.proofs.Cases.{split}
use Rattle.trace_file.specs.Form.{trace_in, is_empty_trace}
use Rattle.trace_file.proofs.Empty.{empty_no_numbers, has-number, few_numbers}
use Rattle.replay.specs.Replay.{replayed}
use Rattle.replay.specs.EmptyTrace.{EmptyPrintsNothing, LongRefused, OneSectionRefused, TracesStay}
use Rattle.replay.proofs.Judging.{empty-replayed, form_replayed}

pub empty_prints_nothing : EmptyPrintsNothing
unfolding is_empty_trace
empty_prints_nothing text short e = empty-replayed text (rw (le-leb (length text) 65536 short, e) refl)

pub long_refused : LongRefused
unfolding replayed is_empty_trace trace_in
long_refused text h = rw (lt-leb (length text) 65536 h) refl

pub one_section_refused : OneSectionRefused
one_section_refused text has few = form_replayed text (has-number text has) (few_numbers text few)

pub traces_stay : TracesStay
traces_stay text said e =
    elim (split (is_empty_trace text)) [
      | inl f ↦ absurd (none-some said (sym (few_numbers text (inl (omega (arith, empty_no_numbers text f)))) ∙ e))
      | inr f ↦ form_replayed text f e
    ]
