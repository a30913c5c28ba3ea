-- The table of cases holds, by one test that antt computes. Assumes nothing.
use mathlib.Core.Path.{refl}
use Rattle.basics.specs.Lists.{every}
use Rattle.sizing.specs.Sums.{least_size, most_activations, size_ranges_hold, activation_ranges_hold}
use Rattle.number_text.specs.Numbers.{numbers_from, readable_from}
use Rattle.trace_file.specs.Form.{has_sections, banks_in, form_in, trace_in, is_empty_trace}
use Rattle.page.specs.Decimal.{decimal_within}
use Rattle.line_text.specs.LineText.{line_bytes}
use Rattle.trace_steps.specs.Steps.{lines_from}
use Rattle.engine.specs.Ladder.{settings_number}
use Rattle.replay.specs.Replay.{played, replayed}
use Rattle.history.specs.Tally.{hit}
use Rattle.computed.specs.Case.{holds}
use Rattle.computed.specs.Cases.{AllHold}
use Rattle.computed.proofs.Traced.{traced}

pub all_hold : AllHold
unfolding holds least_size most_activations size_ranges_hold activation_ranges_hold
    replayed is_empty_trace form_in trace_in readable_from every numbers_from has_sections banks_in played settings_number
    lines_from line_bytes decimal_within hit traced
all_hold = refl
