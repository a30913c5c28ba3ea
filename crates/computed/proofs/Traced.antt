-- The steps of a trace, opened so that antt computes them. Assumes nothing.
use Prim.Native.Nat.{ℕ}
use mathlib.Core.List.{List}
use Rattle.geometry.specs.declared.Settings.{Settings}
use Rattle.conditions.specs.Conditions.{ranges_hold, limit_holds, store_holds, lengths_hold}
use Rattle.scan.specs.Scan.{lowest, some}
use Rattle.basics.specs.Portions.{portion, with_portion}
use Rattle.basics.specs.Ranges.{some_below}
use Rattle.banks.specs.Banks.{bank_of}
use Rattle.tracking.specs.Track.{track}
use Rattle.tracking.specs.Worn.{worn}
use Rattle.row_layout.specs.Bytes.{copied}
use Rattle.engine.specs.Round.{skipped_of, destination_from, rise_to}
use Rattle.engine.specs.Steps.{move}
use Rattle.engine.specs.Ladder.{stops, ◌▹◌, settings_number, fit_number, points_back, row_unsound, destination_unsound, row_number}
use Rattle.engine.specs.Ladder.{ring_unsound, tracker_unsound, trackers_unsound, control_unsound, control_number, access_number}
use Rattle.engine.specs.Calls as calls
use Rattle.history.specs.Run.{Event, step}
use Rattle.trace_steps.specs.Steps.{steps_from}
use Rattle.replay.specs.Memory.{lent}

-- the steps after set-up, with their answers; `unfolding traced` opens all that is named here
unfoldable pub traced : Settings → List ℕ → List Event
unfolding calls.set_up calls.noted calls.zero_below calls.tick calls.read calls.accessed step steps_from
    lowest some portion with_portion bank_of some_below track worn copied skipped_of destination_from rise_to move
    stops ◌▹◌ settings_number fit_number control_number row_number access_number
    ranges_hold limit_holds store_holds lengths_hold ring_unsound tracker_unsound trackers_unsound control_unsound points_back
    row_unsound destination_unsound
traced S steps = steps_from S (calls.set_up S (lent S)).state steps
