-- What a C caller gets for an access: document 01's number and values, and document 02's estimate, for each case of the
-- engine's answer.
-- Assumes nothing.
use Rattle.engine.specs.Answer.{Reply, number_of, place_of, estimate_in, move_of, slot_moved_to, row_sent_home}
use Rattle.figures.specs.declared.Outcome.{Outcome}

-- 'slot moved to and row sent home are none' is the mark 65535
abbrev pub outcome_of : Reply → Outcome
outcome_of a =
    record {
      number = number_of a;
      slot = slot_moved_to (move_of a);
      row = row_sent_home (move_of a);
      estimate = estimate_in a;
      place = place_of a;
    }
