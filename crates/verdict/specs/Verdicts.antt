-- What is decided of a row that is to be quarantined: its number where it is refused, else where it goes.
-- Assumes nothing.
use Rattle.std.specs.Prelude.{ℕ, suc, ◌+◌, ◌<◌, ◌≤◌, cond, Option, None, Some, Result, Ok, Err, List, eqb, ltb}
use Rattle.geometry.specs.declared.Settings.{Settings}
use Rattle.geometry.specs.declared.Ring.{Ring}
use Rattle.geometry.specs.declared.numbering.VisibleRow.{VisibleRow}
use Rattle.geometry.specs.declared.numbering.Slot.{Slot}
use Rattle.geometry.specs.Numbering.{slot}
use Rattle.geometry.specs.Entry.{row_of, forward_entry_of}
use Rattle.engine.specs.declared.Move.{Move}
use Rattle.engine.specs.declared.Move.TheVariants.{ToSlot, OverSlot}
use Rattle.engine.specs.State.{Tables, reverse_in}
use Rattle.engine.specs.Round.{destination_from}
use Rattle.engine.specs.Ladder.{stops, ◌▹◌, destination_unsound}
use Rattle.seek.specs.Seeking.{skipped_before, Seekable}
use Rattle.verdict.specs.declared.Destination.{Destination}

-- where it goes: to slot d, whose reverse entry has the number `held`, and `passed` rises by `rise`
abbrev pub sent : ℕ → ℕ → ℕ → Destination
sent d held rise = record { slot = slot d; held = row_of held; rise = rise }

-- how the row is moved by that: to an empty slot, or to one whose row is sent home
abbrev pub moved_by : Option VisibleRow → Slot → Move
moved_by None d = ToSlot d
moved_by (Some v) d = OverSlot d v

abbrev pub move_to : Destination → Move
move_to d = moved_by d.held d.slot

-- 9 and the destination's 7 (over: the slots that the head skips)
unfoldable pub quarantine_number : Settings → Ring → Tables → ℕ → ℕ
quarantine_number S ring tables over =
    stops (ltb S.q (ring.passed + suc over)) 9
    ▹ stops (destination_unsound S tables (destination_from S ring.head over)) 7

-- by these: where it goes, or the number with which it is refused
unfoldable pub quarantine_verdict : Settings → Ring → Tables → ℕ → Result Destination ℕ
quarantine_verdict S ring tables over =
    let d : ℕ = destination_from S ring.head over in
    let number : ℕ = quarantine_number S ring tables over in
    cond (eqb number 0) (Ok (sent d (reverse_in tables d) (suc over))) (Err number)

-- what the judgement asks
pub record Judgeable (S : Settings) (ring : Ring) (over : ℕ) : Type 0 where
  pub slots_few : S.q ≤ 5500
  pub head_in : ring.head < S.q
  pub passed_in : ring.passed ≤ S.q
  pub over_in : over ≤ S.q

-- the slots that the head skips for the row with that forward entry, computed before step 2 is done
abbrev pub skipped_for : Settings → Ring → Option Slot → ℕ → List ℕ → List ℕ → ℕ
skipped_for S ring entry changed rows counts = skipped_before S ring.head (forward_entry_of entry) changed rows counts

-- what the search and the judgement ask together
pub record Decidable (S : Settings) (ring : Ring) (changed : ℕ) (rows counts : List ℕ) : Type 0 where
  pub seekable : Seekable S changed rows counts
  pub head_in : ring.head < S.q
  pub passed_in : ring.passed ≤ S.q
