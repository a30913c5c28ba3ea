-- Document 01, 'One access', step 1: where a row is, computed from its forward entry.
-- Assumes nothing.
use Rattle.std.specs.Prelude.{ℕ, Option, None, Some, cond}
use Rattle.geometry.specs.declared.Settings.{Settings}
use Rattle.geometry.specs.declared.numbering.Slot.{Slot}
use Rattle.geometry.specs.Numbering.{home_row, slot_row}
use Rattle.geometry.specs.Entry.{is_empty}

-- 'Place p: slot s's physical row if the row's forward entry is s, else its home.'
abbrev pub place_by : Settings → ℕ → ℕ → ℕ
place_by S entry r = cond (is_empty entry) (home_row r) (slot_row S entry)

-- the same of what the entry names
abbrev pub place_in : Settings → Option Slot → ℕ → ℕ
place_in S None r = home_row r
place_in S (Some s) r = slot_row S s.0
