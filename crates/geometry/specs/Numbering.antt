-- Document 01, 'Settings and lent memory': the three numberings, and how one is turned into another.
-- Assumes nothing.
use Rattle.std.specs.Prelude.{ℕ, ◌+◌}
use Rattle.geometry.specs.declared.Settings.{Settings}
use Rattle.geometry.specs.declared.numbering.VisibleRow.{VisibleRow}
use Rattle.geometry.specs.declared.numbering.Slot.{Slot}
use Rattle.geometry.specs.declared.numbering.PhysicalRow.{PhysicalRow}

-- a number as one of each numbering
abbrev pub visible : ℕ → VisibleRow
visible r = record { 0 = r }

abbrev pub slot : ℕ → Slot
slot s = record { 0 = s }

abbrev pub physical : ℕ → PhysicalRow
physical p = record { 0 = p }

-- 'The home of visible row r is physical row r.'
abbrev pub home_row : ℕ → ℕ
home_row r = r

abbrev pub home_of : VisibleRow → PhysicalRow
home_of r = physical (home_row r.0)

-- 'Slot s is physical row N + s.'
abbrev pub slot_row : Settings → ℕ → ℕ
slot_row S s = S.n + s

abbrev pub slot_row_of : Settings → Slot → PhysicalRow
slot_row_of S s = physical (slot_row S s.0)
