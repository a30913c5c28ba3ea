-- Document 01, 'Settings and lent memory': an entry of the forward table and one of the reverse table.
-- Assumes nothing.
use Rattle.std.specs.Prelude.{ℕ, Bool, Option, None, Some, cond, eqb}
use Rattle.geometry.specs.declared.numbering.VisibleRow.{VisibleRow}
use Rattle.geometry.specs.declared.entry.Entry.{Entry}
use Rattle.geometry.specs.declared.numbering.Slot.{Slot}
use Rattle.geometry.specs.Numbering.{visible, slot}

-- 'The mark 65535 means empty and belongs to the entry itself.'
abbrev pub empty : ℕ
empty = 65535

-- the number that an entry of either table holds is the mark
abbrev pub is_empty : ℕ → Bool
is_empty e = eqb e empty

-- what an entry with that number names, if anything; numbered: the slot or the visible row with a number
abbrev pub named : {A : Type 0} → (ℕ → A) → ℕ → Option A
named numbered e = cond (is_empty e) None (Some (numbered e))

-- the entry that names a slot or a visible row; number: its number
abbrev pub holding : {A : Type 0} → (A → ℕ) → A → Entry
holding number x = record { 0 = number x }

-- the number that an entry holds, by what it names
abbrev pub entry_of : {A : Type 0} → (A → ℕ) → Option A → ℕ
entry_of number None = empty
entry_of number (Some x) = number x

-- the slot that a forward entry with that number names, and the number of the entry that names a slot
abbrev pub slot_of : ℕ → Option Slot
slot_of e = named slot e

abbrev pub forward_entry_of : Option Slot → ℕ
forward_entry_of names = entry_of (λ s. s.0) names

-- the visible row that a reverse entry with that number names, and the number of the entry that names a row
abbrev pub row_of : ℕ → Option VisibleRow
row_of e = named visible e

abbrev pub reverse_entry_of : Option VisibleRow → ℕ
reverse_entry_of names = entry_of (λ row. row.0) names
