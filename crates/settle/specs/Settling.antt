-- What the code that moves a row asks, and what its parts leave.
-- Assumes nothing.
use Rattle.std.specs.Prelude.{ℕ, ◌+◌, ◌*◌, ◌<◌, ◌≤◌, ◌≡◌, ◌≢◌, true, Option, None, Some, IfSome, List, length, set}
use Rattle.geometry.specs.declared.Settings.{Settings}
use Rattle.geometry.specs.declared.numbering.VisibleRow.{VisibleRow}
use Rattle.geometry.specs.declared.numbering.Slot.{Slot}
use Rattle.conditions.specs.Conditions.{ranges_hold}
use Rattle.geometry.specs.Numbering.{home_row, slot_row}
use Rattle.geometry.specs.Entry.{empty, slot_of}
use Rattle.row_layout.specs.Bytes.{copied}
use Rattle.engine.specs.State.{forward_in, Storage}
use Rattle.engine.specs.Round.{rise_to}
use Rattle.verdict.specs.declared.Found.{Found}
use Rattle.verdict.specs.declared.Destination.{Destination}

-- ---- where a slot's row, if it holds one, is sent home

-- the store: the row's bytes are copied from the slot to its home
abbrev pub store_sent : Settings → Slot → Option VisibleRow → List ℕ → List ℕ
store_sent S d None store = store
store_sent S d (Some v) store = copied S.w store (slot_row S d.0) (home_row v.0)

-- the forward table: the row's entry is emptied
abbrev pub forward_sent : Option VisibleRow → List ℕ → List ℕ
forward_sent None forward = forward
forward_sent (Some v) forward = set forward v.0 empty

-- what that asks
pub record Sendable (S : Settings) (d : Slot) (held : Option VisibleRow) (store forward : List ℕ) : Type 0 where
  pub ranges : ranges_hold S ≡ true
  pub store_long : length store ≡ (S.n + S.q) * S.w
  pub forward_long : length forward ≡ S.n
  pub slot_in : d.0 < S.q
  pub held_in : IfSome held (λ v. v.0 < S.n)

-- ---- where a row is moved

-- the reverse table: the entry of the slot that the row leaves, if it was in one, is emptied
abbrev pub reverse_left : Option Slot → List ℕ → List ℕ
reverse_left None reverse = reverse
reverse_left (Some s) reverse = set reverse s.0 empty

-- what the move of the row that was found asks
pub record Movable (S : Settings) (f : Found) (d : Destination) (was : Storage) : Type 0 where
  pub sendable : Sendable S d.slot d.held was.store was.tables.forward
  pub reverse_long : length was.tables.reverse ≡ S.q
  pub row_in : f.row.0 < S.n
  pub entry_is : f.entry ≡ slot_of (forward_in was.tables f.row.0)
  pub entry_in : IfSome f.entry (λ s. s.0 < S.q)
  pub place-in : f.place.0 < S.n + S.q
  pub apart : f.place.0 ≢ slot_row S d.slot.0
  pub rise_is : d.rise ≡ rise_to S was.ring.head d.slot.0
  pub room : was.ring.passed + d.rise ≤ S.q
