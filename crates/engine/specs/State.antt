-- Document 01, 'Settings and lent memory': all that the caller lends, as one record.
-- Assumes nothing.
use Rattle.std.specs.Prelude.{ℕ, List, get_or, replicate}
use Rattle.geometry.specs.declared.Settings.{Settings}
use Rattle.geometry.specs.declared.Control.{Control}
use Rattle.geometry.specs.declared.Ring.{Ring}
use Rattle.geometry.specs.declared.Lengths.{Lengths}
use Rattle.geometry.specs.Entry.{empty}
use Rattle.geometry.specs.Lent.{Slice, lengths_by}
use Rattle.basics.specs.Portions.{portion, with_portion}
use Rattle.banks.specs.Banks.{most_banks, bank_of, with_bank}

-- the pointer tables, 'a forward table of N 16-bit numbers and a reverse table of Q 16-bit numbers'
pub record Tables : Type 0 where
  pub forward : List ℕ
  pub reverse : List ℕ

abbrev pub tables_of : List ℕ → List ℕ → Tables
tables_of forward reverse = record { forward = forward; reverse = reverse }

-- the forward entry of a visible row, and the reverse entry of a slot (past a table's end nothing is named)
abbrev pub forward_in : Tables → ℕ → ℕ
forward_in tables r = get_or tables.forward r empty

abbrev pub reverse_in : Tables → ℕ → ℕ
reverse_in tables s = get_or tables.reverse s empty

pub record State : Type 0 where
  pub store : List ℕ
  pub tables : Tables
  -- tracker rows and tracker counts: 'B × K entries, bank after bank' (document 02, Ask 5)
  pub rows : List ℕ
  pub counts : List ℕ
  pub control : Control

abbrev pub state_of : List ℕ → List ℕ → List ℕ → List ℕ → List ℕ → Control → State
state_of store forward reverse rows counts control =
    record { store = store; tables = tables_of forward reverse; rows = rows; counts = counts; control = control }

abbrev pub lengths_of : State → Lengths
lengths_of σ = lengths_by σ.store σ.tables.forward σ.tables.reverse σ.rows σ.counts

abbrev pub forward_of : State → ℕ → ℕ
forward_of σ r = forward_in σ.tables r

abbrev pub reverse_of : State → ℕ → ℕ
reverse_of σ s = reverse_in σ.tables s

-- ---- what a call is lent, as its contract names it: before the call, and after it

abbrev pub entering : Slice → Slice → Slice → Slice → Slice → Control → State
entering store forward reverse rows counts control =
    state_of store.entry.now forward.entry.now reverse.entry.now rows.entry.now counts.entry.now control

abbrev pub leaving : Slice → Slice → Slice → Slice → Slice → Control → State
leaving store forward reverse rows counts control =
    state_of store.exit.now forward.exit.now reverse.exit.now rows.exit.now counts.exit.now control

-- the pointer tables alone, which the call does not write
abbrev pub tables_in : Slice → Slice → Tables
tables_in forward reverse = tables_of forward.entry.now reverse.entry.now

-- ---- parts of it

-- the control record's `head` and `passed`
abbrev pub ring_of : Control → Ring
ring_of control = record { head = control.head; passed = control.passed }

-- the control record with them; spill, acts: by bank
abbrev pub control_of : Ring → List ℕ → List ℕ → Control
control_of ring spill acts = record { head = ring.head; passed = ring.passed; spill = spill; acts = acts }

-- the control record of a new history: all its numbers are 0
abbrev pub new_control : Control
new_control = record { head = 0; passed = 0; spill = replicate most_banks 0; acts = replicate most_banks 0 }

-- the tracker of a bank: its rows and counts, its spillover count, and the accepted accesses that it has counted this epoch
pub record Tracker : Type 0 where
  pub rows : List ℕ
  pub counts : List ℕ
  pub spill : ℕ
  pub acts : ℕ

-- 'The paper keeps a tracker for each bank'; that of bank c
abbrev pub tracker_of : Settings → State → ℕ → Tracker
tracker_of S σ c =
    record {
      rows = portion S.k c σ.rows;
      counts = portion S.k c σ.counts;
      spill = get_or σ.control.spill c 0;
      acts = get_or σ.control.acts c 0;
    }

-- the tracker that serves physical row p
abbrev pub tracker_at : Settings → State → ℕ → Tracker
tracker_at S σ p = tracker_of S σ (bank_of S p)

-- all that is lent, with another tracker of bank c
abbrev pub with_tracker : Settings → State → ℕ → Tracker → State
with_tracker S σ c t =
    record {
      store = σ.store;
      tables = σ.tables;
      rows = with_portion S.k c σ.rows t.rows;
      counts = with_portion S.k c σ.counts t.counts;
      control = with_bank σ.control (ring_of σ.control) (record { index = c; spill = t.spill; acts = t.acts });
    }

-- where the rows are: the store, the pointer tables, `head` and `passed`, all that step 4 reads and writes
pub record Storage : Type 0 where
  pub store : List ℕ
  pub tables : Tables
  pub ring : Ring

abbrev pub storage_of : List ℕ → List ℕ → List ℕ → Ring → Storage
storage_of store forward reverse ring = record { store = store; tables = tables_of forward reverse; ring = ring }

-- the same as a contract names it
abbrev pub storage_entering : Slice → Slice → Slice → Ring → Storage
storage_entering store forward reverse ring =
    storage_of store.entry.now forward.entry.now reverse.entry.now ring

abbrev pub storage_leaving : Slice → Slice → Slice → Ring → Storage
storage_leaving store forward reverse ring =
    storage_of store.exit.now forward.exit.now reverse.exit.now ring
