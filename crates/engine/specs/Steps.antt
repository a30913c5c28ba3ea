-- Document 01, 'One access': what an accepted read or write of row r does, step by step; with document 02, Ask 4, on where a
-- row is moved to, and Ask 5, on banks.
-- Assumes nothing.
use Rattle.std.specs.Prelude.{ℕ, suc, ◌+◌, ◌%◌, Bool, cond, ◌||◌, List, eqb, set}
use Rattle.geometry.specs.declared.Settings.{Settings}
use Rattle.geometry.specs.Numbering.{visible, slot, home_row, slot_row}
use Rattle.geometry.specs.Entry.{empty}
use Rattle.geometry.specs.Place.{place_by}
use Rattle.tracking.specs.Track.{Tracked, track, is_due}
use Rattle.tracking.specs.Worn.{worn}
use Rattle.banks.specs.Banks.{bank_of}
use Rattle.row_layout.specs.Bytes.{copied}
use Rattle.engine.specs.declared.Move.{Move}
use Rattle.engine.specs.declared.Move.TheVariants.{Stayed, ToSlot, OverSlot}
use Rattle.engine.specs.State.{State, Tracker, Storage, tracker_at, with_tracker}
use Rattle.engine.specs.State.{ring_of, control_of, forward_in, forward_of, reverse_of}
use Rattle.engine.specs.Round.{skipped_of, destination_from, rise_to}

-- 1. 'Place p: slot s's physical row if the row's forward entry is s, else its home.'
abbrev pub place : Settings → State → ℕ → ℕ
place S σ r = place_by S (forward_of σ r) r

-- 2. the tracker after it, and the estimate; 'Step 2 looks only at the entries of p's bank' (document 02, Ask 5)
abbrev pub tracked : Settings → State → ℕ → Tracked
tracked S σ r =
    let p : ℕ = place S σ r in
    let t : Tracker = tracker_at S σ p in
    track p t.rows t.counts t.spill

-- as the tracker of p's bank is left, with 3: '`acts` rises by 1'
abbrev pub tracker_after : Settings → State → ℕ → Tracker
tracker_after S σ r =
    let t : Tracked = tracked S σ r in
    record { rows = t.rows; counts = t.counts; spill = t.spill; acts = suc (tracker_at S σ (place S σ r)).acts }

-- all that is lent with it
abbrev pub counted : Settings → State → ℕ → State
counted S σ r = with_tracker S σ (bank_of S (place S σ r)) (tracker_after S σ r)

-- 4. 'If there is an estimate and it is a multiple of A, the row is quarantined.'
abbrev pub moves : Settings → State → ℕ → Bool
moves S σ r = is_due S.a (tracked S σ r).estimate

-- 'The head shall pass every slot whose physical row has, in the lowest entry naming it, a tracker count of A or more after
-- step 2, as well as the moving row's own slot.' (document 02, Ask 4); it looks 'only at those of the slot's bank' (Ask 5). Such
-- a slot is called skipped here: `passed` counts the destinations too.
abbrev pub skips : Settings → State → ℕ → ℕ → Bool
skips S σ r s =
    let t : Tracker = tracker_at S (counted S σ r) (slot_row S s) in
    eqb (forward_of σ r) s || worn S.a t.rows t.counts (slot_row S s)

-- of all slots from `head` on
abbrev pub skipped : Settings → State → ℕ → ℕ
skipped S σ r = skipped_of (skips S σ r) S.q S.q σ.control.head

-- 'The destination is the first slot from `head` on that isn't passed'
abbrev pub destination : Settings → State → ℕ → ℕ
destination S σ r = destination_from S σ.control.head (skipped S σ r)

-- '`passed` rises by the slots passed plus one'
abbrev pub rise : Settings → State → ℕ → ℕ
rise S σ r = suc (skipped S σ r)

-- 'If the reverse entry of d names a row v': where the row goes, and which row is sent home (held: d's reverse entry)
abbrev pub move_into : ℕ → ℕ → Move
move_into d held = cond (eqb held empty) (ToSlot (slot d)) (OverSlot (slot d) (visible held))

-- where the row goes, if it is quarantined
unfoldable pub move : Settings → State → ℕ → Move
move S σ r =
    let d : ℕ = destination S σ r in
    cond (moves S σ r) (move_into d (reverse_of σ d)) Stayed

-- ---- what is left

-- 'slot d is copied to v's home and v's forward entry emptied'
abbrev pub sent_home : Settings → ℕ → ℕ → Storage → Storage
sent_home S d v was =
    record {
      store = copied S.w was.store (slot_row S d) (home_row v);
      tables = record { forward = set was.tables.forward v empty; reverse = was.tables.reverse };
      ring = was.ring;
    }

-- 'If p was a slot, its reverse entry is emptied.' (entry: the row's forward entry before)
abbrev pub left : List ℕ → ℕ → List ℕ
left reverse entry = cond (eqb entry empty) reverse (set reverse entry empty)

-- 'p is copied to slot d. .. Reverse of d becomes the row, forward of the row becomes d. `head` becomes (d + 1) mod Q and
-- `passed` rises' (r: the row, entry: its forward entry before)
abbrev pub moved_to : Settings → ℕ → ℕ → ℕ → ℕ → Storage → Storage
moved_to S r entry p d was =
    record {
      store = copied S.w was.store p (slot_row S d);
      tables = record {
        forward = set was.tables.forward r d;
        reverse = set (left was.tables.reverse entry) d r;
      };
      ring = record { head = (d + 1) % S.q; passed = was.ring.passed + rise_to S was.ring.head d };
    }

-- by 4, of row r at place p: 'If the reverse entry of d names a row v, slot d is copied to v's home .. Then p is copied'
abbrev pub relocated : Settings → ℕ → ℕ → Move → Storage → Storage
relocated S r p Stayed was = was
relocated S r p (ToSlot d) was = moved_to S r (forward_in was.tables r) p d.0 was
relocated S r p (OverSlot d v) was = moved_to S r (forward_in was.tables r) p d.0 (sent_home S d.0 v.0 was)

-- by all four, with the move that was decided (store: with the bytes written at p, if it is a write)
abbrev pub settled : Settings → State → ℕ → List ℕ → Move → State
settled S σ r store m =
    let t : State = counted S σ r in
    let now : Storage = relocated S r (place S σ r) m (record { store = store; tables = σ.tables; ring = ring_of σ.control }) in
    record {
      store = now.store;
      tables = now.tables;
      rows = t.rows;
      counts = t.counts;
      control = control_of now.ring t.control.spill t.control.acts;
    }

-- all that is lent after an accepted access
abbrev pub state_after : Settings → State → ℕ → List ℕ → State
state_after S σ r store = settled S σ r store (move S σ r)
