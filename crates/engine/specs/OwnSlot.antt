-- Document 02, Ask 4: 'as well as the moving row's own slot'. Those words are kept in the definition (`skips`), and say
-- nothing new: a row that is moved from a slot leaves that slot worn. The proof is `own_slot-worn` of proofs/Worn.antt.
-- Assumes nothing.
use Rattle.std.specs.Prelude.{ℕ, ◌*◌, ◌≤◌, ◌≡◌, ◌≢◌, true, length}
use Rattle.geometry.specs.declared.Settings.{Settings}
use Rattle.geometry.specs.Numbering.{slot_row}
use Rattle.geometry.specs.Entry.{empty}
use Rattle.tracking.specs.Worn.{worn}
use Rattle.engine.specs.State.{State, Tracker, tracker_at, forward_of}
use Rattle.engine.specs.Steps.{counted, moves}

-- for any settings with a bank and any memory whose tracker rows and counts have their lengths, sound or not
abbrev pub OwnSlotWorn : Type 0
OwnSlotWorn = (S : Settings) (σ : State) (r : ℕ) → 1 ≤ S.b → length σ.rows ≡ S.b * S.k → length σ.counts ≡ S.b * S.k
    → moves S σ r ≡ true → forward_of σ r ≢ empty →
    let t : Tracker = tracker_at S (counted S σ r) (slot_row S (forward_of σ r)) in
    worn S.a t.rows t.counts (slot_row S (forward_of σ r)) ≡ true
