-- 01's number and values, and 02's estimate, for each case of an access's answer.
-- Assumes nothing.
use Rattle.std.specs.Prelude.{ℕ, Result, Ok, Err}
use Rattle.geometry.specs.Entry.{empty}
use Rattle.engine.specs.declared.Move.{Move}
use Rattle.engine.specs.declared.Move.TheVariants.{Stayed, ToSlot, OverSlot}
use Rattle.engine.specs.declared.Served.{Served}

-- the answer of a read or a write: the refusal's number where it is refused
abbrev pub Reply : Type 0
Reply = Result Served ℕ

-- the refusal's number, 0 where the access was accepted
abbrev pub number_of : Reply → ℕ
number_of (Err x) = x
number_of (Ok s) = 0

-- 'An answer gives p, ..'; 'Beside the number a refusal holds nothing: each figure in it is 0, ..'
abbrev pub place_of : Reply → ℕ
place_of (Err x) = 0
place_of (Ok s) = s.place.0

-- 'the estimate after the access, or 0 where only `spill` rose' (document 02, Ask 2); the tracker's own estimates have the
-- names `estimate_at` (of an entry, in step 2) and `estimate_of` (of a place, in proofs)
abbrev pub estimate_in : Reply → ℕ
estimate_in (Err x) = 0
estimate_in (Ok s) = s.estimate

-- '.. and slot moved to and row sent home are none.'
abbrev pub move_of : Reply → Move
move_of (Err x) = Stayed
move_of (Ok s) = s.moved

-- 'the slot moved to or none, and the row sent home or none', none being the mark 65535
abbrev pub slot_moved_to : Move → ℕ
slot_moved_to Stayed = empty
slot_moved_to (ToSlot d) = d.0
slot_moved_to (OverSlot d v) = d.0

abbrev pub row_sent_home : Move → ℕ
row_sent_home Stayed = empty
row_sent_home (ToSlot d) = empty
row_sent_home (OverSlot d v) = v.0
