-- The code that moves a row leaves what the steps say. Assumes nothing.
use Prim.Native.Nat.{ℕ, ◌+◌, ◌*◌, ◌%◌, ◌<◌, ◌≤◌}
use native.Mathlib.Omega.{arith}
use mathlib.Core.Path.{◌≡◌, refl, ◌∙◌}
use mathlib.Core.Bool.{Bool, true, false}
use mathlib.Core.List.{List}
use lib.ListN.{length, set}
use Rattle.std.specs.Prelude.{Option, None, Some, cond}
use Rattle.geometry.specs.declared.Settings.{Settings}
use Rattle.geometry.specs.declared.numbering.VisibleRow.{VisibleRow}
use Rattle.geometry.specs.declared.numbering.Slot.{Slot}
use Rattle.geometry.specs.Numbering.{slot, slot_row}
use Rattle.geometry.specs.Entry.{empty, is_empty, slot_of}
use Rattle.basics.proofs.Portions.{portion_before}
use Rattle.row_layout.specs.Bytes.{copied}
use Rattle.row_layout.proofs.Laws.{length-copied}
use Rattle.engine.specs.State.{Storage, storage_of, forward_in}
use Rattle.engine.specs.Round.{rise_to}
use Rattle.engine.specs.Steps.{left, relocated}
use Rattle.verdict.specs.declared.Found.{Found}
use Rattle.verdict.specs.declared.Destination.{Destination}
use Rattle.verdict.specs.Verdicts.{moved_by, move_to}
use Rattle.settle.specs.Settling.{store_sent, forward_sent, reverse_left, Sendable, Movable}

-- a physical row lies in the store
pub row_inside : (S : Settings) (p : ℕ) (store : List ℕ) → length store ≡ (S.n + S.q) * S.w → p < S.n + S.q
    → p * S.w + S.w ≤ length store
row_inside S p store long inside = omega (arith, portion_before S.w p (S.n + S.q) inside)

-- the store is as long as before once a slot's row is sent home
pub sent_long : (S : Settings) (d : Slot) (held : Option VisibleRow) (store forward : List ℕ) → Sendable S d held store forward
    → length (store_sent S d held store) ≡ (S.n + S.q) * S.w
sent_long S d None store forward T = T.store_long
sent_long S d (Some v) store forward T =
    let from : slot_row S d.0 < S.n + S.q = omega (arith, T.slot_in) in
    let to : v.0 < S.n + S.q = omega (arith, T.held_in) in
    length-copied S.w (S.n + S.q) store (slot_row S d.0) v.0 T.store_long from to ∙ T.store_long

-- the slot that a row leaves, by what its forward entry names and by the entry's number
left_split : (reverse : List ℕ) (e : ℕ) (b : Bool)
    → reverse_left (cond b None (Some (slot e))) reverse ≡ cond b reverse (set reverse e empty)
left_split reverse e true = refl
left_split reverse e false = refl

-- the parts put together, with the row's own entries, are the move
parts_are : (S : Settings) (r p : ℕ) (d : Slot) (held : Option VisibleRow) (was : Storage)
    → storage_of (copied S.w (store_sent S d held was.store) p (slot_row S d.0)) (set (forward_sent held was.tables.forward) r d.0)
    (set (left was.tables.reverse (forward_in was.tables r)) d.0 r)
    (record { head = (d.0 + 1) % S.q; passed = was.ring.passed + rise_to S was.ring.head d.0 })
    ≡ relocated S r p (moved_by held d) was
parts_are S r p d None was = refl
parts_are S r p d (Some v) was = refl

pub moved_is : {S : Settings} {f : Found} {d : Destination} {was : Storage} → Movable S f d was
    → storage_of (copied S.w (store_sent S d.slot d.held was.store) f.place.0 (slot_row S d.slot.0))
    (set (forward_sent d.held was.tables.forward) f.row.0 d.slot.0)
    (set (reverse_left f.entry was.tables.reverse) d.slot.0 f.row.0)
    (record { head = (d.slot.0 + 1) % S.q; passed = was.ring.passed + d.rise })
    ≡ relocated S f.row.0 f.place.0 (move_to d) was
moved_is {S} {f} {d} {was} M =
    let e : ℕ = forward_in was.tables f.row.0 in
    let entry_is : f.entry ≡ slot_of e = M.entry_is in
    let rise_is : d.rise ≡ rise_to S was.ring.head d.slot.0 = M.rise_is in
    rw (entry_is, left_split was.tables.reverse e (is_empty e), rise_is) (parts_are S f.row.0 f.place.0 d.slot d.held was)
