-- The slots that the head skips are those that are worn after step 2. Assumes nothing.
use Prim.Native.Nat.{ℕ, ◌+◌, ◌*◌, ◌<◌, ◌≤◌}
use native.Mathlib.Omega.{arith}
use mathlib.Core.Path.{◌≡◌, refl, sym, ◌∙◌, subst}
use mathlib.Core.Logic.{inl, inr, ◌≢◌}
use mathlib.Core.Bool.{true}
use lib.Dec.{leb, eqb}
use borrow.Author.Tests.{ne_eqb, eqb-true}
use Rattle.geometry.specs.declared.Settings.{Settings}
use Rattle.geometry.specs.Numbering.{slot_row}
use Rattle.geometry.specs.Entry.{empty}
use Rattle.basics.proofs.Cases.{split}
use Rattle.tracking.specs.Worn.{worn}
use Rattle.tracking.proofs.View.{spill_below}
use Rattle.tracking.proofs.Worn.{worn-estimate, due_worn}
use Rattle.engine.specs.State.{State, Tracker, tracker_at, forward_of}
use Rattle.engine.specs.Steps.{place, counted, moves, skips}
use Rattle.engine.specs.OwnSlot.{OwnSlotWorn}
use Rattle.engine.proofs.Pointers.{Sound, marks_none}
use Rattle.engine.proofs.Trackers.{CountingBy, estimate_for, CountingAt, estimate, entries_alike, rows_same, counts_same}

pub own_slot-worn : OwnSlotWorn
own_slot-worn S σ r some rows_long counts_long due away =
    let at : place S σ r ≡ slot_row S (forward_of σ r) = rw (ne_eqb (forward_of σ r) empty away) in
    let p : ℕ = place S σ r in
    let t : Tracker = tracker_at S σ p in
    subst (λ (x : ℕ). let u : Tracker = tracker_at S (counted S σ r) x in worn S.a u.rows u.counts x ≡ true) at
    (rw (rows_same S σ r some rows_long counts_long p refl, counts_same S σ r some rows_long counts_long p refl)
    (due_worn S.a p t.rows t.counts t.spill (entries_alike S σ r some rows_long counts_long) due))

-- of an access that moves its row, with sound tables: computed from the estimates after step 2
pub skips-worn : (S : Settings) (σ : State) (r : ℕ) → Sound S σ → S.l < S.a * (S.k + 1)
    → ((x : ℕ) → CountingAt S (counted S σ r) x) → ((x : ℕ) → (tracker_at S (counted S σ r) x).acts ≤ S.l)
    → moves S σ r ≡ true → (s : ℕ) → s < S.q → skips S σ r s ≡ leb S.a (estimate S (counted S σ r) (S.n + s))
skips-worn S σ r sound few counting most due s b =
    let x : ℕ = S.n + s in
    let t : Tracker = tracker_at S (counted S σ r) x in
    let C : CountingBy S.k t = counting x in
    let told : worn S.a t.rows t.counts x ≡ leb S.a (estimate_for t x) =
    worn-estimate S.a t.rows t.counts t.spill x (C.rows_long ∙ sym C.counts_long) (spill_below C S.a S.l (most x) few) in
    elim (split (eqb (forward_of σ r) s)) [
      | inl k ↦
          let own : forward_of σ r ≡ s = eqb-true (forward_of σ r) s k in
          let away : forward_of σ r ≢ empty = marks_none S sound.ranges (forward_of σ r) (omega arith) in
          let high : worn S.a t.rows t.counts x ≡ true =
          subst (λ (y : ℕ). let u : Tracker = tracker_at S (counted S σ r) (S.n + y) in worn S.a u.rows u.counts (S.n + y) ≡ true) own
          (own_slot-worn S σ r sound.ranges.b_low sound.lengths.rows sound.lengths.counts due away) in
          rw k (sym high ∙ told)
      | inr k ↦ rw k told
    ]
