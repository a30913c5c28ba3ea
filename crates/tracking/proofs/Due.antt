-- Which estimates call for a move, and that such an access has an entry that step 2 changes. Assumes nothing.
use Prim.Native.Nat.{ℕ, ◌+◌, ◌*◌, ◌%◌, ◌<◌, ◌≤◌}
use native.Mathlib.Nat.{mod-eq_of_lt, mod_self}
use native.Mathlib.Omega.{arith}
use mathlib.Core.Path.{◌≡◌, sym, ap, ◌∙◌}
use mathlib.Core.Logic.{inl, inr, ◌≢◌}
use mathlib.Core.Bool.{true, false, not}
use mathlib.Core.List.{List}
use lib.Dec.{eqb}
use borrow.Author.Tests.{eqb-true, eqb-false, ne_eqb, not-true}
use Rattle.std.specs.Prelude.{Some, option_map}
use Rattle.basics.specs.Portions.{portion}
use Rattle.basics.proofs.Cases.{split, lt?}
use Rattle.basics.proofs.Tests.{and_left, and_right}
use Rattle.tracking.specs.Track.{Tracked, track, is_due}
use Rattle.tracking.specs.Entry.{entry_of, entry_found}
use Rattle.tracking.proofs.Entries.{estimate_there, follow_entry}

-- there is one
pub due_some : (a e : ℕ) → is_due a e ≡ true → e ≢ 0
due_some a e d = eqb-false e 0 (not-true (eqb e 0) (and_left (not (eqb e 0)) (eqb (e % a) 0) d))

-- none below the threshold
pub due_least : (a e : ℕ) → is_due a e ≡ true → a ≤ e
due_least a e d =
    elim (lt? e a) [
      | inl h ↦
          let whole : e % a ≡ 0 = eqb-true (e % a) 0 (and_right (not (eqb e 0)) (eqb (e % a) 0) d) in
          absurd (due_some a e d (sym (mod-eq_of_lt h) ∙ whole))
      | inr h ↦ h
    ]

pub due_below : (a e : ℕ) → e < a → is_due a e ≡ false
due_below a e h = elim (split (is_due a e)) [ inl d ↦ absurd (let least = due_least a e d in omega arith) | inr d ↦ d ]

-- the threshold
pub due_at : (a : ℕ) → 1 ≤ a → is_due a a ≡ true
due_at a some = rw (ne_eqb a 0 (λ z. omega arith), mod_self a)

-- ---- an access that calls for a move has an entry that step 2 changes

pub due_entry : (a p : ℕ) (rows counts : List ℕ) (spill : ℕ) → is_due a (track p rows counts spill).estimate ≡ true
    → (i : ℕ) × (entry_of p rows counts spill ≡ Some i)
due_entry a p rows counts spill due =
    let told = ap (λ (u : Tracked). u.estimate) (follow_entry p rows counts spill) in
    estimate_there (entry_of p rows counts spill) counts (λ z. due_some a (track p rows counts spill).estimate due (sym told ∙ z))

-- the same among the entries of all banks, for a place of bank c
pub due_found : (a k c p : ℕ) (rows counts : List ℕ) (spill : ℕ)
    → is_due a (track p (portion k c rows) (portion k c counts) spill).estimate ≡ true
    → (i : ℕ) × (entry_found k c p rows counts spill ≡ Some i)
due_found a k c p rows counts spill due =
    let there = due_entry a p (portion k c rows) (portion k c counts) spill due in
    (c * k + there.0, ap (option_map (λ (i : ℕ). c * k + i)) there.1)
