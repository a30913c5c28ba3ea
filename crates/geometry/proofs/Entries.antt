-- What an entry of a pointer table names, and the number that it holds. Assumes nothing.
use Prim.Native.Nat.{ℕ}
use mathlib.Core.Path.{◌≡◌, refl, sym, ap, ◌∙◌}
use mathlib.Core.Logic.{inl, inr}
use mathlib.Core.Bool.{Bool, true, false}
use borrow.Author.Tests.{eq-eqb, ne_eqb}
use Rattle.std.specs.Prelude.{None, Some, cond}
use Rattle.basics.proofs.Cases.{eq?}
use Rattle.geometry.specs.declared.Settings.{Settings}
use Rattle.geometry.specs.Numbering.{visible, slot, home_row, slot_row}
use Rattle.geometry.specs.Entry.{empty, is_empty, named, entry_of, slot_of, forward_entry_of, row_of, reverse_entry_of}
use Rattle.geometry.specs.Place.{place_by, place_in}

-- step 1 by what the entry names
place_split : (S : Settings) (e r : ℕ) (b : Bool)
    → place_in S (cond b None (Some (slot e))) r ≡ cond b (home_row r) (slot_row S e)
place_split S e r true = refl
place_split S e r false = refl

pub place_of_named : (S : Settings) (e r : ℕ) → place_in S (slot_of e) r ≡ place_by S e r
place_of_named S e r = place_split S e r (is_empty e)

-- the entry with that number holds that number
pub entry_of_named : {A : Type 0} (numbered : ℕ → A) (number : A → ℕ) → ((n : ℕ) → number (numbered n) ≡ n)
    → (e : ℕ) → entry_of number (named numbered e) ≡ e
entry_of_named numbered number back e =
    elim (eq? e empty) [
      | inl same ↦ ap (λ b. entry_of number (cond b None (Some (numbered e)))) (eq-eqb e empty same) ∙ sym same
      | inr other ↦ ap (λ b. entry_of number (cond b None (Some (numbered e)))) (ne_eqb e empty other) ∙ back e
    ]

pub forward_of_named : (e : ℕ) → forward_entry_of (slot_of e) ≡ e
forward_of_named e = entry_of_named slot (λ s. s.0) (λ n. refl) e

pub reverse_of_named : (e : ℕ) → reverse_entry_of (row_of e) ≡ e
reverse_of_named e = entry_of_named visible (λ row. row.0) (λ n. refl) e
