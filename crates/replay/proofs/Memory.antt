-- The memory of a trace: parts of buffers, as long as the settings say, and zero. Assumes nothing.
use Prim.Native.Nat.{ℕ, ◌≤◌}
use native.Mathlib.Omega.{arith}
use mathlib.Core.Path.{◌≡◌, refl, ◌∙◌, ap}
use mathlib.Core.Bool.{true}
use mathlib.Core.List.{List}
use lib.Dec.{leb}
use lib.ListN.{take, replicate}
use borrow.Author.Tests.{leb-true}
use Rattle.geometry.specs.declared.Settings.{Settings}
use Rattle.basics.proofs.Tests.{and_left, and_right}
use Rattle.conditions.specs.Conditions.{ranges_hold}
use Rattle.conditions.proofs.Facts.{ranges_facts}
use Rattle.engine.specs.State.{state_of, new_control}
use Rattle.engine.proofs.Facts.{settings_facts}
use Rattle.engine.proofs.Zeros.{zeros_accepted}
use Rattle.trace_steps.specs.Steps.{run_lines}
use Rattle.trace_steps.proofs.Blank.{Part, part}
use Rattle.replay.specs.Memory.{store_bytes, tracker_entries, lent, SetUpAccepts, memory_fits, most_store, most_rows, most_slots, most_entries}

-- it is as long as set-up asks
pub set_up_accepts : SetUpAccepts
set_up_accepts S h = let passed = settings_facts S h in zeros_accepted S passed.0 passed.1

-- the buffers, of which the first so many elements are lent
pub record Memory (S : Settings) (size entries : ℕ) (store forward reverse rows counts : List ℕ) : Type 0 where
  pub store_part : Part store size
  pub forward_part : Part forward S.n
  pub reverse_part : Part reverse S.q
  pub rows_part : Part rows entries
  pub counts_part : Part counts entries

module _ {S : Settings} {size entries : ℕ} {store forward reverse rows counts : List ℕ} (size_is : size ≡ store_bytes S)
    (entries-are : entries ≡ tracker_entries S) where
  pub new_memory : ranges_hold S ≡ true → memory_fits S ≡ true → store ≡ replicate most_store 0
      → forward ≡ replicate most_rows 0 → reverse ≡ replicate most_slots 0
      → rows ≡ replicate most_entries 0 → counts ≡ replicate most_entries 0
      → Memory S size entries store forward reverse rows counts
  new_memory ranges fits store-0 forward-0 reverse-0 rows-0 counts-0 =
      let R = ranges_facts S ranges in
      let store-fits = leb-true (store_bytes S) most_store (and_left _ (leb (tracker_entries S) most_entries) fits) in
      let entries_fit = leb-true (tracker_entries S) most_entries (and_right (leb (store_bytes S) most_store) _ fits) in
      let small : size ≤ most_store = omega (arith, size_is, store-fits) in
      let few : entries ≤ most_entries = omega (arith, entries-are, entries_fit) in
      record {
        store_part = part store-0 small;
        forward_part = part forward-0 R.n_high;
        reverse_part = part reverse-0 R.q_high;
        rows_part = part rows-0 few;
        counts_part = part counts-0 few;
      }

  -- what is printed on it
  pub new-lines : {printed : List ℕ} (steps : List ℕ) → Memory S size entries store forward reverse rows counts
      → printed ≡ run_lines S (state_of (take size store) (take S.n forward) (take S.q reverse) (take entries rows)
      (take entries counts) new_control) steps
      → printed ≡ run_lines S (lent S) steps
  new-lines steps m p =
      let zeros : ℕ → List ℕ = λ n. replicate n 0 in
      let store-0 : take size store ≡ zeros (store_bytes S) = m.store_part.blank ∙ ap zeros size_is in
      let rows-0 : take entries rows ≡ zeros (tracker_entries S) = m.rows_part.blank ∙ ap zeros entries-are in
      let counts-0 : take entries counts ≡ zeros (tracker_entries S) = m.counts_part.blank ∙ ap zeros entries-are in
      p ∙ rw (store-0, m.forward_part.blank, m.reverse_part.blank, rows-0, counts-0) refl
