-- A count of the bank can rise by 1. Assumes nothing.
use Prim.Native.Nat.{ℕ, ◌+◌, ◌*◌, ◌<◌, ◌≤◌}
use native.Mathlib.Omega.{arith}
use mathlib.Core.Path.{◌≡◌, refl}
use mathlib.Core.List.{List}
use lib.ListN.{length, get_or}
use Rattle.std.specs.Prelude.{Option, Some, None}
use Rattle.banks.specs.declared.Bank.{Bank}
use Rattle.basics.specs.Portions.{portion}
use Rattle.basics.proofs.Portions.{length-portion, get_or-portion}
use Rattle.scan.proofs.Scans.{counts_below}
use Rattle.tracking.specs.Entry.{entry_of, estimate_at}
use Rattle.tracking.proofs.Banks.{among, inside_bank}
use Rattle.tracker.specs.Finding.{entry_for, update_of, entry_changed, estimate_told, Findable, Countable}

module _ {k : ℕ} {bank : Bank} {p : ℕ} {rows counts : List ℕ} (findable : Findable k bank p rows counts) where
  -- the entry j of the bank's
  count_fits : (j : ℕ) → j < k → get_or counts (bank.index * k + j) 0 < 4294967295
  count_fits j inside =
      let mine : List ℕ = portion k bank.index counts in
      let long : j < length mine = omega (arith, length-portion k bank.index counts findable.in_counts) in
      let below : get_or mine j 0 ≤ 4294967294 = counts_below mine 4294967294 j findable.counts_small long in
      omega (arith, below, get_or-portion k bank.index counts findable.in_counts j 0 inside)

  countable_at : (o : Option ℕ) → ((j : ℕ) → o ≡ Some j → j < k) → Countable (among k bank.index o) counts
  countable_at None inside = tt
  countable_at (Some j) inside =
      let here : j < k = inside j refl in
      (omega (arith, here, findable.in_counts), count_fits j here)

  -- the estimate of the entry that is found can be told
  pub countable : Countable (entry_for k bank p rows counts) counts
  countable =
      countable_at (entry_of p (portion k bank.index rows) (portion k bank.index counts) bank.spill)
      (inside_bank k bank.index rows counts findable.in_rows findable.in_counts p bank.spill)

-- what an update tells of its entry
pub entry_again : (entry : Option ℕ) (counts : List ℕ) → entry_changed (update_of entry counts) ≡ entry
entry_again None counts = refl
entry_again (Some i) counts = refl

pub estimate_again : (entry : Option ℕ) (counts : List ℕ) → estimate_told (update_of entry counts) ≡ estimate_at entry counts
estimate_again None counts = refl
estimate_again (Some i) counts = refl
