-- The fourth row of the table in the two parts in which the code judges it: the first bank, then the others.
-- Assumes nothing.
use Rattle.std.specs.Prelude.{ℕ, suc, ◌-◌, Bool, ◌||◌, List, take}
use Rattle.geometry.specs.declared.Settings.{Settings}
use Rattle.geometry.specs.declared.Ring.{Ring}
use Rattle.basics.specs.Ranges.{some_below}
use Rattle.engine.specs.Ladder.{ring_unsound, tracker_unsound, bank_unsound}

-- 4 applies because of `head`, `passed` or the first bank (spill, acts: its numbers)
unfoldable pub first_unsound : Settings → Ring → ℕ → ℕ → List ℕ → Bool
first_unsound S ring spill acts counts = ring_unsound S ring || tracker_unsound S spill acts (take S.k counts)

-- 4 applies because of a bank from the second on (spill, acts: by bank)
unfoldable pub others_unsound : Settings → List ℕ → List ℕ → List ℕ → Bool
others_unsound S spill acts counts = some_below (λ c. bank_unsound S spill acts counts (suc c)) (S.b - 1)
