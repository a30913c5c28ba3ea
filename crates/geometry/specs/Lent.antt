-- What a call is lent, as its contract names it.
-- Assumes nothing.
use Rattle.std.specs.Prelude.{ℕ, List, length}
use Rattle.std.specs.Borrow.{Bor}
use denote.Triple.Both.{Both}
use Rattle.geometry.specs.declared.Lengths.{Lengths}

-- a lent slice of numbers, as an `ensures` names it: at the call's entry and at its exit
abbrev pub Slice : Type 0
Slice = Both (Bor (List ℕ)) (Bor (List ℕ))

-- the lengths of what is lent
abbrev pub lengths_by : List ℕ → List ℕ → List ℕ → List ℕ → List ℕ → Lengths
lengths_by store forward reverse rows counts =
    record {
      store = length store;
      forward = length forward;
      reverse = length reverse;
      rows = length rows;
      counts = length counts;
    }

-- the same of slices, as a call enters
abbrev pub lengths_in : Slice → Slice → Slice → Slice → Slice → Lengths
lengths_in store forward reverse rows counts =
    lengths_by store.entry.now forward.entry.now reverse.entry.now rows.entry.now counts.entry.now
