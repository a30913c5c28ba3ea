-- Step 2 given by the entry that it changes, as the code does it: find the entry, which writes nothing, then follow.
-- Assumes nothing.
use Rattle.std.specs.Prelude.{ℕ, suc, ◌+◌, ◌*◌, cond, List, Option, Some, None, option_map, ltb, length, get_or, set}
use Rattle.scan.specs.Scan.{index_of}
use Rattle.basics.specs.Portions.{portion}

-- the entry that step 2 changes at place p: the lowest that names it, else the lowest whose count is `spill`, if any
unfoldable pub entry_of : ℕ → List ℕ → List ℕ → ℕ → Option ℕ
entry_of p rows counts spill =
    cond (ltb (index_of p rows) (length rows))
    (Some (index_of p rows))
    (cond (ltb (index_of spill counts) (length counts)) (Some (index_of spill counts)) None)

-- the same among the entries of all banks, each of k, where p is of bank c (document 02, Ask 5; spill: the bank's)
abbrev pub entry_found : ℕ → ℕ → ℕ → List ℕ → List ℕ → ℕ → Option ℕ
entry_found k c p rows counts spill = option_map (λ i. c * k + i) (entry_of p (portion k c rows) (portion k c counts) spill)

-- the estimate, where step 2 changes that entry; 0 for none
abbrev pub estimate_at : Option ℕ → List ℕ → ℕ
estimate_at None counts = 0
estimate_at (Some i) counts = suc (get_or counts i 0)

-- what following leaves: either table, whose entry, if any, gets x, the place as its name or the estimate as its count; and
-- `spill`
abbrev pub table_after : Option ℕ → ℕ → List ℕ → List ℕ
table_after None x table = table
table_after (Some i) x table = set table i x

abbrev pub spill_after : Option ℕ → ℕ → ℕ
spill_after None spill = suc spill
spill_after (Some i) spill = spill
