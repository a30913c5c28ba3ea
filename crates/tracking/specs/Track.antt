-- Document 01, 'One access', step 2: the tracker, as a function of the place, the tracker rows and counts, and `spill`.
-- Assumes nothing.
use Rattle.std.specs.Prelude.{ℕ, suc, ◌%◌, Bool, cond, not, ◌&&◌, List, ltb, eqb, length, get_or, set}
use Rattle.scan.specs.Scan.{index_of}

-- what step 2 leaves, and the estimate: 0 for none (an estimate is never 0)
pub record Tracked : Type 0 where
  pub rows : List ℕ
  pub counts : List ℕ
  pub spill : ℕ
  pub estimate : ℕ

-- 'its count rises by 1 and that is the estimate'
abbrev pub raised : List ℕ → List ℕ → ℕ → ℕ → Tracked
raised rows counts spill i =
    record {
      rows = rows;
      counts = set counts i (suc (get_or counts i 0));
      spill = spill;
      estimate = suc (get_or counts i 0);
    }

-- 'the lowest such entry takes p with count spill + 1, and that is the estimate'
abbrev pub taken : ℕ → List ℕ → List ℕ → ℕ → ℕ → Tracked
taken p rows counts spill i =
    record { rows = set rows i p; counts = set counts i (suc spill); spill = spill; estimate = suc spill }

-- '`spill` rises by 1 and there is no estimate'
abbrev pub spilled : List ℕ → List ℕ → ℕ → Tracked
spilled rows counts spill = record { rows = rows; counts = counts; spill = suc spill; estimate = 0 }

-- 'If an entry names p (the lowest such), .. Else, if some count equals `spill`, .. Else ..'
unfoldable pub track : ℕ → List ℕ → List ℕ → ℕ → Tracked
track p rows counts spill =
    cond (ltb (index_of p rows) (length rows))
    (raised rows counts spill (index_of p rows))
    (cond (ltb (index_of spill counts) (length counts))
    (taken p rows counts spill (index_of spill counts))
    (spilled rows counts spill))

-- step 4: 'there is an estimate and it is a multiple of A'
abbrev pub is_due : ℕ → ℕ → Bool
is_due a estimate = not (eqb estimate 0) && eqb (estimate % a) 0
