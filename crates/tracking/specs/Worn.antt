-- Document 02, Ask 4: a physical row that the tracker has counted to the threshold.
-- Assumes nothing.
use Rattle.std.specs.Prelude.{ℕ, Bool, ◌&&◌, List, ltb, leb, length, get_or}
use Rattle.scan.specs.Scan.{index_of}

-- physical row x 'has, in the lowest entry naming it, a tracker count of A or more'
unfoldable pub worn : ℕ → List ℕ → List ℕ → ℕ → Bool
worn a rows counts x = ltb (index_of x rows) (length rows) && leb a (get_or counts (index_of x rows) 0)
