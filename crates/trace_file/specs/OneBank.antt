-- Document 02, Ask 5: 'A trace whose first count is 6 has B = 1; with 7 the seventh number is B.'
-- Assumes nothing.
use Rattle.std.specs.Prelude.{ℕ, ◌≡◌, List, ◌∷◌}
use Rattle.trace_file.specs.Form.{sections}

-- a first count of 7 and a seventh setting of 1 say what a first count of 6 says, whatever follows
abbrev pub SevenWithOneBank : Type 0
SevenWithOneBank = (n q w k a l : ℕ) (rest : List ℕ)
    → sections (7 ∷ n ∷ q ∷ w ∷ k ∷ a ∷ l ∷ 1 ∷ rest) ≡ sections (6 ∷ n ∷ q ∷ w ∷ k ∷ a ∷ l ∷ rest)
