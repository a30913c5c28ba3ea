-- Document 01, 'Sizing': the table of six pairs, and what it agrees with.
-- Assumes nothing.
use Rattle.std.specs.Prelude.{ℕ, ◌<◌, ◌≡◌, Bool, false, cond, Option, Some, None, Result, Ok, Err, List, [], ◌∷◌, ltb, eqb, length, get_or}
use Rattle.sizing.specs.declared.SizeTimes.{SizeTimes}
use Rattle.refusals.specs.declared.Refusal.{Refusal}
use Rattle.size_table.specs.declared.SizePair.{SizePair}
use Rattle.sizing.specs.Sums.{least_size}

abbrev pub pair : ℕ → ℕ → SizePair
pair a s = record { threshold = a; size = s }

-- '1000 gives 15302; 500 gives 23053; 250 gives 30872; 125 gives 37176; 50 gives 42367; 1 gives 46620'
abbrev pub sizes : List SizePair
sizes = pair 1000 15302 ∷ pair 500 23053 ∷ pair 250 30872 ∷ pair 125 37176 ∷ pair 50 42367 ∷ pair 1 46620 ∷ []

-- the pair at an index (past the end `get_or` is not looked at)
abbrev pub pair_at : ℕ → SizePair
pair_at i = get_or sizes i (pair 0 0)

-- what stands at an index
unfoldable pub listed_at : ℕ → Option SizePair
listed_at i = cond (ltb i (length sizes)) (Some (pair_at i)) None

-- 'With tREFW 64,000,000, tRC 45, tmov 1,370 and 16 banks'
abbrev pub table_times : ℕ → SizeTimes
table_times a = record { trefw = 64000000; trc = 45; tmov = 1370; banks = 16; threshold = a }

-- a sum gives that value
abbrev pub gives : Result ℕ Refusal → ℕ → Bool
gives (Ok x) v = eqb x v
gives (Err e) v = false

-- the size of a pair is the sum for its threshold
abbrev pub agrees : SizePair → Bool
agrees p = gives (least_size (table_times p.threshold)) p.size

-- 'proved to agree with the first sum': at each index the size listed is the sum for the threshold listed
abbrev pub TableAgrees : Type 0
TableAgrees = (i : ℕ) → i < length sizes → least_size (table_times (pair_at i).threshold) ≡ Ok (pair_at i).size
