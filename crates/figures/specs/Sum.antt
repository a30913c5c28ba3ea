-- A sizing sum in numbers. Assumes nothing.
use Rattle.std.specs.Prelude.{ℕ, Result}
use Rattle.refusals.specs.declared.Refusal.{Refusal}
use Rattle.sizing.specs.Sums.{sum_number, sum_value}
use Rattle.figures.specs.declared.Sum.{Sum}

-- 01's number and figure of an answer
abbrev pub sum_of : Result ℕ Refusal → Sum
sum_of answer = record { number = sum_number answer; value = sum_value answer }
