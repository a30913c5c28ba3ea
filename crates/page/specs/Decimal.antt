-- A number in decimal digits, as ASCII bytes.
-- Assumes nothing.
use Rattle.std.specs.Prelude.{ℕ, zero, suc, ◌+◌, ◌/◌, ◌%◌, cond, List, [], ◌∷◌, ◌++◌, eqb}

-- the last digits of n, at most so many places, without leading zeros; 0 is one digit
unfoldable pub decimal_within : ℕ → ℕ → List ℕ
decimal_within zero n = []
decimal_within (suc places) n = cond (eqb (n / 10) 0) [] (decimal_within places (n / 10)) ++ (48 + n % 10) ∷ []

-- a number below 2 ^ 64 has at most 20 digits
abbrev pub decimal : ℕ → List ℕ
decimal n = decimal_within 20 n
