-- Laws of banks. Assumes nothing.
use Prim.Native.Nat.{ℕ, ◌<◌, ◌≤◌}
use native.Mathlib.Nat.{mod-lt, mod-eq_of_lt}
use mathlib.Core.Path.{◌≡◌}
use Rattle.geometry.specs.declared.Settings.{Settings}
use Rattle.banks.specs.Banks.{bank_of}

-- the bank of a row is one of B
pub bank_in : (S : Settings) (p : ℕ) → 1 ≤ S.b → bank_of S p < S.b
unfolding bank_of
bank_in S p some = mod-lt p some

-- and row c is of bank c
pub bank_itself : (S : Settings) (c : ℕ) → c < S.b → bank_of S c ≡ c
unfolding bank_of
bank_itself S c b = mod-eq_of_lt b
