-- The table of sizes agrees with the first sum, by one test that antt computes.
-- Assumes nothing.
use Prim.Native.Nat.{ℕ, zero, suc, ◌<◌}
use native.Mathlib.Nat.{le_of_suc-le-suc, not-suc-le-zero}
use mathlib.Core.Path.{◌≡◌, refl, ap}
use mathlib.Core.Bool.{Bool, true}
use mathlib.Core.List.{List, [], ◌∷◌}
use lib.ListN.{length, get_or}
use borrow.Author.Tests.{eqb-true}
use Rattle.basics.specs.Lists.{every}
use Rattle.basics.proofs.Tests.{and_left, and_right}
use Rattle.std.specs.Prelude.{Result, Ok, Err}
use Rattle.refusals.specs.declared.Refusal.{Refusal}
use Rattle.sizing.specs.Sums.{least_size, size_ranges_hold}
use Rattle.size_table.specs.Table.{pair, sizes, table_times, gives, agrees, TableAgrees}

-- the test passes at each entry
every_at : {A : Type 0} (f : A → Bool) (xs : List A) → every f xs ≡ true → (i : ℕ) (d : A) → i < length xs → f (get_or xs i d) ≡ true
unfolding every
every_at f [] t i d h = absurd (not-suc-le-zero h)
every_at f (x ∷ xs) t zero d h = and_left (f x) (every f xs) t
every_at f (x ∷ xs) t (suc i) d h = every_at f xs (and_right (f x) (every f xs) t) i d (le_of_suc-le-suc h)

given : (answer : Result ℕ Refusal) (v : ℕ) → gives answer v ≡ true → answer ≡ Ok v
given (Ok x) v e = ap Ok (eqb-true x v e)
given (Err refusal) v e = absurd (mathlib.Core.Bool.false≢true e)

-- the one computed test
all_agree : every agrees sizes ≡ true
unfolding every least_size size_ranges_hold
all_agree = refl

pub table-agrees : TableAgrees
table-agrees i h =
    let p = get_or sizes i (pair 0 0) in
    given (least_size (table_times p.threshold)) p.size (every_at agrees sizes all_agree i (pair 0 0) h)
