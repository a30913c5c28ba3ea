-- A blank text: its test, as std has it, and that it has no numbers. Assumes nothing.
use Prim.Native.Nat.{ℕ}
use mathlib.Core.Path.{◌≡◌, refl, ap}
use mathlib.Core.Logic.{inl, inr}
use mathlib.Core.Bool.{Bool, true, false, ◌&&◌}
use mathlib.Core.List.{List, [], ◌∷◌}
use lib.Dec.{eqb}
use borrow.Author.Tests.{eqb-true}
use Rattle.std.specs.List.{list_all}
use Rattle.basics.specs.Lists.{every}
use Rattle.basics.proofs.Cases.{split}
use Rattle.basics.proofs.Tests.{and_left, and_right}
use Rattle.number_text.specs.Numbers.{is_digit, is_gap, blank, numbers, numbers_from}

-- as std has it
pub all_gaps : (text : List ℕ) → blank text ≡ list_all is_gap text
unfolding every
all_gaps [] = refl
all_gaps (b ∷ bs) = ap (λ (rest : Bool). is_gap b && rest) (all_gaps bs)

gap_no_digit : (b : ℕ) → is_gap b ≡ true → is_digit b ≡ false
gap_no_digit b e =
    elim (split (eqb b 32)) [
      | inl f ↦ rw (eqb-true b 32 f)
      | inr f ↦ rw (eqb-true b 10 (rw f at e))
    ]

pub blank_no_numbers : (text : List ℕ) → blank text ≡ true → numbers text ≡ []
unfolding every numbers_from
blank_no_numbers [] e = refl
blank_no_numbers (b ∷ bs) e =
    rw (gap_no_digit b (and_left (is_gap b) (blank bs) e)) (blank_no_numbers bs (and_right (is_gap b) (blank bs) e))
