-- The claim on a seventh setting of 1. Assumes nothing.
use Prim.Native.Nat.{ℕ, suc, ◌+◌}
use native.Mathlib.Omega.{arith}
use mathlib.Core.Path.{◌≡◌, refl, ap, ◌∙◌}
use mathlib.Core.Logic.{inl, inr}
use mathlib.Core.List.{List, ◌∷◌}
use lib.Dec.{eqb, eqb-suc-suc}
use lib.ListN.{length, get_or}
use Rattle.basics.proofs.Cases.{split}
use Rattle.trace_file.specs.Form.{has_sections, banks_in}
use Rattle.trace_file.specs.OneBank.{SevenWithOneBank}

-- one number more is counted
one_more : (x y : ℕ) → eqb (suc x) (9 + y) ≡ eqb x (8 + y)
one_more x y =
    let e : 9 + y ≡ suc (8 + y) = omega arith in
    ap (eqb (suc x)) e ∙ eqb-suc-suc x (8 + y)

-- so both are in two sections, or neither is
both : (n q w k a l : ℕ) (rest : List ℕ)
    → has_sections (7 ∷ n ∷ q ∷ w ∷ k ∷ a ∷ l ∷ 1 ∷ rest) ≡ has_sections (6 ∷ n ∷ q ∷ w ∷ k ∷ a ∷ l ∷ rest)
unfolding has_sections
both n q w k a l rest = rw (one_more (length (n ∷ q ∷ w ∷ k ∷ a ∷ l ∷ 1 ∷ rest)) (get_or rest 0 0)) refl

pub seven_with_one_bank : SevenWithOneBank
unfolding banks_in
seven_with_one_bank n q w k a l rest =
    let same = both n q w k a l rest in
    elim (split (has_sections (6 ∷ n ∷ q ∷ w ∷ k ∷ a ∷ l ∷ rest))) [ inl e ↦ rw (same, e) refl | inr e ↦ rw (same, e) refl ]
