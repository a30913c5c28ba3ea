-- The digits of a number: the last, and those before it. Assumes nothing.
use Prim.Native.Nat.{ℕ, zero, suc, ◌+◌, ◌^◌, ◌/◌, ◌%◌, ◌<◌, ◌≤◌}
use native.Mathlib.Nat.{le_refl}
use native.Mathlib.Omega.{arith}
use mathlib.Core.Path.{◌≡◌, refl, ap}
use mathlib.Core.Logic.{inl, inr}
use mathlib.Core.Bool.{false, cond}
use mathlib.Core.List.{List, [], ◌∷◌, ◌++◌}
use lib.Dec.{eqb}
use lib.ListN.{length, length-append}
use borrow.Author.Tests.{eq-eqb, ne_eqb}
use Rattle.basics.proofs.Cases.{split}
use Rattle.page.specs.Decimal.{decimal_within, decimal}

-- at most so many digits
pub decimal_short : (places n : ℕ) → length (decimal_within places n) ≤ places
unfolding decimal_within
decimal_short zero n = le_refl 0
decimal_short (suc places) n =
    let higher = cond (eqb (n / 10) 0) [] (decimal_within places (n / 10)) in
    let h : length higher ≤ places =
    elim (split (eqb (n / 10) 0)) [ inl e ↦ rw e (omega arith) | inr e ↦ rw e (decimal_short places (n / 10)) ] in
    omega (arith, h, length-append higher ((48 + n % 10) ∷ []))

-- n has at most one digit more than `places`
abbrev Few : ℕ → ℕ → Type 0
Few zero n = n < 10
Few (suc places) n = Few places (n / 10)

-- a place more makes no difference to it
room_enough : (places n : ℕ) → Few places n → decimal_within (suc (suc places)) n ≡ decimal_within (suc places) n
unfolding decimal_within
room_enough zero n h = rw (eq-eqb (n / 10) 0 (omega (arith, h))) refl
room_enough (suc places) n h =
    ap (λ (xs : List ℕ). cond (eqb (n / 10) 0) [] xs ++ (48 + n % 10) ∷ []) (room_enough places (n / 10) h)

-- one digit
pub one_digit : (n : ℕ) → n < 10 → decimal n ≡ (48 + n % 10) ∷ []
unfolding decimal_within
one_digit n h = rw (eq-eqb (n / 10) 0 (omega (arith, h))) refl

-- more digits
pub more_digits : (n : ℕ) → 10 ≤ n → n < 2 ^ 64 → decimal (n / 10) ++ (48 + n % 10) ∷ [] ≡ decimal n
unfolding decimal_within
more_digits n h s =
    let few : Few 18 (n / 10) = omega (arith, s) in
    let higher : eqb (n / 10) 0 ≡ false = ne_eqb (n / 10) 0 (λ e. omega (arith, e, h)) in
    rw higher (ap (λ (xs : List ℕ). xs ++ (48 + n % 10) ∷ []) (room_enough 18 (n / 10) few))

-- the digits before the last leave a place for it
pub place_left : (n : ℕ) → 10 ≤ n → n < 2 ^ 64 → length (decimal (n / 10)) + 1 ≤ 20
place_left n h s =
    let all : length (decimal (n / 10) ++ (48 + n % 10) ∷ []) ≤ 20 = rw (more_digits n h s) (decimal_short 20 n) in
    omega (arith, all, length-append (decimal (n / 10)) ((48 + n % 10) ∷ []))
