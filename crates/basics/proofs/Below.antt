-- Laws of the search over the numbers below one. Assumes nothing.
use Prim.Native.Nat.{ℕ, zero, suc, ◌+◌, ◌<◌}
use native.Mathlib.Nat.{not-suc-le-zero, le_refl}
use native.Mathlib.Numerals.{add-one}
use native.Mathlib.Omega.{arith}
use mathlib.Core.Path.{◌≡◌, refl, ap, ◌∙◌}
use mathlib.Core.Logic.{inl, inr}
use mathlib.Core.Bool.{Bool, true, false, ◌||◌}
use Rattle.basics.specs.Ranges.{some_below}
use Rattle.basics.proofs.Cases.{eq?}
use Rattle.basics.proofs.Tests.{or_left, or_right}

-- one number more is tested
pub below_more : (test : ℕ → Bool) (c : ℕ) {found next : Bool} → found ≡ some_below test c → next ≡ test c → (found || next) ≡ some_below test (c + 1)
unfolding some_below
below_more test c e f = rw (add-one, e, f)

-- the first number, and the others
or_joined : (a b c : Bool) → ((a || b) || c) ≡ (a || (b || c))
or_joined true b c = refl
or_joined false b c = refl

pub below_first : (test : ℕ → Bool) (n : ℕ) → some_below test (suc n) ≡ (test 0 || some_below (λ c. test (suc c)) n)
unfolding some_below
below_first test zero = or_none (test 0)
  where
    or_none : (a : Bool) → (false || a) ≡ (a || false)
    or_none true = refl
    or_none false = refl
below_first test (suc n) = ap (λ (found : Bool). found || test (suc n)) (below_first test n) ∙ or_joined (test 0) (some_below (λ c. test (suc c)) n) (test (suc n))

-- none passes the test
pub none_below : (test : ℕ → Bool) (n : ℕ) → ((c : ℕ) → c < n → test c ≡ false) → some_below test n ≡ false
unfolding some_below
none_below test zero none = refl
none_below test (suc n) none = rw (none_below test n (λ c h. none c (omega arith)), none n (le_refl (suc n)))

pub fails_below : (test : ℕ → Bool) (n c : ℕ) → some_below test n ≡ false → c < n → test c ≡ false
unfolding some_below
fails_below test zero c h l = absurd (not-suc-le-zero l)
fails_below test (suc n) c h l =
    elim (eq? c n) [
      | inl e ↦ rw e (or_right (some_below test n) (test n) h)
      | inr k ↦ fails_below test n c (or_left (some_below test n) (test n) h) (omega arith)
    ]

-- only the answers of the test below n matter
pub same_below : (test test' : ℕ → Bool) (n : ℕ) → ((c : ℕ) → c < n → test c ≡ test' c) → some_below test n ≡ some_below test' n
unfolding some_below
same_below test test' zero same = refl
same_below test test' (suc n) same = rw (same_below test test' n (λ c h. same c (omega arith)), same n (le_refl (suc n)))
