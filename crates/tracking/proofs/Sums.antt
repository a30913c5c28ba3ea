-- Sums over a list, and quotients. Assumes nothing.
use Prim.Native.Nat.{ℕ, zero, suc, ◌+◌, ◌*◌, ◌/◌, ◌%◌, ◌<◌, ◌≤◌, suc-le-suc}
use native.Mathlib.Nat.{le_refl, suc-mul, le_of_suc-le-suc, not-suc-le-zero, suc-mod, mod-eq_of_lt, mod_self, mod-lt, div-add-mod', div-eq_of_lt-le, div-mul-le_self, suc-ne-zero, zero-lt-suc}
use native.Mathlib.Omega.{arith}
use mathlib.Core.Path.{◌≡◌, refl, sym, ap, ◌∙◌}
use mathlib.Core.Logic.{inl, inr}
use mathlib.Core.Bool.{cond}
use mathlib.Core.List.{List, [], ◌∷◌, ◌++◌}
use lib.Dec.{eqb}
use lib.ListN.{length, get_or, set, take, drop, replicate}
use lib.Seq.{take_all, take-add}
use borrow.Author.Tests.{ne_eqb}
use Rattle.basics.proofs.Cases.{lt?}
use Rattle.basics.specs.Portions.{portion, with_portion}
use Rattle.basics.proofs.Portions.{length-portion, portion_own}

unfoldable pub sum_by : (ℕ → ℕ) → List ℕ → ℕ
sum_by f [] = 0
sum_by f (x ∷ xs) = f x + sum_by f xs

abbrev pub total : List ℕ → ℕ
total l = sum_by (λ x. x) l

-- how often each count has met the threshold, in sum
abbrev pub quotients : ℕ → List ℕ → ℕ
quotients a l = sum_by (λ x. x / a) l

pub sum-set : (f : ℕ → ℕ) (l : List ℕ) (i v : ℕ) → i < length l → sum_by f (set l i v) + f (get_or l i 0) ≡ sum_by f l + f v
unfolding sum_by
sum-set f [] i v h = absurd (not-suc-le-zero h)
sum-set f (x ∷ xs) zero v h = omega arith
sum-set f (x ∷ xs) (suc i) v h = omega (arith, sum-set f xs i v (le_of_suc-le-suc h))

pub sum_zeros : (f : ℕ → ℕ) (k : ℕ) → f 0 ≡ 0 → sum_by f (replicate k 0) ≡ 0
unfolding sum_by
sum_zeros f zero z = refl
sum_zeros f (suc k) z = omega (arith, sum_zeros f k z)

pub total_low : (m : ℕ) (l : List ℕ) → ((i : ℕ) → i < length l → m ≤ get_or l i 0) → length l * m ≤ total l
unfolding sum_by
total_low m [] h = omega arith
total_low m (x ∷ xs) h = omega (arith, total_low m xs (λ i b. h (suc i) (suc-le-suc b)), h zero (zero-lt-suc _))

pub total_high : (l : List ℕ) (i : ℕ) → i < length l → get_or l i 0 ≤ total l
unfolding sum_by
total_high [] i h = absurd (not-suc-le-zero h)
total_high (x ∷ xs) zero h = omega arith
total_high (x ∷ xs) (suc i) h = omega (arith, total_high xs i (le_of_suc-le-suc h))

pub quotients_low : (a : ℕ) (l : List ℕ) → quotients a l * a ≤ total l
unfolding sum_by
quotients_low a [] = omega arith
quotients_low a (x ∷ xs) = omega (arith, quotients_low a xs, div-mul-le_self x a)

-- the quotient of the next number: one more where a divides it
pub suc_div : (a c : ℕ) → zero < a → suc c / a ≡ c / a + cond (eqb (suc c % a) 0) 1 0
suc_div a c h =
    let r : c / a * a + c % a ≡ c = div-add-mod' c a in
    let b : c % a < a = mod-lt c h in
    elim (lt? (suc (c % a)) a) [
      | inl k ↦
          let m : suc c % a ≡ suc (c % a) = suc-mod c a ∙ mod-eq_of_lt k in
          rw (m, ne_eqb (suc (c % a)) 0 (suc-ne-zero (c % a)))
          (div-eq_of_lt-le {k = c / a + 0} a (omega arith) (omega arith))
      | inr k ↦
          let e : suc (c % a) ≡ a = omega arith in
          let m : suc c % a ≡ 0 = suc-mod c a ∙ ap (λ (x : ℕ). x % a) e ∙ mod_self a in
          rw m (div-eq_of_lt-le {k = c / a + 1} a (omega arith) (omega arith))
    ]

-- inside the list the default does not matter
pub get_d_any : (l : List ℕ) (i d d' : ℕ) → i < length l → get_or l i d ≡ get_or l i d'
get_d_any [] i d d' h = absurd (not-suc-le-zero h)
get_d_any (x ∷ xs) zero d d' h = refl
get_d_any (x ∷ xs) (suc i) d d' h = get_d_any xs i d d' (le_of_suc-le-suc h)

-- ---- a buffer of portions

sum-append : (f : ℕ → ℕ) (xs ys : List ℕ) → sum_by f (xs ++ ys) ≡ sum_by f xs + sum_by f ys
unfolding sum_by
sum-append f [] ys = omega arith
sum-append f (x ∷ xs) ys = omega (arith, sum-append f xs ys)

module _ (f : ℕ → ℕ) (k : ℕ) (xs : List ℕ) where
  module _ (c : ℕ) (fits : c * k + k ≤ length xs) where
    sum-put : (new : List ℕ) → length new ≡ k → sum_by f (with_portion k c xs new) ≡ sum_by f (take (c * k) xs) + sum_by f new + sum_by f (drop (c * k + k) xs)
    unfolding with_portion
    sum-put new same =
        sum-append f (take (c * k) xs ++ take k new) (drop (c * k + k) xs)
        ∙ ap (λ (n : ℕ). n + sum_by f (drop (c * k + k) xs)) (sum-append f (take (c * k) xs) (take k new) ∙ ap (λ (l : List ℕ). sum_by f (take (c * k) xs) + sum_by f l) (take_all k new (omega arith)))

    -- one portion is replaced
    pub sum-portion : (new : List ℕ) → length new ≡ k → sum_by f (with_portion k c xs new) + sum_by f (portion k c xs) ≡ sum_by f xs + sum_by f new
    sum-portion new same =
        let was : sum_by f xs ≡ sum_by f (with_portion k c xs (portion k c xs)) = ap (sum_by f) (sym (portion_own k c xs fits)) in
        omega (arith, was, sum-put new same, sum-put (portion k c xs) (length-portion k c xs fits))

  sum_first : (m n : ℕ) → ((c : ℕ) → c < n → sum_by f (portion k c xs) ≤ m) → sum_by f (take (n * k) xs) ≤ n * m
  unfolding sum_by portion
  sum_first m zero each = rw (let none : zero * k ≡ 0 = omega arith in none) (omega arith)
  sum_first m (suc n) each =
      let more : suc n * k ≡ n * k + k = suc-mul n k in
      let parts : sum_by f (take (suc n * k) xs) ≡ sum_by f (take (n * k) xs) + sum_by f (take k (drop (n * k) xs)) =
      ap (λ (i : ℕ). sum_by f (take i xs)) more ∙ ap (sum_by f) (take-add (n * k) k xs) ∙ sum-append f (take (n * k) xs) (take k (drop (n * k) xs)) in
      omega (arith, parts, suc-mul n m, sum_first m n (λ c b. each c (omega arith)), each n (le_refl (suc n)))

  -- each of b portions has at most m
  pub sum_portions : (m b : ℕ) → length xs ≡ b * k → ((c : ℕ) → c < b → sum_by f (portion k c xs) ≤ m) → sum_by f xs ≤ b * m
  sum_portions m b long each = rw (take_all (b * k) xs (omega arith)) at (sum_first m b each)
