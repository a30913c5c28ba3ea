-- New memory: parts of buffers full of zeros. Assumes nothing.
use Prim.Native.Nat.{ℕ, zero, suc, ◌≤◌}
use native.Mathlib.Nat.{le_of_suc-le-suc, not-suc-le-zero}
use native.Mathlib.Omega.{arith}
use mathlib.Core.Path.{◌≡◌, refl, sym, ◌∙◌, ap}
use mathlib.Core.List.{List, ◌∷◌}
use lib.ListN.{length, take, replicate, length-replicate}
use lib.Seq.{length-take-le}

-- the first n of a buffer: it has so many, and all are zero
pub record Part (zeros : List ℕ) (n : ℕ) : Type 0 where
  pub fits : n ≤ length zeros
  pub long : n ≡ length (take n zeros)
  pub blank : take n zeros ≡ replicate n 0

take-replicate : (n m : ℕ) → n ≤ m → take n (replicate m 0) ≡ replicate {A = ℕ} n 0
take-replicate zero m h = refl
take-replicate (suc n) zero h = absurd (not-suc-le-zero h)
take-replicate (suc n) (suc m) h = ap (λ (xs : List ℕ). 0 ∷ xs) (take-replicate n m (le_of_suc-le-suc h))

pub part : {n m : ℕ} {zeros : List ℕ} → zeros ≡ replicate m 0 → n ≤ m → Part zeros n
part {n} {m} {zeros} e h =
    let fits : n ≤ length zeros = rw e (omega (arith, length-replicate {A = ℕ} m 0)) in
    record {
      fits = fits;
      long = sym (length-take-le n zeros fits);
      blank = ap (λ (xs : List ℕ). take n xs) e ∙ take-replicate n m h;
    }
