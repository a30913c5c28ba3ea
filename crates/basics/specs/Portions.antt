-- A buffer of equal portions, one after the other.
-- `paste xs at ys count` is the list xs with the first `count` of ys in place of its own from index `at` on.
-- Assumes nothing.
use Rattle.std.specs.Prelude.{ℕ, ◌*◌, List, take, drop}
use Rattle.std.proofs.Math.Seq.{paste}

-- portion c, of k elements
unfoldable pub portion : {A : Type 0} → ℕ → ℕ → List A → List A
portion k c xs = take k (drop (c * k) xs)

-- the buffer with another portion c
unfoldable pub with_portion : {A : Type 0} → ℕ → ℕ → List A → List A → List A
with_portion k c xs new = paste xs (c * k) new k
