-- The scans of a table, over entries of any type and any test of an entry.
-- Assumes nothing.
use Rattle.std.specs.Prelude.{ℕ, zero, suc, ◌+◌, ◌≤◌, ◌≡◌, Bool, false, cond, ◌||◌, List, [], ◌∷◌, eqb, length, drop}

-- the lowest index whose entry passes the test; the length where none does
unfoldable pub lowest : {A : Type 0} → (A → Bool) → List A → ℕ
lowest test [] = zero
lowest test (x ∷ xs) = cond (test x) zero (suc (lowest test xs))

-- the lowest index at which v stands
abbrev pub index_of : ℕ → List ℕ → ℕ
index_of v xs = lowest (λ x. eqb x v) xs

-- some entry passes the test
unfoldable pub some : {A : Type 0} → (A → Bool) → List A → Bool
some test [] = false
some test (x ∷ xs) = test x || some test xs

-- a search ends where one from index `to` on does
pub record Skipped {A : Type 0} (test : A → Bool) (xs : List A) (to : ℕ) : Type 0 where
  pub within : to ≤ length xs
  pub same : lowest test xs ≡ to + lowest test (drop to xs)
