-- Printing into a page: bytes go after those that it begins with.
-- Assumes nothing.
use Rattle.std.specs.Prelude.{ℕ, ◌+◌, ◌≡◌, List, ◌++◌, length, take}

-- Of a page, `before`, the first `at` bytes were printed. Now it is `after`, and `next` bytes are: those, and then `bytes`.
pub record Put (before : List ℕ) (at : ℕ) (bytes after : List ℕ) (next : ℕ) : Type 0 where
  pub counted : next ≡ at + length bytes
  pub printed : take next after ≡ take at before ++ bytes
