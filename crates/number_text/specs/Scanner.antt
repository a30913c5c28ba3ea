-- The scanner of a text (document 01, 'Trace program'): what a scan comes to, and what one byte does to it.
-- Assumes nothing.
use Rattle.std.specs.Prelude.{ℕ, ◌+◌, ◌≤◌, ◌≡◌, cond, ◌&&◌, List, ◌∷◌, ◌++◌, leb, length, take, Option, None, Some, IfSome}
use Rattle.number_text.specs.declared.scanner.Scan.{Scan}
use Rattle.number_text.specs.Numbers.{numbers_from, readable_from}

-- what a scan comes to, if `rest` is all that follows: the numbers that it has listed, and those of the rest
unfoldable pub outcome : List ℕ → Scan → List ℕ → Option (List ℕ)
outcome list s rest =
    cond (readable_from s.pending rest && leb (s.count + length (numbers_from s.pending rest)) (length list))
    (Some (take s.count list ++ numbers_from s.pending rest))
    None

-- the same after a byte, which may be refused
abbrev pub outcome_after : List ℕ → Option Scan → List ℕ → Option (List ℕ)
outcome_after list None rest = None
outcome_after list (Some s) rest = outcome list s rest

-- the byte b turns the scan s, with the list `was`, into r with `list`, or is refused: whatever follows, they come to the same
pub record Past (b : ℕ) (was : List ℕ) (s : Scan) (list : List ℕ) (r : Option Scan) : Type 0 where
  pub within : IfSome r (λ t. t.count ≤ length list)
  pub same : (rest : List ℕ) → outcome_after list r rest ≡ outcome was s (b ∷ rest)
