-- Document 01, 'Trace program': the decimal numbers of a text. A text is a list of bytes.
-- Assumes nothing.
use Rattle.std.specs.Prelude.{ℕ, ◌+◌, ◌-◌, ◌*◌, Bool, cond, ◌&&◌, ◌||◌, List, [], ◌∷◌, ◌++◌, eqb, leb, length, take}
use Rattle.std.specs.Prelude.{Option, None, Some}
use Rattle.basics.specs.Ranges.{in_range}
use Rattle.basics.specs.Lists.{every}

-- 'digits 0 to 9'
abbrev pub is_digit : ℕ → Bool
is_digit b = in_range 48 57 b

-- 'blanks (byte 32) or newlines (byte 10)'
abbrev pub is_gap : ℕ → Bool
is_gap b = eqb b 32 || eqb b 10

-- 'no bytes, or .. blanks and newlines alone' (document 02, Ask 1)
abbrev pub blank : List ℕ → Bool
blank text = every is_gap text

-- a decimal number with one digit more; before the first digit there is none
abbrev pub appended : Option ℕ → ℕ → ℕ
appended None b = b - 48
appended (Some value) b = 10 * value + (b - 48)

-- a number, if it is no 'number above 4,294,967,295'
abbrev pub small : ℕ → Option ℕ
small value = cond (leb value 4294967295) (Some value) None

-- the number that ends, if there is one
abbrev pub ended : Option ℕ → List ℕ
ended None = []
ended (Some value) = value ∷ []

-- 'decimal numbers (.. leading zeros allowed), separated by one or more blanks .. or newlines .., which may also lead and trail':
-- each run of digits is a number, however long. before: the value of the digits just before the text, if there are any
unfoldable pub numbers_from : Option ℕ → List ℕ → List ℕ
numbers_from before [] = ended before
numbers_from before (b ∷ bs) = cond (is_digit b) (numbers_from (Some (appended before b)) bs) (ended before ++ numbers_from None bs)

-- the numbers of a whole text
abbrev pub numbers : List ℕ → List ℕ
numbers text = numbers_from None text

-- digits, blanks and newlines alone, and 'no number above 4,294,967,295'; before: as in numbers_from
unfoldable pub readable_from : Option ℕ → List ℕ → Bool
readable_from before text = every (λ b. is_digit b || is_gap b) text && every (λ x. leb x 4294967295) (numbers_from before text)

-- the same of a whole text
abbrev pub readable : List ℕ → Bool
readable text = readable_from None text

-- the numbers of a readable text, where they are at most `room`
unfoldable pub numbers_within : ℕ → List ℕ → Option (List ℕ)
numbers_within room text = cond (readable text && leb (length (numbers text)) room) (Some (numbers text)) None

-- what an answer says, with the list that was lent: that many numbers stand at its start, if the text is readable
abbrev pub listed : Option ℕ → List ℕ → Option (List ℕ)
listed None list = None
listed (Some count) list = Some (take count list)

-- how many numbers an answer counts
abbrev pub counted : Option ℕ → ℕ
counted None = 0
counted (Some count) = count
