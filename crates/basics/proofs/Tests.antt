-- What follows from a test that passed or failed. Assumes nothing.
use Prim.Native.Nat.{ℕ, ◌≤◌}
use mathlib.Core.Path.{◌≡◌, refl, sym, ◌∙◌}
use mathlib.Core.Bool.{Bool, true, false, not, ◌&&◌, ◌||◌, true≢false, false≢true}
use lib.Dec.{leb}
use borrow.Author.Tests.{leb-true, le-leb, not-true, not-false}
use Rattle.basics.specs.Ranges.{in_range}

-- a call ensures that its result is the test t, and the branch on `!result` was taken: t failed
pub told_not : {a t : Bool} → a ≡ t → not a ≡ true → t ≡ false
told_not {a} e q = sym e ∙ not-true a q

-- the branch on `!result` was left: t passed
pub told_yes : {a t : Bool} → a ≡ t → not a ≡ false → t ≡ true
told_yes {a} e q = sym e ∙ not-false a q

pub and_left : (a b : Bool) → a && b ≡ true → a ≡ true
and_left true b e = refl
and_left false b e = e

pub and_right : (a b : Bool) → a && b ≡ true → b ≡ true
and_right true b e = e
and_right false b e = absurd (false≢true e)

pub or_left : (a b : Bool) → a || b ≡ false → a ≡ false
or_left true b e = e
or_left false b e = refl

pub or_right : (a b : Bool) → a || b ≡ false → b ≡ false
or_right true b e = absurd (true≢false e)
or_right false b e = e

pub low : (least most x : ℕ) → in_range least most x ≡ true → least ≤ x
low least most x e = leb-true least x (and_left (leb least x) (leb x most) e)

pub high : (least most x : ℕ) → in_range least most x ≡ true → x ≤ most
high least most x e = leb-true x most (and_right (leb least x) (leb x most) e)

pub within : (least most x : ℕ) → least ≤ x → x ≤ most → in_range least most x ≡ true
within least most x l h = rw (le-leb least x l, le-leb x most h)
