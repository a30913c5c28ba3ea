-- Laws of the ladder. Assumes nothing.
use Prim.Native.Nat.{ℕ, suc}
use native.Mathlib.Nat.{suc-ne-zero}
use native.Mathlib.Omega.{arith}
use mathlib.Core.Path.{◌≡◌, refl, sym}
use mathlib.Core.Logic.{◌⊎◌, inl, inr, ◌≢◌}
use mathlib.Core.Bool.{Bool, true, false, ◌||◌}
use lib.Dec.{eqb}
use borrow.Author.Tests.{eqb-true, eqb-false, ne_eqb}
use Rattle.basics.proofs.Cases.{split}
use Rattle.engine.specs.Ladder.{stops, ◌▹◌}

-- ---- a ladder that answers 0

pub pass : (a b : ℕ) → a ▹ b ≡ 0 → (a ≡ 0) × (b ≡ 0)
unfolding ◌▹◌
pass a b h = elim (split (eqb a 0)) [
  | inl e ↦ (eqb-true a 0 e, rw e at h)
  | inr e ↦ absurd (eqb-false a 0 e (rw e at h))
]

pub unmet : (condition : Bool) (x : ℕ) → stops condition (suc x) ≡ 0 → condition ≡ false
unfolding stops
unmet true x h = absurd (suc-ne-zero x h)
unmet false x h = refl

pub passes : {a b : ℕ} → a ≡ 0 → b ≡ 0 → a ▹ b ≡ 0
unfolding ◌▹◌
passes e f = rw (e, f)

pub goes_by : {condition : Bool} (x : ℕ) → condition ≡ false → stops condition x ≡ 0
unfolding stops
goes_by x e = rw e

-- ---- a ladder that answers another number

-- it stops at its first number, and goes on past a row that does not apply
pub halts : {a : ℕ} (b : ℕ) → a ≢ 0 → a ▹ b ≡ a
unfolding ◌▹◌
halts {a} b n = rw (ne_eqb a 0 n)

pub goes_on : {a : ℕ} (b : ℕ) → a ≡ 0 → a ▹ b ≡ b
unfolding ◌▹◌
goes_on b e = rw e

-- the rest matters only where the first number is 0
pub rest_alike : (a : ℕ) {b c : ℕ} → (a ≡ 0 → b ≡ c) → a ▹ b ≡ a ▹ c
unfolding ◌▹◌
rest_alike a same = elim (split (eqb a 0)) [ inl e ↦ rw e (same (eqb-true a 0 e)) | inr e ↦ rw e ]

-- two ladders one after the other are one
pub joined : (a b c : ℕ) → (a ▹ b) ▹ c ≡ a ▹ (b ▹ c)
unfolding ◌▹◌
joined a b c = elim (split (eqb a 0)) [ inl e ↦ rw e | inr e ↦ rw (e, e) ]

pub applies : {condition : Bool} (x : ℕ) → condition ≡ true → stops condition x ≡ x
unfolding stops
applies x e = rw e

-- this row gives it, or it is passed and the rest gives it
pub reach : (a b x : ℕ) → a ▹ b ≡ x → (a ≡ x) ⊎ ((a ≡ 0) × (b ≡ x))
unfolding ◌▹◌
reach a b x h = elim (split (eqb a 0)) [
  | inl e ↦ inr (eqb-true a 0 e, rw e at h)
  | inr e ↦ inl (rw e at h)
]

-- a row gives its own number alone, and then its condition applies
pub only : (condition : Bool) (x y : ℕ) → stops condition x ≡ suc y → (condition ≡ true) × (x ≡ suc y)
unfolding stops
only true x y h = (refl, h)
only false x y h = absurd (suc-ne-zero y (sym h))

-- past a row with another number
pub past : (condition : Bool) (x b y : ℕ) → x ≢ suc y → stops condition (suc x) ▹ b ≡ suc (suc y)
    → (condition ≡ false) × (b ≡ suc (suc y))
past condition x b y n h =
    elim (reach (stops condition (suc x)) b (suc (suc y)) h) [
      | inl e ↦ absurd (n (let k : suc x ≡ suc (suc y) = (only condition (suc x) (suc y) e).1 in omega arith))
      | inr c ↦ (unmet condition x c.0, c.1)
    ]

-- ---- what holds of every number that a ladder can give

pub stops_all : (P : ℕ → Type 0) (condition : Bool) (x : ℕ) → P 0 → (condition ≡ true → P x) → P (stops condition x)
unfolding stops
stops_all P true x z h = h refl
stops_all P false x z h = z

pub ladder_all : (P : ℕ → Type 0) (a b : ℕ) → P a → (a ≡ 0 → P b) → P (a ▹ b)
unfolding ◌▹◌
ladder_all P a b h k = elim (split (eqb a 0)) [ inl e ↦ rw e (k (eqb-true a 0 e)) | inr e ↦ rw e h ]

-- ---- tests

pub either : (a b : Bool) → (a || b) ≡ true → (a ≡ true) ⊎ (b ≡ true)
either true b h = inl refl
either false b h = inr h
