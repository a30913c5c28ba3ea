-- The loop looks at one slot after another, round Q, for any test of a slot. Assumes nothing.
use Prim.Native.Nat.{ℕ, suc, ◌+◌, ◌-◌, ◌%◌, ◌<◌, ◌≤◌}
use native.Mathlib.Nat.{zero-add, sub-zero}
use native.Mathlib.Omega.{arith}
use mathlib.Core.Path.{◌≡◌, refl, sym, ap, ◌∙◌}
use mathlib.Core.Logic.{inl, inr}
use mathlib.Core.Bool.{Bool, true, false, cond}
use lib.Dec.{ltb}
use borrow.Author.Tests.{lt-ltb, le-ltb}
use Rattle.basics.proofs.Cases.{lt?}
use Rattle.engine.specs.Round.{skipped_of}
use Rattle.engine.proofs.Skipping.{skip_on, skip_none, skip_most, cut_short}

-- of `most` slots from `from` on, n were skipped, and slot `at` is next
pub record Turned (skip : ℕ → Bool) (q most from at n : ℕ) : Type 0 where
  pub same : skipped_of skip q most from ≡ n + skipped_of skip q (most - n) at

-- before the first turn
pub turned_none : {skip : ℕ → Bool} {q most from : ℕ} → Turned skip q most from from 0
turned_none = record { same = rw (sub-zero, zero-add) }

module _ {skip : ℕ → Bool} {q most from at n : ℕ} (t : Turned skip q most from at n) where
  -- a slot that is skipped
  pub turned_more : n < most → skip at ≡ true → Turned skip q most from ((at + 1) % q) (n + 1)
  turned_more h e =
      let left : most - n ≡ suc (most - (n + 1)) = omega arith in
      let on = ap (λ (k : ℕ). skipped_of skip q k at) left ∙ skip_on skip q (most - (n + 1)) at e in
      record { same = omega (arith, t.same, on) }

  -- a slot that is not
  pub turned_free : skip at ≡ false → n ≡ skipped_of skip q most from
  turned_free e = omega (arith, t.same, skip_none skip q (most - n) at e)

  -- no slot is left
  pub turned_all : n ≤ most → most ≤ n → most ≡ skipped_of skip q most from
  turned_all h l = omega (arith, t.same, skip_most skip q (most - n) at)

-- the first slots decide, where one of them is not skipped (few: the lesser of all and of the first)
pub first_tell : (skip : ℕ → Bool) (q most from first : ℕ) {few n : ℕ} → few ≡ cond (ltb most first) most first
    → n ≡ skipped_of skip q few from → n < first → n ≡ skipped_of skip q most from
first_tell skip q most from first {few} {n} e told =
    elim (lt? most first) [
      | inl h ↦ λ b. told ∙ ap (λ (k : ℕ). skipped_of skip q k from) (e ∙ rw (lt-ltb most first h))
      | inr h ↦
          let whole : n ≡ skipped_of skip q first from =
          told ∙ ap (λ (k : ℕ). skipped_of skip q k from) (e ∙ rw (le-ltb most first h)) in
          λ b. whole ∙ sym (cut_short skip q first most from h (rw whole at b))
    ]

-- the same of the first 16
pub first_16 : (skip : ℕ → Bool) (q most from : ℕ) → skipped_of skip q (cond (ltb most 16) most 16) from < 16
    → skipped_of skip q most from ≡ skipped_of skip q (cond (ltb most 16) most 16) from
first_16 skip q most from b = sym (first_tell skip q most from 16 refl refl b)
