-- Laws of the slots that the head skips, for any test of a slot. Assumes nothing.
use Prim.Native.Nat.{ℕ, zero, suc, ◌+◌, ◌%◌, ◌<◌, ◌≤◌, zero-le, suc-le-suc}
use native.Mathlib.Nat.{le_refl, le_of_suc-le-suc, not-suc-le-zero, mod-eq_of_lt, mod-add-mod}
use native.Mathlib.Omega.{arith}
use mathlib.Core.Path.{◌≡◌, refl, sym, ap, ◌∙◌}
use mathlib.Core.Logic.{inl, inr}
use mathlib.Core.Bool.{Bool, true, false}
use Rattle.basics.proofs.Cases.{split, lt?}
use Rattle.engine.specs.Round.{skipped_of}
use Rattle.engine.proofs.GoneBy.{next_in}

-- the slot n further on than the next
pub next_there : (q s n : ℕ) → ((s + 1) % q + n) % q ≡ (s + suc n) % q
next_there q s n =
    let same : s + 1 + n ≡ s + suc n = omega arith in
    mod-add-mod (s + 1) q n ∙ ap (λ (x : ℕ). x % q) same

module _ (skip : ℕ → Bool) (q : ℕ) where
  -- ---- the first slot

  pub skip_on : (k s : ℕ) → skip s ≡ true → skipped_of skip q (suc k) s ≡ suc (skipped_of skip q k ((s + 1) % q))
  unfolding skipped_of
  skip_on k s e = rw e

  pub skip_none : (k s : ℕ) → skip s ≡ false → skipped_of skip q k s ≡ 0
  unfolding skipped_of
  skip_none zero s e = refl
  skip_none (suc k) s e = rw e

  -- ---- how many

  pub skip_most : (k s : ℕ) → skipped_of skip q k s ≤ k
  unfolding skipped_of
  skip_most zero s = zero-le
  skip_most (suc k) s =
      let more = skip_most k ((s + 1) % q) in
      elim (split (skip s)) [ inl e ↦ rw e (suc-le-suc more) | inr e ↦ rw e zero-le ]

  -- looking at k of m slots: where one of the k is not skipped that is all, and else at least k are skipped
  pub cut_short : (k m s : ℕ) → k ≤ m → skipped_of skip q k s < k → skipped_of skip q m s ≡ skipped_of skip q k s
  unfolding skipped_of
  cut_short zero m s few h = absurd (not-suc-le-zero h)
  cut_short (suc k) zero s few h = absurd (not-suc-le-zero few)
  cut_short (suc k) (suc m) s few h =
      elim (split (skip s)) [
        | inl e ↦ rw e (ap suc (cut_short k m ((s + 1) % q) (le_of_suc-le-suc few) (le_of_suc-le-suc (rw e at h))))
        | inr e ↦ rw e
      ]

  pub cut_full : (k m s : ℕ) → k ≤ m → k ≤ skipped_of skip q k s → k ≤ skipped_of skip q m s
  unfolding skipped_of
  cut_full zero m s few h = zero-le
  cut_full (suc k) zero s few h = absurd (not-suc-le-zero few)
  cut_full (suc k) (suc m) s few h =
      elim (split (skip s)) [
        | inl e ↦ rw e (suc-le-suc (cut_full k m ((s + 1) % q) (le_of_suc-le-suc few) (le_of_suc-le-suc (rw e at h))))
        | inr e ↦ absurd (not-suc-le-zero (rw e at h))
      ]

  -- j slots from s on are skipped at least, where each of them is to be
  pub skip_all : (j k s : ℕ) → j ≤ k → s + j ≤ q → ((x : ℕ) → s ≤ x → x < s + j → skip x ≡ true) → j ≤ skipped_of skip q k s
  skip_all zero k s few inside all = zero-le
  skip_all (suc j) zero s few inside all = absurd (not-suc-le-zero few)
  skip_all (suc j) (suc k) s few inside all =
      let here = skip_on k s (all s (le_refl s) (omega arith)) in
      elim (lt? (s + 1) q) [
        | inl b ↦
            let next : (s + 1) % q ≡ s + 1 = mod-eq_of_lt b in
            let on = skip_all j k (s + 1) (omega arith) (omega arith) (λ x low high. all x (omega arith) (omega arith)) in
            omega (arith, here, ap (skipped_of skip q k) next)
        | inr b ↦ omega (arith, here)
      ]

-- only the answers of the test matter
pub skip_same : (skip skip' : ℕ → Bool) (q k s : ℕ) → s < q → ((x : ℕ) → x < q → skip x ≡ skip' x) → skipped_of skip q k s ≡ skipped_of skip' q k s
unfolding skipped_of
skip_same skip skip' q zero s b same = refl
skip_same skip skip' q (suc k) s b same =
    elim (split (skip s)) [
      | inl e ↦ rw (sym (same s b) ∙ e, e) (ap suc (skip_same skip skip' q k ((s + 1) % q) (next_in q s b) same))
      | inr e ↦ rw (sym (same s b) ∙ e, e)
    ]
