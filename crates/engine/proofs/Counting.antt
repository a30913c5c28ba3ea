-- What an access does to the trackers of all banks: the facts of its place's bank, and that no other changes.
-- Assumes nothing.
use Prim.Native.Nat.{ℕ, suc, ◌+◌, ◌*◌, ◌/◌, ◌<◌, ◌≤◌}
use native.Mathlib.Nat.{le_refl}
use native.Mathlib.Omega.{arith}
use mathlib.Core.Path.{◌≡◌, refl, sym, ap, subst}
use mathlib.Core.Logic.{◌⊎◌, inl, inr, ◌≢◌}
use mathlib.Core.Bool.{false}
use Rattle.geometry.specs.declared.Settings.{Settings}
use Rattle.geometry.specs.Entry.{empty}
use Rattle.basics.proofs.Cases.{eq?}
use Rattle.banks.specs.Banks.{bank_of}
use Rattle.tracking.proofs.Sums.{sum_by, total, quotients, sum-portion}
use Rattle.tracking.proofs.Tracking.{one_if}
use Rattle.tracking.proofs.View.{Grew}
use Rattle.engine.specs.State.{State, Tracker, tracker_of, tracker_at}
use Rattle.engine.specs.Steps.{place, tracked, tracker_after, counted, moves}
use Rattle.engine.proofs.Pointers.{Sound}
use Rattle.engine.proofs.Trackers.{CountingBy, estimate_for, CountingAt, estimate, TracksAt, room_of, tracked_counts_long, tracker_same, tracker_other}

-- the estimates before and after an access of place p
pub record Estimated (S : Settings) (σ σ' : State) (p : ℕ) : Type 0 where
  pub same : estimate S σ' p ≡ suc (estimate S σ p)
  pub other : (x : ℕ) → x ≢ p → x ≢ empty → Grew S.a (estimate S σ x) (estimate S σ' x)
  -- the estimate of another place is as it was, or its bank's `spill`; and `spill` never falls
  pub drifts : (x : ℕ) → x ≢ p → x ≢ empty → (estimate S σ' x ≡ estimate S σ x) ⊎ (estimate S σ' x ≡ (tracker_at S σ' x).spill)
  pub spill_grows : (x : ℕ) → (tracker_at S σ x).spill ≤ (tracker_at S σ' x).spill

module _ (S : Settings) (σ : State) (sound : Sound S σ) (r : ℕ) where
  abbrev p : ℕ
  p = place S σ r

  -- what holds of the tracker that serves the place, before and after, and of each other, holds of the tracker that serves x
  pub by-bank : (P : Tracker → Tracker → Type 0) (x : ℕ) → (bank_of S x ≡ bank_of S p → P (tracker_at S σ p) (tracker_after S σ r))
      → (bank_of S x ≢ bank_of S p → P (tracker_at S σ x) (tracker_at S σ x)) → P (tracker_at S σ x) (tracker_at S (counted S σ r) x)
  by-bank P x here there =
      elim (eq? (bank_of S x) (bank_of S p)) [
        | inl e ↦
            subst (P (tracker_at S σ x)) (sym (tracker_same S σ sound r x e))
            (subst (λ (t : Tracker). P t (tracker_after S σ r)) (sym (ap (tracker_of S σ) e)) (here e))
        | inr n ↦ subst (P (tracker_at S σ x)) (sym (tracker_other S σ sound r x n)) (there n)
      ]

  module _ (T : TracksAt S σ r) where
    pub estimated : Estimated S σ (counted S σ r) p
    estimated =
        record {
          same = by-bank (λ t u. estimate_for u p ≡ suc (estimate_for t p)) p (λ e. T.same) (λ n. absurd (n refl));
          other = λ x n z. by-bank (λ t u. Grew S.a (estimate_for t x) (estimate_for u x)) x (λ e. T.other x n z) (λ m. (le_refl _, inl refl));
          drifts = λ x n z. by-bank (λ t u. (estimate_for u x ≡ estimate_for t x) ⊎ (estimate_for u x ≡ u.spill)) x (λ e. T.drifts x n z) (λ m. inl refl);
          spill_grows = λ x. by-bank (λ t u. t.spill ≤ u.spill) x (λ e. T.spill_grows) (λ m. le_refl _);
        }

    -- where the row is not moved, its place's estimate is no multiple of the threshold
    pub rests_after : moves S σ r ≡ false → (m : ℕ) → 0 < m → estimate S (counted S σ r) p ≢ m * S.a
    rests_after e m some = by-bank (λ t u. estimate_for u p ≢ m * S.a) p (λ same. T.rests e m some) (λ n. absurd (n refl))

    pub counting_after : ((x : ℕ) → CountingAt S σ x) → (x : ℕ) → CountingAt S (counted S σ r) x
    counting_after counting x = by-bank (λ t u. CountingBy S.k u) x (λ e. T.after) (λ m. counting x)

    -- a sum over the counts of all banks changes as that over the counts of its bank
    sum_after : (f : ℕ → ℕ) → sum_by f (counted S σ r).counts + sum_by f (tracker_at S σ p).counts ≡ sum_by f σ.counts + sum_by f (tracked S σ r).counts
    sum_after f =
        sum-portion f S.k σ.counts (bank_of S p) (room_of S σ sound r σ.counts sound.lengths.counts) (tracked S σ r).counts
        (tracked_counts_long S σ r sound.ranges.b_low sound.lengths.rows sound.lengths.counts)

    -- the quarantines of all banks, this one included
    pub quotients_after : quotients S.a (counted S σ r).counts ≡ quotients S.a σ.counts + one_if (moves S σ r)
    quotients_after = omega (arith, T.quotients, sum_after (λ x. x / S.a))

    -- the counts of all banks: an access adds one at most
    pub total_after : CountingAt S σ p → total (counted S σ r).counts ≤ suc (total σ.counts)
    total_after C = omega (arith, C.summed, T.after.summed, T.spill_grows, sum_after (λ x. x))

  pub acts_after : (tracker_at S σ p).acts < S.l → ((x : ℕ) → (tracker_at S σ x).acts ≤ S.l) → (x : ℕ) → (tracker_at S (counted S σ r) x).acts ≤ S.l
  acts_after more most x = by-bank (λ t u. u.acts ≤ S.l) x (λ e. more) (λ m. most x)
