-- The tracker as an estimate for each place: all that `history` knows of it. (Which rows are worn is `Worn`, which estimates call
-- for a move `Due`.)
-- Assumes nothing.
use Prim.Native.Nat.{ℕ, zero, suc, ◌+◌, ◌*◌, ◌/◌, ◌<◌, ◌≤◌, zero-le}
use native.Mathlib.Nat.{mul-le-mul_right, le-div_iff_mul-le, mul-mod_left, zero-div}
use native.Mathlib.Omega.{arith}
use mathlib.Core.Path.{◌≡◌, refl, sym, ap, ◌∙◌, subst}
use mathlib.Core.Logic.{◌⊎◌, inl, inr, ◌≢◌}
use mathlib.Core.Bool.{false, true≢false}
use mathlib.Core.List.{List}
use lib.ListN.{length, get_or, replicate, get_or-replicate, length-replicate}
use borrow.Author.Tests.{ne_eqb}
use Rattle.geometry.specs.Entry.{empty}
use Rattle.basics.proofs.Cases.{lt?}
use Rattle.scan.specs.Scan.{index_of}
use Rattle.tracking.specs.Track.{Tracked, track, is_due}
use Rattle.tracking.proofs.Sums.{total, quotients, sum_zeros, total_low, total_high, quotients_low}
use Rattle.tracking.proofs.Tracking.{estimate_of, Distinct, one_if, Tracking, track_ok}

-- tables of k entries and a spill that `acts` accesses have left
pub record Counting (k : ℕ) (rows counts : List ℕ) (spill acts : ℕ) : Type 0 where
  pub rows_long : length rows ≡ k
  pub counts_long : length counts ≡ k
  pub summed : total counts + spill ≡ acts
  pub low : (i : ℕ) → i < length counts → spill ≤ get_or counts i 0
  pub distinct : Distinct rows

-- the estimate of a place that is not accessed: it never falls, and changes only below the threshold
abbrev pub Grew : ℕ → ℕ → ℕ → Type 0
Grew a e e' = (e ≤ e') × ((e' ≡ e) ⊎ (e' < a))

module _ {k : ℕ} {rows counts : List ℕ} {spill acts : ℕ} (C : Counting k rows counts spill acts) where
  pub spill_within : spill ≤ acts
  spill_within = omega (arith, C.summed)

  pub count_within : (i : ℕ) → i < length counts → get_or counts i 0 ≤ acts
  count_within i b = omega (arith, C.summed, total_high counts i b)

  -- Misra and Gries: `spill` stays below the threshold
  pub spill_below : (a l : ℕ) → acts ≤ l → l < a * (k + 1) → spill < a
  spill_below a l most few =
      elim (lt? spill a) [
        | inl h ↦ h
        | inr h ↦
            let s : k * spill ≤ total counts = rw C.counts_long at (total_low spill counts C.low) in
            let m : a * (k + 1) ≤ spill * (k + 1) = mul-le-mul_right (k + 1) h in
            omega (arith, C.summed)
      ]

  pub quotients_few : (a l : ℕ) → 0 < a → acts ≤ l → quotients a counts ≤ l / a
  quotients_few a l pos most = (le-div_iff_mul-le pos).1 (omega (arith, quotients_low a counts, C.summed))

-- what an access of place p does to the estimates; t: what step 2 leaves
pub record Tracks (a k p : ℕ) (rows counts : List ℕ) (spill acts : ℕ) (t : Tracked) : Type 0 where
  pub after : Counting k t.rows t.counts t.spill (suc acts)
  pub same : estimate_of t.rows t.counts t.spill p ≡ suc (estimate_of rows counts spill p)
  pub other : (q : ℕ) → q ≢ p → q ≢ empty → Grew a (estimate_of rows counts spill q) (estimate_of t.rows t.counts t.spill q)
  -- the estimate of another place is as it was, or `spill`; and `spill` never falls
  pub drifts : (q : ℕ) → q ≢ p → q ≢ empty → (estimate_of t.rows t.counts t.spill q ≡ estimate_of rows counts spill q)
      ⊎ (estimate_of t.rows t.counts t.spill q ≡ t.spill)
  pub spill_grows : spill ≤ t.spill
  -- what is answered: the place's estimate, or 0 where that is `spill`
  pub given : (t.estimate ≡ estimate_of t.rows t.counts t.spill p)
      ⊎ ((t.estimate ≡ 0) × (estimate_of t.rows t.counts t.spill p ≡ t.spill))
  -- where the row is not moved, its place's estimate is no multiple of the threshold
  pub rests : is_due a t.estimate ≡ false → (m : ℕ) → 0 < m → estimate_of t.rows t.counts t.spill p ≢ m * a
  pub quotients : quotients a t.counts ≡ quotients a counts + one_if (is_due a t.estimate)

not_multiple : (a m : ℕ) → 0 < a → 0 < m → is_due a (m * a) ≡ false → ⊥
not_multiple a m pos some d =
    let n : m * a ≢ 0 = λ z. omega (arith, mul-le-mul_right {m = 1} a some) in
    true≢false (rw (ne_eqb (m * a) 0 n, mul-mod_left m a) at d)

module _ (a k l p : ℕ) (rows counts : List ℕ) (spill acts : ℕ) (pos : 0 < a) (few : l < a * (k + 1)) (more : acts < l) (C : Counting k rows counts spill acts) where
  pub tracks : Tracks a k p rows counts spill acts (track p rows counts spill)
  tracks =
      let T : Tracking a p rows counts spill (track p rows counts spill) = track_ok a p rows counts spill pos (C.rows_long ∙ sym C.counts_long) C.distinct C.low in
      let after : Counting k (track p rows counts spill).rows (track p rows counts spill).counts (track p rows counts spill).spill (suc acts) =
      record {
        rows_long = T.rows_long ∙ C.rows_long;
        counts_long = T.counts_long ∙ C.counts_long;
        summed = T.summed ∙ ap suc C.summed;
        low = λ i b. T.low i (subst (λ (m : ℕ). i < m) T.counts_long b);
        distinct = T.distinct;
      } in
      let below : (track p rows counts spill).spill < a = spill_below after a l more few in
      record {
        after = after;
        same = T.same;
        other = λ q n e. elim (T.other q n e) [ inl s ↦ (omega arith, inl s) | inr s ↦ (omega (arith, s.0, s.1), inr (omega (arith, s.0))) ];
        drifts = λ q n e. elim (T.other q n e) [ inl s ↦ inl s | inr s ↦ inr s.0 ];
        spill_grows = T.spill_grows;
        given = T.got;
        rests = λ d m some e. elim T.got [
          | inl g ↦ not_multiple a m pos some (rw (g ∙ e) at d)
          | inr g ↦ omega (arith, mul-le-mul_right {m = 1} a some, g.1)
        ];
        quotients = T.quotients;
      }

-- ---- a new epoch

pub counting_new : (k : ℕ) → Counting k (replicate k empty) (replicate k 0) 0 0
unfolding Distinct
counting_new k =
    record {
      rows_long = length-replicate k empty;
      counts_long = length-replicate k 0;
      summed = omega (arith, sum_zeros (λ x. x) k refl);
      low = λ i b. zero-le;
      distinct = λ i j hi hj n e. absurd (n (get_or-replicate k i empty 0 (subst (λ (m : ℕ). i < m) (length-replicate k empty) hi)));
    }

get_or_zeros : (k i : ℕ) → get_or {A = ℕ} (replicate k 0) i 0 ≡ 0
get_or_zeros zero i = refl
get_or_zeros (suc k) zero = refl
get_or_zeros (suc k) (suc i) = get_or_zeros k i

pub estimate-new : (k q : ℕ) → estimate_of (replicate k empty) (replicate k 0) 0 q ≡ 0
unfolding estimate_of
estimate-new k q = get_or_zeros k (index_of q (replicate k empty))

pub quotients_new : (a k : ℕ) → quotients a (replicate k 0) ≡ 0
quotients_new a k = sum_zeros (λ x. x / a) k (zero-div a)
