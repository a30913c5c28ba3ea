-- A tracker with an entry to spare for each new place: `spill` stays 0. Assumes nothing.
use Prim.Native.Nat.{ℕ, suc, ◌+◌, ◌<◌, ◌≤◌, suc-le-suc}
use native.Mathlib.Nat.{zero-lt-suc}
use native.Mathlib.Omega.{arith}
use mathlib.Core.Path.{◌≡◌, refl, sym, subst}
use mathlib.Core.Logic.{inl, inr, ◌≢◌}
use mathlib.Core.List.{List, [], ◌∷◌}
use lib.Dec.{ltb}
use lib.ListN.{length, get_or, set, replicate, get_or-eq_default}
use borrow.Author.Tests.{lt-ltb, le-ltb}
use Rattle.basics.proofs.Cases.{eq?, lt?}
use Rattle.scan.specs.Scan.{index_of}
use Rattle.scan.proofs.Scans.{index_found, index_none}
use Rattle.tracking.specs.Track.{Tracked, track}
use Rattle.tracking.proofs.Sums.{sum_by, sum-set, sum_zeros}
use Rattle.tracking.proofs.Tracking.{estimate_of, one_if}

-- how many entries have counted
abbrev pub busy : List ℕ → ℕ
busy counts = sum_by (λ c. one_if (ltb 0 c)) counts

pub busy_new : (k : ℕ) → busy (replicate k 0) ≡ 0
busy_new k = sum_zeros (λ c. one_if (ltb 0 c)) k refl

-- all of them, where no count is 0
busy_all : (counts : List ℕ) → ((i : ℕ) → i < length counts → get_or counts i 0 ≢ 0) → busy counts ≡ length counts
unfolding sum_by
busy_all [] some = refl
busy_all (c ∷ counts) some =
    let here : c ≢ 0 = some 0 (zero-lt-suc _) in
    rw (lt-ltb 0 c (omega arith)) (omega (arith, busy_all counts (λ i b. some (suc i) (suc-le-suc b))))

-- an entry counts on
module _ (counts : List ℕ) (i v : ℕ) (inside : i < length counts) where
  changed : busy (set counts i (suc v)) + one_if (ltb 0 (get_or counts i 0)) ≡ busy counts + one_if (ltb 0 (suc v))
  changed = sum-set (λ c. one_if (ltb 0 c)) counts i (suc v) inside

  busy_again : get_or counts i 0 ≢ 0 → busy (set counts i (suc v)) ≡ busy counts
  busy_again some =
      let same : busy (set counts i (suc v)) + 1 ≡ busy counts + 1 =
      rw (lt-ltb 0 (get_or counts i 0) (omega arith), lt-ltb 0 (suc v) (zero-lt-suc v)) at changed in
      omega arith

  busy_more : get_or counts i 0 ≡ 0 → busy (set counts i (suc v)) ≡ busy counts + 1
  busy_more none =
      let more : busy (set counts i (suc v)) + 0 ≡ busy counts + 1 =
      rw (none, lt-ltb 0 (suc v) (zero-lt-suc v)) at changed in
      omega arith

-- what step 2 leaves: no spill, and at most that many entries that have counted
pub record Spared (most : ℕ) (t : Tracked) : Type 0 where
  pub spill : t.spill ≡ 0
  pub few : busy t.counts ≤ most

-- used: the entries that have counted at most; most: the same after step 2, one more for a place that is new
module _ (p : ℕ) (rows counts : List ℕ) (used most : ℕ) (long : length rows ≡ length counts) (few : busy counts ≤ used)
    (kept : used ≤ most) (within : most ≤ length counts) where
  spared_0 : (estimate_of rows counts 0 p ≡ 0 → used < most) → Spared most (track p rows counts 0)
  unfolding track estimate_of
  spared_0 more =
      elim (lt? (index_of p rows) (length rows)) [
        | inl h ↦
            let i : ℕ = index_of p rows in
            rw (lt-ltb (index_of p rows) (length rows) h)
            (record {
              spill = refl;
              few = elim (eq? (get_or counts i 0) 0) [
                | inl z ↦ omega (arith, busy_more counts i (get_or counts i 0) (omega arith) z, more z)
                | inr n ↦ omega (arith, busy_again counts i (get_or counts i 0) (omega arith) n)
              ];
            })
        | inr h ↦
            rw (le-ltb (index_of p rows) (length rows) h)
            (let room : used < most = more (get_or-eq_default counts 0 (omega arith)) in
            elim (lt? (index_of 0 counts) (length counts)) [
              | inl k ↦
                  rw (lt-ltb (index_of 0 counts) (length counts) k)
                  (record {
                    spill = refl;
                    few = omega (arith, busy_more counts (index_of 0 counts) 0 k (index_found 0 counts 0 k));
                  })
              | inr k ↦ omega (arith, busy_all counts (index_none 0 counts 0 k))
            ])
      ]

  pub spared : (spill : ℕ) → spill ≡ 0 → (estimate_of rows counts spill p ≡ 0 → used < most) → Spared most (track p rows counts spill)
  spared spill z =
      subst (λ (s : ℕ). (estimate_of rows counts s p ≡ 0 → used < most) → Spared most (track p rows counts s)) (sym z) spared_0
