-- Step 2 given by its entry, found and then followed, is step 2. Assumes nothing.
use Prim.Native.Nat.{ℕ, ◌<◌}
use native.Mathlib.Omega.{arith}
use mathlib.Core.Path.{◌≡◌, refl, sym, ap, ◌∙◌}
use mathlib.Core.Logic.{inl, inr, ◌≢◌}
use mathlib.Core.List.{List}
use lib.ListN.{length, set, length-set}
use lib.Seq.{set-get_or}
use borrow.Author.Tests.{lt-ltb, le-ltb}
use Rattle.std.specs.Prelude.{Option, Some, None}
use Rattle.basics.proofs.Cases.{lt?}
use Rattle.scan.specs.Scan.{index_of}
use Rattle.scan.proofs.Scans.{index_found}
use Rattle.tracking.specs.Track.{Tracked, track}
use Rattle.tracking.specs.Entry.{entry_of, estimate_at, table_after, spill_after}

-- what step 2 leaves, told by its entry
abbrev pub followed : Option ℕ → ℕ → List ℕ → List ℕ → ℕ → Tracked
followed entry p rows counts spill =
    record {
      rows = table_after entry p rows;
      counts = table_after entry (estimate_at entry counts) counts;
      spill = spill_after entry spill;
      estimate = estimate_at entry counts;
    }

table_after_long : (entry : Option ℕ) (x : ℕ) (table : List ℕ) → length (table_after entry x table) ≡ length table
table_after_long None x table = refl
table_after_long (Some i) x table = length-set table i _

-- where there is an estimate, there is an entry
pub estimate_there : (entry : Option ℕ) (counts : List ℕ) → estimate_at entry counts ≢ 0 → (i : ℕ) × (entry ≡ Some i)
estimate_there None counts some = absurd (some refl)
estimate_there (Some i) counts some = (i, refl)

module _ (p : ℕ) (rows counts : List ℕ) (spill : ℕ) where
  pub follow_entry : followed (entry_of p rows counts spill) p rows counts spill ≡ track p rows counts spill
  unfolding entry_of track
  follow_entry =
      let i : ℕ = index_of p rows in
      let j : ℕ = index_of spill counts in
      elim (lt? i (length rows)) [
        | inl h ↦
            let same : set rows i p ≡ rows = ap (set rows i) (sym (index_found p rows 0 h)) ∙ set-get_or rows i 0 in
            rw (lt-ltb i (length rows) h, same)
        | inr h ↦ rw (le-ltb i (length rows) h) (elim (lt? j (length counts)) [
          | inl k ↦ rw (lt-ltb j (length counts) k, index_found spill counts 0 k)
          | inr k ↦ rw (le-ltb j (length counts) k)
        ])
      ]

  -- the entry lies in both tables
  pub entry_inside : length rows ≡ length counts → (i : ℕ) → entry_of p rows counts spill ≡ Some i → i < length counts
  unfolding entry_of
  entry_inside long i =
      let m : ℕ = index_of p rows in
      let j : ℕ = index_of spill counts in
      elim (lt? m (length rows)) [
        | inl h ↦ rw (lt-ltb m (length rows) h) (λ e. let same : m ≡ i = cc in omega arith)
        | inr h ↦ rw (le-ltb m (length rows) h) (elim (lt? j (length counts)) [
          | inl k ↦ rw (lt-ltb j (length counts) k) (λ e. let same : j ≡ i = cc in omega arith)
          | inr k ↦ rw (le-ltb j (length counts) k) (λ e. absurd (cc))
        ])
      ]

  pub track_long : (length (track p rows counts spill).rows ≡ length rows) × (length (track p rows counts spill).counts ≡ length counts)
  track_long = rw (← follow_entry) (table_after_long _ _ rows, table_after_long _ _ counts)
