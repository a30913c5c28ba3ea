-- What the search finds before step 2 is what the definition says after it. Assumes nothing.
use Prim.Native.Nat.{ℕ, ◌+◌, ◌*◌, ◌<◌, ◌≤◌}
use native.Mathlib.Omega.{arith}
use mathlib.Core.Path.{◌≡◌, sym}
use mathlib.Core.Logic.{inl, inr, ◌≢◌}
use mathlib.Core.Bool.{Bool, true}
use mathlib.Core.List.{List}
use lib.Dec.{eqb}
use lib.ListN.{length}
use borrow.Author.Tests.{eqb-false}
use Rattle.std.specs.Prelude.{Some}
use Rattle.geometry.specs.declared.Settings.{Settings}
use Rattle.geometry.specs.Numbering.{slot_row}
use Rattle.geometry.specs.Entry.{empty}
use Rattle.basics.proofs.Cases.{split, eq?}
use Rattle.banks.specs.Banks.{bank_of}
use Rattle.basics.proofs.Portions.{portion_fits, portion-set, portion-set_other}
use Rattle.banks.proofs.Banks.{bank_in}
use Rattle.tracking.specs.Worn.{worn}
use Rattle.tracking.specs.Entry.{entry_of, entry_found}
use Rattle.tracking.proofs.Due.{due_found}
use Rattle.tracking.proofs.Banks.{entry_in_bank}
use Rattle.tracking.proofs.Worn.{worn-before-at}
use Rattle.engine.specs.State.{State, Tracker, tracker_at, forward_of}
use Rattle.engine.specs.Steps.{place, counted, moves, skips, skipped}
use Rattle.engine.proofs.Skipping.{skip_same}
use Rattle.engine.proofs.Trackers.{entries_alike, rows_same, counts_same, rows_other, counts_other}
use Rattle.seek.specs.Seeking.{worn_before, skips_before, skipped_before}

module _ (S : Settings) (σ : State) (r : ℕ) (some : 1 ≤ S.b) (rows_long : length σ.rows ≡ S.b * S.k)
    (counts_long : length σ.counts ≡ S.b * S.k) (row_in : r < S.n) (rows_few : S.n ≤ 60000) (slots_few : S.q ≤ 5500)
    (due : moves S σ r ≡ true) where
  -- the place, its bank, and the tracker that serves it
  abbrev p : ℕ
  p = place S σ r

  abbrev c : ℕ
  c = bank_of S p

  abbrev t : Tracker
  t = tracker_at S σ p

  fits : (x : ℕ) (table : List ℕ) → length table ≡ S.b * S.k → bank_of S x * S.k + S.k ≤ length table
  fits x table long = portion_fits S.k S.b (bank_of S x) (length table) long (bank_in S x some)

  -- with the entry given that step 2 changes: of the entries of all banks, and among the bank's
  module _ {changed : ℕ} (found : entry_found S.k c p σ.rows σ.counts t.spill ≡ Some changed) where
    abbrev in_bank : (j : ℕ) × (entry_of p t.rows t.counts t.spill ≡ Some j) × (changed ≡ c * S.k + j) × (j < S.k)
    in_bank = entry_in_bank S.k c σ.rows σ.counts (fits p σ.rows rows_long) (fits p σ.counts counts_long) p t.spill found

    abbrev entry : ℕ
    entry = in_bank.0

    -- whether a physical row is worn after step 2: of the place's bank, and of another
    abbrev worn_after : ℕ → Bool
    worn_after x =
        let u : Tracker = tracker_at S (counted S σ r) x in
        worn S.a u.rows u.counts x

    worn-same : (x : ℕ) → x ≢ p → x ≢ empty → bank_of S x ≡ c → worn_before S changed σ.rows σ.counts x ≡ worn_after x
    worn-same x other named e =
        rw (
          rows_same S σ r some rows_long counts_long x e,
          counts_same S σ r some rows_long counts_long x e,
          e,
          in_bank.2,
          portion-set S.k c σ.rows (fits p σ.rows rows_long) entry empty in_bank.3,
        )
        (sym (worn-before-at S.a p t.rows t.counts t.spill (entries_alike S σ r some rows_long counts_long)
        x other named due entry in_bank.1))

    worn_other : (x : ℕ) → bank_of S x ≢ c → worn_before S changed σ.rows σ.counts x ≡ worn_after x
    worn_other x n =
        let room = fits x σ.rows rows_long in
        rw (
          rows_other S σ r some rows_long counts_long x n,
          counts_other S σ r some rows_long counts_long x n,
          in_bank.2,
          portion-set_other S.k c σ.rows (fits p σ.rows rows_long) entry empty in_bank.3 (bank_of S x) room n,
        )

    -- a slot other than the row's own is not its place
    elsewhere : (s : ℕ) → forward_of σ r ≢ s → slot_row S s ≢ p
    elsewhere s other =
        elim (split (eqb (forward_of σ r) empty)) [
          | inl e ↦ rw e (λ at. omega arith)
          | inr e ↦ rw e (λ at. other (omega arith))
        ]

    skips_there : (s : ℕ) → s < S.q → skips_before S (forward_of σ r) changed σ.rows σ.counts s ≡ skips S σ r s
    skips_there s s-in =
        elim (split (eqb (forward_of σ r) s)) [
          | inl e ↦ rw e
          | inr e ↦ rw e (elim (eq? (bank_of S (slot_row S s)) c) [
            | inl of ↦ worn-same (slot_row S s) (elsewhere s (eqb-false (forward_of σ r) s e)) (λ z. omega arith) of
            | inr n ↦ worn_other (slot_row S s) n
          ])
        ]

    pub skipped-before-at : σ.control.head < S.q
        → skipped_before S σ.control.head (forward_of σ r) changed σ.rows σ.counts ≡ skipped S σ r
    skipped-before-at head_in =
        skip_same (skips_before S (forward_of σ r) changed σ.rows σ.counts) (skips S σ r) S.q S.q σ.control.head
        head_in skips_there

  -- an access that calls for a move has one
  pub skipped-before : σ.control.head < S.q
      → (changed : ℕ) × (entry_found S.k c p σ.rows σ.counts t.spill ≡ Some changed)
      × (skipped_before S σ.control.head (forward_of σ r) changed σ.rows σ.counts ≡ skipped S σ r)
  skipped-before head_in =
      let there = due_found S.a S.k c p σ.rows σ.counts t.spill due in
      (there.0, there.1, skipped-before-at there.1 head_in)
