-- Step 2 in one bank: its entry among those of all banks, and what following it leaves. Assumes nothing.
use Prim.Native.Nat.{ℕ, suc, ◌+◌, ◌*◌, ◌<◌, ◌≤◌}
use native.Mathlib.Omega.{arith}
use mathlib.Core.Path.{◌≡◌, refl, sym, ap, ◌∙◌}
use mathlib.Core.List.{List}
use lib.ListN.{length}
use borrow.Author.Tests.{lt-ltb, le-ltb}
use Rattle.std.specs.Prelude.{Option, Some, None, option_map}
use Rattle.basics.specs.Portions.{portion, with_portion}
use Rattle.basics.proofs.Portions.{length-portion, get_or-portion, set-portion, portion_own}
use Rattle.scan.specs.Scan.{index_of}
use Rattle.tracking.specs.Track.{Tracked, track}
use Rattle.tracking.specs.Entry.{entry_of, entry_found, estimate_at, table_after, spill_after}
use Rattle.tracking.proofs.Entries.{followed, follow_entry, entry_inside}

module _ (k c : ℕ) where
  -- an entry of the bank, if any, among those of all banks
  abbrev pub among : Option ℕ → Option ℕ
  among o = option_map (λ i. c * k + i) o

  shift : (o : Option ℕ) → ((i : ℕ) → o ≡ Some i → i < k) → (table : List ℕ) → c * k + k ≤ length table → (x : ℕ)
      → table_after (among o) x table ≡ with_portion k c table (table_after o x (portion k c table))
  shift None inside table fits x = sym (portion_own k c table fits)
  shift (Some i) inside table fits x = sym (set-portion k c table fits i x (inside i refl))

  estimate_shift : (o : Option ℕ) → ((i : ℕ) → o ≡ Some i → i < k) → (counts : List ℕ) → c * k + k ≤ length counts
      → estimate_at (among o) counts ≡ estimate_at o (portion k c counts)
  estimate_shift None inside counts fits = refl
  estimate_shift (Some i) inside counts fits = ap suc (sym (get_or-portion k c counts fits i 0 (inside i refl)))

  unshift : (o : Option ℕ) {i : ℕ} → among o ≡ Some i → (j : ℕ) × (o ≡ Some j) × (i ≡ c * k + j)
  unshift None e = absurd (cc)
  unshift (Some j) e = (j, refl, cc)

  spill_shift : (o : Option ℕ) (spill : ℕ) → spill_after (among o) spill ≡ spill_after o spill
  spill_shift None spill = refl
  spill_shift (Some i) spill = refl

module _ (k c : ℕ) (rows counts : List ℕ) (rows_fit : c * k + k ≤ length rows) (counts_fit : c * k + k ≤ length counts) (p spill : ℕ) where
  rows_long : length (portion k c rows) ≡ k
  rows_long = length-portion k c rows rows_fit

  counts_long : length (portion k c counts) ≡ k
  counts_long = length-portion k c counts counts_fit

  -- the entry among those of the bank
  abbrev mine : Option ℕ
  mine = entry_of p (portion k c rows) (portion k c counts) spill

  abbrev t : Tracked
  t = track p (portion k c rows) (portion k c counts) spill

  -- and among those of all banks
  abbrev entry : Option ℕ
  entry = entry_found k c p rows counts spill

  told : followed mine p (portion k c rows) (portion k c counts) spill ≡ t
  told = follow_entry p (portion k c rows) (portion k c counts) spill

  pub inside_bank : (i : ℕ) → mine ≡ Some i → i < k
  inside_bank i e =
      omega (arith, counts_long, entry_inside p (portion k c rows) (portion k c counts) spill (rows_long ∙ sym counts_long) i e)

  -- where there is an entry, it is one of the bank's
  pub entry_in_bank : {i : ℕ} → entry ≡ Some i → (j : ℕ) × (mine ≡ Some j) × (i ≡ c * k + j) × (j < k)
  entry_in_bank e =
      let among_mine = unshift k c mine e in
      (among_mine.0, among_mine.1, among_mine.2, inside_bank among_mine.0 among_mine.1)

  -- ---- what is left

  pub estimate-in : estimate_at entry counts ≡ t.estimate
  estimate-in = estimate_shift k c mine inside_bank counts counts_fit ∙ ap (λ (u : Tracked). u.estimate) told

  pub spill_in : spill_after entry spill ≡ t.spill
  spill_in = spill_shift k c mine spill ∙ ap (λ (u : Tracked). u.spill) told

  pub rows_in : table_after entry p rows ≡ with_portion k c rows t.rows
  rows_in = shift k c mine inside_bank rows rows_fit p ∙ ap (λ (u : Tracked). with_portion k c rows u.rows) told

  pub counts_in : table_after entry (estimate_at entry counts) counts ≡ with_portion k c counts t.counts
  counts_in =
      shift k c mine inside_bank counts counts_fit (estimate_at entry counts)
      ∙ ap (λ (e : ℕ). with_portion k c counts (table_after mine e (portion k c counts))) (estimate_shift k c mine inside_bank counts counts_fit)
      ∙ ap (λ (u : Tracked). with_portion k c counts u.counts) told

  -- ---- told by what the two searches of the bank's entries answer

  module _ (x : ℕ) (found : x ≡ index_of p (portion k c rows)) where
    pub entry_named : x < k → entry ≡ Some (c * k + x)
    unfolding entry_of
    entry_named h = rw (← found, lt-ltb x (length (portion k c rows)) (omega (arith, rows_long)))

    module _ (y : ℕ) (free : y ≡ index_of spill (portion k c counts)) (h : k ≤ x) where
      pub entry_free : y < k → entry ≡ Some (c * k + y)
      unfolding entry_of
      entry_free b =
          rw (← found, le-ltb x (length (portion k c rows)) (omega (arith, rows_long)), ← free, lt-ltb y (length (portion k c counts)) (omega (arith, counts_long)))

      pub entry_none : k ≤ y → entry ≡ None
      unfolding entry_of
      entry_none b =
          rw (← found, le-ltb x (length (portion k c rows)) (omega (arith, rows_long)), ← free, le-ltb y (length (portion k c counts)) (omega (arith, counts_long)))
