-- What makes a physical row worn, and which rows step 2 makes so. Assumes nothing.
use Prim.Native.Nat.{ℕ, suc, ◌+◌, ◌<◌, ◌≤◌}
use native.Mathlib.Nat.{le_antisymm}
use native.Mathlib.Numerals.{add-one}
use native.Mathlib.Omega.{arith}
use mathlib.Core.Path.{◌≡◌, refl, sym, ap, ◌∙◌}
use mathlib.Core.Logic.{inl, inr, ◌≢◌}
use mathlib.Core.Bool.{true, false, cond, false≢true}
use mathlib.Core.List.{List, ◌∷◌}
use lib.Dec.{leb, eqb, leb-suc-suc}
use lib.ListN.{length, get_or, set, drop, length-set, drop_of_length-le, get_or-eq_default}
use lib.Seq.{drop-cons, get_or-set_same, get_or-set_other}
use borrow.Author.Tests.{eq-eqb, ne_eqb, lt-ltb, le-ltb, le-leb, lt-leb}
use Rattle.std.specs.Prelude.{Some}
use Rattle.geometry.specs.Entry.{empty}
use Rattle.basics.proofs.Cases.{split, lt?}
use Rattle.scan.specs.Scan.{lowest, index_of}
use Rattle.scan.proofs.Scans.{lowest_le, index_found, index_set_other, index_set_either, index_set-new}
use Rattle.tracking.specs.Track.{Tracked, track, is_due}
use Rattle.tracking.specs.Worn.{worn}
use Rattle.tracking.specs.Entry.{entry_of}
use Rattle.tracking.proofs.Sums.{get_d_any}
use Rattle.tracking.proofs.Due.{due_least, due_entry}
use Rattle.tracking.proofs.Tracking.{estimate_of}

-- where `spill` is below the threshold, it follows from the estimate
pub worn-estimate : (a : ℕ) (rows counts : List ℕ) (spill x : ℕ) → length rows ≡ length counts → spill < a → worn a rows counts x ≡ leb a (estimate_of rows counts spill x)
unfolding worn estimate_of
worn-estimate a rows counts spill x long below =
    let i : ℕ = index_of x rows in
    elim (lt? i (length rows)) [
      | inl h ↦ rw (lt-ltb i (length rows) h) (ap (leb a) (get_d_any counts i 0 spill (omega arith)))
      | inr h ↦
          let none : get_or counts i spill ≡ spill = get_or-eq_default counts spill (omega arith) in
          rw (le-ltb i (length rows) h, none) (sym (lt-leb a spill below))
    ]

-- i: the lowest entry that names the row, or the number of entries
pub worn-told : (a : ℕ) (rows counts : List ℕ) (x i : ℕ) → i ≡ index_of x rows → i < length rows
    → leb a (get_or counts i 0) ≡ worn a rows counts x
unfolding worn
worn-told a rows counts x i e h = rw (← e, lt-ltb i (length rows) h)

pub worn_unnamed : (a : ℕ) (rows counts : List ℕ) (x i : ℕ) → i ≡ index_of x rows → length rows ≤ i
    → false ≡ worn a rows counts x
unfolding worn
worn_unnamed a rows counts x i e h = rw (← e, le-ltb i (length rows) h)

-- a row that an entry names with a count of the threshold or more
worn_at : (a : ℕ) (rows counts : List ℕ) (x i : ℕ) → index_of x rows ≡ i → i < length rows → a ≤ get_or counts i 0 → worn a rows counts x ≡ true
worn_at a rows counts x i e h k = sym (worn-told a rows counts x i (sym e) h) ∙ le-leb a (get_or counts i 0) k

-- ---- told by the entries from i on: entry i names the row, or another

worn-first : (a : ℕ) (r : ℕ) (rows : List ℕ) (c : ℕ) (counts : List ℕ) (x : ℕ)
    → worn a (r ∷ rows) (c ∷ counts) x ≡ cond (eqb r x) (leb a c) (worn a rows counts x)
unfolding worn lowest
worn-first a r rows c counts x =
    elim (split (eqb r x)) [
      | inl e ↦ rw (e, lt-ltb 0 (suc (length rows)) (omega arith))
      | inr e ↦ rw (e, leb-suc-suc (suc (index_of x rows)) (length rows))
    ]

module _ (a : ℕ) (rows counts : List ℕ) (x i : ℕ) (long : length rows ≡ length counts) (inside : i < length rows) where
  worn-from : worn a (drop i rows) (drop i counts) x
      ≡ cond (eqb (get_or rows i 0) x) (leb a (get_or counts i 0)) (worn a (drop (i + 1) rows) (drop (i + 1) counts) x)
  worn-from =
      let within : i < length counts = omega arith in
      rw (add-one, drop-cons rows i 0 inside, drop-cons counts i 0 within)
      (worn-first a (get_or rows i 0) (drop (suc i) rows) (get_or counts i 0) (drop (suc i) counts) x)

  pub worn_here : get_or rows i 0 ≡ x → worn a (drop i rows) (drop i counts) x ≡ leb a (get_or counts i 0)
  worn_here e = worn-from ∙ rw (eq-eqb (get_or rows i 0) x e)

  pub worn_past : get_or rows i 0 ≢ x
      → worn a (drop i rows) (drop i counts) x ≡ worn a (drop (i + 1) rows) (drop (i + 1) counts) x
  worn_past n = worn-from ∙ rw (ne_eqb (get_or rows i 0) x n)

-- no entry is left
pub worn_none : (a : ℕ) (rows counts : List ℕ) (x i : ℕ) → length rows ≤ i → worn a (drop i rows) counts x ≡ false
unfolding worn lowest
worn_none a rows counts x i h = rw (drop_of_length-le rows h, le-ltb 0 0 (omega arith))

module _ (a p : ℕ) (rows counts : List ℕ) (spill : ℕ) (long : length rows ≡ length counts) where
  abbrev after : Tracked
  after = track p rows counts spill

  -- a place whose estimate calls for a move is worn, in any tables
  pub due_worn : is_due a after.estimate ≡ true → worn a after.rows after.counts p ≡ true
  unfolding track
  due_worn =
      let i : ℕ = index_of p rows in
      let j : ℕ = index_of spill counts in
      elim (lt? i (length rows)) [
        | inl h ↦ rw (lt-ltb i (length rows) h) (λ d.
            let c : ℕ = suc (get_or counts i 0) in
            let here : get_or (set counts i c) i 0 ≡ c = get_or-set_same counts i c 0 (omega arith) in
            worn_at a rows (set counts i c) p i refl h (rw here (due_least a c d)))
        | inr h ↦ rw (le-ltb i (length rows) h) (elim (lt? j (length counts)) [
          | inl k ↦ rw (lt-ltb j (length counts) k) (λ d.
              let here : get_or (set counts j (suc spill)) j 0 ≡ suc spill = get_or-set_same counts j (suc spill) 0 k in
              let idx : index_of p (set rows j p) ≡ j = index_set-new p rows j (omega arith) (le_antisymm (lowest_le (λ x. eqb x p) rows) h) in
              worn_at a (set rows j p) (set counts j (suc spill)) p j idx (omega (arith, length-set rows j p)) (rw here (due_least a (suc spill) d)))
          | inr k ↦ rw (le-ltb j (length counts) k) (λ d. absurd (false≢true d))
        ])
      ]

  -- ---- another row: before step 2, all entries but the one that it changes decide whether the row is worn after it

  module _ (x : ℕ) (other : x ≢ p) (named : x ≢ empty) where
    beside : (i c : ℕ) (now : List ℕ) → i < length rows → index_of x now ≡ index_of x (set rows i empty) → length now ≡ length rows
        → worn a now (set counts i c) x ≡ worn a (set rows i empty) counts x
    unfolding worn
    beside i c now h same alike =
        let m : ℕ = index_of x (set rows i empty) in
        rw (same, alike, length-set rows i empty)
        (elim (lt? m (length rows)) [
          | inl k ↦
              let apart : m ≢ i = λ e.
              named (sym (index_found x (set rows i empty) 0 (omega (arith, length-set rows i empty)))
              ∙ ap (λ (n : ℕ). get_or (set rows i empty) n 0) e ∙ get_or-set_same rows i empty 0 h) in
              rw (lt-ltb m (length rows) k, get_or-set_other counts i m c 0 apart)
          | inr k ↦ rw (le-ltb m (length rows) k)
        ])

    -- with that entry given
    pub worn-before-at : is_due a after.estimate ≡ true → (i : ℕ) → entry_of p rows counts spill ≡ Some i
        → worn a after.rows after.counts x ≡ worn a (set rows i empty) counts x
    unfolding track entry_of
    worn-before-at =
        let i : ℕ = index_of p rows in
        let j : ℕ = index_of spill counts in
        elim (lt? i (length rows)) [
          | inl h ↦ rw (lt-ltb i (length rows) h) (λ d at e.
              let differs : get_or rows i 0 ≢ x = λ e. other (sym e ∙ index_found p rows 0 h) in
              let same : i ≡ at = cc in
              rw (← same) (beside i (suc (get_or counts i 0)) rows h (sym (index_set_other x rows i empty 0 named differs)) refl))
          | inr h ↦ rw (le-ltb i (length rows) h) (elim (lt? j (length counts)) [
            | inl k ↦ rw (lt-ltb j (length counts) k) (λ d at e.
                let same : j ≡ at = cc in
                rw (← same) (beside j (suc spill) (set rows j p) (omega arith) (index_set_either x rows j p empty other named) (length-set rows j p)))
            | inr k ↦ rw (le-ltb j (length counts) k) (λ d at e. absurd (false≢true d))
          ])
        ]

    -- an access that calls for a move has one
    pub worn-before : is_due a after.estimate ≡ true
        → (i : ℕ) × (entry_of p rows counts spill ≡ Some i) × (worn a after.rows after.counts x ≡ worn a (set rows i empty) counts x)
    worn-before due =
        let there = due_entry a p rows counts spill due in
        (there.0, there.1, worn-before-at due there.0 there.1)
