-- The marks of the worn slots are made bank after bank, and in each from its last entry to its first. Assumes nothing.
use Prim.Native.Nat.{ℕ, ◌+◌, ◌-◌, ◌*◌, ◌<◌, ◌≤◌, zero-le}
use native.Mathlib.Nat.{not-suc-le-zero}
use native.Mathlib.Omega.{arith}
use mathlib.Core.Path.{◌≡◌, refl, sym, ap, ◌∙◌, subst}
use mathlib.Core.Logic.{inl, inr, ◌≢◌}
use mathlib.Core.Bool.{Bool, false, ◌||◌}
use mathlib.Core.List.{List}
use lib.Dec.{ltb, leb, eqb}
use lib.ListN.{length, get_or, set, take, drop, replicate, length-set, length-replicate, get_or-replicate}
use lib.Seq.{set_out, length-take-le, get_or-take, get_or-set_same, get_or-set_other}
use borrow.Author.Tests.{eq-eqb, ne_eqb, lt-ltb, le-ltb}
use Rattle.geometry.specs.declared.Settings.{Settings}
use Rattle.geometry.specs.Numbering.{slot_row}
use Rattle.geometry.specs.Entry.{empty}
use Rattle.basics.proofs.Cases.{split, eq?, lt?}
use Rattle.banks.specs.Banks.{bank_of}
use Rattle.basics.proofs.Portions.{portion-cut}
use Rattle.banks.proofs.Banks.{bank_in}
use Rattle.tracking.specs.Worn.{worn}
use Rattle.tracking.proofs.Worn.{worn_here, worn_past, worn_none}
use Rattle.engine.specs.Round.{skipped_of}
use Rattle.engine.proofs.Skipping.{skip_same}
use Rattle.seek.specs.Seeking.{worn_before, skips_before, Seekable, marked_by, MarkedIn, Marked}
use Rattle.seek.proofs.OfBank.{rows_fit, counts_fit, others_fit}

-- ---- one entry of bank c

module _ (S : Settings) (c name : ℕ) (is : Bool) (marks : List Bool) where
  -- it names a home, a slot of the bank, or a row of another bank
  pub marked_home : name < S.n → marks ≡ marked_by S c name is marks
  marked_home h = rw (lt-ltb name S.n h)

  pub marked_slot : S.n ≤ name → bank_of S name ≡ c → set marks (name - S.n) is ≡ marked_by S c name is marks
  marked_slot h e = rw (le-ltb name S.n h, eq-eqb (bank_of S name) c e)

  pub marked_away : bank_of S name ≢ c → marks ≡ marked_by S c name is marks
  marked_away n = elim (split (ltb name S.n)) [ inl e ↦ rw e | inr e ↦ rw (e, ne_eqb (bank_of S name) c n) ]

  -- what holds of the marks whether it writes or not
  marked_holds : (P : List Bool → Type 0) → P marks → (S.n ≤ name → P (set marks (name - S.n) is))
      → P (marked_by S c name is marks)
  marked_holds P kept written =
      elim (lt? name S.n) [
        | inl h ↦ subst P (marked_home h) kept
        | inr h ↦ elim (eq? (bank_of S name) c) [
          | inl e ↦ subst P (marked_slot h e) (written h)
          | inr n ↦ subst P (marked_away n) kept
        ]
      ]

  pub marked_past : length marks ≤ name - S.n → marks ≡ marked_by S c name is marks
  marked_past past = marked_holds (λ m. marks ≡ m) refl (λ h. sym (set_out marks (name - S.n) is past))

  length_marked : length (marked_by S c name is marks) ≡ length marks
  length_marked = marked_holds (λ m. length m ≡ length marks) refl (λ h. length-set marks (name - S.n) is)

  -- the mark of a slot: the one that it names, another, and one of another bank
  module _ (s : ℕ) where
    marked_same : name ≡ slot_row S s → bank_of S (slot_row S s) ≡ c → s < length marks
        → get_or (marked_by S c name is marks) s false ≡ is
    marked_same e of h =
        let at : name - S.n ≡ s = omega arith in
        rw (le-ltb name S.n (omega arith), eq-eqb (bank_of S name) c (ap (bank_of S) e ∙ of), at)
        (get_or-set_same marks s is false h)

    marked_other : name ≢ slot_row S s → get_or (marked_by S c name is marks) s false ≡ get_or marks s false
    marked_other n =
        marked_holds (λ m. get_or m s false ≡ get_or marks s false) refl
        (λ h. get_or-set_other marks (name - S.n) s is false (λ e. n (omega arith)))

    marked_elsewhere : bank_of S (slot_row S s) ≢ c → get_or (marked_by S c name is marks) s false ≡ get_or marks s false
    marked_elsewhere away =
        elim (eq? name (slot_row S s)) [
          | inl e ↦ ap (λ (m : List Bool). get_or m s false) (sym (marked_away (λ of. away (ap (bank_of S) (sym e) ∙ of))))
          | inr n ↦ marked_other n
        ]

-- ---- the entries of bank c

-- whether a row is worn, by the entries from i on that stand before the end of bank c
abbrev pub worn_from : Settings → ℕ → List ℕ → List ℕ → ℕ → ℕ → ℕ → Bool
worn_from S changed rows counts c i x =
    worn S.a (drop i (take (c * S.k + S.k) (set rows changed empty))) (drop i (take (c * S.k + S.k) counts)) x

-- these entries have made the marks `after` of the marks `before`
pub record Marking (S : Settings) (changed : ℕ) (rows counts : List ℕ) (c : ℕ) (before after : List Bool) (i : ℕ) : Type 0 where
  pub low : c * S.k ≤ i
  pub high : i ≤ c * S.k + S.k
  pub long : length after ≡ length before
  pub told : (s : ℕ) → s < S.q → bank_of S (slot_row S s) ≡ c
      → get_or after s false ≡ worn_from S changed rows counts c i (slot_row S s)
  pub others : (s : ℕ) → s < S.q → bank_of S (slot_row S s) ≢ c → get_or after s false ≡ get_or before s false

module _ {S : Settings} {changed : ℕ} {rows counts : List ℕ} (seekable : Seekable S changed rows counts)
    {c : ℕ} (c_in : c < S.b) where
  -- the end of the bank; what the entries before it name, with the changed one left out, and their counts
  abbrev to : ℕ
  to = c * S.k + S.k

  abbrev names : List ℕ
  names = take to (set rows changed empty)

  abbrev tallies : List ℕ
  tallies = take to counts

  names_long : length names ≡ to
  names_long = length-take-le to (set rows changed empty) (others_fit seekable c_in)

  -- before the first turn
  pub marking_none : {before : List Bool}
      → ((s : ℕ) → s < S.q → bank_of S (slot_row S s) ≡ c → get_or before s false ≡ false)
      → Marking S changed rows counts c before before (c * S.k + S.k)
  marking_none unmarked =
      record {
        low = omega arith;
        high = omega arith;
        long = refl;
        told = λ s b of.
            unmarked s b of
            ∙ sym (worn_none S.a names (drop to tallies) (slot_row S s) to (omega (arith, names_long)));
        others = λ s b n. refl;
      }

  -- one turn: from the entries from i on to those from j on, j being the entry before i
  module _ {before marks : List Bool} {i : ℕ} (j : ℕ) (next : i ≡ j + 1) (below : c * S.k < i)
      (m : Marking S changed rows counts c before marks i) where
    alike : length names ≡ length tallies
    alike = names_long ∙ sym (length-take-le to counts (counts_fit seekable c_in))

    inside : j < to
    inside = omega (arith, m.high)

    named : j < length names
    named = omega (arith, inside, names_long)

    past : (s : ℕ) → s < S.q → bank_of S (slot_row S s) ≡ c → get_or names j 0 ≢ slot_row S s
        → get_or marks s false ≡ worn_from S changed rows counts c j (slot_row S s)
    past s b of n =
        m.told s b of
        ∙ ap (λ (v : ℕ). worn_from S changed rows counts c v (slot_row S s)) next
        ∙ sym (worn_past S.a names tallies (slot_row S s) j alike named n)

    -- the entry that is left out names no slot
    pub marking_leave : j ≡ changed → Marking S changed rows counts c before marks j
    marking_leave e =
        let within : changed < length rows = omega (arith, inside, rows_fit seekable c_in) in
        let here : get_or names j 0 ≡ empty =
        get_or-take to (set rows changed empty) j 0 inside ∙ rw e (get_or-set_same rows changed empty 0 within) in
        record {
          low = omega arith;
          high = omega (arith, inside);
          long = m.long;
          told = λ s b of. past s b of (λ g. omega (arith, seekable.slots_few, seekable.rows_few));
          others = m.others;
        }

    -- any other marks the slot that it names, if that is one of the bank
    pub marking_more : j ≢ changed → S.q ≤ length before
        → Marking S changed rows counts c before (marked_by S c (get_or rows j 0) (leb S.a (get_or counts j 0)) marks) j
    marking_more apart room =
        let name : ℕ = get_or rows j 0 in
        let is : Bool = leb S.a (get_or counts j 0) in
        let here : get_or names j 0 ≡ name =
        get_or-take to (set rows changed empty) j 0 inside ∙ get_or-set_other rows changed j empty 0 apart in
        let tally : get_or tallies j 0 ≡ get_or counts j 0 = get_or-take to counts j 0 inside in
        record {
          low = omega arith;
          high = omega (arith, inside);
          long = length_marked S c name is marks ∙ m.long;
          told = λ s b of. elim (eq? name (slot_row S s)) [
            | inl e ↦
                marked_same S c name is marks s e of (omega (arith, m.long))
                ∙ ap (leb S.a) (sym tally)
                ∙ sym (worn_here S.a names tallies (slot_row S s) j alike named (here ∙ e))
            | inr n ↦ marked_other S c name is marks s n ∙ past s b of (λ e. n (sym here ∙ e))
          ];
          others = λ s b n. marked_elsewhere S c name is marks s n ∙ m.others s b n;
        }

  -- after the last turn
  pub marking_all : {before marks : List Bool} {i : ℕ} → Marking S changed rows counts c before marks i → i ≤ c * S.k
      → MarkedIn S changed rows counts c before marks
  marking_all {before} {marks} {i} m h =
      let first : i ≡ c * S.k = omega (arith, m.low) in
      let their-names = portion-cut S.k c (set rows changed empty) (others_fit seekable c_in) in
      let their-counts = portion-cut S.k c counts (counts_fit seekable c_in) in
      record {
        long = m.long;
        told = λ s b of. m.told s b of ∙ rw (first, of, their-names, their-counts);
        others = m.others;
      }

-- ---- all banks

-- the marks are right for the slots of the banks below c
pub record MarkedBelow (S : Settings) (changed : ℕ) (rows counts : List ℕ) (marks : List Bool) (c : ℕ) : Type 0 where
  pub within : c ≤ S.b
  pub long : length marks ≡ 5500
  pub told : (s : ℕ) → s < S.q → bank_of S (slot_row S s) < c
      → get_or marks s false ≡ worn_before S changed rows counts (slot_row S s)
  pub ahead : (s : ℕ) → s < S.q → c ≤ bank_of S (slot_row S s) → get_or marks s false ≡ false

module _ {S : Settings} {changed : ℕ} {rows counts : List ℕ} (seekable : Seekable S changed rows counts) where
  -- before the first bank
  pub below_none : {marks : List Bool} → marks ≡ replicate 5500 false → MarkedBelow S changed rows counts marks 0
  below_none {marks} e =
      record {
        within = zero-le;
        long = ap length e ∙ length-replicate 5500 false;
        told = λ s b h. absurd (not-suc-le-zero h);
        ahead = λ s b h.
            ap (λ (m : List Bool). get_or m s false) e
            ∙ get_or-replicate 5500 s false false (omega (arith, seekable.slots_few));
      }

  -- one bank more
  pub below_more : {before marks : List Bool} {c : ℕ} → c < S.b → MarkedBelow S changed rows counts before c
      → MarkedIn S changed rows counts c before marks → MarkedBelow S changed rows counts marks (c + 1)
  below_more {before} {marks} {c} c_in m bank =
      record {
        within = omega arith;
        long = bank.long ∙ m.long;
        told = λ s b h. elim (eq? (bank_of S (slot_row S s)) c) [
          | inl e ↦ bank.told s b e
          | inr n ↦ bank.others s b n ∙ m.told s b (omega arith)
        ];
        ahead = λ s b h. bank.others s b (λ e. omega arith) ∙ m.ahead s b (omega arith);
      }

  -- after the last
  pub below_all : {marks : List Bool} {c : ℕ} → MarkedBelow S changed rows counts marks c → S.b ≤ c
      → Marked S changed rows counts marks
  below_all m h =
      record {
        enough = omega (arith, m.long, seekable.slots_few);
        told = λ s b. m.told s b (omega (arith, bank_in S (slot_row S s) seekable.some_bank));
      }

-- the test by the marks skips the same slots (entry: the row's forward entry)
pub skipped_marked : {S : Settings} {changed : ℕ} {rows counts : List ℕ} {marks : List Bool}
    → Marked S changed rows counts marks → (entry most from : ℕ) → from < S.q
    → skipped_of (λ s. eqb entry s || get_or marks s false) S.q most from
    ≡ skipped_of (skips_before S entry changed rows counts) S.q most from
skipped_marked {S} {changed} {rows} {counts} {marks} m entry most from b =
    skip_same (λ s. eqb entry s || get_or marks s false) (skips_before S entry changed rows counts) S.q most from b
    (λ s h. ap (λ (w : Bool). eqb entry s || w) (m.told s h))
