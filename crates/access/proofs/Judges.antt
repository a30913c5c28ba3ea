-- What the code of an access finds and decides before the bytes is the judgement by the steps, and what its calls ask. Assumes
-- nothing.
use Prim.Native.Nat.{ℕ, suc, ◌+◌, ◌*◌, ◌<◌, ◌≤◌}
use native.Mathlib.Omega.{arith}
use mathlib.Core.Path.{◌≡◌, sym, ap, ◌∙◌}
use mathlib.Core.Logic.{◌≢◌}
use mathlib.Core.Bool.{Bool, true, false}
use mathlib.Core.List.{List}
use lib.Dec.{eqb}
use lib.ListN.{length, get_or}
use borrow.Author.Tests.{eq-eqb, ne_eqb, eqb-true, eqb-false}
use Rattle.std.specs.Prelude.{Option, None, Some, Result, Ok, Err}
use Rattle.refusals.specs.declared.Refusal.{Refusal}
use Rattle.refusals.specs.Refusals.{refusal_number, numbered}
use Rattle.refusals.proofs.Numbers.{refusal_not_0}
use Rattle.geometry.specs.declared.Settings.{Settings}
use Rattle.geometry.specs.declared.Ring.{Ring}
use Rattle.geometry.specs.declared.Lengths.{Lengths}
use Rattle.geometry.specs.declared.numbering.PhysicalRow.{PhysicalRow}
use Rattle.geometry.specs.declared.numbering.Slot.{Slot}
use Rattle.geometry.specs.Numbering.{visible, physical}
use Rattle.geometry.specs.Entry.{slot_of, forward_entry_of}
use Rattle.geometry.specs.Place.{place_in}
use Rattle.geometry.proofs.Entries.{place_of_named, forward_of_named}
use Rattle.basics.proofs.Portions.{portion_fits}
use Rattle.banks.specs.declared.Bank.{Bank}
use Rattle.banks.specs.Banks.{most_banks, bank_of, bank_with}
use Rattle.banks.proofs.Banks.{bank_in}
use Rattle.tracking.specs.Track.{is_due}
use Rattle.tracking.proofs.Banks.{entry_in_bank, estimate-in}
use Rattle.tracker.specs.declared.Update.{Update}
use Rattle.tracker.specs.Finding.{entry_for, update_of, estimate_told, Findable, Countable}
use Rattle.tracker.proofs.Counts.{countable, estimate_again}
use Rattle.engine.specs.declared.Asked.{Asked}
use Rattle.engine.specs.State.{State, lengths_of, ring_of, forward_of}
use Rattle.engine.specs.Steps.{place, moves, skipped}
use Rattle.engine.specs.Ladder.{row_unsound, row_number, tick_number, control_number, access_number}
use Rattle.engine.proofs.Rungs.{goes_on, passes}
use Rattle.engine.proofs.Facts.{row_facts, place_below}
use Rattle.seek.proofs.Before.{skipped-before-at}
use Rattle.ladder.proofs.Stages.{Checked, checked, ends, early_number}
use Rattle.verdict.specs.declared.Found.{Found}
use Rattle.verdict.specs.declared.Destination.{Destination}
use Rattle.verdict.specs.Verdicts.{quarantine_number, quarantine_verdict, skipped_for, Decidable}
use Rattle.verdict.proofs.Judged.{access_early, access_8, access_stays, access_moves, verdict_stops, verdict_sent}
use Rattle.access.specs.Judging.{found_of, judgement, judged}

-- ---- an access that is refused, and one that is accepted

module _ (S : Settings) (σ : State) (a : Asked) where
  refused : {x : ℕ} → x ≡ access_number S σ a → x ≢ 0 → Err x ≡ judged S σ a
  unfolding judged
  refused is some = rw (ne_eqb (access_number S σ a) 0 (λ z. some (is ∙ z)), is)

  accepted : access_number S σ a ≡ 0 → Ok (judgement S σ a.row) ≡ judged S σ a
  unfolding judged
  accepted z = rw (eq-eqb (access_number S σ a) 0 z)

-- ---- 1 to 7

-- past 1 to 7
pub record Passed (S : Settings) (σ : State) (a : Asked) : Type 0 where
  pub tick_0 : tick_number S σ ≡ 0
  pub row_0 : row_number S σ.tables a ≡ 0

-- lengths: as the code has them
module _ (S : Settings) (σ : State) {lengths : Lengths} (long : lengths ≡ lengths_of σ) where
  tick_is : control_number S lengths σ.control σ.counts ≡ tick_number S σ
  tick_is = ap (λ (x : Lengths). control_number S x σ.control σ.counts) long

  pub tick_stops : (a : Asked) (e : Refusal) → refusal_number e ≡ control_number S lengths σ.control σ.counts
      → Err (refusal_number e) ≡ judged S σ a
  tick_stops a e is =
      let some = refusal_not_0 e in
      refused S σ a (access_early S σ a (refusal_number e) (ends _ (is ∙ tick_is) some) some) some

  -- past 1 to 4
  module _ (none : 0 ≡ control_number S lengths σ.control σ.counts) where
    tick_0 : tick_number S σ ≡ 0
    tick_0 = sym (none ∙ tick_is)

    -- what `check_row` asks
    pub rows_few : S.n ≤ 60000
    rows_few = (checked S σ tick_0).ranges.n_high

    pub row-stops : (a : Asked) (e : Refusal) → refusal_number e ≡ row_number S σ.tables a → Err (refusal_number e) ≡ judged S σ a
    row-stops a e is =
        let some = refusal_not_0 e in
        refused S σ a (access_early S σ a (refusal_number e) (is ∙ sym (goes_on _ tick_0)) some) some

    pub passed : (a : Asked) → 0 ≡ row_number S σ.tables a → Passed S σ a
    passed a zero = record { tick_0 = tick_0; row_0 = sym zero }

-- ---- the place, its bank and step 2

module _ {S : Settings} {σ : State} {a : Asked} (P : Passed S σ a) where
  abbrev r : ℕ
  r = a.row

  -- the place and its bank
  abbrev p : ℕ
  p = place S σ r

  abbrev c : ℕ
  c = bank_of S p

  early_0 : early_number S σ a ≡ 0
  early_0 = passes P.tick_0 P.row_0

  pub fits : Checked S σ
  fits = checked S σ P.tick_0

  row-holds : (r < S.n) × (a.off ≡ false) × (row_unsound S σ.tables r ≡ false)
  row-holds = row_facts S σ.tables a P.row_0

  pub row_small : r < 60000
  row_small = omega (arith, row-holds.0, fits.ranges.n_high)

  pub place_small : p < 65536
  place_small =
      omega (arith, place_below S σ r fits.ranges row-holds.0 row-holds.2, fits.ranges.n_high, fits.ranges.q_high)

  pub c_in : c < S.b
  c_in = bank_in S p fits.ranges.b_low

  pub bank_small : c < most_banks
  bank_small = omega (arith, c_in, fits.ranges.b_high)

  pub rows_room : c * S.k + S.k ≤ length σ.rows
  rows_room = portion_fits S.k S.b c (length σ.rows) fits.lengths.rows c_in

  pub counts_room : c * S.k + S.k ≤ length σ.counts
  counts_room = portion_fits S.k S.b c (length σ.counts) fits.lengths.counts c_in

  pub due_is : is_due S.a (estimate_told (found_of S σ r).update) ≡ moves S σ r
  due_is =
      let bank = bank_with σ.control c in
      ap (is_due S.a)
      (estimate_again (entry_for S.k bank p σ.rows σ.counts) σ.counts
      ∙ estimate-in S.k c σ.rows σ.counts rows_room counts_room p bank.spill)

-- the place and its bank, as the code has them
pub record Banked (S : Settings) (σ : State) (a : Asked) (entry : Option Slot) (at : PhysicalRow) (bank : Bank) : Type 0 where
  pub passed : Passed S σ a
  pub entered : entry ≡ slot_of (forward_of σ a.row)
  pub placed : at ≡ physical (place S σ a.row)
  pub of_bank : bank ≡ bank_with σ.control (bank_of S (place S σ a.row))

module _ {S : Settings} {σ : State} {a : Asked} (P : Passed S σ a) {entry : Option Slot} (entered : entry ≡ slot_of (forward_of σ a.row))
    {at : PhysicalRow} (placed : at ≡ physical (place_in S entry a.row)) where
  place_is : at ≡ physical (place S σ a.row)
  place_is =
      placed ∙ ap (λ (x : Option Slot). physical (place_in S x a.row)) entered
      ∙ ap (λ (x : ℕ). physical x) (place_of_named S (forward_of σ a.row) a.row)

  -- what `bank_at` asks
  pub bankable : (1 ≤ S.b) × (S.b ≤ most_banks) × (at.0 < 65536)
  bankable = ((fits P).ranges.b_low, (fits P).ranges.b_high, rw place_is (place_small P))

  pub banked : {bank : Bank} → bank ≡ bank_with σ.control (bank_of S at.0) → Banked S σ a entry at bank
  banked of_bank =
      record {
        passed = P;
        entered = entered;
        placed = place_is;
        of_bank = of_bank ∙ ap (λ (x : PhysicalRow). bank_with σ.control (bank_of S x.0)) place_is;
      }

-- all that is found, where the bank counts more accesses
pub record Sought (S : Settings) (σ : State) (a : Asked) (f : Found) : Type 0 where
  pub passed : Passed S σ a
  pub found : f ≡ found_of S σ a.row
  pub more : (found_of S σ a.row).bank.acts ≢ S.l

module _ {S : Settings} {σ : State} {a : Asked} {entry : Option Slot} {at : PhysicalRow} {bank : Bank} (B : Banked S σ a entry at bank) where
  -- what `find` and `update_of` ask
  pub findable : Findable S.k bank at.0 σ.rows σ.counts
  findable =
      let P = B.passed in
      rw (B.placed, B.of_bank)
      (record { place_small = place_small P; in_rows = rows_room P; in_counts = counts_room P; counts_small = (fits P).counts _ (c_in P) })

  pub countable_there : {i : Option ℕ} → i ≡ entry_for S.k bank at.0 σ.rows σ.counts → Countable i σ.counts
  countable_there found = rw found (countable findable)

  -- full: whether 8 applies, as the code has it
  module _ {full : Bool} (told : full ≡ eqb bank.acts S.l) where
    acts_are : (found_of S σ a.row).bank.acts ≡ bank.acts
    acts_are = sym (ap (λ (b : Bank). b.acts) B.of_bank)

    pub full_stops : full ≡ true → Err 8 ≡ judged S σ a
    full_stops met =
        let is = access_8 S σ a (early_0 B.passed) (acts_are ∙ eqb-true _ _ (sym told ∙ met)) in
        refused S σ a is (λ z. omega arith)

    pub all_found : full ≡ false → {i : Option ℕ} → i ≡ entry_for S.k bank at.0 σ.rows σ.counts
        → {update : Option Update} → update ≡ update_of i σ.counts
        → Sought S σ a (record { row = visible a.row; entry = entry; place = at; bank = bank; update = update })
    all_found less found updated =
        record {
          passed = B.passed;
          found = rw (updated, found, B.of_bank, B.placed, B.entered);
          more = λ z. eqb-false _ _ (sym told ∙ less) (sym acts_are ∙ z);
        }

-- ---- what is decided

-- what step 2 changes, where that is something
changed_by : (entry : Option ℕ) (counts : List ℕ) {u : Update} → update_of entry counts ≡ Some u
    → (entry ≡ Some u.entry) × (estimate_told (update_of entry counts) ≡ u.estimate)
changed_by None counts e = absurd cc
changed_by (Some i) counts {u} e =
    let same : record { entry = i; estimate = suc (get_or counts i 0) } ≡ u = cc in
    (ap (λ (x : Update). Some x.entry) same, ap (λ (x : Update). x.estimate) same)

module _ {S : Settings} {σ : State} {a : Asked} {f : Found} (K : Sought S σ a f) where
  -- what `is_due` asks
  pub due_able : 1 ≤ S.a
  due_able = (fits K.passed).ranges.a_low

  stays : is_due S.a (estimate_told f.update) ≡ false → Ok (record { found = f; goes = None }) ≡ judged S σ a
  stays not_due =
      let rests : moves S σ a.row ≡ false =
      sym (due_is K.passed) ∙ sym (ap (λ (x : Found). is_due S.a (estimate_told x.update)) K.found) ∙ not_due in
      let z = access_stays S σ a (early_0 K.passed) K.more rests in
      let here = accepted S σ a z in
      rw (K.found, ← here, rests)

  -- where step 2 changes nothing
  pub stays_unchanged : f.update ≡ None → Ok (record { found = f; goes = None }) ≡ judged S σ a
  stays_unchanged none = stays (ap (λ (x : Option Update). is_due S.a (estimate_told x)) none)

  -- where it changes something; due: whether the row is to be quarantined, as the code has it
  module _ {u : Update} (some : f.update ≡ Some u) {due : Bool} (told : due ≡ is_due S.a u.estimate) where
    pub stays_below : due ≡ false → Ok (record { found = f; goes = None }) ≡ judged S σ a
    stays_below not_due =
        stays (ap (λ (x : Option Update). is_due S.a (estimate_told x)) some ∙ sym told ∙ not_due)

    module _ (met : due ≡ true) where
      abbrev P : Passed S σ a
      P = K.passed

      changed : (entry_for S.k (found_of S σ a.row).bank (place S σ a.row) σ.rows σ.counts ≡ Some u.entry)
          × (estimate_told (found_of S σ a.row).update ≡ u.estimate)
      changed = changed_by _ σ.counts (sym (ap (λ (x : Found). x.update) K.found) ∙ some)

      goes : moves S σ a.row ≡ true
      goes = sym (due_is P) ∙ ap (is_due S.a) changed.1 ∙ sym told ∙ met

      -- ring: where the quarantine stands, and v: what `decide` answers, as the code has them
      module _ {ring : Ring} (stands : ring ≡ ring_of σ.control) where
        -- what it asks
        pub decidable : Decidable S ring u.entry σ.rows σ.counts
        decidable =
            let R = (fits P).ranges in
            let X = (fits P).lengths in
            let c : ℕ = bank_of S (place S σ a.row) in
            let inside = entry_in_bank S.k c σ.rows σ.counts (rows_room P) (counts_room P) (place S σ a.row) (found_of S σ a.row).bank.spill changed.0 in
            rw stands
            (record {
              seekable = record {
                slots_few = R.q_high;
                rows_few = R.n_high;
                some_bank = R.b_low;
                rows_long = X.rows;
                counts_long = X.counts;
                within = omega (arith, inside.2, inside.3, rows_room P);
              };
              head_in = (fits P).steady.head_in;
              passed_in = (fits P).steady.passed_in;
            })

        over_is : skipped_for S (ring_of σ.control) f.entry u.entry σ.rows σ.counts ≡ skipped S σ a.row
        over_is =
            let R = (fits P).ranges in
            let X = (fits P).lengths in
            let own : forward_entry_of f.entry ≡ forward_of σ a.row =
            ap (λ (x : Found). forward_entry_of x.entry) K.found ∙ forward_of_named (forward_of σ a.row) in
            rw own (skipped-before-at S σ a.row R.b_low X.rows X.counts (row-holds P).0 R.n_high R.q_high goes changed.0 (fits P).steady.head_in)

        module _ (v : Result Destination Refusal)
            (decided : numbered v ≡ quarantine_verdict S ring σ.tables (skipped_for S ring f.entry u.entry σ.rows σ.counts)) where
          verdict_is : numbered v ≡ quarantine_verdict S (ring_of σ.control) σ.tables (skipped S σ a.row)
          verdict_is = rw stands at decided ∙ ap (quarantine_verdict S (ring_of σ.control) σ.tables) over_is

          last_is : {x : ℕ} → x ≡ quarantine_number S (ring_of σ.control) σ.tables (skipped S σ a.row) → x ≡ access_number S σ a
          last_is is = is ∙ access_moves S σ a (early_0 P) K.more goes

          pub last_stops : (e : Refusal) → v ≡ Err e → Err (refusal_number e) ≡ judged S σ a
          last_stops e stops =
              refused S σ a (last_is (verdict_stops S (ring_of σ.control) σ.tables (skipped S σ a.row) verdict_is stops)) (refusal_not_0 e)

          pub goes_there : (d : Destination) → v ≡ Ok d → Ok (record { found = f; goes = Some d }) ≡ judged S σ a
          goes_there d sends =
              let told = verdict_sent S (ring_of σ.control) σ.tables (skipped S σ a.row) verdict_is sends in
              let here = accepted S σ a (sym (last_is (sym told.0))) in
              rw (K.found, told.1, ← here, goes)
