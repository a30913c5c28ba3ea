-- What the code of an access does after the bytes is what the steps say, and what its calls ask. Assumes nothing.
use Prim.Native.Nat.{ℕ, ◌+◌, ◌*◌, ◌<◌, ◌≤◌}
use native.Mathlib.Omega.{arith}
use mathlib.Core.Path.{◌≡◌, refl, sym, ap, ◌∙◌}
use mathlib.Core.Logic.{◌⊎◌, inl, inr, ◌≢◌}
use mathlib.Core.Bool.{Bool, true, false}
use mathlib.Core.List.{List}
use lib.Dec.{eqb}
use lib.ListN.{length}
use borrow.Author.Tests.{eq-eqb, ne_eqb, eqb-true, eqb-false}
use Rattle.std.specs.Prelude.{Option, None, Some, Ok, IfSome, cond}
use Rattle.geometry.specs.declared.Settings.{Settings}
use Rattle.geometry.specs.declared.Ring.{Ring}
use Rattle.geometry.specs.Numbering.{visible, slot}
use Rattle.geometry.specs.Entry.{empty, is_empty}
use Rattle.basics.proofs.Cases.{split}
use Rattle.basics.proofs.Portions.{portion_before}
use Rattle.banks.specs.Banks.{most_banks, bank_of, with_bank}
use Rattle.conditions.proofs.Facts.{Ranges, Exact, ranges_facts, lengths_facts}
use Rattle.tracking.specs.Entry.{table_after, spill_after}
use Rattle.tracking.proofs.Banks.{entry_in_bank, spill_in, rows_in, counts_in, estimate-in}
use Rattle.tracker.specs.Finding.{entry_for, update_of, entry_changed, estimate_told, Followable}
use Rattle.tracker.proofs.Counts.{entry_again, estimate_again}
use Rattle.engine.specs.declared.Asked.{Asked}
use Rattle.engine.specs.declared.Move.{Move}
use Rattle.engine.specs.declared.Move.TheVariants.{Stayed, ToSlot, OverSlot}
use Rattle.engine.specs.State.{State, Storage, storage_of, state_of, ring_of, lengths_of, forward_of, reverse_of}
use Rattle.engine.specs.Steps.{place, tracked, counted, moves, destination, rise, move_into, move, relocated, state_after}
use Rattle.engine.specs.Ladder.{access_number}
use Rattle.engine.specs.Calls.{served}
use Rattle.engine.proofs.Rungs.{pass}
use Rattle.engine.proofs.Facts.{Accepted, accepted, Steady, steady, row_sound, slot_sound, place_below, RowSound}
use Rattle.engine.proofs.Moves.{destination_in, slide, rise-to, not_own}
use Rattle.verdict.specs.declared.Found.{Found}
use Rattle.verdict.specs.declared.Destination.{Destination}
use Rattle.verdict.specs.Verdicts.{sent, moved_by, move_to}
use Rattle.settle.specs.Settling.{Movable}
use Rattle.access.specs.declared.Accepted as code
use Rattle.access.specs.declared.Judged.{Judged}
use Rattle.access.specs.Judging.{found_of, goes_to, judgement, judged, done_of}
use Rattle.access.proofs.Judges.{Passed, place_small, c_in, bank_small, rows_room, counts_room}

-- an access that is accepted, with what is found and decided of its row
pub record Taken (S : Settings) (σ : State) (a : Asked) (j : Judged) : Type 0 where
  pub number_0 : access_number S σ a ≡ 0
  pub is : j ≡ judgement S σ a.row

pub taken : (S : Settings) (σ : State) (a : Asked) (j : Judged) → Ok j ≡ judged S σ a → Taken S σ a j
unfolding judged
taken S σ a j told =
    elim (split (eqb (access_number S σ a) 0)) [
      | inl z ↦ let there = rw z at told in record { number_0 = eqb-true _ 0 z; is = cc }
      | inr z ↦ absurd (let there = rw z at told in cc)
    ]

-- ---- what an entry names lies in the table

within_split : {A : Type 0} (P : A → Type 0) (x : A) (b : Bool) → (b ≡ false → P x) → IfSome (cond b None (Some x)) P
within_split P x true h = tt
within_split P x false h = h refl

below : {e n : ℕ} → (e ≡ empty) ⊎ (e < n) → is_empty e ≡ false → e < n
below {e} (inl z) full = absurd (eqb-false e empty full z)
below (inr b) full = b

-- ---- the move into slot d, whose reverse entry is `held`, by that entry and by what it names

moved_split : (d held : ℕ) (b : Bool) → moved_by (cond b None (Some (visible held))) (slot d) ≡ cond b (ToSlot (slot d)) (OverSlot (slot d) (visible held))
moved_split d held true = refl
moved_split d held false = refl

moved_into : (d held rise : ℕ) → move_to (sent d held rise) ≡ move_into d held
moved_into d held rise = moved_split d held (eqb held empty)

-- ---- the entry that step 2 changes, if any, lies in the tables

inside_split : (entry : Option ℕ) (rows counts : List ℕ) → ((i : ℕ) → entry ≡ Some i → (i < length rows) × (i < length counts))
    → IfSome (update_of entry counts) (λ u. (u.entry < length rows) × (u.entry < length counts))
inside_split None rows counts h = tt
inside_split (Some i) rows counts h = h i refl

module _ {S : Settings} {σ : State} {a : Asked} {j : Judged} (T : Taken S σ a j) where
  abbrev r : ℕ
  r = a.row

  abbrev p : ℕ
  p = place S σ r

  abbrev c : ℕ
  c = bank_of S p

  abbrev f : Found
  f = found_of S σ r

  abbrev entry : Option ℕ
  entry = entry_for S.k f.bank p σ.rows σ.counts

  P : Passed S σ a
  unfolding access_number
  P =
      let first = pass _ _ T.number_0 in
      record { tick_0 = first.0; row_0 = (pass _ _ first.1).0 }

  A : Accepted S σ a
  A = accepted S σ a T.number_0

  R : Ranges S
  R = ranges_facts S A.reached.fit.ranges

  X : Exact S (lengths_of σ)
  X = lengths_facts S (lengths_of σ) A.reached.fit.lengths

  K : Steady S σ
  K = steady S σ A.reached.control

  pointers : RowSound S σ r
  pointers = row_sound S σ r A.reached.pointers

  pub span_in : a.off ≡ false
  span_in = A.reached.span_in

  pub place-in : p < S.n + S.q
  place-in = place_below S σ r R A.reached.row_in A.reached.pointers

  pub store_long : length σ.store ≡ (S.n + S.q) * S.w
  store_long = X.store

  -- the row's place lies in the store
  pub place_inside : j.found.place.0 * S.w + S.w ≤ length σ.store
  place_inside = rw T.is (omega (arith, portion_before S.w p (S.n + S.q) place-in, X.store))

  -- ---- step 2

  -- what `follow` asks
  pub followable : Followable j.found.update j.found.place.0 σ.rows σ.counts
  followable =
      rw T.is
      (record {
        place_small = place_small P;
        inside = inside_split entry σ.rows σ.counts (λ i e.
            let at = entry_in_bank S.k c σ.rows σ.counts (rows_room P) (counts_room P) p f.bank.spill e in
            (omega (arith, at.2, at.3, rows_room P), omega (arith, at.2, at.3, counts_room P)));
      })

  -- what `done` asks
  pub countable : (j.found.bank.spill < 65536) × (j.found.bank.acts < 1360000)
  countable =
      let bank = K.banks c (c_in P) in
      rw T.is (omega (arith, bank.spill_below, R.a_high), omega (arith, A.reached.more, R.l_high))

  estimate_is : estimate_told f.update ≡ (tracked S σ r).estimate
  estimate_is =
      estimate_again entry σ.counts ∙ estimate-in S.k c σ.rows σ.counts (rows_room P) (counts_room P) p f.bank.spill

  spill_then : spill_after (entry_changed f.update) f.bank.spill ≡ (tracked S σ r).spill
  spill_then =
      ap (λ (o : Option ℕ). spill_after o f.bank.spill) (entry_again entry σ.counts)
      ∙ spill_in S.k c σ.rows σ.counts (rows_room P) (counts_room P) p f.bank.spill

  rows_then : table_after (entry_changed f.update) p σ.rows ≡ (counted S σ r).rows
  rows_then =
      ap (λ (o : Option ℕ). table_after o p σ.rows) (entry_again entry σ.counts)
      ∙ rows_in S.k c σ.rows σ.counts (rows_room P) (counts_room P) p f.bank.spill

  counts_then : table_after (entry_changed f.update) (estimate_told f.update) σ.counts ≡ (counted S σ r).counts
  counts_then =
      rw (entry_again entry σ.counts, estimate_again entry σ.counts)
      (counts_in S.k c σ.rows σ.counts (rows_room P) (counts_room P) p f.bank.spill)

  -- ---- the move

  goes_is : j.goes ≡ goes_to S σ r
  goes_is = ap (λ (x : Judged). x.goes) T.is

  rests : j.goes ≡ None → moves S σ r ≡ false
  rests none =
      elim (split (moves S σ r)) [
        | inl y ↦ absurd (let there = rw y at (sym goes_is ∙ none) in cc)
        | inr n ↦ n
      ]

  module _ {d : Destination} (goes : j.goes ≡ Some d) where
    abbrev s : ℕ
    s = destination S σ r

    goes_there : (moves S σ r ≡ true) × (d ≡ sent s (reverse_of σ s) (rise S σ r))
    goes_there =
        elim (split (moves S σ r)) [
          | inl y ↦ let there = rw y at (sym goes_is ∙ goes) in (y, cc)
          | inr n ↦ absurd (let there = rw n at (sym goes_is ∙ goes) in cc)
        ]

    away : forward_of σ r ≡ empty → p < S.n
    away at = rw (eq-eqb (forward_of σ r) empty at) A.reached.row_in

    in-slot : forward_of σ r < S.q → p ≡ S.n + forward_of σ r
    in-slot at = rw (ne_eqb (forward_of σ r) empty (λ z. omega (arith, R.q_high)))

    -- what `relocate` asks; ring: as the code has it
    pub movable : {ring : Ring} → ring ≡ ring_of σ.control
        → Movable S j.found d (storage_of σ.store σ.tables.forward σ.tables.reverse ring)
    movable stands =
        let room : σ.control.passed + rise S σ r ≤ S.q = A.room goes_there.0 in
        let free : s ≢ forward_of σ r = not_own S σ r s (slide S σ r K.head_in room).free in
        let held : (reverse_of σ s ≡ empty) ⊎ (reverse_of σ s < S.n) =
        elim (slot_sound S σ s (A.target goes_there.0)) [ inl z ↦ inl z | inr b ↦ inr b.0 ] in
        let own : (forward_of σ r ≡ empty) ⊎ (forward_of σ r < S.q) = elim pointers [ inl z ↦ inl z | inr b ↦ inr b.0 ] in
        rw (stands, goes_there.1, T.is)
        (record {
          sendable = record {
            ranges = A.reached.fit.ranges;
            store_long = X.store;
            forward_long = X.forward;
            slot_in = destination_in S σ r K.head_in;
            held_in = within_split _ _ _ (below held);
          };
          reverse_long = X.reverse;
          row_in = A.reached.row_in;
          entry_is = refl;
          entry_in = within_split _ _ _ (below own);
          place-in = place-in;
          apart = λ z. elim pointers [ inl e ↦ omega (arith, away e, z) | inr b ↦ free (omega (arith, in-slot b.0, z)) ];
          rise_is = sym (rise-to S σ r K.head_in room);
          room = room;
        })

  -- ---- what is left; t: what the code gives back

  -- what is promised of it
  pub record Finished (t : code.Accepted) (left : State) : Type 0 where
    pub bank : t.bank.index < most_banks
    pub served : t.served ≡ served S σ r
    pub state : left ≡ state_after S σ r σ.store

  module _ {rows counts : List ℕ} (rows_are : rows ≡ table_after (entry_changed j.found.update) j.found.place.0 σ.rows)
      (counts_are : counts ≡ table_after (entry_changed j.found.update) (estimate_told j.found.update) σ.counts) where
    rows_left : rows ≡ (counted S σ r).rows
    rows_left = rw T.is at rows_are ∙ rows_then

    counts_left : counts ≡ (counted S σ r).counts
    counts_left = rw T.is at counts_are ∙ counts_then

    pub stays : j.goes ≡ None → {ring : Ring} → ring ≡ ring_of σ.control → {t : code.Accepted} → t ≡ done_of j.found ring Stayed
        → Finished t (state_of σ.store σ.tables.forward σ.tables.reverse rows counts (with_bank σ.control t.ring t.bank))
    unfolding move
    stays none stands is =
        let there = rw (T.is, stands) at is in
        rw there
        (record {
          bank = bank_small P;
          served = rw (estimate_is, rests none) refl;
          state = rw (rows_left, counts_left, rests none, spill_then) refl;
        })

    -- store, forward, reverse, ring: as `relocate` leaves them
    pub goes : {d : Destination} → j.goes ≡ Some d → {before ring : Ring} → before ≡ ring_of σ.control
        → {store forward reverse : List ℕ}
        → storage_of store forward reverse ring
        ≡ relocated S j.found.row.0 j.found.place.0 (move_to d) (storage_of σ.store σ.tables.forward σ.tables.reverse before)
        → {moved : Move} → moved ≡ move_to d → {t : code.Accepted} → t ≡ done_of j.found ring moved
        → Finished t (state_of store forward reverse rows counts (with_bank σ.control t.ring t.bank))
    unfolding move
    goes {d} so {ring = ring} stands {store} {forward} {reverse} relocates moved_is is =
        let there = goes_there so in
        let s : ℕ = destination S σ r in
        let held : ℕ = reverse_of σ s in
        let into : move_to d ≡ move_into s held = ap move_to there.1 ∙ moved_into s held (rise S σ r) in
        let l = rw (T.is, stands, into) at relocates in
        let es : store ≡ _ = ap (λ (x : Storage). x.store) l in
        let ef : forward ≡ _ = ap (λ (x : Storage). x.tables.forward) l in
        let er : reverse ≡ _ = ap (λ (x : Storage). x.tables.reverse) l in
        let en : ring ≡ _ = ap (λ (x : Storage). x.ring) l in
        let given = rw (T.is, moved_is, into) at is in
        rw given
        (record {
          bank = bank_small P;
          served = rw (estimate_is, there.0) refl;
          state = rw (es, ef, er, en, rows_left, counts_left, there.0, spill_then) refl;
        })
