-- Read and write as the code puts them together are the definitions of `Calls`. Assumes nothing.
use Prim.Native.Nat.{ℕ, ◌+◌, ◌*◌, ◌≤◌}
use mathlib.Core.Path.{◌≡◌, refl, ap, ◌∙◌}
use mathlib.Core.Logic.{inl, inr}
use mathlib.Core.List.{List, []}
use lib.Dec.{eqb}
use lib.ListN.{length}
use borrow.Author.Tests.{eq-eqb, eqb-true, ltb-false, not-false}
use Rattle.std.specs.Prelude.{Ok, Err}
use Rattle.geometry.specs.declared.Settings.{Settings}
use Rattle.basics.proofs.Cases.{split}
use Rattle.row_layout.specs.Bytes.{row_bytes, written}
use Rattle.row_layout.proofs.Laws.{length-written}
use Rattle.engine.specs.declared.Asked.{Asked}
use Rattle.engine.specs.declared.Served.{Served}
use Rattle.engine.specs.State.{State}
use Rattle.engine.specs.Steps.{place, move, state_after}
use Rattle.engine.specs.Ladder.{read_asked, write_asked, look_asked, access_number}
use Rattle.engine.specs.Calls.{accessed, served, read, write}
use Rattle.figures.specs.Outcome.{outcome_of}
use Rattle.figures.specs.Promises.{AccessPromise, ReadPromise, WritePromise}
use Rattle.access.specs.declared.Judged.{Judged}
use Rattle.access.specs.Judging.{judged}
use Rattle.access.proofs.Finishes.{Taken, taken, span_in, place-in, store_long, place_inside}

-- the memory with another store
abbrev pub with_store : List ℕ → State → State
with_store store σ =
    record { store = store; tables = σ.tables; rows = σ.rows; counts = σ.counts; control = σ.control }

-- ---- any access: `after` is the store with the bytes, `filled` what the buffer is filled with

module _ (S : Settings) (σ : State) (a : Asked) (after filled buffer : List ℕ) where
  refuses : {x : ℕ} → Err x ≡ judged S σ a → AccessPromise (accessed S σ a.row (access_number S σ a) after filled buffer) σ (outcome_of (Err x)) buffer
  unfolding judged accessed
  refuses {x} told =
      elim (split (eqb (access_number S σ a) 0)) [
        | inl z ↦ absurd (let there = rw z at told in cc)
        | inr z ↦
            let there = rw z at told in
            let is : x ≡ access_number S σ a = cc in
            rw (z, is) (refl, refl, refl)
      ]

  -- j: what is judged, and the store as long as before
  module _ {j : Judged} (told : Ok j ≡ judged S σ a) (long : length after ≡ length σ.store) where
    T : Taken S σ a j
    T = taken S σ a j told

    row_is : j.found.row.0 ≡ a.row
    row_is = ap (λ (x : Judged). x.found.row.0) T.is

    asked_is : look_asked j.found.row.0 ≡ a
    asked_is = rw (row_is, ← span_in T) refl

    number_then : access_number S (with_store after σ) a ≡ 0
    unfolding access_number
    number_then = rw long T.number_0

    -- what `finish` asks
    ready : Ok j ≡ judged S (with_store after σ) (look_asked j.found.row.0)
    unfolding judged
    ready = rw (asked_is, number_then) (rw T.is refl)

    -- what it leaves; given: what it answers
    accepts : {given : Served} → given ≡ served S (with_store after σ) j.found.row.0
        → {left : State} → left ≡ state_after S (with_store after σ) j.found.row.0 after
        → AccessPromise (accessed S σ a.row (access_number S σ a) after filled buffer) left (outcome_of (Ok given)) filled
    unfolding accessed move
    accepts answer state =
        rw (answer, state, row_is, eq-eqb (access_number S σ a) 0 T.number_0) (refl, refl, refl)

-- ---- read

module _ (S : Settings) (σ : State) (r : ℕ) (buffer : List ℕ) where
  abbrev reading : Asked
  reading = read_asked S r (length buffer)

  pub read-refused : {x : ℕ} → Err x ≡ judged S σ reading → ReadPromise S σ r buffer σ (outcome_of (Err x)) buffer
  unfolding read
  read-refused told = refuses S σ reading σ.store _ buffer told

  module _ {j : Judged} (told : Ok j ≡ judged S σ reading) where
    pub readable : (length buffer ≡ S.w) × (j.found.place.0 * S.w + S.w ≤ length σ.store)
    readable =
        let T = taken S σ reading j told in
        (eqb-true (length buffer) S.w (not-false (eqb (length buffer) S.w) (span_in T)), place_inside T)

    pub read-ready : Ok j ≡ judged S σ (look_asked j.found.row.0)
    read-ready = ready S σ reading σ.store [] [] told refl

    pub read_done : {filled : List ℕ} → filled ≡ row_bytes S.w σ.store j.found.place.0
        → {given : Served} → given ≡ served S σ j.found.row.0 → {left : State} → left ≡ state_after S σ j.found.row.0 σ.store
        → ReadPromise S σ r buffer left (outcome_of (Ok given)) filled
    unfolding read
    read_done {filled} bytes answer state =
        let T = taken S σ reading j told in
        let there : filled ≡ row_bytes S.w σ.store (place S σ r) =
        bytes ∙ ap (λ (x : Judged). row_bytes S.w σ.store x.found.place.0) T.is in
        rw (← there) (accepts S σ reading σ.store filled buffer told refl answer state)

-- ---- write

module _ (S : Settings) (σ : State) (r column : ℕ) (bytes : List ℕ) where
  abbrev writing : Asked
  writing = write_asked S r column (length bytes)

  pub write-refused : {x : ℕ} → Err x ≡ judged S σ writing → WritePromise S σ r column bytes σ (outcome_of (Err x))
  unfolding write
  write-refused told = refuses S σ writing _ [] [] told

  module _ {j : Judged} (told : Ok j ≡ judged S σ writing) where
    pub writable : (column + length bytes ≤ S.w) × (j.found.place.0 * S.w + S.w ≤ length σ.store)
    writable =
        let T = taken S σ writing j told in
        (ltb-false S.w (column + length bytes) (span_in T), place_inside T)

    -- after: the store, as the code writes to the place that it has
    module _ {after : List ℕ} (put : after ≡ written S.w σ.store j.found.place.0 column bytes) where
      written_is : after ≡ written S.w σ.store (place S σ r) column bytes
      written_is =
          let T = taken S σ writing j told in
          put ∙ ap (λ (x : Judged). written S.w σ.store x.found.place.0 column bytes) T.is

      long : length after ≡ length σ.store
      long =
          let T = taken S σ writing j told in
          ap (λ (x : List ℕ). length x) written_is
          ∙ length-written S.w (S.n + S.q) σ.store (place S σ r) column bytes (store_long T) (place-in T) writable.0

      pub write-ready : Ok j ≡ judged S (with_store after σ) (look_asked j.found.row.0)
      write-ready = ready S σ writing after [] [] told long

      pub write_done : {given : Served} → given ≡ served S (with_store after σ) j.found.row.0
          → {left : State} → left ≡ state_after S (with_store after σ) j.found.row.0 after
          → WritePromise S σ r column bytes left (outcome_of (Ok given))
      unfolding write
      write_done answer state = rw (← written_is) (accepts S σ writing after [] [] told long answer state)
