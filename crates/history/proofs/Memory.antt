-- Every byte that an accepted read or inspect returns is the one last written there, or the one that stood there at set-up.
-- Assumes nothing.
use Prim.Native.Nat.{ℕ, ◌<◌}
use mathlib.Core.Path.{◌≡◌, sym, subst}
use mathlib.Core.List.{List}
use borrow.Author.Tests.{eq-eqb, ne_eqb}
use Rattle.geometry.specs.declared.Settings.{Settings}
use Rattle.row_layout.specs.Bytes.{row_bytes}
use Rattle.engine.specs.State.{State}
use Rattle.engine.specs.Steps.{place, move, state_after}
use Rattle.engine.specs.Ladder.{inspect_number}
use Rattle.engine.specs.Calls as calls
use Rattle.engine.proofs.Facts.{accepted}
use Rattle.history.specs.Run.{Access, read, write, access, Call, rank, row_of, Step, step, Event, event_of, OfAccepted}
use Rattle.history.specs.Tally as tally
use Rattle.history.specs.Demand2.{Memory, standing, with_access, remember, remembered}
use Rattle.history.specs.Demand2.{IsRow, ReturnsRow, RowsReturned, PartsHold, BytesHold, BytesKept}
use Rattle.history.specs.Chain.{Chain, end, call, idle, OfChains}
use Rattle.history.proofs.Groups.{store_by, write_within, ladder, accepted_step, step_cases, of_accepted}
use Rattle.history.proofs.Invariant.{Inv}
use Rattle.history.proofs.Access.{its_fate}
use Rattle.history.proofs.Bytes.{Stands, stands_new, row_returned, stands_written, stands_settled}
use Rattle.history.proofs.Calls.{carried_on, store_long, inspect_0}
use Rattle.history.proofs.Chain.{lists, idle_memory, idle_accepted}
use Rattle.history.proofs.History.{set_up_state, inv_set_up}

module _ (S : Settings) (σ : State) (τ₀ τ : tally.Tally) (I : Inv S σ τ₀ τ) (mem : Memory) (st : Stands S σ σ.store mem) where
  -- ---- what a call returns

  accepted_returns : (a : Access) → ladder S σ (rank (access a)) ≡ 0
      → ReturnsRow S mem a (accepted_step S σ (rank (access a))).answer
  accepted_returns (read r buffer) z = row_returned S σ I.sound r (accepted S σ _ z).reached.row_in mem st
  accepted_returns (write r column bytes) z = tt

  returns_row : (c : Call) → OfAccepted (ReturnsRow S mem) (event_of c (step S σ c))
  returns_row = of_accepted S σ (ReturnsRow S mem) accepted_returns

  -- inspect gives each row
  part_is : (r : ℕ) → r < S.n → calls.inspect_part S σ r ≡ row_bytes S.w σ.store (place S σ r)
  unfolding calls.inspect_part
  part_is r row_in = rw (eq-eqb (inspect_number S σ r) 0 (inspect_0 S σ τ₀ τ I r row_in))

  parts_hold : PartsHold S mem σ
  parts_hold r row_in = subst (IsRow S mem r) (sym (part_is r row_in)) (row_returned S σ I.sound r row_in mem st)

  -- ---- what it leaves

  -- an accepted access, after step 3
  stands_touched : (a : Access) → ladder S σ (rank (access a)) ≡ 0 → Stands S σ (store_by S σ a) (with_access mem a)
  stands_touched (read r buffer) z = st
  stands_touched (write r column bytes) z =
      let R = (accepted S σ _ z).reached in
      stands_written S σ I.sound r R.row_in mem st column bytes (write_within S r column bytes R.span_in)

  -- and after step 4
  stands_accepted : (a : Access) → ladder S σ (rank (access a)) ≡ 0
      → (let σ' : State = state_after S σ (row_of a) (store_by S σ a) in Stands S σ' σ'.store (with_access mem a))
  stands_accepted a z =
      let A = accepted S σ _ z in
      let R = A.reached in
      stands_settled S σ I.sound (row_of a) R.row_in (store_by S σ a) (move S σ (row_of a))
      (its_fate S σ τ₀ τ I (row_of a) R.row_in R.more A.room (store_by S σ a) (store_long S σ τ₀ τ I a z))
      (with_access mem a) (stands_touched a z)

  -- a call leaves each row's bytes at its place
  abbrev Left : Call → Step → Type 0
  Left c s = Stands S s.state s.state.store (remember mem (event_of c s))

  stands_step : (c : Call) → Left c (step S σ c)
  stands_step = step_cases S σ Left (λ c n. rw (ne_eqb (ladder S σ c) 0 n) st) stands_accepted (λ x z. st) (λ z. st)

-- ---- the list

module _ (S : Settings) where
  rows_returned : {σ σ' : State} {es : List Event} → Chain S σ es σ' → (τ₀ τ : tally.Tally) → Inv S σ τ₀ τ → (mem : Memory) → Stands S σ σ.store mem
      → RowsReturned S mem es × PartsHold S (remembered mem es) σ'
  rows_returned (end {σ}) τ₀ τ I mem st = (tt, parts_hold S σ τ₀ τ I mem st)
  rows_returned (call {σ} c rest) τ₀ τ I mem st =
      let more = rows_returned rest _ _ (carried_on S σ τ₀ τ I c).1 _ (stands_step S σ τ₀ τ I mem st c) in
      ((returns_row S σ τ₀ τ I mem st c, more.0), more.1)
  rows_returned (idle z rest) τ₀ τ I mem st =
      let more = rows_returned rest τ₀ τ I mem st in
      rw (idle_memory mem z) ((idle_accepted (ReturnsRow S mem) z, more.0), more.1)

pub returned : OfChains BytesHold
returned S blank σ es z chain =
    let new : State = (calls.set_up S blank).state in
    let begun : Stands S new new.store (standing S blank) = rw (set_up_state S blank z) (stands_new S blank) in
    rows_returned S chain tally.start tally.start (inv_set_up S blank z) (standing S blank) begun

pub bytes_kept : BytesKept
bytes_kept = lists BytesHold returned
