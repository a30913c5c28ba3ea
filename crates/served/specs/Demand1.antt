-- Demand 1 of the C functions: what holds of each call, by its promise alone, for all settings, arguments and lent memory, sound or
-- not. The proof is `demand_1_served` of proofs/Demand1.antt.
-- Assumes nothing.
use Rattle.std.specs.Prelude.{ℕ, ◌+◌, ◌≤◌, ◌≡◌, ◌≢◌, [], ◌∷◌, length}
use Rattle.basics.specs.Lists.{OneOf}
use Rattle.geometry.specs.declared.Settings.{Settings}
use Rattle.row_layout.specs.Bytes.{row_bytes}
use Rattle.engine.specs.State.{State}
use Rattle.engine.specs.Steps.{place}
use Rattle.figures.specs.declared.Span.{Span}
use Rattle.figures.specs.Span.{spanned}
use Rattle.figures.specs.Promises.{SetUpPromise, InspectNumberPromise, InspectSpanPromise}
use Rattle.history.specs.Run.{figureless}
use Rattle.history.specs.Demand1.{allowed, buffer_of}
use Rattle.served.specs.Transcript.{Exchange, Promised, seen}

-- `aqua_set_up`: its numbers, and that a refusal leaves all that was lent
pub record ProperSetUp (before : State) (number : ℕ) (after : State) : Type 0 where
  pub one_of : OneOf (0 ∷ 1 ∷ 2 ∷ 3 ∷ []) number
  pub kept : number ≢ 0 → after ≡ before

-- any other call: its number is one that document 01 allows it, and a refusal leaves all that was lent and holds nothing beside
-- the number
pub record Proper (before : State) (x : Exchange) (after : State) : Type 0 where
  pub number : OneOf (allowed (seen x).call) (seen x).answer.number
  pub kept : (seen x).answer.number ≢ 0 → after ≡ before
  pub figures : (seen x).answer.number ≢ 0
      → (seen x).answer ≡ figureless (seen x).answer.number (buffer_of (seen x).call)

-- the two calls of inspect on the same memory: what `aqua_inspect_number` and `aqua_inspect_span` answer of a row
pub record ProperSpan (S : Settings) (lent : State) (row number : ℕ) (span : Span) : Type 0 where
  -- 'the part has length 0 exactly when the number isn't 0'
  pub none : number ≢ 0 → span.length ≡ 0
  pub some : number ≡ 0 → span.length ≢ 0
  -- the span lies in the store, and where the number is 0 its bytes are those of the row's place
  pub inside : span.start + span.length ≤ length lent.store
  pub bytes : number ≡ 0 → spanned span lent.store ≡ row_bytes S.w lent.store (place S lent row)

pub record Demand1Served : Type 0 where
  pub set-up : (S : Settings) (before after : State) (number : ℕ) → SetUpPromise S before after number
      → ProperSetUp before number after
  pub calls : (S : Settings) (before after : State) (x : Exchange) → Promised S before x after → Proper before x after
  pub spans : (S : Settings) (lent : State) (row number : ℕ) (span : Span) → InspectNumberPromise S lent row number
      → InspectSpanPromise S lent row span → ProperSpan S lent row number span
