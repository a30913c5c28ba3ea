-- Demands 2 and 3 of the C functions, the figures of a stretch over one tick, what their estimates tell, how far an epoch is when
-- one answers 9, and that a call which got 9 is accepted after a tick. The proofs are `demand_2_served`, `demand_3_served`,
-- `window_served` and so on, of proofs/Served.antt.
-- Assumes nothing.
use Rattle.std.specs.Prelude.{ℕ, ◌<◌, ◌≡◌, List, ◌++◌, map}
use Rattle.geometry.specs.declared.Settings.{Settings}
use Rattle.engine.specs.State.{State}
use Rattle.engine.specs.Inverse.{Inverse}
use Rattle.figures.specs.declared.Span.{Span}
use Rattle.figures.specs.Promises.{SetUpPromise, TickPromise, InspectSpanPromise}
use Rattle.figures.specs.Span.{spanned}
use Rattle.basics.specs.Lists.{Each}
use Rattle.history.specs.Chain.{Claim, CallClaim}
use Rattle.history.specs.Demand2.{Memory, standing, remembered, IsRow, RowsReturned, Usual}
use Rattle.history.specs.AfterTick.{GoodAccess}
use Rattle.history.specs.Demand3.{Demand3Holds}
use Rattle.history.specs.Window.{WindowHolds}
use Rattle.history.specs.Estimates.{EstimatesHold}
use Rattle.history.specs.Spent.{NotSpentEarlyHolds}
use Rattle.served.specs.Transcript.{Looked, inspect_number, inspect_span, read, write, look, Exchange, rank, tick}
use Rattle.served.specs.Transcript.{Promised, Logged, whole, misfit, Transcript, seen, seen_of}

-- For all settings and all lent memory: if `aqua_set_up` answered 0, then P holds of what the caller sees of every
-- transcript from there.
abbrev pub OfTranscripts : Claim → Type 0
OfTranscripts P = (S : Settings) (blank σ σ' : State) (es : List Logged) → SetUpPromise S blank σ 0
    → Transcript S σ es σ' → P S blank (map seen_of es) σ'

-- .. then P holds of what the caller sees of any call after any transcript from there.
abbrev pub OfCallsAfter : CallClaim → Type 0
OfCallsAfter P = (S : Settings) (blank σ between σ' : State) (es : List Logged) (x : Exchange)
    → SetUpPromise S blank σ 0 → Transcript S σ es between → Promised S between x σ'
    → P S (map seen_of es) (seen x) σ'

-- Demand 3: `Kept` of crate `history`.
abbrev pub Demand3Served : Type 0
Demand3Served = OfTranscripts Demand3Holds

-- Document 02, Ask 6: every stretch with at most one accepted tick, cut anywhere from what the caller sees, is as
-- `Windowed` of crate `history` says.
abbrev pub WindowServed : Type 0
WindowServed = OfTranscripts WindowHolds

-- 3 is answered, or a span of no bytes, to a call that only looks
abbrev pub LookAnswers3 : Looked → Type 0
LookAnswers3 (inspect_number row number) = number ≡ 3
LookAnswers3 (inspect_span row span) = span ≡ record { start = 0; length = 0 }

-- a call that was lent another length is answered 3, or a span of no bytes
abbrev pub Answers3 : Exchange → Type 0
Answers3 (rank (read row buffer outcome filled)) = outcome.number ≡ 3
Answers3 (rank (write row column bytes outcome)) = outcome.number ≡ 3
Answers3 (rank (look x)) = LookAnswers3 x
Answers3 (tick number) = number ≡ 3

-- which numbers can occur: 3 for such a call alone, else 0, 5, 6, 8 and 9
abbrev pub NumberOccurs : Logged → Type 0
NumberOccurs (whole x) = Usual (seen x)
NumberOccurs (misfit lent after x) = Answers3 x

-- demand 2, of a transcript that leaves the memory σ'; mem: the bytes of the rows at set-up
pub record Preserved (S : Settings) (mem : Memory) (es : List Logged) (σ' : State) : Type 0 where
  -- forward and reverse tables are inverse
  pub inverse : Inverse S σ'
  -- every accepted read of the transcript filled its buffer with its row
  pub reads : RowsReturned S mem (map seen_of es)
  -- and every row lies, with its bytes, where `aqua_inspect_span` says
  pub spans : (r : ℕ) → r < S.n → (span : Span) → InspectSpanPromise S σ' r span
      → IsRow S (remembered mem (map seen_of es)) r (spanned span σ'.store)
  pub numbers : Each NumberOccurs es

abbrev pub Demand2Served : Type 0
Demand2Served = (S : Settings) (blank σ σ' : State) (es : List Logged) → SetUpPromise S blank σ 0 → Transcript S σ es σ'
    → Preserved S (standing S blank) es σ'

-- Document 02, Ask 2: any access that is accepted tells what `Conclusions` of crate `history` says. (One that is lent
-- another length is not accepted.)
abbrev pub EstimatesServed : Type 0
EstimatesServed = OfCallsAfter EstimatesHold

-- If the call gets 9, then the epoch is as far as `Spent` of crate `history` says.
abbrev pub NotSpentEarlyServed : Type 0
NotSpentEarlyServed = OfCallsAfter NotSpentEarlyHolds

-- 'An access refused with 9 is accepted, given sound tables, if it is the first call after a tick.' In every memory with sound
-- tables in which `aqua_tick` answers 0, a read or a write whose row and span are good is accepted directly after it;
abbrev pub AcceptedAfterTickServed : Type 0
AcceptedAfterTickServed = (S : Settings) (σ between σ' : State) (x : Exchange) → Inverse S σ → TickPromise S σ between 0
    → Promised S between x σ' → GoodAccess S (seen x).call → (seen x).answer.number ≡ 0

-- and a call that answers 9, on whatever memory, is such a one.
abbrev pub NineIsGoodServed : Type 0
NineIsGoodServed = (S : Settings) (σ σ' : State) (x : Exchange) → Promised S σ x σ' → (seen x).answer.number ≡ 9
    → GoodAccess S (seen x).call

-- Every beginning of a transcript is a transcript, so that demands 2 and 3 hold after every call of it.
abbrev pub BeginningsServed : Type 0
BeginningsServed = (S : Settings) (σ σ' : State) (xs ys : List Logged) → Transcript S σ (xs ++ ys) σ'
    → (between : State) × (Transcript S σ xs between × Transcript S between ys σ')
