-- Demand 2 over every list of calls after set-up. The proofs stand in proofs/.
-- Assumes nothing.
use Rattle.std.specs.Prelude.{ℕ, ◌+◌, ◌-◌, ◌*◌, ◌<◌, ◌≡◌, cond, ◌&&◌, List, [], ◌∷◌, ltb, leb, eqb, length, get_or}
use Rattle.geometry.specs.declared.Settings.{Settings}
use Rattle.geometry.specs.Numbering.{home_row}
use Rattle.engine.specs.State.{State}
use Rattle.engine.specs.Calls.{inspect_part}
use Rattle.engine.specs.Inverse.{Inverse}
use Rattle.history.specs.Run.{Access, read, write, access, look, Call, rank, tick}
use Rattle.basics.specs.Lists.{Each, OneOf}
use Rattle.history.specs.Run.{Answer, Event, OfAccepted}
use Rattle.history.specs.Chain.{Claim, OfLists, CallClaim}

-- ---- 'forward and reverse tables are inverse'

-- of the memory σ that the events leave
abbrev pub InverseHolds : Claim
InverseHolds S blank es σ = Inverse S σ

-- after every list of calls
abbrev pub TablesInverse : Type 0
TablesInverse = OfLists InverseHolds

-- ---- 'every byte read is the byte last written there, or the one that stood there at set-up'

-- the byte of each visible row at each column, whatever moves
abbrev pub Memory : Type 0
Memory = ℕ → ℕ → ℕ

-- at set-up: the bytes of the rows' homes
abbrev pub standing : Settings → State → Memory
standing S σ = λ r c. get_or σ.store (home_row r * S.w + c) 0

-- row r with bytes written from a column on
abbrev pub overwritten : Memory → ℕ → ℕ → List ℕ → Memory
overwritten mem r column bytes =
    λ x c. cond (eqb x r && (leb column c && ltb c (column + length bytes))) (get_or bytes (c - column) 0) (mem x c)

-- after an accepted access: a write changes it, a read does not
abbrev pub with_access : Memory → Access → Memory
with_access mem (read r buffer) = mem
with_access mem (write r column bytes) = overwritten mem r column bytes

-- after any accepted call: nothing else changes it
abbrev pub with_call : Memory → Call → Memory
with_call mem (rank (access a)) = with_access mem a
with_call mem (rank (look x)) = mem
with_call mem tick = mem

abbrev pub remember : Memory → Event → Memory
remember mem e = cond (eqb e.answer.number 0) (with_call mem e.call) mem

-- after a list of events
abbrev pub remembered : Memory → List Event → Memory
remembered mem [] = mem
remembered mem (e ∷ es) = remembered (remember mem e) es

-- the bytes are row r's, all W of them
pub record IsRow (S : Settings) (mem : Memory) (r : ℕ) (bytes : List ℕ) : Type 0 where
  pub long : length bytes ≡ S.w
  pub same : (c : ℕ) → c < S.w → get_or bytes c 0 ≡ mem r c

-- a read fills its buffer with its row
abbrev pub ReturnsRow : Settings → Memory → Access → Answer → Type 0
ReturnsRow S mem (read r buffer) answer = IsRow S mem r answer.buffer
ReturnsRow S mem (write r column bytes) answer = Unit {0}

-- each accepted read of a list does
abbrev pub RowsReturned : Settings → Memory → List Event → Type 0
RowsReturned S mem [] = Unit {0}
RowsReturned S mem (e ∷ es) = OfAccepted (ReturnsRow S mem) e × RowsReturned S (remember mem e) es

-- in the memory σ each row's part, as inspect gives it, is the row
abbrev pub PartsHold : Settings → Memory → State → Type 0
PartsHold S mem σ = (r : ℕ) → r < S.n → IsRow S mem r (inspect_part S σ r)

-- each read of a list, and what inspect gives after the list
abbrev pub BytesHold : Claim
BytesHold S blank es σ =
    RowsReturned S (standing S blank) es × PartsHold S (remembered (standing S blank) es) σ

abbrev pub BytesKept : Type 0
BytesKept = OfLists BytesHold

-- ---- after an accepted set-up only 5, 6, 8 and 9 are ever answered

abbrev pub Usual : Event → Type 0
Usual e = OneOf (0 ∷ 5 ∷ 6 ∷ 8 ∷ 9 ∷ []) e.answer.number

-- of any call; an event that is idle may answer 3
abbrev pub UsualHolds : CallClaim
UsualHolds S es e σ = Usual e

abbrev pub OnlyUsual : Type 0
OnlyUsual = OfLists (λ S blank es σ. Each Usual es)
