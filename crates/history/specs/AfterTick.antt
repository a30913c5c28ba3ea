-- Document 01, 'Where each call can stop': 'An access refused with 9 is accepted, given sound tables, if it is the first call after
-- a tick.' The proofs are `accepted_after_tick` and `nine_is_good` of proofs/AfterTick.antt; the same of the C functions is
-- `AcceptedAfterTickServed` and `NineIsGoodServed` of crate `served`.
-- Assumes nothing.
use Rattle.std.specs.Prelude.{◌<◌, ◌≡◌, false}
use Rattle.geometry.specs.declared.Settings.{Settings}
use Rattle.engine.specs.State.{State}
use Rattle.engine.specs.Inverse.{Inverse}
use Rattle.history.specs.Run.{access, look, Call, rank, tick, row_of, span_off, step}

-- a read or a write whose row and span are good: neither 5, 'row ≥ N', nor 6 applies
abbrev pub GoodAccess : Settings → Call → Type 0
GoodAccess S (rank (access a)) = (row_of a < S.n) × (span_off S a ≡ false)
GoodAccess S (rank (look x)) = ⊥
GoodAccess S tick = ⊥

-- an access that is refused with 9 has a good row and a good span
abbrev pub NineIsGood : Type 0
NineIsGood = (S : Settings) (σ : State) (c : Call) → (step S σ c).answer.number ≡ 9 → GoodAccess S c

-- in every state with sound tables in which a tick is accepted, such an access is accepted as the first call after it
abbrev pub AcceptedAfterTick : Type 0
AcceptedAfterTick = (S : Settings) (σ : State) (c : Call) → Inverse S σ → (step S σ tick).answer.number ≡ 0
    → GoodAccess S c → (step S (step S σ tick).state c).answer.number ≡ 0
