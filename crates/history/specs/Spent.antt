-- What Q slots guarantee, however few: no access gets 9 early in an epoch. With as many slots as `Kept` asks for (`enough`) none
-- ever does; with 16 banks and document 000's timing Q cannot be that large. The proof is `not_spent_early` of proofs/Spent.antt;
-- the same of what a C caller sees is `NotSpentEarlyServed` of crate `served`.
-- Assumes nothing.
use Rattle.std.specs.Prelude.{ℕ, suc, ◌+◌, ◌*◌, ◌≤◌, ◌≡◌, cond, List, [], ◌∷◌, eqb}
use Rattle.geometry.specs.declared.Settings.{Settings}
use Rattle.geometry.specs.Entry.{empty}
use Rattle.history.specs.Run.{access, look, Call, rank, tick, Answer, Event}
use Rattle.history.specs.Chain.{OfLists, CallClaim, AnyCall}

-- what the answers of the running epoch say of it
pub record Progress : Type 0 where
  -- the accepted accesses
  pub accesses : ℕ
  -- and those of them that moved their row
  pub quarantines : ℕ

-- an epoch begins
abbrev pub begun : Progress
begun = record { accesses = 0; quarantines = 0 }

-- after an accepted access that answered this slot
abbrev pub progress_access : Progress → ℕ → Progress
progress_access p slot =
    record {
      accesses = suc p.accesses;
      quarantines = cond (eqb slot empty) p.quarantines (suc p.quarantines);
    }

-- after an accepted call
abbrev pub progress_call : Progress → Call → Answer → Progress
progress_call p (rank (access a)) answer = progress_access p answer.slot
progress_call p (rank (look x)) answer = p
progress_call p tick answer = begun

abbrev pub progress : Progress → Event → Progress
progress p e = cond (eqb e.answer.number 0) (progress_call p e.call e.answer) p

-- after a list of events
abbrev pub progressed : Progress → List Event → Progress
progressed p [] = p
progressed p (e ∷ es) = progressed (progress p e) es

-- how far the epoch is when an access gets 9
pub record Spent (S : Settings) (p : Progress) : Type 0 where
  -- two slots for each quarantine are, at the least, all slots but one
  pub slots : S.q ≤ 2 * p.quarantines + 1
  -- each quarantine, the refused one included, takes A accesses, of which the refused one is the last
  pub accesses : suc p.quarantines * S.a ≤ suc p.accesses

-- what is claimed of the event e after the events es
abbrev pub NotSpentEarlyHolds : CallClaim
NotSpentEarlyHolds S es e σ = e.answer.number ≡ 9 → Spent S (progressed begun es)

-- For all settings, all lent memory, all lists of calls after an accepted set-up, and any call after the list: if it gets 9, the
-- epoch is that far.
abbrev pub NotSpentEarly : Type 0
NotSpentEarly = OfLists (AnyCall NotSpentEarlyHolds)
