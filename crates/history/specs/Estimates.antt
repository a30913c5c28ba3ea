-- Document 02, Ask 2: what the lab may conclude from the estimates that accesses answer. The proof is `estimates` of
-- proofs/Estimates.antt; the same of what a C caller sees is `EstimatesServed` of crate `served`.
-- Assumes nothing.
use Rattle.std.specs.Prelude.{ℕ, suc, ◌+◌, ◌≤◌, ◌<◌, ◌≡◌, ◌≢◌, Bool, cond, not, ◌&&◌, List, [], ◌∷◌, eqb}
use Rattle.geometry.specs.declared.Settings.{Settings}
use Rattle.geometry.specs.Entry.{empty}
use Rattle.engine.specs.State.{State, tracker_at}
use Rattle.history.specs.Tally.{opened}
use Rattle.history.specs.Run.{Access, access, look, Call, rank, tick}
use Rattle.history.specs.Run.{Answer, Event, OfAccepted}
use Rattle.history.specs.Chain.{OfLists, CallClaim, AnyCall}

-- what the answers of the running epoch say of each place (physical row)
pub record Observed : Type 0 where
  -- how often accesses opened it
  pub accesses : ℕ → ℕ
  -- the last estimate other than 0 that was answered for it, 0 where there was none
  pub latest : ℕ → ℕ
  -- how often accesses opened it after that one
  pub since : ℕ → ℕ

-- an epoch begins
abbrev pub unobserved : Observed
unobserved = record { accesses = λ p. 0; latest = λ p. 0; since = λ p. 0 }

-- after an accepted access of place p that answered this estimate
abbrev pub observe_access : Observed → ℕ → ℕ → Observed
observe_access o p estimate =
    let told : ℕ → Bool = λ x. eqb x p && not (eqb estimate 0) in
    record {
      accesses = opened (p ∷ []) o.accesses;
      latest = λ x. cond (told x) estimate (o.latest x);
      since = λ x. cond (told x) 0 (opened (p ∷ []) o.since x);
    }

-- after an accepted call
abbrev pub observe_call : Observed → Call → Answer → Observed
observe_call o (rank (access a)) answer = observe_access o answer.place answer.estimate
observe_call o (rank (look x)) answer = o
observe_call o tick answer = unobserved

abbrev pub observe : Observed → Event → Observed
observe o e = cond (eqb e.answer.number 0) (observe_call o e.call e.answer) o

-- after a list of events
abbrev pub observed : Observed → List Event → Observed
observed o [] = o
observed o (e ∷ es) = observed (observe o e) es

-- What an accepted access's answer says of its place. accesses: how often accesses opened the place in this epoch, this
-- one included; latest: the last estimate other than 0 answered for it before, in this epoch; between: how often accesses
-- opened it between that one and this one; spill: `spill` after the access.
pub record Conclusions (S : Settings) (accesses latest between spill : ℕ) (answer : Answer) : Type 0 where
  -- an estimate is at most A, and the row was moved exactly where it is A
  pub within : answer.estimate ≤ S.a
  pub moved : answer.slot ≢ empty → answer.estimate ≡ S.a
  pub stayed : answer.slot ≡ empty → answer.estimate ≢ S.a
  -- the estimates of one place rise strictly (0 may stand between them), by at least one for each access
  pub rises : answer.estimate ≢ 0 → latest + between < answer.estimate
  -- so after an estimate e accesses open the place at most A − e times more in this epoch, and the (A − e)-th of them moves its
  -- row
  pub further : latest + suc between ≤ S.a
  pub last : latest + suc between ≡ S.a → answer.estimate ≡ S.a
  -- an estimate is at least the accesses of the place, and exceeds them by at most `spill`
  pub most : answer.estimate ≢ 0 → accesses ≤ answer.estimate
  pub least : answer.estimate ≤ accesses + spill
  -- where there is none, `spill` stands for it: it is at least the accesses, and has risen by at least one for each
  pub few : answer.estimate ≡ 0 → accesses ≤ spill
  pub spill_above : answer.estimate ≡ 0 → latest + between < spill
  -- and `spill` is below A
  pub below : spill < S.a

-- o: what was observed before the access; σ: the memory after it
abbrev pub Concludes : Settings → Observed → State → Access → Answer → Type 0
Concludes S o σ a answer =
    let p : ℕ = answer.place in
    Conclusions S (suc (o.accesses p)) (o.latest p) (o.since p) (tracker_at S σ p).spill answer

-- what is claimed of the event e after the events es; σ: the memory after it
abbrev pub EstimatesHold : CallClaim
EstimatesHold S es e σ = OfAccepted (Concludes S (observed unobserved es) σ) e

-- For all settings, all lent memory, all lists of calls after an accepted set-up, and any call after the list: if it is
-- an accepted access, these conclusions hold of its answer.
abbrev pub Estimates : Type 0
Estimates = OfLists (AnyCall EstimatesHold)
