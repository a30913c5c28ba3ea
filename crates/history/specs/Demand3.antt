-- Demand 3, as one claim about a list of calls as a whole. Its proof is `demand_3` of proofs/History.antt; the same of
-- what a C caller sees is `Demand3Served` of crate `served`.
-- Assumes nothing.
use Rattle.std.specs.Prelude.{ℕ, ◌+◌, ◌*◌, ◌/◌, ◌≤◌, ◌<◌, ◌≡◌, List, [], ◌∷◌, map}
use Rattle.geometry.specs.declared.Settings.{Settings}
use Rattle.geometry.specs.Numbering.{home_row, slot_row}
use Rattle.history.specs.Tally.{Tally, start, feed, Stretch, openings_in, quarantines_in, epochs}
use Rattle.basics.specs.Lists.{Each}
use Rattle.history.specs.Run.{Access, row_of, Answer, Event, OfAccepted, report_of}
use Rattle.history.specs.Chain.{Claim, OfLists}

-- what holds of an epoch
pub record Bounded (S : Settings) (e : Stretch) : Type 0 where
  -- each home row is opened at most A + 2 times
  pub homes : (r : ℕ) → r < S.n → openings_in e (home_row r) ≤ S.a + 2
  -- each slot is opened at most A + 3 times (document 02, Ask 4)
  pub slots : (s : ℕ) → s < S.q → openings_in e (slot_row S s) ≤ S.a + 3
  -- there are at most B × floor(L / A) quarantines: 'quarantines are at most B times the old figure' (document 02, Ask 5)
  pub quarantines : quarantines_in e ≤ S.b * (S.l / S.a)

-- 'An access is refused for want of a slot when it gets 9.'
abbrev pub NoSlotWanting : Event → Type 0
NoSlotWanting e = e.answer.number ≡ 9 → ⊥

-- an access answers as p the place that the tally has for its row
abbrev pub AnswersPlace : Tally → Access → Answer → Type 0
AnswersPlace τ a answer = answer.place ≡ τ.place (row_of a)

-- 'each accepted access answers as p the place that the tally has for its row'
abbrev pub PlacesAnswered : Settings → Tally → List Event → Type 0
PlacesAnswered S τ [] = Unit {0}
PlacesAnswered S τ (e ∷ es) = OfAccepted (AnswersPlace τ) e × PlacesAnswered S (feed S τ (report_of e)) es

-- demand 3, of what the calls after set-up answered
pub record Kept (S : Settings) (es : List Event) : Type 0 where
  pub bounded : Each (Bounded S) (epochs S start start (map report_of es))
  -- 'quarantines are at most B times the old figure, and so are the slots needed' (document 02, Ask 5)
  pub enough : 2 * (S.b * (S.l / S.a)) ≤ S.q → Each NoSlotWanting es
  pub places : PlacesAnswered S start es

-- demand 3, as a claim of the events es
abbrev pub Demand3Holds : Claim
Demand3Holds S blank es σ = Kept S es

-- For all settings, all lent memory and all lists of calls: if set-up is accepted, then demand 3 holds of the list.
abbrev pub Demand3 : Type 0
Demand3 = OfLists Demand3Holds
