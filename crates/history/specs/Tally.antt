-- Document 01, 'The tally of demand 3': kept from outside. This file names no state, no call with its memory and no
-- answer: what the tally can see is a `Report`.
-- Assumes nothing.
use Rattle.std.specs.Prelude.{ℕ, suc, ◌+◌, ◌-◌, Bool, true, false, cond, ◌&&◌, List, [], ◌∷◌, eqb}
use Rattle.geometry.specs.declared.Settings.{Settings}
use Rattle.geometry.specs.Numbering.{home_row, slot_row}
use Rattle.geometry.specs.Entry.{empty}

-- 'each call with its arguments, all lent memory left out': which call it is, and its row
pub data Request : Type 0 where
  -- a read or a write
  access : ℕ → Request
  -- a call that only looks at the row
  look : ℕ → Request
  tick : Request

-- 'It is fed each call .., and, from the answer, the number, the slot moved to and the row sent home'
pub record Report : Type 0 where
  pub request : Request
  pub number : ℕ
  -- the slot moved to, 65535 for none
  pub slot : ℕ
  -- the row sent home, 65535 for none
  pub row : ℕ

-- 'It holds a place for each visible row, a count of openings for each physical row, and a count of quarantines.'
pub record Tally : Type 0 where
  pub place : ℕ → ℕ
  pub openings : ℕ → ℕ
  pub quarantines : ℕ

-- the rows have these places, and each count is 0
abbrev pub start_at : (ℕ → ℕ) → Tally
start_at place = record { place = place; openings = λ p. 0; quarantines = 0 }

-- 'At set-up each place is the row's home and each count is 0.'
abbrev pub start : Tally
start = start_at home_row

-- with other openings
abbrev pub with_openings : Tally → (ℕ → ℕ) → Tally
with_openings τ openings = record { place = τ.place; openings = openings; quarantines = τ.quarantines }

-- how often x stands in a list
unfoldable pub hit : ℕ → ℕ → ℕ
hit p x = cond (eqb x p) 1 0

abbrev pub times : ℕ → List ℕ → ℕ
times x [] = 0
times x (p ∷ ps) = hit p x + times x ps

-- the counts after each physical row of a list is opened once
abbrev pub opened : List ℕ → (ℕ → ℕ) → ℕ → ℕ
opened ps openings = λ x. openings x + times x ps

-- the places with row r's place become p
abbrev pub placed : ℕ → ℕ → (ℕ → ℕ) → ℕ → ℕ
placed r p place = λ x. cond (eqb x r) p (place x)

-- 'Accepted read or write of row r, whose place is p: p is opened once.'
abbrev pub after_stay : Settings → Tally → ℕ → Tally
after_stay S τ r =
    let p : ℕ = τ.place r in
    with_openings τ (opened (p ∷ []) τ.openings)

-- 'If a slot s moved to is answered, that is one quarantine: p and N + s are opened once each for the copy, and r's place
-- becomes N + s.'
abbrev pub after_move : Settings → Tally → ℕ → ℕ → Tally
after_move S τ r s =
    let p : ℕ = τ.place r in
    record {
      place = placed r (slot_row S s) τ.place;
      openings = opened (p ∷ p ∷ slot_row S s ∷ []) τ.openings;
      quarantines = suc τ.quarantines;
    }

-- 'If a row v sent home is answered too, N + s and v's home are opened once more each, and v's place is its home again.'
abbrev pub after_move_over : Settings → Tally → ℕ → ℕ → ℕ → Tally
after_move_over S τ r s v =
    let p : ℕ = τ.place r in
    record {
      place = placed v (home_row v) (placed r (slot_row S s) τ.place);
      openings = opened (p ∷ p ∷ slot_row S s ∷ slot_row S s ∷ home_row v ∷ []) τ.openings;
      quarantines = suc τ.quarantines;
    }

-- which of the three, by what is answered
abbrev pub after_access : Settings → Tally → ℕ → ℕ → ℕ → Tally
after_access S τ r slot row =
    cond (eqb slot empty) (after_stay S τ r) (cond (eqb row empty) (after_move S τ r slot) (after_move_over S τ r slot row))

-- 'Accepted tick: it .. opens nothing and moves no place.'
abbrev pub next_epoch : Tally → Tally
next_epoch τ = τ

-- an accepted call. 'Inspect, by either of its calls, ..: nothing.'
abbrev pub after_request : Settings → Tally → Request → ℕ → ℕ → Tally
after_request S τ (access r) slot row = after_access S τ r slot row
after_request S τ (look r) slot row = τ
after_request S τ tick slot row = next_epoch τ

-- '.. and any refused call: nothing.'
abbrev pub feed : Settings → Tally → Report → Tally
feed S τ e = cond (eqb e.number 0) (after_request S τ e.request e.slot e.row) τ

-- ---- epochs

abbrev pub is_tick : Request → Bool
is_tick (access r) = false
is_tick (look r) = false
is_tick tick = true

-- 'Accepted tick: it ends the epoch'
abbrev pub ends_epoch : Report → Bool
ends_epoch e = eqb e.number 0 && is_tick e.request

-- the tally at two points of a history
pub record Stretch : Type 0 where
  pub first : Tally
  pub last : Tally

-- 'its figures are what its calls add': the counts only grow
abbrev pub openings_in : Stretch → ℕ → ℕ
openings_in e p = e.last.openings p - e.first.openings p

abbrev pub quarantines_in : Stretch → ℕ
quarantines_in e = e.last.quarantines - e.first.quarantines

-- 'An epoch runs from set-up or an accepted tick to the next accepted tick, or to the end of the list'.
-- τ₀: the tally at the start of the epoch that runs; τ: the tally now
abbrev pub epochs : Settings → Tally → Tally → List Report → List Stretch
epochs S τ₀ τ [] = record { first = τ₀; last = τ } ∷ []
epochs S τ₀ τ (e ∷ es) =
    cond (ends_epoch e)
    (record { first = τ₀; last = feed S τ e } ∷ epochs S (feed S τ e) (feed S τ e) es)
    (epochs S τ₀ (feed S τ e) es)
