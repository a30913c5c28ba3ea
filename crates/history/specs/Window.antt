-- Document 02, Ask 6. 'A row's own refresh doesn't fall on our ticks, so engineers look at any stretch of calls with at most
-- one tick in it.' The proof is `window` of proofs/Window.antt; the same of what a C caller sees is `WindowServed` of crate
-- `served`.
-- Assumes nothing.
use Rattle.std.specs.Prelude.{ℕ, suc, ◌+◌, ◌*◌, ◌≤◌, ◌<◌, ◌≡◌, cond, List, [], ◌∷◌, ◌++◌, map}
use Rattle.geometry.specs.declared.Settings.{Settings}
use Rattle.geometry.specs.Numbering.{home_row, slot_row}
use Rattle.history.specs.Tally.{Report, Tally, start, feed, ends_epoch, Stretch, openings_in}
use Rattle.history.specs.Run.{Event, report_of}
use Rattle.history.specs.Chain.{Claim, OfLists}

-- the tally after a list of reports
abbrev pub fed : Settings → Tally → List Report → Tally
fed S τ [] = τ
fed S τ (e ∷ es) = fed S (feed S τ e) es

-- how many accepted ticks stand in a list
abbrev pub ticks_in : List Report → ℕ
ticks_in [] = 0
ticks_in (e ∷ es) = cond (ends_epoch e) (suc (ticks_in es)) (ticks_in es)

-- the stretch that `during` makes after `before`, the calls from set-up on: the tally at its start and at its end
abbrev pub stretch_of : Settings → List Report → List Report → Stretch
stretch_of S before during =
    let first : Tally = fed S start before in
    record { first = first; last = fed S first during }

-- what holds of a stretch with at most one tick in it
pub record Windowed (S : Settings) (e : Stretch) : Type 0 where
  -- 'a home row's openings shall be at most 2A + 4'
  pub homes : (r : ℕ) → r < S.n → openings_in e (home_row r) ≤ 2 * S.a + 4
  -- '.. and a slot's at most 2A + 5'
  pub slots : (s : ℕ) → s < S.q → openings_in e (slot_row S s) ≤ 2 * S.a + 5

-- 'In every such stretch after set-up', of what the calls after set-up answered, wherever they are cut: a stretch may begin and
-- end in the middle of an epoch
abbrev pub EachWindow : Settings → List Event → Type 0
EachWindow S es = (before during after : List Event) → es ≡ before ++ during ++ after
    → ticks_in (map report_of during) ≤ 1
    → Windowed S (stretch_of S (map report_of before) (map report_of during))

-- this, as a claim of the events es
abbrev pub WindowHolds : Claim
WindowHolds S blank es σ = EachWindow S es

-- For all settings, all lent memory and all lists of calls: if set-up is accepted, then this holds of the list.
abbrev pub Window : Type 0
Window = OfLists WindowHolds
