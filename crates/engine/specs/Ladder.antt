-- Document 01, 'Where each call can stop': the number that a call answers, 0 where it is accepted. Each row of the table
-- stands once, as `stops condition number`, with the table's condition.
-- Assumes nothing.
use Rattle.std.specs.Prelude.{ℕ, ◌+◌, Bool, false, cond, not, ◌&&◌, ◌||◌, List, ltb, leb, eqb, get_or}
use Rattle.geometry.specs.declared.Settings.{Settings}
use Rattle.geometry.specs.declared.Control.{Control}
use Rattle.geometry.specs.declared.Ring.{Ring}
use Rattle.geometry.specs.declared.Lengths.{Lengths}
use Rattle.conditions.specs.Conditions.{ranges_hold, limit_holds, lengths_hold}
use Rattle.geometry.specs.Entry.{empty}
use Rattle.basics.specs.Ranges.{some_below}
use Rattle.scan.specs.Scan.{some}
use Rattle.basics.specs.Portions.{portion}
use Rattle.engine.specs.declared.Asked.{Asked}
use Rattle.engine.specs.State.{Tables, forward_in, reverse_in, State, lengths_of, tracker_at, ring_of}
use Rattle.engine.specs.Steps.{place, moves, destination, rise}

infixr 20 ◌▹◌
-- a row of the table: its number where its condition applies, else 0
unfoldable pub stops : Bool → ℕ → ℕ
stops condition number = cond condition number 0

-- 'The first that applies is answered, and only then.'
unfoldable pub ◌▹◌ : ℕ → ℕ → ℕ
first ▹ next = cond (eqb first 0) next first

-- ---- the rows of the table

-- settings: 'one is outside its range'; settings together: 'L is A × (K + 1) or more'
unfoldable pub settings_number : Settings → ℕ
settings_number S = stops (not (ranges_hold S)) 1 ▹ stops (not (limit_holds S)) 2

-- buffers: 'a table, tracker part or store has another length'
unfoldable pub fit_number : Settings → Lengths → ℕ
fit_number S lengths = settings_number S ▹ stops (not (lengths_hold S lengths)) 3

-- control and tracker: 'head ≥ Q, passed > Q, ..
unfoldable pub ring_unsound : Settings → Ring → Bool
ring_unsound S ring = leb S.q ring.head || ltb S.q ring.passed

-- .. acts > L, spill > acts, spill ≥ A, or some count > acts', of one bank
unfoldable pub tracker_unsound : Settings → ℕ → ℕ → List ℕ → Bool
tracker_unsound S spill acts counts =
    ltb S.l acts || ltb acts spill || leb S.a spill || some (λ count. ltb acts count) counts

-- 'the conditions of 4 on `acts`, `spill` and counts are per bank' (document 02, Ask 5): bank c; spill, acts: by bank
abbrev pub bank_unsound : Settings → List ℕ → List ℕ → List ℕ → ℕ → Bool
bank_unsound S spill acts counts c = tracker_unsound S (get_or spill c 0) (get_or acts c 0) (portion S.k c counts)

-- 'the record's places for banks from B on are .. not looked at' (document 02, Ask 5)
unfoldable pub trackers_unsound : Settings → List ℕ → List ℕ → List ℕ → Bool
trackers_unsound S spill acts counts = some_below (bank_unsound S spill acts counts) S.b

unfoldable pub control_unsound : Settings → Control → List ℕ → Bool
control_unsound S control counts =
    ring_unsound S (ring_of control) || trackers_unsound S control.spill control.acts counts

-- 1 to 4
unfoldable pub control_number : Settings → Lengths → Control → List ℕ → ℕ
control_number S lengths control counts = fit_number S lengths ▹ stops (control_unsound S control counts) 4

-- what is asked of a row; span: 'read buffer not W long; ..
abbrev pub read_off : Settings → ℕ → Bool
read_off S count = not (eqb count S.w)

-- .. write runs past W'
abbrev pub write_off : Settings → ℕ → ℕ → Bool
write_off S column count = ltb S.w (column + count)

abbrev pub read_asked : Settings → ℕ → ℕ → Asked
read_asked S r count = record { row = r; off = read_off S count }

abbrev pub write_asked : Settings → ℕ → ℕ → ℕ → Asked
write_asked S r column count = record { row = r; off = write_off S column count }

-- a call that only looks at a row has no span
abbrev pub look_asked : ℕ → Asked
look_asked r = record { row = r; off = false }

-- an entry is 65535, or below `limit` and x is what the other table has for it
unfoldable pub points_back : ℕ → ℕ → List ℕ → ℕ → Bool
points_back entry limit other x = eqb entry empty || (ltb entry limit && eqb (get_or other entry empty) x)

-- row's pointers: 'forward entry is neither 65535 nor a slot whose reverse entry names the row'
unfoldable pub row_unsound : Settings → Tables → ℕ → Bool
row_unsound S tables r = not (points_back (forward_in tables r) S.q tables.reverse r)

-- destination: 'reverse of d is neither 65535 nor a row whose forward entry names d'
unfoldable pub destination_unsound : Settings → Tables → ℕ → Bool
destination_unsound S tables d = not (points_back (reverse_in tables d) S.n tables.forward d)

-- row: 'row ≥ N'; span; row's pointers
unfoldable pub row_number : Settings → Tables → Asked → ℕ
row_number S tables a =
    stops (leb S.n a.row) 5
    ▹ stops a.off 6
    ▹ stops (row_unsound S tables a.row) 7

-- ---- the column 'calls' of the table

-- set-up
abbrev pub set_up_number : Settings → State → ℕ
set_up_number S σ = fit_number S (lengths_of σ)

-- tick
abbrev pub tick_number : Settings → State → ℕ
tick_number S σ = control_number S (lengths_of σ) σ.control σ.counts

-- inspect, of row r
unfoldable pub inspect_number : Settings → State → ℕ → ℕ
inspect_number S σ r = tick_number S σ ▹ row_number S σ.tables (look_asked r)

-- read and write. Epoch: 'acts = L', where '8 looks at the bank of p' (document 02, Ask 5); quarantine: 'the access would
-- quarantine and passed plus the rise of step 4 exceeds Q'; destination, which is that of an access that would quarantine
unfoldable pub access_number : Settings → State → Asked → ℕ
access_number S σ a =
    let r : ℕ = a.row in
    tick_number S σ
    ▹ row_number S σ.tables a
    ▹ stops (eqb (tracker_at S σ (place S σ r)).acts S.l) 8
    ▹ stops (moves S σ r && ltb S.q (σ.control.passed + rise S σ r)) 9
    ▹ stops (moves S σ r && destination_unsound S σ.tables (destination S σ r)) 7
