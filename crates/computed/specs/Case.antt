-- A case of documents 01 and 02, and what it asks of the definitions.
-- Assumes nothing.
use Rattle.std.specs.Prelude.{ℕ, zero, suc, ◌+◌, Bool, true, false, ◌&&◌, List, [], ◌∷◌, ◌++◌, map, eqb, take, replicate}
use Prim.Native.String.{String}
use Rattle.geometry.specs.declared.Settings.{Settings}
use Rattle.sizing.specs.declared.RefreshTimes.{RefreshTimes}
use Rattle.size_table.specs.declared.SizePair.{SizePair}
use Rattle.sizing.specs.Sums.{most_activations}
use Rattle.size_table.specs.Table.{gives, agrees}
use Rattle.banks.specs.Banks.{most_banks}
use Rattle.engine.specs.State.{State, state_of}
use Rattle.engine.specs.Calls.{set_up}
use Rattle.history.specs.Tally.{start, Stretch, openings_in, quarantines_in, epochs}
use Rattle.history.specs.Run.{read, access, rank, Step, step, report_of}
use Rattle.page.specs.Ascii.{ascii}
use Rattle.trace_steps.specs.Steps.{steps_from}
use Rattle.replay.specs.Memory.{lent}
use Rattle.replay.specs.Replay.{replayed}

-- settings and lent memory: pointer tables, tracker, and the control record's fields in its order, the last two by bank
pub record Lent : Type 0 where
  pub settings : Settings
  pub forward : List ℕ
  pub reverse : List ℕ
  pub rows : List ℕ
  pub counts : List ℕ
  pub head : ℕ
  pub passed : ℕ
  pub spill : List ℕ
  pub acts : List ℕ

pub data Case : Type 0 where
  -- a threshold and its size, by the first sum
  size : SizePair → Case
  -- the second sum
  activations : RefreshTimes → ℕ → Case
  -- a trace file and the lines that are printed for it
  trace : String → List String → Case
  -- settings, the steps of a trace, and the estimate that each answers
  estimates : Settings → List ℕ → List ℕ → Case
  -- a memory and a row that is read: the number, the slot moved to, the row sent home; `head` and `passed` afterwards
  reads : Lent → ℕ → List ℕ → Case
  -- settings, the steps of a trace, and what 01's tally makes of them: for each epoch the openings of each physical row, from
  -- row 0 on, and then the quarantines
  tallies : Settings → List ℕ → List (List ℕ) → Case
  -- settings and what set-up answers, on memory of the right lengths
  settings : Settings → ℕ → Case

-- the same bytes
abbrev pub same : List ℕ → List ℕ → Bool
same [] [] = true
same [] (y ∷ ys) = false
same (x ∷ xs) [] = false
same (x ∷ xs) (y ∷ ys) = eqb x y && same xs ys

-- the same lists
abbrev pub same_all : List (List ℕ) → List (List ℕ) → Bool
same_all [] [] = true
same_all [] (y ∷ ys) = false
same_all (x ∷ xs) [] = false
same_all (x ∷ xs) (y ∷ ys) = same x y && same_all xs ys

-- the openings of m physical rows from p on in an epoch, and then its quarantines
abbrev pub figures_from : ℕ → ℕ → Stretch → List ℕ
figures_from p zero e = quarantines_in e ∷ []
figures_from p (suc m) e = openings_in e p ∷ figures_from (suc p) m e

-- each line with its newline
abbrev pub lines : List String → List ℕ
lines [] = []
lines (l ∷ ls) = ascii l ++ (10 ∷ lines ls)

-- with a store of zeros
abbrev pub memory_of : Lent → State
memory_of m =
    state_of (lent m.settings).store m.forward m.reverse m.rows m.counts
    (record { head = m.head; passed = m.passed; spill = m.spill; acts = m.acts })

-- what a read answers and leaves
abbrev pub read_figures : Step → List ℕ
read_figures s =
    s.answer.number ∷ s.answer.slot ∷ s.answer.row ∷ s.state.control.head ∷ s.state.control.passed ∷ []

-- what a case asks of the definitions
unfoldable pub holds : Case → Bool
holds (size pair) = agrees pair
holds (activations times figure) = gives (most_activations times) figure
holds (trace text printed) = same (replayed (ascii text)) (lines printed)
holds (estimates S steps told) =
    same (map (λ e. e.answer.estimate) (steps_from S (set_up S (lent S)).state steps)) told
holds (reads m r told) =
    same (read_figures (step m.settings (memory_of m) (rank (access (read r (replicate m.settings.w 0)))))) told
holds (tallies S steps told) =
    same_all
    (map (figures_from 0 (S.n + S.q)) (epochs S start start (map report_of (steps_from S (set_up S (lent S)).state steps))))
    told
holds (settings S number) = eqb (set_up S (lent S)).number number

-- settings in a trace's order, of one bank
abbrev pub settings_of : ℕ → ℕ → ℕ → ℕ → ℕ → ℕ → Settings
settings_of n q w k a l = record { n = n; q = q; w = w; k = k; a = a; l = l; b = 1 }

-- the same, of so many banks
abbrev pub with_banks : ℕ → Settings → Settings
with_banks b S = record { n = S.n; q = S.q; w = S.w; k = S.k; a = S.a; l = S.l; b = b }

-- a number for each bank that the control record has places for: these, and x for every other
abbrev pub by_bank : List ℕ → ℕ → List ℕ
by_bank xs x = take most_banks (xs ++ replicate most_banks x)

-- `spill` is 0 (acts: of the first banks)
abbrev pub lent_of : Settings → List ℕ → List ℕ → List ℕ → List ℕ → ℕ → ℕ → List ℕ → Lent
lent_of S forward reverse rows counts head passed acts =
    record {
      settings = S;
      forward = forward;
      reverse = reverse;
      rows = rows;
      counts = counts;
      head = head;
      passed = passed;
      spill = by_bank [] 0;
      acts = by_bank acts 0;
    }
