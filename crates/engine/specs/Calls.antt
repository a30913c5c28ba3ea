-- Document 01: each call, for any settings, arguments and lent memory: what it leaves and what it answers.
-- These are the definitions that the engine's promises cite and that `history` folds over.
-- Assumes nothing.
use Rattle.std.specs.Prelude.{ℕ, ◌*◌, Ok, Err, cond, List, [], ◌++◌, eqb, length, drop, replicate}
use Rattle.geometry.specs.declared.Settings.{Settings}
use Rattle.geometry.specs.Numbering.{physical}
use Rattle.geometry.specs.Entry.{empty}
use Rattle.row_layout.specs.Bytes.{row_bytes, written}
use Rattle.engine.specs.declared.Served.{Served}
use Rattle.engine.specs.Answer.{Reply}
use Rattle.engine.specs.State.{State, tables_of, new_control}
use Rattle.engine.specs.Steps.{place, tracked, move, state_after}
use Rattle.engine.specs.Ladder.{set_up_number, tick_number, inspect_number, access_number, read_asked, write_asked}

-- ---- set-up and tick answer a number

pub record Noted : Type 0 where
  pub state : State
  pub number : ℕ

abbrev pub noted_of : State → ℕ → Noted
noted_of σ number = record { state = σ; number = number }

-- the effect where the number is 0; 'Control record and all lent memory remain as before the call' where it is not
unfoldable pub noted : State → ℕ → State → Noted
noted σ number effect = record { state = cond (eqb number 0) effect σ; number = number }

-- 'Set-up fills both pointer tables and the tracker rows with 65535, the counts and the four fields with 0, and leaves
-- the store.' 'the record's places for banks from B on are 0 at set-up' too (document 02, Ask 5)
abbrev pub cleared : Settings → State → State
cleared S σ =
    record {
      store = σ.store;
      tables = tables_of (replicate S.n empty) (replicate S.q empty);
      rows = replicate (S.b * S.k) empty;
      counts = replicate (S.b * S.k) 0;
      control = new_control;
    }

unfoldable pub set_up : Settings → State → Noted
set_up S σ = noted σ (set_up_number S σ) (cleared S σ)

-- one number for each bank, those of the b banks in use 0; the places from b on are 'not .. changed afterwards'
unfoldable pub zero_below : ℕ → List ℕ → List ℕ
zero_below b numbers = replicate b 0 ++ drop b numbers

-- 'tracker rows 65535, counts 0, `spill`, `acts`, `passed` 0. `head`, pointers and store remain.'
abbrev pub ticked : Settings → State → State
ticked S σ =
    record {
      store = σ.store;
      tables = σ.tables;
      rows = replicate (S.b * S.k) empty;
      counts = replicate (S.b * S.k) 0;
      control = record {
        head = σ.control.head;
        passed = 0;
        spill = zero_below S.b σ.control.spill;
        acts = zero_below S.b σ.control.acts;
      };
    }

unfoldable pub tick : Settings → State → Noted
tick S σ = noted σ (tick_number S σ) (ticked S σ)

-- ---- read and write answer a `Reply`

-- buffer: the read buffer afterwards; of a write nothing
pub record Accessed : Type 0 where
  pub state : State
  pub answer : Reply
  pub buffer : List ℕ

-- what an accepted access of row r answers: 'An answer gives p, the slot moved to or none, and the row sent home or none.' 'The
-- tracker shall give, and the access shall hand on, the estimate after the access' (document 02, Ask 2)
abbrev pub served : Settings → State → ℕ → Served
served S σ r = record { place = physical (place S σ r); estimate = (tracked S σ r).estimate; moved = move S σ r }

-- an access of row r with that number: the effect where it is 0, and where it is not 'Control record and all lent memory
-- remain as before the call, the read buffer too'. store: the store after step 3; filled: the buffer if it is accepted
unfoldable pub accessed : Settings → State → ℕ → ℕ → List ℕ → List ℕ → List ℕ → Accessed
accessed S σ r number store filled buffer =
    record {
      state = cond (eqb number 0) (state_after S σ r store) σ;
      answer = cond (eqb number 0) (Ok (served S σ r)) (Err number);
      buffer = cond (eqb number 0) filled buffer;
    }

-- 'Read takes a row and a buffer of exactly W bytes, which it fills.'
unfoldable pub read : Settings → State → ℕ → List ℕ → Accessed
read S σ r buffer =
    accessed S σ r (access_number S σ (read_asked S r (length buffer)))
    σ.store
    (row_bytes S.w σ.store (place S σ r)) buffer

-- 'Write takes a row, a column and bytes; column plus count may be at most W.'
unfoldable pub write : Settings → State → ℕ → ℕ → List ℕ → Accessed
write S σ r column bytes =
    accessed S σ r (access_number S σ (write_asked S r column (length bytes)))
    (written S.w σ.store (place S σ r) column bytes)
    [] []

-- ---- inspect answers `inspect_number` by one call and this part by the other

-- 'the part of the lent store that holds the row at present'; 'the part has length 0 exactly when the number isn't 0'
unfoldable pub inspect_part : Settings → State → ℕ → List ℕ
inspect_part S σ r = cond (eqb (inspect_number S σ r) 0) (row_bytes S.w σ.store (place S σ r)) []
