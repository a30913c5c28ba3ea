-- No figure of demand 3 (`Demand3`), or of a stretch over one tick (`Window`), can be lowered: for every A and every B
-- there are settings and a list of calls that reach it. The proof is `tight` of proofs/Tight.antt.
-- `bin/witness` reads the settings and the lists from this file and writes them as traces. So each stands on one line,
-- with its arguments named a and b, and in `AllReached` each figure has its `Reached (..) (..)` on one line.
-- Assumes nothing.
use Rattle.std.specs.Prelude.{ℕ, zero, suc, ◌+◌, ◌-◌, ◌*◌, ◌/◌, ◌≤◌, ◌≡◌, List, [], ◌∷◌, ◌++◌, map, replicate}
use Rattle.geometry.specs.declared.Settings.{Settings}
use Rattle.geometry.specs.Numbering.{home_row, slot_row}
use Rattle.banks.specs.Banks.{most_banks}
use Rattle.engine.specs.State.{State}
use Rattle.engine.specs.Calls.{set_up}
use Rattle.history.specs.Tally.{start, Stretch, openings_in, quarantines_in, epochs}
use Rattle.basics.specs.Lists.{Some}
use Rattle.history.specs.Run.{read, access, Call, rank, tick, Event, events, report_of}
use Rattle.history.specs.Window.{ticks_in, stretch_of}

-- ---- lists, written in parts

pub data Part : Type 0 where
  -- a row that is read so many times on end
  reads : (row times : ℕ) → Part
  -- a tick
  ticks : Part

-- a row has one byte in the settings below, and so has a read's buffer
abbrev pub read_of : ℕ → Call
read_of r = rank (access (read r (0 ∷ [])))

abbrev pub calls_of : List Part → List Call
calls_of [] = []
calls_of (reads r n ∷ parts) = replicate n (read_of r) ++ calls_of parts
calls_of (ticks ∷ parts) = tick ∷ calls_of parts

-- ---- Openings. A row whose place no other access of the epoch has opened is quarantined with the A-th of its reads. With
-- any number of banks the lists do the same: none reads at more places in an epoch than a bank has tracker entries.

-- two slots, and two tracker entries for each bank
abbrev pub two_slots : ℕ → ℕ → Settings
two_slots b a = record { n = 3; q = 2; w = 1; k = 2; a = a; l = 2 * a; b = b }

-- rows 0 and 1 go to slots 0 and 1
abbrev pub two_filled : ℕ → List Part
two_filled a = reads 0 a ∷ reads 1 a ∷ ticks ∷ []

-- A home row is opened A + 2 times: it gets its row back, is read A times, and is copied away. Row 2 goes to slot 0, so that
-- row 0 is sent home, and then row 0 to slot 1.
abbrev pub home_parts : ℕ → List Part
home_parts a = reads 2 a ∷ reads 0 a ∷ []

-- A slot is opened A + 3 times: its row is read A − 1 times and sent home, and the row that it gets is read once and copied
-- away. Row 0 is read in slot 0, row 2 goes to slot 0, and then to slot 1.
abbrev pub slot_parts : ℕ → List Part
slot_parts a = reads 0 (a - 1) ∷ reads 2 a ∷ reads 2 1 ∷ []

-- Over one tick a slot is opened 2A + 5 times: A + 3 times before the tick, as above, which leaves it empty; then it gets a
-- row, which is read A times and copied away. Row 0 goes to slot 0, and then to slot 1.
abbrev pub slot_parts_over : ℕ → List Part
slot_parts_over a = slot_parts a ++ ticks ∷ reads 0 a ∷ reads 0 a ∷ []

-- three slots, and three tracker entries for each bank
abbrev pub three_slots : ℕ → ℕ → Settings
three_slots b a = record { n = 4; q = 3; w = 1; k = 3; a = a; l = 3 * a; b = b }

-- rows 0, 1 and 2 go to slots 0, 1 and 2
abbrev pub three_filled : ℕ → List Part
three_filled a = reads 0 a ∷ reads 1 a ∷ reads 2 a ∷ ticks ∷ []

-- Over one tick a home row is opened 2A + 4 times, A + 2 times in each epoch. Row 3 goes to slot 0, so that row 0 is sent
-- home, then row 0 to slot 1 and row 1 to slot 2; after the tick row 2 goes to slot 0, and row 3 to slot 1, so that row 0 is
-- sent home again, and then row 0 to slot 2.
abbrev pub home_parts_over : ℕ → List Part
home_parts_over a = reads 3 a ∷ reads 0 a ∷ reads 1 a ∷ ticks ∷ reads 2 a ∷ reads 3 a ∷ reads 0 a ∷ []

-- ---- Quarantines, and a 9. An epoch can have B × floor(L / A) quarantines, here 2B; the slots are one less than twice as
-- many.

-- row i and slot i, which is physical row 4B + i, are of one bank
abbrev pub one_short : ℕ → ℕ → Settings
one_short b a = record { n = 4 * b; q = 4 * b - 1; w = 1; k = 2; a = a; l = 2 * a; b = b }

-- the rows from r on, m of them, each read n times
abbrev pub each_read : ℕ → ℕ → ℕ → List Part
each_read n r zero = []
each_read n r (suc m) = reads r n ∷ each_read n (suc r) m

-- rows 0 to 2B − 1 go to the slots of their numbers: 2B quarantines
abbrev pub short_filled : ℕ → ℕ → List Part
short_filled b a = each_read a 0 (2 * b) ++ ticks ∷ []

-- In the next epoch each of them but the last leaves its slot worn and goes to one of the 2B − 1 slots after these. The last
-- would pass the worn slots and its own, and go on to the next: `passed` is 2B − 1, and its rise 2B + 1.
abbrev pub nine_parts : ℕ → ℕ → List Part
nine_parts b a = each_read a 0 (2 * b)

-- ---- the claim

-- set-up accepts the settings, and then what the calls answer is as P says, whatever memory was lent
pub record Witness (S : Settings) (parts : List Part) (P : List Event → Type 0) : Type 0 where
  pub accepts : (σ : State) × ((set_up S σ).number ≡ 0)
  pub reached : (σ : State) → (set_up S σ).number ≡ 0 → P (events S (set_up S σ).state (calls_of parts))

-- of some epoch, by 01's tally
abbrev pub SomeEpoch : Settings → (Stretch → Type 0) → List Event → Type 0
SomeEpoch S P es = Some P (epochs S start start (map report_of es))

-- some stretch over one tick opens physical row p so many times
pub record OverOneTick (S : Settings) (p figure : ℕ) (es : List Event) : Type 0 where
  pub before : List Event
  pub during : List Event
  pub cut : es ≡ before ++ during
  pub one : ticks_in (map report_of during) ≡ 1
  pub opened : openings_in (stretch_of S (map report_of before) (map report_of during)) p ≡ figure

-- The figures of A and B. Reached S parts P: with the settings S the list told by the parts makes P hold of what is answered; of
-- the definitions that is `Witness`, of the C functions `WitnessServed` of crate `served`.
pub record AllReached (Reached : Settings → List Part → (List Event → Type 0) → Type 0) (b a : ℕ) : Type 0 where
  -- some epoch opens a home row, that of row 0, exactly A + 2 times
  pub home : Reached (two_slots b a) (two_filled a ++ home_parts a)
      (SomeEpoch (two_slots b a) (λ e. openings_in e (home_row 0) ≡ a + 2))
  -- some epoch opens a slot, slot 0, exactly A + 3 times
  pub slot : Reached (two_slots b a) (two_filled a ++ slot_parts a)
      (SomeEpoch (two_slots b a) (λ e. openings_in e (slot_row (two_slots b a) 0) ≡ a + 3))
  -- some stretch over one tick opens a home row exactly 2A + 4 times
  pub home_over_tick : Reached (three_slots b a) (three_filled a ++ home_parts_over a)
      (OverOneTick (three_slots b a) (home_row 0) (2 * a + 4))
  -- .. and a slot exactly 2A + 5 times
  pub slot_over_tick : Reached (two_slots b a) (two_filled a ++ slot_parts_over a)
      (OverOneTick (two_slots b a) (slot_row (two_slots b a) 0) (2 * a + 5))
  -- some epoch has exactly B × floor(L / A) quarantines
  pub quarantines : Reached (one_short b a) (short_filled b a)
      (SomeEpoch (one_short b a) (λ e. quarantines_in e ≡ b * ((one_short b a).l / a)))
  -- with Q one less than twice that an access gets 9
  pub nine : Reached (one_short b a) (short_filled b a ++ nine_parts b a)
      (Some (λ e. e.answer.number ≡ 9))
  pub nine_slots : (one_short b a).q + 1 ≡ 2 * (b * ((one_short b a).l / a))

-- for every B and every A that set-up accepts
abbrev pub TightBy : (Settings → List Part → (List Event → Type 0) → Type 0) → Type 0
TightBy Reached = (b a : ℕ) → 1 ≤ b → b ≤ most_banks → 1 ≤ a → a ≤ 65535 → AllReached Reached b a

-- of the definitions
abbrev pub Tight : Type 0
Tight = TightBy Witness
