-- Document 01, 'Trace program', with document 02, Ask 5, on banks: the memory that a trace is run on.
-- Assumes nothing.
use Rattle.std.specs.Prelude.{ℕ, ◌+◌, ◌*◌, ◌≡◌, Bool, ◌&&◌, leb, replicate}
use Rattle.geometry.specs.declared.Settings.{Settings}
use Rattle.engine.specs.State.{State, state_of, new_control}
use Rattle.engine.specs.Ladder.{settings_number}
use Rattle.engine.specs.Calls.{set_up}

-- '(N + Q) × W bytes'
abbrev pub store_bytes : Settings → ℕ
store_bytes S = (S.n + S.q) * S.w

-- 'Tracker buffers hold B × K entries' (document 02, Ask 5)
abbrev pub tracker_entries : Settings → ℕ
tracker_entries S = S.b * S.k

-- 'store .. all zero at start'; the rest is written by set-up
abbrev pub lent : Settings → State
lent S =
    state_of (replicate (store_bytes S) 0) (replicate S.n 0) (replicate S.q 0)
    (replicate (tracker_entries S) 0) (replicate (tracker_entries S) 0) new_control

-- set-up accepts it, with all settings that pass 1 and 2
abbrev pub SetUpAccepts : Type 0
SetUpAccepts = (S : Settings) → settings_number S ≡ 0 → (set_up S (lent S)).number ≡ 0

-- 'store at most 32,768 bytes'
abbrev pub most_store : ℕ
most_store = 32768

-- 'K × B above 4,096 prints `trace refused`' (document 02, Ask 5)
abbrev pub most_entries : ℕ
most_entries = 4096

-- .., 'judged with the store's size'
abbrev pub memory_fits : Settings → Bool
memory_fits S = leb (store_bytes S) most_store && leb (tracker_entries S) most_entries

-- the most that the ranges of N and Q allow
abbrev pub most_rows : ℕ
most_rows = 60000

abbrev pub most_slots : ℕ
most_slots = 5500
