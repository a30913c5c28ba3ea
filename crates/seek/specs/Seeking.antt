-- What the head skips, computed before step 2 is done.
-- Assumes nothing.
use Rattle.std.specs.Prelude.{ℕ, ◌-◌, ◌*◌, ◌<◌, ◌≤◌, ◌≡◌, ◌≢◌, Bool, false, cond, not, ◌||◌, List, ltb, eqb, length, get_or, set}
use Rattle.geometry.specs.declared.Settings.{Settings}
use Rattle.geometry.specs.Numbering.{slot_row}
use Rattle.geometry.specs.Entry.{empty}
use Rattle.basics.specs.Portions.{portion}
use Rattle.banks.specs.Banks.{bank_of}
use Rattle.tracking.specs.Worn.{worn}
use Rattle.engine.specs.Round.{skipped_of}

-- The entry `changed`, of the entries of all banks, is the one that step 2 will change: after it that entry names the place of
-- the access, and no other slot than the row's own. So it is left out here: whether physical row x is worn, by the other entries
-- of its bank
abbrev pub worn_before : Settings → ℕ → List ℕ → List ℕ → ℕ → Bool
worn_before S changed rows counts x =
    worn S.a (portion S.k (bank_of S x) (set rows changed empty)) (portion S.k (bank_of S x) counts) x

-- the head skips slot s (entry: the row's forward entry)
abbrev pub skips_before : Settings → ℕ → ℕ → List ℕ → List ℕ → ℕ → Bool
skips_before S entry changed rows counts s = eqb entry s || worn_before S changed rows counts (slot_row S s)

-- of all slots from `head` on, how many are skipped
abbrev pub skipped_before : Settings → ℕ → ℕ → ℕ → List ℕ → List ℕ → ℕ
skipped_before S head entry changed rows counts = skipped_of (skips_before S entry changed rows counts) S.q S.q head

-- what the search asks of the settings and the tracker
pub record Seekable (S : Settings) (changed : ℕ) (rows counts : List ℕ) : Type 0 where
  pub slots_few : S.q ≤ 5500
  pub rows_few : S.n ≤ 60000
  pub some_bank : 1 ≤ S.b
  pub rows_long : length rows ≡ S.b * S.k
  pub counts_long : length counts ≡ S.b * S.k
  pub within : changed < length rows

-- what one entry of bank c does to the marks of the slots: it sets the mark of the slot whose physical row it names,
-- where it names one of its bank
abbrev pub marked_by : Settings → ℕ → ℕ → Bool → List Bool → List Bool
marked_by S c name is marks = cond (ltb name S.n || not (eqb (bank_of S name) c)) marks (set marks (name - S.n) is)

-- the entries of bank c have made the marks `after` of the marks `before`: those of the slots of bank c are right, the
-- others are as before
pub record MarkedIn (S : Settings) (changed : ℕ) (rows counts : List ℕ) (c : ℕ) (before after : List Bool) : Type 0 where
  pub long : length after ≡ length before
  pub told : (s : ℕ) → s < S.q → bank_of S (slot_row S s) ≡ c → get_or after s false ≡ worn_before S changed rows counts (slot_row S s)
  pub others : (s : ℕ) → s < S.q → bank_of S (slot_row S s) ≢ c → get_or after s false ≡ get_or before s false

-- each slot's mark tells whether it is worn, by the entries but the changed one
pub record Marked (S : Settings) (changed : ℕ) (rows counts : List ℕ) (marks : List Bool) : Type 0 where
  pub enough : S.q ≤ length marks
  pub told : (s : ℕ) → s < S.q → get_or marks s false ≡ worn_before S changed rows counts (slot_row S s)
