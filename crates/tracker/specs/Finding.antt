-- What step 2 finds in the tables, and what the code asks to find it and to follow it.
-- Assumes nothing.
use Rattle.std.specs.Prelude.{ℕ, suc, ◌+◌, ◌*◌, ◌<◌, ◌≤◌, ◌≡◌, false, List, Option, IfSome, option_map, unwrap_or, ltb, length, get_or}
use Rattle.scan.specs.Scan.{some}
use Rattle.banks.specs.declared.Bank.{Bank}
use Rattle.basics.specs.Portions.{portion}
use Rattle.tracking.specs.Entry.{entry_found}
use Rattle.tracker.specs.declared.Update.{Update}

-- the entry that step 2 changes at place p of that bank, if any, each bank having k entries
abbrev pub entry_for : ℕ → Bank → ℕ → List ℕ → List ℕ → Option ℕ
entry_for k bank p rows counts = entry_found k bank.index p rows counts bank.spill

-- with that entry, what it changes
abbrev pub update_of : Option ℕ → List ℕ → Option Update
update_of entry counts = option_map (λ i. record { entry = i; estimate = suc (get_or counts i 0) }) entry

-- the entry that changes, and its estimate, 0 for none
abbrev pub entry_changed : Option Update → Option ℕ
entry_changed update = option_map (λ u. u.entry) update

abbrev pub estimate_told : Option Update → ℕ
estimate_told update = unwrap_or (option_map (λ u. u.estimate) update) 0

-- before it is looked for
pub record Findable (k : ℕ) (bank : Bank) (p : ℕ) (rows counts : List ℕ) : Type 0 where
  pub place_small : p < 65536
  pub in_rows : bank.index * k + k ≤ length rows
  pub in_counts : bank.index * k + k ≤ length counts
  -- a count of the bank can rise by 1
  pub counts_small : some (λ count. ltb 4294967294 count) (portion k bank.index counts) ≡ false

-- before its estimate is computed: the count of the entry, if any, can rise by 1
abbrev pub Countable : Option ℕ → List ℕ → Type 0
Countable entry counts = IfSome entry (λ i. (i < length counts) × (get_or counts i 0 < 4294967295))

-- before it is followed: the entry that it changes, if any, lies in the tables
pub record Followable (update : Option Update) (p : ℕ) (rows counts : List ℕ) : Type 0 where
  pub place_small : p < 65536
  pub inside : IfSome update (λ u. (u.entry < length rows) × (u.entry < length counts))
