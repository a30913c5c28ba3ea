-- Document 02, Ask 5: the banks of a rank.
-- Assumes nothing.
use Rattle.std.specs.Prelude.{ℕ, ◌%◌, get_or, set}
use Rattle.geometry.specs.declared.Settings.{Settings}
use Rattle.geometry.specs.declared.Control.{Control}
use Rattle.geometry.specs.declared.Ring.{Ring}
use Rattle.banks.specs.declared.Bank.{Bank}

-- the banks for which the control record has places
abbrev pub most_banks : ℕ
most_banks = 16

-- 'Physical row p belongs to bank p mod B.'
unfoldable pub bank_of : Settings → ℕ → ℕ
bank_of S p = p % S.b

-- bank c with its numbers, 'the control record holds `spill` and `acts` for each bank'
abbrev pub bank_with : Control → ℕ → Bank
bank_with control c = record { index = c; spill = get_or control.spill c 0; acts = get_or control.acts c 0 }

-- the control record with another `head` and `passed`, and other numbers of one bank
abbrev pub with_bank : Control → Ring → Bank → Control
with_bank control ring bank =
    record {
      head = ring.head;
      passed = ring.passed;
      spill = set control.spill bank.index bank.spill;
      acts = set control.acts bank.index bank.acts;
    }
