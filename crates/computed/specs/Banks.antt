-- Document 02, Ask 5: cases of banks.
-- Assumes nothing.
use Rattle.std.specs.Prelude.{ℕ, List, [], ◌∷◌, replicate}
use Rattle.geometry.specs.declared.Settings.{Settings}
use Rattle.computed.specs.Marked.{session_lines}
use Rattle.computed.specs.Case.{Lent, Case, trace, reads, settings, settings_of, with_banks, by_bank, lent_of}

-- A trace with two banks, derived by hand from documents 01 and 02. 'Physical row p belongs to bank p mod B': rows 0 and 2 and
-- slots 0 and 2, which are physical rows 4 and 6, to bank 0; rows 1 and 3 and slot 1, physical row 5, to bank 1. Each bank has
-- one entry, A is 2 and L is 3
abbrev pub two_bank_trace : Case
two_bank_trace =
    trace "7 4 3 1 1 2 3 2 20 1 0 1 0 1 1 0 65535 1 1 0 0 65535 0 0 3 2 2 1 2" (
    -- bank 1's entry takes physical row 1 with count 1, and bank 0's physical row 0
    "1 0 1 - -"
    ∷ "2 0 0 - -"
    -- bank 1's count is 2, and row 1 moves to slot 0; so is bank 0's, and row 0 moves to slot 1. The head is at slot 2
    ∷ "3 0 1 0 -"
    ∷ "4 0 0 1 -"
    -- row 1 is in bank 0 now, whose entry has another row with count 2: `spill` becomes 1 and `acts` 3
    ∷ "5 0 4 - -"
    -- bank 0, the slot's, is full; bank 1, the home's, has had two accesses
    ∷ "6 8 - - -"
    -- row 0 is in bank 1 now: its `spill` becomes 1 and its `acts` 3. Bank 0, the home's, is full
    ∷ "7 0 5 - -"
    -- both trackers are as new, `passed` is 0, and the head stays
    ∷ "8 0 - - -"
    -- bank 0's entry takes physical row 4; with count 2 row 1 moves to slot 2. Slot 0 is worn, the head is there, `passed` is 1
    ∷ "9 0 4 - -"
    ∷ "10 0 4 2 -"
    -- bank 1's entry takes physical row 5; with count 2 row 0 would move: past slot 0, which is worn in the other bank, and past
    -- its own slot 1, to slot 2. That makes four slots of three
    ∷ "11 0 5 - -"
    ∷ "12 9 - - -"
    -- slot 0 is no longer worn; `passed` is 0, and the head stays
    ∷ "13 0 - - -"
    -- bank 1's entry takes physical row 5; with count 2 row 0 moves to slot 0. Slot 1 is worn, the head is there, `passed` is 1
    ∷ "14 0 5 - -"
    ∷ "15 0 5 0 -"
    -- row 3 finds bank 1's entry taken: `spill` becomes 1 and `acts` 3
    ∷ "16 0 3 - -"
    -- bank 0's entry takes physical row 2; with count 2 row 2 moves: past slot 1, which is worn in the other bank, to slot 2,
    -- from which row 1 is sent home. `passed` is 3
    ∷ "17 0 2 - -"
    ∷ "18 0 2 2 1"
    -- row 1 is in bank 1 now, which is full; bank 0, where it was, has had two accesses
    ∷ "19 8 - - -"
    -- row 2 is in slot 2, of bank 0, whose entry has another row: `spill` becomes 1 and `acts` 3
    ∷ "20 0 6 - -"
    ∷ []
    )

-- document 02, Ask 5: 'A trace whose first count is 6 has B = 1; with 7 the seventh number is B. K × B above 4,096 prints
-- `trace refused`, judged with the store's size.'
abbrev pub bank_traces : List Case
bank_traces =
    -- 01's session with a first count of 7 and one bank
    trace "7 4 2 1 2 2 5 1 17 1 1 1 1 1 1 65535 1 1 2 2 3 65535 3 3 2 2" session_lines
    ∷ two_bank_trace
    -- with a first count of 6 the seventh number is the second count
    ∷ trace "7 4 2 1 2 2 5 1 0" []
    ∷ trace "6 4 2 1 2 2 5 1 0" ("1 0 0 - -" ∷ [])
    -- B outside its range
    ∷ trace "7 4 2 1 2 2 5 0 0" ("0 1 - - -" ∷ [])
    ∷ trace "7 4 2 1 2 2 5 17 0" ("0 1 - - -" ∷ [])
    -- other first counts, and a first section alone
    ∷ trace "5 4 2 1 2 2 0" ("trace refused" ∷ [])
    ∷ trace "8 4 2 1 2 2 5 1 1 0" ("trace refused" ∷ [])
    ∷ trace "7 4 2 1 2 2 5 1" ("trace refused" ∷ [])
    -- K × B is 4,096, and 4,098: 4,097 is no product of a K and a B in range
    ∷ trace "7 4 2 1 2048 1 2048 2 0" []
    ∷ trace "7 4 2 1 2049 1 2049 2 0" ("trace refused" ∷ [])
    ∷ trace "7 4 2 1 4096 1 4096 16 1 0" ("trace refused" ∷ [])
    -- the settings are judged first
    ∷ trace "7 4 2 1 4096 1 4097 2 0" ("0 2 - - -" ∷ [])
    ∷ trace "7 4 1 1 4096 1 4096 2 0" ("0 1 - - -" ∷ [])
    ∷ []

-- two banks of two entries each; A is 2, and slot s is physical row 4 + s
abbrev pub two_banks : Settings
two_banks = with_banks 2 (settings_of 4 4 1 2 2 5)

-- row 0 stands at home, in bank 0, and the next access of it is its second (name, count: of bank 0's other entry; rows, counts:
-- of bank 1's entries)
abbrev pub banks_at_home : ℕ → ℕ → List ℕ → List ℕ → ℕ → Lent
banks_at_home name count rows counts head =
    let none : List ℕ = 65535 ∷ 65535 ∷ 65535 ∷ 65535 ∷ [] in
    lent_of two_banks none none (0 ∷ name ∷ rows) (1 ∷ count ∷ counts) head 0 (4 ∷ 4 ∷ [])

-- row 0 stands in slot 1, in bank 1, and of the entries only bank 0's first names a row (name, count: of that entry; spill, acts:
-- of the two banks; rest: of every other)
abbrev pub in_bank1 : ℕ → ℕ → List ℕ → List ℕ → ℕ → Lent
in_bank1 name count spill acts rest =
    record {
      settings = two_banks;
      forward = 1 ∷ 65535 ∷ 65535 ∷ 65535 ∷ [];
      reverse = 65535 ∷ 0 ∷ 65535 ∷ 65535 ∷ [];
      rows = name ∷ 65535 ∷ 65535 ∷ 65535 ∷ [];
      counts = count ∷ 0 ∷ 0 ∷ 0 ∷ [];
      head = 2;
      passed = 2;
      spill = by_bank spill rest;
      acts = by_bank acts rest;
    }

-- three banks of two entries each; row 0 stands in slot 0, physical row 5, in bank 2, no entry names a row, and the record's places
-- for other banks hold the largest number (acts: of the three)
abbrev pub in_bank2 : List ℕ → Lent
in_bank2 acts =
    record {
      settings = with_banks 3 (settings_of 5 4 1 2 2 5);
      forward = 0 ∷ 65535 ∷ 65535 ∷ 65535 ∷ 65535 ∷ [];
      reverse = 0 ∷ 65535 ∷ 65535 ∷ 65535 ∷ [];
      rows = replicate 6 65535;
      counts = replicate 6 0;
      head = 1;
      passed = 1;
      spill = by_bank (0 ∷ 0 ∷ 0 ∷ []) 4294967295;
      acts = by_bank acts 4294967295;
    }

-- document 02, Ask 5, on one access
abbrev pub in_banks : List Case
in_banks =
    -- 'Step 2 looks only at the entries of p's bank': bank 0's other entry has row 1's home with count 1, and row 1 is of bank 1
    reads (banks_at_home 1 1 (65535 ∷ 65535 ∷ []) (0 ∷ 0 ∷ []) 0) 1 (0 ∷ 65535 ∷ 65535 ∷ 0 ∷ 0 ∷ [])
    -- bank 0, that of row 0's home, has slot 1's physical row with count 1; the place is of bank 1
    ∷ reads (in_bank1 5 1 (0 ∷ 0 ∷ []) (1 ∷ 0 ∷ []) 0) 0 (0 ∷ 65535 ∷ 65535 ∷ 2 ∷ 2 ∷ [])
    -- 'Ask 4's count only at those of the slot's bank': bank 0 has slot 0's physical row with count A, or bank 1 has it
    ∷ reads (banks_at_home 4 2 (65535 ∷ 65535 ∷ []) (0 ∷ 0 ∷ []) 0) 0 (0 ∷ 1 ∷ 65535 ∷ 2 ∷ 2 ∷ [])
    ∷ reads (banks_at_home 65535 0 (65535 ∷ 4 ∷ []) (0 ∷ 2 ∷ []) 0) 0 (0 ∷ 0 ∷ 65535 ∷ 1 ∷ 1 ∷ [])
    -- both banks have slot 1's physical row: bank 1, the slot's, decides
    ∷ reads (banks_at_home 5 0 (5 ∷ 65535 ∷ []) (2 ∷ 0 ∷ []) 1) 0 (0 ∷ 2 ∷ 65535 ∷ 3 ∷ 2 ∷ [])
    ∷ reads (banks_at_home 5 2 (5 ∷ 65535 ∷ []) (0 ∷ 0 ∷ []) 1) 0 (0 ∷ 1 ∷ 65535 ∷ 2 ∷ 1 ∷ [])
    -- '8 looks at the bank of p': the slot's bank is full and the home's is not, and the contrary
    ∷ reads (in_bank1 65535 0 (0 ∷ 0 ∷ []) (0 ∷ 5 ∷ []) 0) 0 (8 ∷ 65535 ∷ 65535 ∷ 2 ∷ 2 ∷ [])
    ∷ reads (in_bank1 65535 0 (0 ∷ 0 ∷ []) (5 ∷ 0 ∷ []) 0) 0 (0 ∷ 65535 ∷ 65535 ∷ 2 ∷ 2 ∷ [])
    -- 'the conditions of 4 .. are per bank': bank 0 has more accesses than L, or a `spill` that exceeds them
    ∷ reads (in_bank1 65535 0 (0 ∷ 0 ∷ []) (6 ∷ 0 ∷ []) 0) 0 (4 ∷ 65535 ∷ 65535 ∷ 2 ∷ 2 ∷ [])
    ∷ reads (in_bank1 65535 0 (1 ∷ 0 ∷ []) (0 ∷ 1 ∷ []) 0) 0 (4 ∷ 65535 ∷ 65535 ∷ 2 ∷ 2 ∷ [])
    -- 'the record's places for banks from B on are .. not looked at'
    ∷ reads (in_bank1 65535 0 (0 ∷ 0 ∷ []) (0 ∷ 0 ∷ []) 4294967295) 0 (0 ∷ 65535 ∷ 65535 ∷ 2 ∷ 2 ∷ [])
    -- with three banks: the slot's bank is full, the two others are, and the slot's bank has more accesses than L
    ∷ reads (in_bank2 (0 ∷ 0 ∷ 5 ∷ [])) 0 (8 ∷ 65535 ∷ 65535 ∷ 1 ∷ 1 ∷ [])
    ∷ reads (in_bank2 (5 ∷ 5 ∷ 0 ∷ [])) 0 (0 ∷ 65535 ∷ 65535 ∷ 1 ∷ 1 ∷ [])
    ∷ reads (in_bank2 (0 ∷ 0 ∷ 6 ∷ [])) 0 (4 ∷ 65535 ∷ 65535 ∷ 1 ∷ 1 ∷ [])
    -- 'A new setting B, 1 to 16'; 'the check behind 2 .. per bank': B does not raise what L may be
    ∷ settings (with_banks 16 (settings_of 4 2 1 2 2 5)) 0
    ∷ settings (with_banks 17 (settings_of 4 2 1 2 2 5)) 1
    ∷ settings (with_banks 16 (settings_of 4 2 1 2 2 6)) 2
    ∷ []
