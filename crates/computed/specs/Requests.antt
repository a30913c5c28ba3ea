-- Document 02: cases of Asks 1, 2 and 4; and what 01's tally makes of 01's session.
-- Assumes nothing.
use Rattle.std.specs.Prelude.{ℕ, List, [], ◌∷◌}
use Rattle.computed.specs.Case.{Lent, Case, trace, estimates, tallies, reads, settings_of, lent_of}

-- document 02, Ask 1: 'A file of no bytes, or of blanks and newlines alone .. shall .. print nothing. A file with a first count
-- and no second section is refused as before.'
abbrev pub empty_traces : List Case
empty_traces =
    trace "" []
    ∷ trace " " []
    ∷ trace "\n" []
    ∷ trace " \n\n   \n" []
    ∷ trace "6" ("trace refused" ∷ [])
    ∷ trace "6 4 2 1 2 2 5" ("trace refused" ∷ [])
    ∷ trace "\t" ("trace refused" ∷ [])
    -- a trace with settings and no steps, as before
    ∷ trace "6 4 2 1 2 2 5 0" []
    ∷ trace "6 0 0 0 0 0 0 0" ("0 1 - - -" ∷ [])
    ∷ []

-- document 02, Ask 2: 'the estimate after the access, or 0 where only `spill` rose'; 0 too in a refusal and for a tick
abbrev pub answered_estimates : List Case
answered_estimates =
    -- 01's session. At steps 5 and 12 only `spill` rises; 6 and 11 are refused; 7 and 13 are ticks
    estimates (settings_of 4 2 1 2 2 5)
    (1 ∷ 1 ∷ 1 ∷ 1 ∷ 1 ∷ 1 ∷ 65535 ∷ 1 ∷ 1 ∷ 2 ∷ 2 ∷ 3 ∷ 65535 ∷ 3 ∷ 3 ∷ 2 ∷ 2 ∷ [])
    (1 ∷ 2 ∷ 1 ∷ 2 ∷ 0 ∷ 0 ∷ 0 ∷ 1 ∷ 2 ∷ 1 ∷ 0 ∷ 0 ∷ 0 ∷ 1 ∷ 2 ∷ 1 ∷ 2 ∷ [])
    -- one entry: row 2 takes it from row 0 with `spill` + 1, so that its estimate exceeds its accesses by `spill`
    ∷ estimates (settings_of 3 2 1 1 3 5) (0 ∷ 1 ∷ 2 ∷ 2 ∷ []) (1 ∷ 0 ∷ 2 ∷ 3 ∷ [])
    ∷ []

-- 01's tally of 01's session, worked out by hand, with Ask 4 in force. Slots 0 and 1 are physical rows 4 and 5. In the first epoch
-- row 1 is read twice at home and copied to slot 0 (its home is opened 3 times, the slot once), read twice there and copied to slot 1
-- (4 times, once), and read there (twice). In the second it is read twice in slot 1 and copied to slot 0 (3 times, once); rows 2
-- and 3 are read at home. In the third row 3 is read twice at home and copied to slot 1 (3 times, once), and row 2 is read twice at
-- home and copied to slot 0 (3 times), whose row, row 1, is sent home before (the slot twice, row 1's home once)
abbrev pub tallied_session : List Case
tallied_session =
    tallies (settings_of 4 2 1 2 2 5)
    (1 ∷ 1 ∷ 1 ∷ 1 ∷ 1 ∷ 1 ∷ 65535 ∷ 1 ∷ 1 ∷ 2 ∷ 2 ∷ 3 ∷ 65535 ∷ 3 ∷ 3 ∷ 2 ∷ 2 ∷ [])
    (
    (0 ∷ 3 ∷ 0 ∷ 0 ∷ 4 ∷ 2 ∷ 2 ∷ [])
    ∷ (0 ∷ 0 ∷ 1 ∷ 1 ∷ 1 ∷ 3 ∷ 1 ∷ [])
    ∷ (0 ∷ 1 ∷ 3 ∷ 3 ∷ 2 ∷ 1 ∷ 2 ∷ [])
    ∷ []
    )
    ∷ []

-- A is 2 and slot s is physical row 4 + s; row 0 stands at home, and the next access of it is its second
abbrev pub at_home : List ℕ → List ℕ → ℕ → ℕ → Lent
at_home rows counts head passed =
    let none : List ℕ = 65535 ∷ 65535 ∷ 65535 ∷ 65535 ∷ [] in
    lent_of (settings_of 4 4 1 4 2 9) none none (0 ∷ rows) (1 ∷ counts) head passed (8 ∷ [])

-- row 0 stands in slot 0
abbrev pub in_slot : List ℕ → List ℕ → Lent
in_slot rows counts =
    let first : List ℕ = 0 ∷ 65535 ∷ 65535 ∷ 65535 ∷ [] in
    lent_of (settings_of 4 4 1 4 2 9) first first (4 ∷ rows) (1 ∷ counts) 0 0 (8 ∷ [])

-- document 02, Ask 4: 'The head shall pass every slot whose physical row has, in the lowest entry naming it, a tracker count of
-- A or more after step 2, as well as the moving row's own slot.'
abbrev pub worn_slots : List Case
worn_slots =
    -- slot 0 has count A and is passed, slot 1 has count A - 1 and is not
    reads (at_home (4 ∷ 5 ∷ 65535 ∷ []) (2 ∷ 1 ∷ 0 ∷ []) 0 0) 0 (0 ∷ 1 ∷ 65535 ∷ 2 ∷ 2 ∷ [])
    -- round Q: slots 3 and 0 are passed
    ∷ reads (at_home (4 ∷ 7 ∷ 65535 ∷ []) (3 ∷ 2 ∷ 0 ∷ []) 3 0) 0 (0 ∷ 1 ∷ 65535 ∷ 2 ∷ 3 ∷ [])
    -- `passed` and the rise are Q exactly; one more is too many
    ∷ reads (at_home (4 ∷ 7 ∷ 65535 ∷ []) (3 ∷ 2 ∷ 0 ∷ []) 3 1) 0 (0 ∷ 1 ∷ 65535 ∷ 2 ∷ 4 ∷ [])
    ∷ reads (at_home (4 ∷ 7 ∷ 65535 ∷ []) (3 ∷ 2 ∷ 0 ∷ []) 3 2) 0 (9 ∷ 65535 ∷ 65535 ∷ 3 ∷ 2 ∷ [])
    -- two entries name slot 0's physical row: the lowest decides
    ∷ reads (at_home (4 ∷ 4 ∷ 65535 ∷ []) (1 ∷ 2 ∷ 0 ∷ []) 0 0) 0 (0 ∷ 0 ∷ 65535 ∷ 1 ∷ 1 ∷ [])
    ∷ reads (at_home (4 ∷ 4 ∷ 65535 ∷ []) (2 ∷ 1 ∷ 0 ∷ []) 0 0) 0 (0 ∷ 1 ∷ 65535 ∷ 2 ∷ 2 ∷ [])
    -- the row's own slot stands at the head, has count A after step 2, and is passed
    ∷ reads (in_slot (65535 ∷ 65535 ∷ 65535 ∷ []) (0 ∷ 0 ∷ 0 ∷ [])) 0 (0 ∷ 1 ∷ 65535 ∷ 2 ∷ 2 ∷ [])
    -- every slot is worn after step 2
    ∷ reads (in_slot (5 ∷ 6 ∷ 7 ∷ []) (2 ∷ 2 ∷ 2 ∷ [])) 0 (9 ∷ 65535 ∷ 65535 ∷ 0 ∷ 0 ∷ [])
    -- two slots: the row's own and a worn one
    ∷ reads (lent_of (settings_of 2 2 1 2 1 2) (0 ∷ 65535 ∷ []) (0 ∷ 65535 ∷ []) (2 ∷ 3 ∷ []) (0 ∷ 1 ∷ []) 0 0 (1 ∷ [])) 0
    (9 ∷ 65535 ∷ 65535 ∷ 0 ∷ 0 ∷ [])
    -- tables that no history leaves: row 1 takes entry 0, so that the lowest entry that names slot 0's physical row is entry 1
    ∷ reads (lent_of (settings_of 2 2 1 2 1 2) (65535 ∷ 65535 ∷ []) (65535 ∷ 65535 ∷ []) (2 ∷ 2 ∷ []) (0 ∷ 1 ∷ []) 0 0 (1 ∷ [])) 1
    (0 ∷ 1 ∷ 65535 ∷ 0 ∷ 2 ∷ [])
    ∷ []
