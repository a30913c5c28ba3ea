-- Document 01: every case marked [p].
-- Assumes nothing.
use Prim.Native.String.{String}
use Rattle.std.specs.Prelude.{List, [], ◌∷◌, ◌++◌, map}
use Rattle.size_table.specs.Table.{sizes}
use Rattle.computed.specs.Case.{Case, size, activations, trace, settings, settings_of}

-- 'Input .. [p] prints:', with document 02, Ask 4: 'In 01's session line 11 becomes `11 9 - - -`, line 15 `15 0 3 1 -`,
-- line 16 `16 0 2 - -` and line 17 `17 0 2 0 1`.'
abbrev pub session_lines : List String
session_lines =
    "1 0 1 - -"
    ∷ "2 0 1 0 -"
    ∷ "3 0 4 - -"
    ∷ "4 0 4 1 -"
    ∷ "5 0 5 - -"
    ∷ "6 8 - - -"
    ∷ "7 0 - - -"
    ∷ "8 0 5 - -"
    ∷ "9 0 5 0 -"
    ∷ "10 0 2 - -"
    ∷ "11 9 - - -"
    ∷ "12 0 3 - -"
    ∷ "13 0 - - -"
    ∷ "14 0 3 - -"
    ∷ "15 0 3 1 -"
    ∷ "16 0 2 - -"
    ∷ "17 0 2 0 1"
    ∷ []

abbrev pub session : Case
session = trace "6 4 2 1 2 2 5 17 1 1 1 1 1 1 65535 1 1 2 2 3 65535 3 3 2 2" session_lines

-- every case marked [p]
abbrev pub table : List Case
table =
    -- 'a table of six pairs .., proved to agree with the first sum [p]'
    map size sizes
    ++ (
    -- 'With tREFI 7,800 and tRFC 350 the second sum is 1358404 [p]'
    activations (record { trefw = 64000000; trc = 45; trefi = 7800; trfc = 350 }) 1358404
    ∷ session
    -- 'with A = 2, K = 2, L = 5 is taken and L = 6 is refused 2 [p]'
    ∷ settings (settings_of 4 2 1 2 2 5) 0
    ∷ settings (settings_of 4 2 1 2 2 6) 2
    -- 'Q = 2 is taken, Q = 1 refused 1 [p]'
    ∷ settings (settings_of 4 2 1 2 2 5) 0
    ∷ settings (settings_of 4 1 1 2 2 5) 1
    ∷ []
    )
