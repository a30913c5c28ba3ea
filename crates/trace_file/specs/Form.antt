-- Document 01, 'Trace program': the form of a trace file, with document 02, Ask 5, on the number of banks. Document 02, Ask 1:
-- the empty trace, which has no form.
-- Assumes nothing.
use Rattle.std.specs.Prelude.{ℕ, ◌+◌, ◌-◌, ◌≤◌, Bool, cond, ◌&&◌, ◌||◌, List, eqb, leb, length, get_or, take, drop}
use Rattle.std.specs.Prelude.{Option, None, Some, IfSome}
use Rattle.std.specs.Option.{option_map}
use Rattle.geometry.specs.declared.Settings.{Settings}
use Rattle.trace_file.specs.declared.Trace.{Trace}
use Rattle.number_text.specs.Numbers.{blank, numbers, readable}

-- what a trace file says
pub record Recorded : Type 0 where
  pub settings : Settings
  pub steps : List ℕ

-- ---- 'in two sections, each after its count'

-- the first count: how many settings there are
abbrev pub first_count : List ℕ → ℕ
first_count xs = get_or xs 0 0

-- the second count stands after the settings
abbrev pub second_count : List ℕ → ℕ
second_count xs = get_or xs (first_count xs + 1) 0

-- where the steps begin: after the settings and both counts
abbrev pub steps_at : List ℕ → ℕ
steps_at xs = first_count xs + 2

-- 'A trace whose first count is 6 .. with 7 ..' (document 02, Ask 5)
abbrev pub is_first_count : ℕ → Bool
is_first_count x = eqb x 6 || eqb x 7

-- 'First 6 and N Q W K A L; then n (0 to 4,096) and n steps.'
unfoldable pub has_sections : List ℕ → Bool
has_sections xs =
    is_first_count (first_count xs) && leb (second_count xs) 4096 && eqb (length xs) (steps_at xs + second_count xs)

-- 'A trace whose first count is 6 has B = 1; with 7 the seventh number is B.' (document 02, Ask 5)
unfoldable pub banks_in : List ℕ → ℕ
banks_in xs = cond (eqb (first_count xs) 6) 1 (get_or xs 7 0)

-- 'N Q W K A L', after the first count, and B
abbrev pub settings_of : List ℕ → Settings
settings_of xs =
    record {
      n = get_or xs 1 0;
      q = get_or xs 2 0;
      w = get_or xs 3 0;
      k = get_or xs 4 0;
      a = get_or xs 5 0;
      l = get_or xs 6 0;
      b = banks_in xs;
    }

-- what the numbers are: None where they are not in two sections, else the settings, and where the steps begin and end
abbrev pub form_of : List ℕ → Option Trace
form_of xs =
    let trace : Trace = record { settings = settings_of xs; start = steps_at xs; end = steps_at xs + second_count xs } in
    cond (has_sections xs) (Some trace) None

-- what a form says, with the list in which the steps stand
abbrev pub recorded : Option Trace → List ℕ → Option Recorded
recorded form list =
    let stand : Trace → List ℕ = λ trace. take (trace.end - trace.start) (drop trace.start list) in
    option_map (λ trace. record { settings = trace.settings; steps = stand trace }) form

-- what the numbers say; None where they are not in two sections
abbrev pub sections : List ℕ → Option Recorded
sections xs =
    cond (has_sections xs)
    (Some (record { settings = settings_of xs; steps = take (second_count xs) (drop (steps_at xs) xs) }))
    None

-- ---- files

-- 'File at most 65,536 bytes'
abbrev pub file_fits : List ℕ → Bool
file_fits text = leb (length text) 65536

-- the form of a file
unfoldable pub form_in : List ℕ → Option Trace
form_in text = cond (file_fits text && readable text) (form_of (numbers text)) None

-- what a file says; None where its form is refused
unfoldable pub trace_in : List ℕ → Option Recorded
trace_in text = cond (file_fits text && readable text) (sections (numbers text)) None

-- 'A file of no bytes, or of blanks and newlines alone within 01's file length' (document 02, Ask 1)
unfoldable pub is_empty_trace : List ℕ → Bool
is_empty_trace text = file_fits text && blank text

-- ---- read into a list of `room` places

-- the numbers of the longest trace: two counts, seven settings and 4,096 steps
abbrev pub most_numbers : ℕ
most_numbers = 4105

-- with fewer places than that the file is refused
unfoldable pub form_within : ℕ → List ℕ → Option Trace
form_within room text = cond (leb most_numbers room) (form_in text) None

-- what is then said
unfoldable pub trace_within : ℕ → List ℕ → Option Recorded
trace_within room text = cond (leb most_numbers room) (trace_in text) None

-- ---- where the steps stand

-- within the numbers of the longest trace
abbrev pub StepsWithin : Option Trace → Type 0
StepsWithin form =
    IfSome form
    (λ trace. (trace.start ≤ 9) × (trace.start ≤ trace.end) × (trace.end - trace.start ≤ 4096))
