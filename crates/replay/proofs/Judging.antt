-- What is judged of a trace before its steps are run. Assumes nothing.
use Prim.Native.Nat.{ℕ, ◌+◌, ◌*◌, ◌<◌, ◌≤◌}
use native.Mathlib.Nat.{mul-le-mul, add-le-add}
use mathlib.Core.Path.{◌≡◌, refl, sym, ◌∙◌}
use mathlib.Core.Logic.{◌≢◌}
use mathlib.Core.Bool.{true, false}
use mathlib.Core.List.{List, []}
use Rattle.std.specs.Prelude.{Option}
use borrow.Author.Tests.{ne_eqb, le-leb, lt-leb}
use Rattle.geometry.specs.declared.Settings.{Settings}
use Rattle.conditions.specs.Conditions.{ranges_hold}
use Rattle.conditions.proofs.Facts.{ranges_facts}
use Rattle.engine.specs.Ladder.{settings_number}
use Rattle.engine.proofs.Facts.{settings_facts}
use Rattle.trace_file.specs.Form.{Recorded, trace_in, is_empty_trace, most_numbers, trace_within}
use Rattle.trace_file.proofs.Sections.{enough_room}
use Rattle.lines.specs.declared.Line.{Line}
use Rattle.lines.specs.Lines.{bare}
use Rattle.line_text.specs.LineText.{line_bytes}
use Rattle.trace_steps.specs.Steps.{widest, run_lines}
use Rattle.replay.specs.Memory.{store_bytes, tracker_entries, lent, memory_fits, most_rows, most_slots}
use Rattle.replay.specs.Replay.{page_room, refused_line, played, played_form, replayed, printed_on}

-- ---- the settings, and the size of the memory

module _ (S : Settings) where
  pub ranges_accepted : settings_number S ≡ 0 → ranges_hold S ≡ true
  ranges_accepted h = (settings_facts S h).0

  pub store_bound : settings_number S ≡ 0 → store_bytes S ≤ (most_rows + most_slots) * widest
  store_bound h =
      let R = ranges_facts S (ranges_accepted h) in
      mul-le-mul (add-le-add R.n_high R.q_high) R.w_high

  pub entries_bound : settings_number S ≡ 0 → tracker_entries S ≤ 16 * 4096
  entries_bound h =
      let R = ranges_facts S (ranges_accepted h) in
      mul-le-mul R.b_high R.k_high

  module _ (steps : List ℕ) where
    pub settings-refused : {number : ℕ} {line : Line} → number ≡ settings_number S → number ≢ 0 → line ≡ bare number
        → line_bytes 0 line ≡ played S steps
    unfolding played
    settings-refused {number} e h shown = rw (shown, ← e, ne_eqb number 0 h) refl

    pub played_refused : settings_number S ≢ 0 → played S steps ≡ line_bytes 0 (bare (settings_number S))
    played_refused h = sym (settings-refused refl h refl)

    pub memory_refused : settings_number S ≡ 0 → memory_fits S ≡ false → refused_line ≡ played S steps
    unfolding played
    memory_refused e h = rw (e, h) refl

    pub all_run : settings_number S ≡ 0 → memory_fits S ≡ true → run_lines S (lent S) steps ≡ played S steps
    unfolding played
    all_run e h = rw (e, h) refl

-- ---- what is printed for a file

module _ (text : List ℕ) where
  pub empty-replayed : is_empty_trace text ≡ true → replayed text ≡ []
  unfolding replayed
  empty-replayed e = rw e refl

  pub form_replayed : {said : Option Recorded} → is_empty_trace text ≡ false → trace_in text ≡ said
      → replayed text ≡ played_form said
  unfolding replayed
  form_replayed e f = rw (e, f) refl

-- ---- the page

module _ (text : List ℕ) {room : ℕ} where
  pub page_short : room < page_room → [] ≡ printed_on room text
  unfolding printed_on
  page_short h = rw (lt-leb page_room room h) refl

  module _ (wide : page_room ≤ room) where
    pub page_wide : printed_on room text ≡ replayed text
    unfolding printed_on
    page_wide = rw (le-leb page_room room wide) refl

    pub page_blank : is_empty_trace text ≡ true → [] ≡ printed_on room text
    page_blank e = sym (page_wide ∙ empty-replayed text e)

    -- the page has room for all lines, and the list of numbers for every trace
    pub page_long : {places : ℕ} {said : Option Recorded} → is_empty_trace text ≡ false → most_numbers ≤ places
        → said ≡ trace_within places text → played_form said ≡ printed_on room text
    page_long {places} e long f = sym (page_wide ∙ form_replayed text e (sym (f ∙ enough_room text places long)))
