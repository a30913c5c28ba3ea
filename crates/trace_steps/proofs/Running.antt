-- The loop over the steps: what was printed, and the lines that are left, are the whole. Assumes nothing.
use Prim.Native.Nat.{ℕ, suc, ◌+◌, ◌-◌, ◌*◌, ◌<◌, ◌≤◌}
use native.Mathlib.Numerals.{add-one}
use native.Mathlib.Omega.{arith}
use mathlib.Core.Path.{◌≡◌, refl, sym, ◌∙◌, ap}
use mathlib.Core.List.{List, [], ◌∷◌, ◌++◌, append_assoc, append-nil}
use lib.ListN.{length, get_or, take, drop, drop_of_length-le}
use lib.Seq.{drop-cons}
use Rattle.geometry.specs.declared.Settings.{Settings}
use Rattle.engine.specs.State.{State, state_of}
use Rattle.engine.specs.Calls.{Noted, noted_of, set_up}
use Rattle.std.specs.Prelude.{Result, Ok, Err}
use Rattle.std.specs.Result.{result_unwrap_or}
use Rattle.refusals.specs.declared.Refusal.{Refusal}
use Rattle.geometry.specs.declared.Control.{Control}
use Rattle.epoch.specs.After.{control_after}
use Rattle.page.specs.Put.{Put}
use Rattle.lines.specs.declared.Line.{Line}
use Rattle.line_text.specs.LineText.{line_bytes}
use Rattle.trace_steps.specs.declared.Stepped.{Stepped}
use Rattle.trace_steps.specs.Steps.{line_room, stepped_of, stepped, steps_from, lines_from, run_lines}

-- the record after a set-up is what is taken of its answer
taken_over : (before : Control) (answer : Result Control Refusal) → result_unwrap_or answer before ≡ control_after before answer
taken_over before (Ok after) = refl
taken_over before (Err e) = refl

-- two states of one memory
pub record SameLengths (σ τ : State) : Type 0 where
  pub store : length σ.store ≡ length τ.store
  pub forward : length σ.tables.forward ≡ length τ.tables.forward
  pub reverse : length σ.tables.reverse ≡ length τ.tables.reverse
  pub rows : length σ.rows ≡ length τ.rows
  pub counts : length σ.counts ≡ length τ.counts

-- after i steps, which printed `at` bytes and left σ
pub record Running (S : Settings) (start : State) (steps : List ℕ) (σ : State) (page : List ℕ) (at i : ℕ) : Type 0 where
  pub within : i ≤ length steps
  pub room : at ≤ line_room * i
  pub whole : lines_from 1 (steps_from S start steps) ≡ take at page ++ lines_from (suc i) (steps_from S σ (drop i steps))

-- a step less is left
pub still_less : {n i : ℕ} → i < n → n - (i + 1) < n - i
still_less h = omega arith

module _ (S : Settings) where
  lines_cons : (σ : State) (x i : ℕ) (xs : List ℕ) → lines_from i (steps_from S σ (x ∷ xs))
      ≡ line_bytes i (stepped S σ x).line ++ lines_from (suc i) (steps_from S (stepped S σ x).state xs)
  unfolding lines_from steps_from stepped
  lines_cons σ x i xs = refl

  lines_nil : (σ : State) (i : ℕ) → lines_from i (steps_from S σ []) ≡ []
  unfolding lines_from steps_from
  lines_nil σ i = refl

  -- the lines from step i on: its own, and the rest
  next_line : (σ after : State) (steps : List ℕ) (i : ℕ) (line : Line) → i < length steps
      → stepped_of after line ≡ stepped S σ (get_or steps i 0)
      → lines_from (suc i) (steps_from S σ (drop i steps))
      ≡ line_bytes (suc i) line ++ lines_from (suc (suc i)) (steps_from S after (drop (suc i) steps))
  next_line σ after steps i line h e = rw (drop-cons steps i 0, lines_cons, ← e) refl

  pub running_none : {start : State} {steps page : List ℕ} → Running S start steps start page 0 0
  running_none = record { within = omega arith; room = omega arith; whole = refl }

  -- there is room for one line more
  pub room_left : {start σ : State} {steps page : List ℕ} {at i room : ℕ} → Running S start steps σ page at i
      → i < length steps → line_room * length steps ≤ room → length page ≡ room → at + line_room ≤ length page
  room_left r h long same = omega (arith, r.room)

  -- what was printed is within the page
  pub all_short : {start σ : State} {steps page : List ℕ} {at i room : ℕ} → Running S start steps σ page at i
      → line_room * length steps ≤ room → at ≤ room
  all_short r long = omega (arith, r.room, r.within)

  -- the lists and r: what step i left and shows
  pub running_more : {start σ : State} {store forward reverse rows counts steps page next : List ℕ} {at end i : ℕ}
      {r : Stepped} → i < length steps
      → stepped_of (state_of store forward reverse rows counts r.control) r.line ≡ stepped S σ (get_or steps i 0)
      → Put page at (line_bytes (i + 1) r.line) next end → end ≤ at + line_room → Running S start steps σ page at i
      → Running S start steps (state_of store forward reverse rows counts r.control) next end (i + 1)
  running_more {start} {σ} {store} {forward} {reverse} {rows} {counts} {steps} {page} {next} {at} {end} {i} {r} h e put
      short before =
      let after : State = state_of store forward reverse rows counts r.control in
      record {
        within = omega arith;
        room = omega (arith, short, before.room);
        whole =
            before.whole
            ∙ rw (put.printed, append_assoc, add-one)
            (ap (λ (ys : List ℕ). take at page ++ ys) (next_line σ after steps i r.line h e));
      }

  -- the lists and `answer`: what set-up left of the memory lent, σ₀, and answered of a record `before`; last: the record as the
  -- code takes it over
  pub running_all : {σ : State} {store forward reverse rows counts steps page : List ℕ} {at i number : ℕ} {last : Control}
      (before : Control) (answer : Result Control Refusal) (σ₀ : State) → length steps ≤ i
      → Running S (state_of store forward reverse rows counts last) steps σ page at i
      → last ≡ result_unwrap_or answer before
      → noted_of (state_of store forward reverse rows counts (control_after before answer)) number ≡ set_up S σ₀
      → take at page ≡ run_lines S σ₀ steps
  running_all {σ} {store} {forward} {reverse} {rows} {counts} {steps} {page} {at} {i} before answer σ₀ h r taken made =
      sym (r.whole ∙ rw (drop_of_length-le steps h, lines_nil, append-nil) refl)
      ∙ ap (λ (c : Control). lines_from 1 (steps_from S (state_of store forward reverse rows counts c) steps)) (taken ∙ taken_over before answer)
      ∙ ap (λ (n : Noted). lines_from 1 (steps_from S n.state steps)) made
