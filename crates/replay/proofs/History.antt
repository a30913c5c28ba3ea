-- A file that is played prints a history, and every other file is of a kind that is refused or empty. Assumes nothing.
use Prim.Native.Nat.{ℕ}
use mathlib.Core.Path.{◌≡◌, refl, sym, ◌∙◌}
use mathlib.Core.Logic.{inl, inr}
use mathlib.Core.Bool.{false}
use mathlib.Core.List.{List, map}
use Rattle.std.specs.Prelude.{Option, None, Some}
use Rattle.geometry.specs.declared.Settings.{Settings}
use Rattle.basics.proofs.Cases.{split, eq?}
use Rattle.engine.specs.Ladder.{settings_number}
use Rattle.history.proofs.History.{demand_3}
use Rattle.history.proofs.Window.{window}
use Rattle.trace_file.specs.Form.{Recorded, trace_in, is_empty_trace}
use Rattle.trace_steps.specs.Steps.{call_of, steps_from}
use Rattle.replay.specs.Memory.{lent, memory_fits}
use Rattle.replay.specs.History.{Says, Plays, TracesAreHistories, EveryFile}
use Rattle.replay.specs.History.{Prints, nothing, formless, unsettled, too_large, plays}
use Rattle.replay.proofs.Memory.{set_up_accepts}
use Rattle.replay.proofs.Judging.{settings-refused, memory_refused, all_run, empty-replayed, form_replayed}
use Rattle.replay.proofs.EmptyTrace.{traces_stay}

pub traces_are_histories : TracesAreHistories
unfolding steps_from
traces_are_histories text S steps p =
    let accepted = set_up_accepts S p.settings in
    let calls = map (call_of S) steps in
    record {
      set-up = accepted;
      lines = traces_stay text _ p.form ∙ sym (all_run S steps p.settings p.memory);
      kept = demand_3 S (lent S) calls accepted;
      window = window S (lent S) calls accepted;
    }

module _ (text : List ℕ) where
  -- a file with a form
  formed : {S : Settings} {steps : List ℕ} → Says text S steps → Prints text
  formed {S} {steps} f =
      let said = traces_stay text (record { settings = S; steps = steps }) f in
      elim (eq? (settings_number S) 0) [
        | inl accepted ↦ elim (split (memory_fits S)) [
          | inl fits ↦
              let p : Plays text S steps = record { form = f; settings = accepted; memory = fits } in
              plays p (traces_are_histories text S steps p)
          | inr over ↦ too_large f accepted over (said ∙ sym (memory_refused S steps accepted over))
        ]
        | inr refused ↦ unsettled f refused (said ∙ sym (settings-refused S steps refl refused refl))
      ]

  by_form : (said : Option Recorded) → trace_in text ≡ said → is_empty_trace text ≡ false → Prints text
  by_form None f e = formless e f (form_replayed text e f)
  by_form (Some said) f e = formed f

pub every_file : EveryFile
every_file text =
    elim (split (is_empty_trace text)) [
      | inl e ↦ nothing e (empty-replayed text e)
      | inr e ↦ by_form text (trace_in text) refl e
    ]
