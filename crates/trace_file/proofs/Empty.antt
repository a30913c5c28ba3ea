-- An empty trace, in terms of the numbers of the file. Assumes nothing.
use Prim.Native.Nat.{ℕ, ◌<◌, ◌≤◌}
use native.Mathlib.Omega.{arith}
use mathlib.Core.Path.{◌≡◌, refl, sym, ◌∙◌, ap}
use mathlib.Core.Logic.{◌⊎◌, inl, inr}
use mathlib.Core.Bool.{true, false, ◌&&◌}
use mathlib.Core.List.{List}
use lib.ListN.{length}
use Rattle.basics.proofs.Cases.{split}
use Rattle.basics.proofs.Tests.{and_right}
use Rattle.number_text.specs.Numbers.{blank, numbers, readable}
use Rattle.number_text.proofs.Blank.{blank_no_numbers}
use Rattle.std.specs.Prelude.{None}
use Rattle.trace_file.specs.Form.{steps_at, file_fits, form_in, trace_in, is_empty_trace}
use Rattle.trace_file.proofs.Sections.{one_section, fewer_than_eight, said_same, text_says}

module _ (text : List ℕ) where
  pub empty_no_numbers : is_empty_trace text ≡ true → length (numbers text) ≡ 0
  unfolding is_empty_trace
  empty_no_numbers e = ap length (blank_no_numbers text (and_right (file_fits text) (blank text) e))

  -- a file with a number is no empty trace
  pub has-number : 1 ≤ length (numbers text) → is_empty_trace text ≡ false
  has-number h = elim (split (is_empty_trace text)) [ inl e ↦ absurd (omega (arith, empty_no_numbers e)) | inr e ↦ e ]

  -- no second section
  few_refused : (length (numbers text) < 8) ⊎ (length (numbers text) < steps_at (numbers text)) → form_in text ≡ None
  unfolding form_in
  few_refused h =
      elim (split (file_fits text && readable text)) [
        | inl e ↦ rw e (elim h [ inl k ↦ (fewer_than_eight (numbers text) k).0 | inr k ↦ (one_section (numbers text) k).0 ])
        | inr e ↦ rw e refl
      ]

  pub few_numbers : (length (numbers text) < 8) ⊎ (length (numbers text) < steps_at (numbers text)) → trace_in text ≡ None
  few_numbers h = sym (text_says text) ∙ said_same (numbers text) (few_refused h)
