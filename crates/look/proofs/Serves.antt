-- Inspect as the code puts it together is what is promised. Assumes nothing.
use Prim.Native.Nat.{ℕ, ◌+◌, ◌*◌, ◌<◌, ◌≤◌}
use native.Mathlib.Nat.{zero-add}
use mathlib.Core.Path.{◌≡◌, refl, sym, ap, ◌∙◌}
use mathlib.Core.List.{List, []}
use lib.ListN.{length}
use borrow.Author.Tests.{ne_eqb}
use Rattle.refusals.specs.declared.Refusal.{Refusal}
use Rattle.refusals.specs.Refusals.{refusal_number}
use Rattle.refusals.proofs.Numbers.{refusal_not_0}
use Rattle.geometry.specs.declared.Settings.{Settings}
use Rattle.geometry.specs.declared.Control.{Control}
use Rattle.geometry.specs.declared.Lengths.{Lengths}
use Rattle.geometry.specs.declared.numbering.PhysicalRow.{PhysicalRow}
use Rattle.geometry.specs.Numbering.{physical}
use Rattle.geometry.proofs.Entries.{place_of_named}
use Rattle.conditions.proofs.Facts.{ranges_facts}
use Rattle.row_layout.specs.Bytes.{row_bytes}
use Rattle.engine.specs.State.{State}
use Rattle.engine.specs.Steps.{place}
use Rattle.engine.specs.Ladder.{fit_number, control_number, inspect_number}
use Rattle.engine.specs.Calls.{inspect_part}
use Rattle.engine.proofs.Rungs.{pass}
use Rattle.engine.proofs.Facts.{settings_facts}
use Rattle.engine.proofs.Parts as parts
use Rattle.figures.specs.Span.{span_of}
use Rattle.figures.specs.Promises.{InspectPartPromise}
use Rattle.figures.proofs.Spans.{span_none, span_row}

-- past 1 to 4 there are few rows
pub rows_few : (S : Settings) (lengths : Lengths) (control : Control) (counts : List ℕ)
    → 0 ≡ control_number S lengths control counts → S.n ≤ 60000
unfolding control_number fit_number
rows_few S lengths control counts z = (ranges_facts S (settings_facts S (pass _ _ (pass _ _ (sym z)).0).0).0).n_high

-- where it is accepted: the row has a place in the store
module _ (S : Settings) (σ : State) (r : ℕ) (accepted : 0 ≡ inspect_number S σ r) where
  pub row_fits : r < 65536
  row_fits = parts.row_fits S σ r 0 accepted refl

  pub part_inside : (p : PhysicalRow) → p ≡ physical (place S σ r) → p.0 * S.w + S.w ≤ length σ.store
  part_inside p placed = parts.part_inside S σ r 0 accepted refl p placed

  pub span_there : (p : PhysicalRow) → p ≡ physical (place S σ r) → record { start = p.0 * S.w; length = S.w } ≡ span_of S σ r
  span_there p placed = span_row S σ r 0 accepted refl p placed _ refl

  pub part_there : (p : PhysicalRow) → p ≡ physical (place S σ r) → (store : ℕ × ℕ) (bytes : List ℕ) (address : ℕ × ℕ) → bytes ≡ row_bytes S.w σ.store p.0
      → address ≡ (store.0, p.0 * S.w + store.1) → InspectPartPromise S σ r store bytes address
  part_there p placed store bytes address e at = (
    e ∙ ap (λ (q : PhysicalRow). row_bytes S.w σ.store q.0) placed ∙ sym (parts.part_is S σ r 0 accepted refl),
    rw (← span_there p placed) at,
  )

-- where it is refused: nothing
module _ (S : Settings) (σ : State) (r : ℕ) (e : Refusal) (refused : refusal_number e ≡ inspect_number S σ r) where
  pub span_refused : record { start = 0; length = 0 } ≡ span_of S σ r
  span_refused = span_none S σ r (refusal_number e) refused (refusal_not_0 e) _ refl

  none : [] ≡ inspect_part S σ r
  unfolding inspect_part
  none = rw (← refused, ne_eqb (refusal_number e) 0 (refusal_not_0 e))

  pub part_refused : (store : ℕ × ℕ) → InspectPartPromise S σ r store [] store
  part_refused store = (none, rw (← span_refused) (ap (λ (o : ℕ). (store.0, o)) (sym (zero-add store.1))))

-- what `place_of` needs
pub ruleset places = (row_fits, place_of_named)
