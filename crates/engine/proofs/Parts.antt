-- An inspect whose number is 0: its row is one of the table, and its part lies in the store. Assumes nothing.
use Prim.Native.Nat.{ℕ, ◌+◌, ◌*◌, ◌<◌, ◌≤◌}
use native.Mathlib.Omega.{arith}
use mathlib.Core.Path.{◌≡◌, sym, ap, ◌∙◌}
use mathlib.Core.Bool.{false}
use lib.ListN.{length}
use borrow.Author.Tests.{eq-eqb}
use Rattle.geometry.specs.declared.Settings.{Settings}
use Rattle.geometry.specs.declared.numbering.PhysicalRow.{PhysicalRow}
use Rattle.geometry.specs.Numbering.{physical}
use Rattle.conditions.proofs.Facts.{Ranges, Exact, ranges_facts, lengths_facts}
use Rattle.basics.proofs.Portions.{portion_before}
use Rattle.row_layout.specs.Bytes.{row_bytes}
use Rattle.row_layout.proofs.Laws.{length-row_bytes}
use Rattle.engine.specs.State.{State, lengths_of}
use Rattle.engine.specs.Steps.{place}
use Rattle.engine.specs.Ladder.{row_unsound, tick_number, inspect_number}
use Rattle.engine.specs.Calls.{inspect_part}
use Rattle.engine.proofs.Facts.{Fit, tick_facts, inspect_facts, place_below}

-- x: the number as the code has it
module _ (S : Settings) (σ : State) (r x : ℕ) (same : x ≡ inspect_number S σ r) (z : x ≡ 0) where
  facts : (tick_number S σ ≡ 0) × (r < S.n) × (row_unsound S σ.tables r ≡ false)
  facts = inspect_facts S σ r (sym same ∙ z)

  fit : Fit S σ
  fit = (tick_facts S σ facts.0).0

  ranges : Ranges S
  ranges = ranges_facts S fit.ranges

  exact : Exact S (lengths_of σ)
  exact = lengths_facts S (lengths_of σ) fit.lengths

  pub row_fits : r < 65536
  row_fits = omega (arith, facts.1, ranges.n_high)

  below : place S σ r < S.n + S.q
  below = place_below S σ r ranges facts.1 facts.2

  -- p: the place as the code has it
  pub part_inside : (p : PhysicalRow) → p ≡ physical (place S σ r) → p.0 * S.w + S.w ≤ length σ.store
  part_inside p placed = rw placed (omega (arith, portion_before S.w (place S σ r) (S.n + S.q) below, exact.store))

  -- the part is the row's bytes, all of them
  pub part_is : inspect_part S σ r ≡ row_bytes S.w σ.store (place S σ r)
  unfolding inspect_part
  part_is = rw (eq-eqb (inspect_number S σ r) 0 (sym same ∙ z))

  pub part_long : length (inspect_part S σ r) ≡ S.w
  part_long = ap length part_is ∙ length-row_bytes S.w (S.n + S.q) σ.store (place S σ r) exact.store below

  pub width_some : 1 ≤ S.w
  width_some = ranges.w_low
