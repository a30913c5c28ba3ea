-- Inspect's span: the bytes that lie there are inspect's part, and the code answers it. Assumes nothing.
use Prim.Native.Nat.{ℕ, ◌*◌}
use mathlib.Core.Path.{◌≡◌, refl, sym, ◌∙◌}
use mathlib.Core.Logic.{inl, inr, ◌≢◌}
use lib.Dec.{eqb}
use borrow.Author.Tests.{eq-eqb, ne_eqb}
use Rattle.geometry.specs.declared.Settings.{Settings}
use Rattle.geometry.specs.declared.numbering.PhysicalRow.{PhysicalRow}
use Rattle.geometry.specs.Numbering.{physical}
use Rattle.basics.proofs.Cases.{split}
use Rattle.row_layout.specs.Bytes.{row_bytes}
use Rattle.engine.specs.State.{State}
use Rattle.engine.specs.Steps.{place}
use Rattle.engine.specs.Ladder.{inspect_number}
use Rattle.engine.specs.Calls.{inspect_part}
use Rattle.figures.specs.declared.Span.{Span}
use Rattle.figures.specs.Span.{span_of, spanned}

-- the part of the store that the span names is the part that inspect returns
pub span_part : (S : Settings) (σ : State) (r : ℕ)
    → spanned (span_of S σ r) σ.store ≡ inspect_part S σ r
unfolding span_of inspect_part row_bytes
span_part S σ r = elim (split (eqb (inspect_number S σ r) 0)) [ inl e ↦ rw e refl | inr e ↦ rw e refl ]

-- what the code answers where its number is not 0, and where it is
module _ (S : Settings) (σ : State) (r x : ℕ) (same : x ≡ inspect_number S σ r) where
  pub span_none : x ≢ 0 → (span : Span) → span ≡ record { start = 0; length = 0 } → span ≡ span_of S σ r
  unfolding span_of
  span_none n span e = e ∙ rw (ne_eqb (inspect_number S σ r) 0 (λ z. n (same ∙ z)))

  pub span_row : x ≡ 0 → (p : PhysicalRow) → p ≡ physical (place S σ r) → (span : Span)
      → span ≡ record { start = p.0 * S.w; length = S.w } → span ≡ span_of S σ r
  unfolding span_of
  span_row z p placed span e = e ∙ rw (eq-eqb (inspect_number S σ r) 0 (sym same ∙ z), placed)
