-- Where inspect's part lies in the store. A C caller, who cannot take a slice, is answered this.
-- Assumes nothing.
use Rattle.std.specs.Prelude.{ℕ, ◌+◌, ◌*◌, cond, List, eqb, take, drop}
use Rattle.geometry.specs.declared.Settings.{Settings}
use Rattle.engine.specs.State.{State}
use Rattle.engine.specs.Steps.{place}
use Rattle.engine.specs.Ladder.{inspect_number}
use Rattle.figures.specs.declared.Span.{Span}

-- 'Inspect returns the part of the lent store that holds the row at present': the place's first byte, and W;
-- 'the part has length 0 exactly when the number isn't 0'
unfoldable pub span_of : Settings → State → ℕ → Span
span_of S σ r =
    cond (eqb (inspect_number S σ r) 0)
    (record { start = place S σ r * S.w; length = S.w })
    (record { start = 0; length = 0 })

-- the bytes of a store that a span names
abbrev pub spanned : Span → List ℕ → List ℕ
spanned span store = take span.length (drop span.start store)

-- where a span begins in a store; an address is a block of memory and an offset in it
abbrev pub span_address : Span → ℕ × ℕ → ℕ × ℕ
span_address span store = (store.0, span.start + store.1)
