-- Each refusal has a number, and 0 is none. Assumes nothing.
use mathlib.Core.Path.{◌≡◌, refl}
use mathlib.Core.Bool.{false}
use mathlib.Core.Logic.{◌≢◌}
use lib.Dec.{eqb}
use borrow.Author.Tests.{eqb-false}
use Rattle.refusals.specs.declared.Refusal.{Refusal}
use Rattle.refusals.specs.declared.Refusal.TheVariants.{Settings, Together, Buffers, Control, Row, Span, Pointers, Epoch, Quarantine}
use Rattle.refusals.specs.Refusals.{refusal_number}

pub refusal_is : (e : Refusal) → eqb (refusal_number e) 0 ≡ false
refusal_is Settings = refl
refusal_is Together = refl
refusal_is Buffers = refl
refusal_is Control = refl
refusal_is Row = refl
refusal_is Span = refl
refusal_is Pointers = refl
refusal_is Epoch = refl
refusal_is Quarantine = refl

pub refusal_not_0 : (e : Refusal) → refusal_number e ≢ 0
refusal_not_0 e = eqb-false (refusal_number e) 0 (refusal_is e)
