-- The numbers of an access, case by case. No proof cites these laws: an edit of `outcome_of` meets them in this crate.
-- Assumes nothing.
use Prim.Native.Nat.{ℕ}
use mathlib.Core.Path.{◌≡◌, refl}
use Rattle.geometry.specs.Numbering.{slot, physical, visible}
use Rattle.geometry.specs.Entry.{empty}
use Rattle.std.specs.Prelude.{Ok, Err}
use Rattle.engine.specs.declared.Served.{Served}
use Rattle.engine.specs.declared.Move.{Move}
use Rattle.engine.specs.declared.Move.TheVariants.{Stayed, ToSlot, OverSlot}
use Rattle.figures.specs.Outcome.{outcome_of}

pub refused-outcome : (number : ℕ)
    → outcome_of (Err number) ≡ record { number = number; slot = empty; row = empty; estimate = 0; place = 0 }
refused-outcome number = refl

module _ (p e : ℕ) where
  abbrev pub accepted : Move → Served
  accepted m = record { place = physical p; estimate = e; moved = m }

  pub stayed_outcome : outcome_of (Ok (accepted Stayed))
      ≡ record { number = 0; slot = empty; row = empty; estimate = e; place = p }
  stayed_outcome = refl

  pub filled-outcome : (d : ℕ) → outcome_of (Ok (accepted (ToSlot (slot d))))
      ≡ record { number = 0; slot = d; row = empty; estimate = e; place = p }
  filled-outcome d = refl

  pub evicted_outcome : (d v : ℕ) → outcome_of (Ok (accepted (OverSlot (slot d) (visible v))))
      ≡ record { number = 0; slot = d; row = v; estimate = e; place = p }
  evicted_outcome d v = refl
