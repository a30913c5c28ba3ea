-- What a read or a write answers and leaves, by its number. Assumes nothing.
use Prim.Native.Nat.{ℕ}
use mathlib.Core.Path.{◌≡◌, sym}
use mathlib.Core.Logic.{inl, inr, ◌≢◌}
use mathlib.Core.List.{List}
use lib.Dec.{eqb}
use borrow.Author.Tests.{eqb-true, eq-eqb, ne_eqb}
use Rattle.geometry.specs.declared.Settings.{Settings}
use Rattle.basics.proofs.Cases.{split}
use Rattle.engine.specs.declared.Move.TheVariants.{Stayed}
use Rattle.engine.specs.State.{State}
use Rattle.engine.specs.Answer.{number_of, place_of, estimate_in, move_of}
use Rattle.engine.specs.Steps.{place}
use Rattle.engine.specs.Calls.{accessed}

module _ (S : Settings) (σ : State) (r x : ℕ) (store filled buffer : List ℕ) where
  pub number_is : number_of (accessed S σ r x store filled buffer).answer ≡ x
  unfolding accessed
  number_is = elim (split (eqb x 0)) [ inl e ↦ rw e (sym (eqb-true x 0 e)) | inr e ↦ rw e ]

  -- an accepted access answers its place
  pub place_is : x ≡ 0 → place_of (accessed S σ r x store filled buffer).answer ≡ place S σ r
  unfolding accessed
  place_is z = rw (eq-eqb x 0 z)

  -- a refused one leaves everything, and holds nothing beside the number
  pub record Untouched : Type 0 where
    pub state_kept : (accessed S σ r x store filled buffer).state ≡ σ
    pub buffer_kept : (accessed S σ r x store filled buffer).buffer ≡ buffer
    pub place_0 : place_of (accessed S σ r x store filled buffer).answer ≡ 0
    pub estimate_0 : estimate_in (accessed S σ r x store filled buffer).answer ≡ 0
    pub move_none : move_of (accessed S σ r x store filled buffer).answer ≡ Stayed

  pub untouched : x ≢ 0 → Untouched
  unfolding accessed
  untouched n = record { state_kept = rw (ne_eqb x 0 n); buffer_kept = rw (ne_eqb x 0 n); place_0 = rw (ne_eqb x 0 n); estimate_0 = rw (ne_eqb x 0 n); move_none = rw (ne_eqb x 0 n) }
