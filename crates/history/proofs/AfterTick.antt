-- A good access is accepted as the first call after a tick, in every state with sound tables. Assumes nothing.
use Prim.Native.Nat.{ℕ, ◌+◌, ◌*◌, ◌<◌, ◌≤◌}
use native.Mathlib.Omega.{arith}
use mathlib.Core.Path.{◌≡◌, refl, sym, ◌∙◌}
use mathlib.Core.Logic.{inl, inr}
use mathlib.Core.Bool.{true, false}
use Rattle.geometry.specs.declared.Settings.{Settings}
use Rattle.basics.proofs.Cases.{lt?}
use Rattle.tracking.proofs.View.{quotients_new}
use Rattle.conditions.proofs.Facts.{ranges_facts, lengths_facts}
use Rattle.engine.specs.State.{State, lengths_of, tracker_at}
use Rattle.engine.specs.Steps.{place, moves, rise}
use Rattle.engine.specs.declared.Asked.{Asked}
use Rattle.engine.specs.Ladder.{tick_number, access_number}
use Rattle.engine.specs.Calls as calls
use Rattle.engine.specs.Inverse.{Inverse}
use Rattle.engine.proofs.Facts.{Fit, steady, tick_facts, wanting}
use Rattle.engine.proofs.Pointers.{Sound}
use Rattle.engine.proofs.Trackers.{all_new}
use Rattle.history.specs.Tally.{Tally, start_at}
use Rattle.history.specs.Run.{access, look, Call, rank, tick, asked_of}
use Rattle.history.specs.AfterTick.{GoodAccess, NineIsGood, AcceptedAfterTick}
use Rattle.history.proofs.Groups.{ladder, step-number, at_9, accepted-step}
use Rattle.history.proofs.Invariant.{Inv}
use Rattle.history.proofs.Access.{wanting_few}
use Rattle.history.proofs.Calls.{inv_new, sound_ticked, access_0}

module _ (S : Settings) (σ : State) (inverse : Inverse S σ) (tick_0 : tick_number S σ ≡ 0) where
  fit : Fit S σ
  fit = (tick_facts S σ tick_0).0

  sound : Sound S (calls.ticked S σ)
  sound = sound_ticked (ranges_facts S fit.ranges) (lengths_facts S (lengths_of σ) fit.lengths) inverse

  head_in : σ.control.head < S.q
  head_in = (steady S σ (tick_facts S σ tick_0).1).head_in

  -- a tally that has the rows where the tables have them
  as_placed : Tally
  as_placed = start_at (place S σ)

  begun : Inv S (calls.ticked S σ) as_placed as_placed
  unfolding as_placed
  begun = inv_new S σ as_placed fit.ranges fit.limit sound head_in (λ x b. refl)

  -- every bank has accesses left
  more_then : (r : ℕ) → (tracker_at S (calls.ticked S σ) (place S (calls.ticked S σ) r)).acts < S.l
  more_then r = all_new S σ sound.ranges.b_low (λ t. t.acts < S.l) sound.ranges.l_low (place S (calls.ticked S σ) r)

  -- there is room for a move
  has_room : (r : ℕ) → r < S.n → moves S (calls.ticked S σ) r ≡ true → 0 + rise S (calls.ticked S σ) r ≤ S.q
  has_room r row_in m =
      elim (lt? S.q (0 + rise S (calls.ticked S σ) r)) [
        | inl full ↦
            absurd (omega (
              arith,
              wanting_few S (calls.ticked S σ) as_placed as_placed begun r row_in (more_then r) m full,
              quotients_new S.a (S.b * S.k),
              sound.ranges.q_low,
            ))
        | inr room ↦ room
      ]

  -- an access of a row in its range, with a span that is not off
  accepted_then : (a : Asked) → a.row < S.n → a.off ≡ false → access_number S (calls.ticked S σ) a ≡ 0
  accepted_then a row_in span_in =
      access_0 S (calls.ticked S σ) as_placed as_placed begun a row_in span_in (more_then a.row) (has_room a.row row_in)

  good_then : (c : Call) → GoodAccess S c → ladder S (calls.ticked S σ) c ≡ 0
  good_then (rank (access a)) g = accepted_then (asked_of S a) g.0 g.1
  good_then (rank (look x)) g = absurd g
  good_then tick g = absurd g

pub accepted_after_tick : AcceptedAfterTick
accepted_after_tick S σ c v e good =
    let z : tick_number S σ ≡ 0 = sym (step-number S σ tick) ∙ e in
    rw (accepted-step S σ tick z) (step-number S (calls.ticked S σ) c ∙ good_then S σ v z c good)

pub nine_is_good : NineIsGood
nine_is_good S σ =
    at_9 S σ (GoodAccess S) (λ a e. let R = (wanting S σ _ e).reached in (R.row_in, R.span_in))
