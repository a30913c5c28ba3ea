-- Every figure is reached, for every A and every B, by the lists of `Slots` and `Short`. Assumes nothing.
use Prim.Native.Nat.{ℕ, zero, suc, ◌*◌, ◌≤◌}
use native.Mathlib.Nat.{not-suc-le-zero}
use native.Mathlib.Omega.{arith}
use mathlib.Core.Path.{◌≡◌, refl}
use mathlib.Core.Logic.{inl, inr}
use mathlib.Core.Bool.{true}
use Rattle.basics.proofs.Tests.{within}
use Rattle.conditions.specs.Conditions.{ranges_hold}
use Rattle.history.specs.Tally.{hit}
use Rattle.history.specs.Tight.{two_slots, three_slots, one_short, Tight}
use Rattle.history.proofs.Play.{then}
use Rattle.history.proofs.Witness.{witness, epochs_are, over_tick, some_answer}
use Rattle.history.proofs.Slots as slots
use Rattle.history.proofs.Short as short

module _ (b m : ℕ) (some : 1 ≤ b) (few : b ≤ 16) (most : suc m ≤ 65535) where
  two_ranges : ranges_hold (two_slots b (suc m)) ≡ true
  unfolding ranges_hold
  two_ranges =
      rw (within 1 65535 (suc m) (omega arith) most, within 1 1360000 (2 * suc m) (omega arith) (omega arith), within 1 16 b some few)

  three_ranges : ranges_hold (three_slots b (suc m)) ≡ true
  unfolding ranges_hold
  three_ranges =
      rw (within 1 65535 (suc m) (omega arith) most, within 1 1360000 (3 * suc m) (omega arith) (omega arith), within 1 16 b some few)

  short_ranges : ranges_hold (one_short b (suc m)) ≡ true
  unfolding ranges_hold
  short_ranges =
      rw (
        within 1 60000 (4 * b) (omega arith) (omega arith),
        within 2 5500 (one_short b (suc m)).q (omega arith) (omega arith),
        within 1 65535 (suc m) (omega arith) most,
        within 1 1360000 (2 * suc m) (omega arith) (omega arith),
        within 1 16 b some few,
      )

pub tight : Tight
unfolding hit
tight b zero some few pos most = absurd (not-suc-le-zero pos)
tight b (suc m) some few pos most =
    let two = two_ranges b m some few most in
    let three = three_ranges b m some few most in
    let one-short = short_ranges b m some few most in
    let quarantines = short.fill_quarantines b m some few in
    let two_each = short.two_each b m some few in
    record {
      home = witness (two_slots b (suc m)) refl two (omega arith) (λ σ K.
          rw (epochs_are K (then (slots.fill b m).1 (slots.home-play b m).1)) (inr (inl (omega arith))));
      slot = witness (two_slots b (suc m)) refl two (omega arith) (λ σ K.
          rw (epochs_are K (then (slots.fill b m).1 (slots.slot-play b m).1)) (inr (inl (omega arith))));
      home_over_tick = witness (three_slots b (suc m)) refl three (omega arith) (λ σ K.
          over_tick K (slots.fill_all b m).1 (slots.home-play_over b m).1 refl (omega arith));
      slot_over_tick = witness (two_slots b (suc m)) refl two (omega arith) (λ σ K.
          over_tick K (slots.fill b m).1 (slots.slot-play_over b m).1 refl (omega arith));
      quarantines = witness (one_short b (suc m)) refl one-short (omega arith) (λ σ K.
          rw (epochs_are K (short.fill b m some few), short.fill_epochs b m some few) (inl (omega (arith, quarantines, two_each))));
      nine = witness (one_short b (suc m)) refl one-short (omega arith) (λ σ K.
          some_answer K (short.fill b m some few) (short.nine_play b m some few).1 (λ e. e.number ≡ 9) (short.nine_told b m some few));
      nine_slots = omega (arith, two_each);
    }
