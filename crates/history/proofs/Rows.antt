-- One access carries on what is known of every home row and of every slot. Assumes nothing.
use Prim.Native.Nat.{ℕ, suc, ◌+◌, ◌*◌, ◌<◌, ◌≤◌}
use native.Mathlib.Omega.{arith}
use mathlib.Core.Path.{◌≡◌, sym, ap, ◌∙◌, subst}
use mathlib.Core.Logic.{◌⊎◌, inl, inr, ◌≢◌}
use mathlib.Core.Bool.{true, false}
use lib.Dec.{eqb}
use borrow.Author.Tests.{ne_eqb, eq-eqb, eqb-false, leb-true, leb-false}
use Rattle.geometry.specs.declared.Settings.{Settings}
use Rattle.geometry.specs.Entry.{empty}
use Rattle.basics.proofs.Cases.{eq?}
use Rattle.tracking.proofs.View.{Grew}
use Rattle.engine.specs.State.{State, forward_of, reverse_of}
use Rattle.engine.specs.Steps.{place, skips}
use Rattle.history.specs.Tally.{Tally, hit, after_stay}
use Rattle.engine.proofs.GoneBy.{Slide, slide_keeps}
use Rattle.history.proofs.Openings.{Home, Slot, home_low, slot_low, home_rests, home-opened, home_leaves, home_returns, home_untouched, slot_rests, slot-opened, slot-skipped, slot_filled, slot_leaves, worn_grew, worn_next}
use Rattle.engine.proofs.Pointers.{Relinked, marks_none, place_is}
use Rattle.engine.proofs.Moves.{not_own}
use Rattle.history.proofs.Tallied.{Tallied, hit-home, hit-slot, hit_here, hit_away, hit_own}
use Rattle.engine.proofs.Trackers.{estimate}
use Rattle.engine.proofs.Counting.{Estimated}
use Rattle.history.proofs.Charge.{charge}
use Rattle.history.proofs.Invariant.{Inv, gone, worn_slot, HomeKept, SlotKept}

module _ (S : Settings) (σ : State) (τ₀ τ : Tally) (I : Inv S σ τ₀ τ) (r : ℕ) (row_in : r < S.n) where
  real : (x : ℕ) → x < S.n + S.q → x ≢ empty
  real = marks_none S I.sound.ranges

  pos : 0 < S.a
  pos = I.sound.ranges.a_low

  p_is : ((forward_of σ r ≡ empty) × (place S σ r ≡ r)) ⊎ ((forward_of σ r < S.q) × (place S σ r ≡ S.n + forward_of σ r))
  p_is = place_is S σ I.sound r row_in

  -- a slot that holds r is not empty
  held : (s : ℕ) → reverse_of σ s ≡ r → eqb (reverse_of σ s) empty ≡ false
  held s e = ne_eqb (reverse_of σ s) empty (λ z. real r (omega arith) (sym e ∙ z))

  own_slot : forward_of σ r < S.q → reverse_of σ (forward_of σ r) ≡ r
  own_slot b = elim (I.sound.inverse.forward r row_in) [ inl z ↦ absurd (real (forward_of σ r) (omega arith) z) | inr c ↦ c.1 ]

  -- the place of a row has an estimate below the threshold
  pub place_low : estimate S σ (place S σ r) < S.a
  place_low =
      elim p_is [
        | inl c ↦ rw c.1 (home_low (rw (eq-eqb (forward_of σ r) empty c.0) at (I.homes r row_in)))
        | inr c ↦ rw c.1 (slot_low (rw (held (forward_of σ r) (own_slot c.0)) at (I.slots (forward_of σ r) c.0)))
      ]

  module _ (σ' : State) (E : Estimated S σ σ' (place S σ r)) where
    -- the estimate of a row that is not r's place
    grew_home : (x : ℕ) → x < S.n → x ≢ r → Grew S.a (estimate S σ x) (estimate S σ' x)
    grew_home x b n = E.other x (λ e. elim p_is [ inl c ↦ n (e ∙ c.1) | inr c ↦ omega (arith, c.1) ]) (real x (omega arith))

    grew_slot : (s : ℕ) → s < S.q → s ≢ forward_of σ r → Grew S.a (estimate S σ (S.n + s)) (estimate S σ' (S.n + s))
    grew_slot s b n = E.other (S.n + s) (λ e. elim p_is [ inl c ↦ omega (arith, c.1) | inr c ↦ n (omega (arith, c.1)) ]) (real (S.n + s) (omega arith))

    same_at : (x : ℕ) → x ≡ place S σ r → estimate S σ' x ≡ suc (estimate S σ x)
    same_at x e = rw e E.same

    -- ---- the row stays

    module _ (rests : estimate S σ' (place S σ r) ≢ 1 * S.a) where
      not_yet : (x : ℕ) → x ≡ place S σ r → estimate S σ' x ≢ 1 * S.a
      not_yet x e = rw e rests

      pub home_stays : (x : ℕ) → x < S.n
          → Home S.a ((after_stay S τ r).openings x) (τ₀.openings x) (estimate S σ' x)
          (eqb (forward_of σ x) empty) (gone S σ (forward_of σ x))
      home_stays x b =
          elim (eq? x r) [
            | inr n ↦ home_rests (gone S σ (forward_of σ x)) (I.homes x b) (λ h g. g) (omega (arith, hit-home S σ I.sound τ r row_in (I.places r row_in) x b n)) (grew_home x b n)
            | inl e ↦ rw e (elim p_is [
              | inl c ↦
                  let t : eqb (forward_of σ r) empty ≡ true = eq-eqb (forward_of σ r) empty c.0 in
                  rw t (home-opened (rw t at (I.homes r row_in)) (omega (arith, hit_here S σ I.sound τ r row_in (I.places r row_in) c.0)) (same_at r (sym c.1)) (not_yet r (sym c.1)))
              | inr c ↦
                  home_rests (gone S σ (forward_of σ r)) (I.homes r row_in) (λ h g. g)
                  (omega (arith, hit_away S σ I.sound τ r row_in (I.places r row_in) c.0))
                  (E.other r (λ e. omega (arith, c.1)) (real r (omega arith)))
            ])
          ]

      pub slot_stays : (s : ℕ) → s < S.q
          → Slot S.a ((after_stay S τ r).openings (S.n + s)) (charge S τ₀ s) (estimate S σ' (S.n + s))
          (gone S σ s) (eqb (reverse_of σ s) empty)
      slot_stays s b =
          elim (eq? s (forward_of σ r)) [
            | inr n ↦ slot_rests (I.slots s b) (omega (arith, hit-slot S σ I.sound τ r row_in (I.places r row_in) s n)) (grew_slot s b n)
            | inl e ↦
                let c : forward_of σ r < S.q = rw e at b in
                let at : S.n + s ≡ place S σ r = elim p_is [ inl k ↦ absurd (real s (omega arith) (e ∙ k.0)) | inr k ↦ omega (arith, k.1) ] in
                let t : eqb (reverse_of σ s) empty ≡ false = held s (ap (reverse_of σ) e ∙ own_slot c) in
                let one : hit (τ.place r) (S.n + s) ≡ 1 = rw e (hit_own S σ I.sound τ r row_in (I.places r row_in) c) in
                rw t (slot-opened (rw t at (I.slots s b)) (omega arith) (same_at (S.n + s) at) (not_yet (S.n + s) at))
          ]

      -- the same slots are worn
      pub worn_stays : (s : ℕ) → s < S.q → worn_slot S σ' s ≡ worn_slot S σ s
      worn_stays s b =
          elim (eq? (S.n + s) (place S σ r)) [
            | inl e ↦ worn_next S.a (same_at (S.n + s) e) (not_yet (S.n + s) e)
            | inr n ↦ worn_grew (E.other (S.n + s) n (real (S.n + s) (omega arith)))
          ]

    -- a slot other than the row's is worn where it was
    pub worn_rests : (s : ℕ) → s < S.q → s ≢ forward_of σ r → worn_slot S σ' s ≡ worn_slot S σ s
    worn_rests s b n = worn_grew (grew_slot s b n)

    -- ---- the row moves to slot d

    module _ (d : ℕ) (τ' : Tally) (L : Relinked S σ r d σ'.tables.forward σ'.tables.reverse) (T : Tallied S σ τ τ' r d)
        (skip_is : (s : ℕ) → s < S.q → skips S σ r s ≡ worn_slot S σ' s)
        (sl : Slide (skips S σ r) S.q σ.control.head σ.control.passed d σ'.control.head σ'.control.passed) where
      d_real : eqb d empty ≡ false
      d_real = ne_eqb d empty (real d (omega (arith, sl.inside)))

      d_other : d ≢ forward_of σ r
      d_other = not_own S σ r d sl.free

      -- d is not worn, and a skipped slot is
      d_low : estimate S σ' (S.n + d) < S.a
      d_low = leb-false S.a (estimate S σ' (S.n + d)) (sym (skip_is d sl.inside) ∙ sl.free)

      skipped_high : (s : ℕ) → s < S.q → skips S σ r s ≡ true → S.a ≤ estimate S σ' (S.n + s)
      skipped_high s b e = leb-true S.a (estimate S σ' (S.n + s)) (sym (skip_is s b) ∙ e)

      pub place-moves : (x : ℕ) → x < S.n → τ'.place x ≡ place S σ' x
      place-moves x b =
          elim (eq? x r) [
            | inl e ↦ rw (e, L.mover, d_real) T.mover
            | inr n ↦ elim (eq? (forward_of σ x) d) [
              | inl e ↦ rw (L.evicted x b n e) (T.evicted x b n e)
              | inr m ↦ rw (L.rest x b n m) (T.rest x b n m ∙ I.places x b)
            ]
          ]

      home_r : HomeKept S σ' τ₀ τ' r
      home_r =
          rw (L.mover, d_real, sl.filled)
          (elim p_is [
            | inl c ↦
                let t : eqb (forward_of σ r) empty ≡ true = eq-eqb (forward_of σ r) empty c.0 in
                home_leaves (rw t at (I.homes r row_in)) (T.home_mover c.0)
            | inr c ↦
                let t : eqb (forward_of σ r) empty ≡ false = ne_eqb (forward_of σ r) empty (real (forward_of σ r) (omega (arith, c.0))) in
                home_untouched (rw t at (I.homes r row_in)) (T.home_absent c.0)
          ])

      -- a row in a slot that is gone by stays in one
      stays_gone : (x : ℕ) → x < S.n → eqb (forward_of σ x) empty ≡ false → gone S σ (forward_of σ x) ≡ true → gone S σ' (forward_of σ x) ≡ true
      stays_gone x b f g =
          elim (I.sound.inverse.forward x b) [
            | inl z ↦ absurd (eqb-false (forward_of σ x) empty f z)
            | inr c ↦ slide_keeps (skips S σ r) S.q σ.control.head σ.control.passed d σ'.control.head σ'.control.passed sl (forward_of σ x) c.0 g
          ]

      pub home-moves : (x : ℕ) → x < S.n → HomeKept S σ' τ₀ τ' x
      home-moves x b =
          elim (eq? x r) [
            | inl e ↦ subst (λ (y : ℕ). HomeKept S σ' τ₀ τ' y) (sym e) home_r
            | inr n ↦ elim (eq? (forward_of σ x) d) [
              | inl e ↦
                  let here : HomeKept S σ τ₀ τ x = I.homes x b in
                  rw (L.evicted x b n e) (home_returns (rw (e, d_real, sl.ahead) at here) (T.home_evicted x b n e) (grew_home x b n))
              | inr m ↦ rw (L.rest x b n m) (home_rests (gone S σ' (forward_of σ x)) (I.homes x b) (stays_gone x b) (T.home_rest x b n m) (grew_home x b n))
            ]
          ]

      slot_d : SlotKept S σ' τ₀ τ' d
      slot_d =
          let t : eqb r empty ≡ false = ne_eqb r empty (real r (omega arith)) in
          rw (L.filled, t, sl.filled) (slot_filled (rw sl.ahead at (I.slots d sl.inside)) T.slot_filled (grew_slot d sl.inside d_other).0 d_low)

      slot_own : forward_of σ r < S.q → SlotKept S σ' τ₀ τ' (forward_of σ r)
      slot_own b =
          let at : S.n + forward_of σ r ≡ place S σ r = elim p_is [ inl k ↦ absurd (real (forward_of σ r) (omega arith) k.0) | inr k ↦ sym k.1 ] in
          let t : eqb (reverse_of σ (forward_of σ r)) empty ≡ false = held (forward_of σ r) (own_slot b) in
          rw (L.freed b)
          (slot_leaves (gone S σ' (forward_of σ r))
          (slide_keeps (skips S σ r) S.q σ.control.head σ.control.passed d σ'.control.head σ'.control.passed sl (forward_of σ r) b)
          (rw t at (I.slots (forward_of σ r) b))
          (T.slot_freed b)
          (same_at (S.n + forward_of σ r) at))

      pub slot-moves : (s : ℕ) → s < S.q → SlotKept S σ' τ₀ τ' s
      slot-moves s b =
          elim (eq? s d) [
            | inl e ↦ subst (λ (y : ℕ). SlotKept S σ' τ₀ τ' y) (sym e) slot_d
            | inr n ↦ elim (eq? s (forward_of σ r)) [
              | inl e ↦ subst (λ (y : ℕ). SlotKept S σ' τ₀ τ' y) (sym e) (slot_own (rw e at b))
              | inr m ↦ rw (L.others s n m) (elim (sl.others s b n) [
                | inl k ↦ rw k (slot_rests (I.slots s b) (T.slot_others s b n m) (grew_slot s b m))
                | inr k ↦ rw k.0 (slot-skipped (I.slots s b) (T.slot_others s b n m) (grew_slot s b m) (skipped_high s b k.1))
              ])
            ]
          ]
