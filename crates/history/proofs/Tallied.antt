-- What the tally adds for a move, computed from the pointers before it. Assumes nothing.
use Prim.Native.Nat.{ℕ, suc, ◌+◌, ◌<◌}
use native.Mathlib.Omega.{arith}
use mathlib.Core.Path.{◌≡◌, refl, sym, ap, ◌∙◌}
use mathlib.Core.Logic.{◌⊎◌, inl, inr, ◌≢◌}
use mathlib.Core.Bool.{true, false}
use lib.Dec.{eqb}
use borrow.Author.Tests.{ne_eqb, eq-eqb}
use Rattle.geometry.specs.declared.Settings.{Settings}
use Rattle.geometry.specs.Entry.{empty}
use Rattle.engine.specs.State.{State, forward_of, reverse_of}
use Rattle.engine.specs.Steps.{place}
use Rattle.history.specs.Tally.{Tally, hit, after_move, after_move_over, after_access}
use Rattle.history.proofs.Openings.{hit_same, hit_other}
use Rattle.engine.proofs.Pointers.{Sound, marks_none, place_is}

-- row r is moved to slot d: τ before, τ' after
pub record Tallied (S : Settings) (σ : State) (τ τ' : Tally) (r d : ℕ) : Type 0 where
  pub quarantine : τ'.quarantines ≡ suc τ.quarantines
  -- places
  pub mover : τ'.place r ≡ S.n + d
  pub evicted : (x : ℕ) → x < S.n → x ≢ r → forward_of σ x ≡ d → τ'.place x ≡ x
  pub rest : (x : ℕ) → x < S.n → x ≢ r → forward_of σ x ≢ d → τ'.place x ≡ τ.place x
  -- openings of homes: the mover's, where it was at home and where not; that of the row sent home; the rest
  pub home_mover : forward_of σ r ≡ empty → τ'.openings r ≡ τ.openings r + 2
  pub home_absent : forward_of σ r < S.q → τ'.openings r ≡ τ.openings r
  pub home_evicted : (x : ℕ) → x < S.n → x ≢ r → forward_of σ x ≡ d → τ'.openings x ≡ τ.openings x + 1
  pub home_rest : (x : ℕ) → x < S.n → x ≢ r → forward_of σ x ≢ d → τ'.openings x ≡ τ.openings x
  -- openings of slots: d, empty or not; the slot that the row leaves; the others
  pub slot_filled : ((eqb (reverse_of σ d) empty ≡ true) × (τ'.openings (S.n + d) ≡ τ.openings (S.n + d) + 1))
      ⊎ ((eqb (reverse_of σ d) empty ≡ false) × (τ'.openings (S.n + d) ≡ τ.openings (S.n + d) + 2))
  pub slot_freed : forward_of σ r < S.q → τ'.openings (S.n + forward_of σ r) ≡ τ.openings (S.n + forward_of σ r) + 2
  pub slot_others : (s : ℕ) → s < S.q → s ≢ d → s ≢ forward_of σ r → τ'.openings (S.n + s) ≡ τ.openings (S.n + s)

module _ (S : Settings) (σ : State) (sound : Sound S σ) (τ : Tally) (r : ℕ) (row_in : r < S.n) (placed : τ.place r ≡ place S σ r) where
  p_is : ((forward_of σ r ≡ empty) × (τ.place r ≡ r)) ⊎ ((forward_of σ r < S.q) × (τ.place r ≡ S.n + forward_of σ r))
  p_is = rw placed (place_is S σ sound r row_in)

  -- a home row other than r's is not opened as r's place
  pub hit-home : (x : ℕ) → x < S.n → x ≢ r → hit (τ.place r) x ≡ 0
  hit-home x b n = hit_other (τ.place r) x (λ e. elim p_is [ inl c ↦ n (e ∙ c.1) | inr c ↦ omega (arith, c.1) ])

  -- a slot other than r's neither
  pub hit-slot : (s : ℕ) → s ≢ forward_of σ r → hit (τ.place r) (S.n + s) ≡ 0
  hit-slot s n = hit_other (τ.place r) (S.n + s) (λ e. elim p_is [ inl c ↦ omega (arith, c.1) | inr c ↦ n (omega (arith, c.1)) ])

  -- r's home, where r is at home and where not; r's slot
  pub hit_here : forward_of σ r ≡ empty → hit (τ.place r) r ≡ 1
  hit_here e = hit_same (τ.place r) r (elim p_is [ inl c ↦ sym c.1 | inr c ↦ absurd (marks_none S sound.ranges (forward_of σ r) (omega (arith, c.0)) e) ])

  pub hit_away : forward_of σ r < S.q → hit (τ.place r) r ≡ 0
  hit_away b = hit_other (τ.place r) r (λ e. elim p_is [ inl c ↦ marks_none S sound.ranges (forward_of σ r) (omega arith) c.0 | inr c ↦ omega (arith, c.1) ])

  pub hit_own : forward_of σ r < S.q → hit (τ.place r) (S.n + forward_of σ r) ≡ 1
  hit_own b = hit_same (τ.place r) (S.n + forward_of σ r) (elim p_is [ inl c ↦ absurd (marks_none S sound.ranges (forward_of σ r) (omega arith) c.0) | inr c ↦ sym c.1 ])

  module _ (d : ℕ) (slot_in : d < S.q) (free : d ≢ forward_of σ r) where
    -- the slot's row is no home row, and the slots are apart
    target_home : (x : ℕ) → x < S.n → hit (S.n + d) x ≡ 0
    target_home x b = hit_other (S.n + d) x (λ e. omega arith)

    target_slot : (s : ℕ) → s ≢ d → hit (S.n + d) (S.n + s) ≡ 0
    target_slot s n = hit_other (S.n + d) (S.n + s) (λ e. n (omega arith))

    target_self : hit (S.n + d) (S.n + d) ≡ 1
    target_self = hit_same (S.n + d) (S.n + d) refl

    -- a slot is answered, and no row or a row
    to_slot : after_access S τ r d empty ≡ after_move S τ r d
    to_slot = rw (ne_eqb d empty (marks_none S sound.ranges d (omega arith)))

    over_slot : (v : ℕ) → v < S.n → after_access S τ r d v ≡ after_move_over S τ r d v
    over_slot v v-in = rw (ne_eqb d empty (marks_none S sound.ranges d (omega arith)), ne_eqb v empty (marks_none S sound.ranges v (omega arith)))

    pub tallied_to : reverse_of σ d ≡ empty → ((x : ℕ) → x < S.n → forward_of σ x ≢ d) → Tallied S σ τ (after_access S τ r d empty) r d
    tallied_to vacant none =
        rw to_slot
        (record {
          quarantine = refl;
          mover = rw (eq-eqb r r refl);
          evicted = λ x b n e. absurd (none x b e);
          rest = λ x b n e. rw (ne_eqb x r n);
          home_mover = λ e. omega (arith, hit_here e, target_home r row_in);
          home_absent = λ b. omega (arith, hit_away b, target_home r row_in);
          home_evicted = λ x b n e. absurd (none x b e);
          home_rest = λ x b n e. omega (arith, hit-home x b n, target_home x b);
          slot_filled = inl (eq-eqb (reverse_of σ d) empty vacant, omega (arith, hit-slot d free, target_self));
          slot_freed = λ b. omega (arith, hit_own b, target_slot (forward_of σ r) (λ e. free (sym e)));
          slot_others = λ s b n m. omega (arith, hit-slot s m, target_slot s n);
        })

    pub tallied_over : (v : ℕ) → reverse_of σ d ≡ v → v < S.n → forward_of σ v ≡ d → ((x : ℕ) → x < S.n → forward_of σ x ≡ d → x ≡ v) → Tallied S σ τ (after_access S τ r d v) r d
    tallied_over v held v-in back only =
        let differs : r ≢ v = λ e. free (sym (ap (forward_of σ) e ∙ back)) in
        let slot-hit : (s : ℕ) → hit v (S.n + s) ≡ 0 = λ s. hit_other v (S.n + s) (λ e. omega arith) in
        rw (over_slot v v-in)
        (record {
          quarantine = refl;
          mover = rw (ne_eqb r v differs, eq-eqb r r refl);
          evicted = λ x b n e. rw (eq-eqb x v (only x b e)) (sym (only x b e));
          rest = λ x b n e. rw (ne_eqb x v (λ xv. e (ap (forward_of σ) xv ∙ back)), ne_eqb x r n);
          home_mover = λ e. omega (arith, hit_here e, target_home r row_in, hit_other v r differs);
          home_absent = λ b. omega (arith, hit_away b, target_home r row_in, hit_other v r differs);
          home_evicted = λ x b n e. omega (arith, hit-home x b n, target_home x b, hit_same v x (only x b e));
          home_rest = λ x b n e. omega (arith, hit-home x b n, target_home x b, hit_other v x (λ xv. e (ap (forward_of σ) xv ∙ back)));
          slot_filled = inr (ne_eqb (reverse_of σ d) empty (λ e. marks_none S sound.ranges v (omega arith) (sym held ∙ e)), omega (arith, hit-slot d free, target_self, slot-hit d));
          slot_freed = λ b. omega (arith, hit_own b, target_slot (forward_of σ r) (λ e. free (sym e)), slot-hit (forward_of σ r));
          slot_others = λ s b n m. omega (arith, hit-slot s m, target_slot s n, slot-hit s);
        })
