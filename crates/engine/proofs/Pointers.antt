-- The pointer tables under a move: what it changes, and that they stay inverse. Assumes nothing.
use Prim.Native.Nat.{ℕ, ◌+◌, ◌<◌, ◌≤◌}
use native.Mathlib.Omega.{arith}
use mathlib.Core.Path.{◌≡◌, refl, sym, ap, ◌∙◌}
use mathlib.Core.Logic.{◌⊎◌, inl, inr, ◌≢◌}
use mathlib.Core.List.{List}
use mathlib.Core.Bool.{false}
use lib.Dec.{eqb}
use lib.ListN.{length, get_or, set, length-set}
use lib.Seq.{get_or-set_same, get_or-set_other}
use borrow.Author.Tests.{ne_eqb, eq-eqb}
use Rattle.geometry.specs.declared.Settings.{Settings}
use Rattle.geometry.specs.Entry.{empty}
use Rattle.basics.proofs.Cases.{split, eq?}
use Rattle.conditions.proofs.Facts.{Ranges, Exact}
use Rattle.engine.specs.State.{State, lengths_of, forward_of, reverse_of}
use Rattle.engine.specs.Steps.{place, left}
use Rattle.engine.specs.Inverse.{Inverse}

-- settings in their ranges, tables of their lengths, numbers for every bank, and inverse tables
pub record Sound (S : Settings) (σ : State) : Type 0 where
  pub ranges : Ranges S
  pub lengths : Exact S (lengths_of σ)
  pub spill_long : S.b ≤ length σ.control.spill
  pub acts_long : S.b ≤ length σ.control.acts
  pub inverse : Inverse S σ

-- row r is moved to slot d: the tables that come of it
pub record Relinked (S : Settings) (σ : State) (r d : ℕ) (forward reverse : List ℕ) : Type 0 where
  pub mover : get_or forward r empty ≡ d
  -- the row that slot d held is sent home
  pub evicted : (x : ℕ) → x < S.n → x ≢ r → forward_of σ x ≡ d → get_or forward x empty ≡ empty
  pub rest : (x : ℕ) → x < S.n → x ≢ r → forward_of σ x ≢ d → get_or forward x empty ≡ forward_of σ x
  pub filled : get_or reverse d empty ≡ r
  -- the slot that the row leaves
  pub freed : forward_of σ r < S.q → get_or reverse (forward_of σ r) empty ≡ empty
  pub others : (s : ℕ) → s ≢ d → s ≢ forward_of σ r → get_or reverse s empty ≡ reverse_of σ s

-- no row, slot or physical row is the mark for empty
pub marks_none : (S : Settings) → Ranges S → (x : ℕ) → x < S.n + S.q → x ≢ empty
marks_none S R x b e = omega (arith, R.n_high, R.q_high)

module _ (S : Settings) (σ : State) (sound : Sound S σ) (r : ℕ) (row_in : r < S.n) where
  real : (x : ℕ) → x < S.n + S.q → x ≢ empty
  real = marks_none S sound.ranges

  -- the place of a row
  pub place_is : ((forward_of σ r ≡ empty) × (place S σ r ≡ r)) ⊎ ((forward_of σ r < S.q) × (place S σ r ≡ S.n + forward_of σ r))
  place_is =
      elim (sound.inverse.forward r row_in) [
        | inl e ↦ inl (e, rw (eq-eqb (forward_of σ r) empty e))
        | inr c ↦ inr (c.0, rw (ne_eqb (forward_of σ r) empty (real (forward_of σ r) (omega (arith, c.0)))))
      ]

  pub place-in : place S σ r < S.n + S.q
  place-in = elim place_is [ inl c ↦ omega (arith, c.1) | inr c ↦ omega (arith, c.0, c.1) ]

  -- two rows have two places
  pub apart : (x : ℕ) → x < S.n → x ≢ r → forward_of σ x ≢ empty → forward_of σ x ≢ forward_of σ r
  apart x b n full e =
      elim (sound.inverse.forward x b) [
        | inl z ↦ full z
        | inr c ↦ elim (sound.inverse.forward r row_in) [
          | inl z ↦ full (e ∙ z)
          | inr k ↦ n (sym c.1 ∙ ap (reverse_of σ) e ∙ k.1)
        ]
      ]

  module _ (d : ℕ) (slot_in : d < S.q) (free : d ≢ forward_of σ r) where
    pub left_long : length (left σ.tables.reverse (forward_of σ r)) ≡ S.q
    left_long =
        elim (split (eqb (forward_of σ r) empty)) [ inl k ↦ rw k sound.lengths.reverse | inr k ↦ rw k (simp length-set sound.lengths.reverse) ]

    reverse_filled : get_or (set (left σ.tables.reverse (forward_of σ r)) d r) d empty ≡ r
    reverse_filled = get_or-set_same (left σ.tables.reverse (forward_of σ r)) d r empty (omega (arith, left_long))

    reverse_freed : forward_of σ r < S.q → get_or (set (left σ.tables.reverse (forward_of σ r)) d r) (forward_of σ r) empty ≡ empty
    reverse_freed b =
        let t : eqb (forward_of σ r) empty ≡ false = ne_eqb (forward_of σ r) empty (real (forward_of σ r) (omega arith)) in
        get_or-set_other (left σ.tables.reverse (forward_of σ r)) d (forward_of σ r) r empty (λ e. free (sym e))
        ∙ rw t (get_or-set_same σ.tables.reverse (forward_of σ r) empty empty (omega (arith, sound.lengths.reverse)))

    reverse_others : (s : ℕ) → s ≢ d → s ≢ forward_of σ r → get_or (set (left σ.tables.reverse (forward_of σ r)) d r) s empty ≡ reverse_of σ s
    reverse_others s nd ne =
        get_or-set_other (left σ.tables.reverse (forward_of σ r)) d s r empty nd
        ∙ elim (split (eqb (forward_of σ r) empty)) [
          | inl k ↦ rw k refl
          | inr k ↦ rw k (get_or-set_other σ.tables.reverse (forward_of σ r) s empty empty ne)
        ]

    -- a row in slot d is the one that its reverse entry names
    pub holder : (x : ℕ) → x < S.n → forward_of σ x ≡ d → reverse_of σ d ≡ x
    holder x b e =
        elim (sound.inverse.forward x b) [
          | inl z ↦ absurd (real d (omega arith) (sym e ∙ z))
          | inr c ↦ ap (reverse_of σ) (sym e) ∙ c.1
        ]

    -- to an empty slot
    pub relinked_to : reverse_of σ d ≡ empty → Relinked S σ r d (set σ.tables.forward r d) (set (left σ.tables.reverse (forward_of σ r)) d r)
    relinked_to vacant =
        record {
          mover = get_or-set_same σ.tables.forward r d empty (omega (arith, sound.lengths.forward));
          evicted = λ x b n e. absurd (real x (omega arith) (sym (holder x b e) ∙ vacant));
          rest = λ x b n e. get_or-set_other σ.tables.forward r x d empty n;
          filled = reverse_filled;
          freed = reverse_freed;
          others = reverse_others;
        }

    -- to a slot whose row v is sent home
    pub relinked_over : (v : ℕ) → reverse_of σ d ≡ v → v < S.n → forward_of σ v ≡ d
        → Relinked S σ r d (set (set σ.tables.forward v empty) r d) (set (left σ.tables.reverse (forward_of σ r)) d r)
    relinked_over v held v-in back =
        record {
          mover = get_or-set_same (set σ.tables.forward v empty) r d empty (omega (arith, length-set σ.tables.forward v empty, sound.lengths.forward));
          evicted = λ x b n e.
              let xv : x ≡ v = sym (holder x b e) ∙ held in
              get_or-set_other (set σ.tables.forward v empty) r x d empty n ∙ rw xv (get_or-set_same σ.tables.forward v empty empty (omega (arith, sound.lengths.forward)));
          rest = λ x b n e.
              get_or-set_other (set σ.tables.forward v empty) r x d empty n ∙ get_or-set_other σ.tables.forward v x empty empty (λ xv. e (ap (forward_of σ) xv ∙ back));
          filled = reverse_filled;
          freed = reverse_freed;
          others = reverse_others;
        }

    -- the tables are inverse again
    pub inverse_moved : (σ' : State) → Relinked S σ r d σ'.tables.forward σ'.tables.reverse → Inverse S σ'
    inverse_moved σ' L =
        record {
          forward = λ x b. elim (eq? x r) [
            | inl e ↦ inr (rw (e, L.mover) slot_in, rw (e, L.mover) L.filled)
            | inr n ↦ elim (eq? (forward_of σ x) d) [
              | inl e ↦ inl (L.evicted x b n e)
              | inr m ↦ elim (sound.inverse.forward x b) [
                | inl z ↦ inl (L.rest x b n m ∙ z)
                | inr c ↦
                    let ne : forward_of σ x ≢ forward_of σ r = apart x b n (real (forward_of σ x) (omega (arith, c.0))) in
                    inr (rw (L.rest x b n m) c.0, rw (L.rest x b n m) (L.others (forward_of σ x) m ne ∙ c.1))
              ]
            ]
          ];
          reverse = λ s b. elim (eq? s d) [
            | inl e ↦ inr (rw (e, L.filled) row_in, rw (e, L.filled) L.mover)
            | inr n ↦ elim (eq? s (forward_of σ r)) [
              | inl e ↦ inl (ap (reverse_of σ') e ∙ L.freed (rw e at b))
              | inr m ↦ elim (sound.inverse.reverse s b) [
                | inl z ↦ inl (L.others s n m ∙ z)
                | inr c ↦
                    let k : reverse_of σ s ≢ r = λ e. m (sym c.1 ∙ ap (forward_of σ) e) in
                    inr (rw (L.others s n m) c.0, rw (L.others s n m) (L.rest (reverse_of σ s) c.0 k (λ e. n (sym c.1 ∙ e)) ∙ c.1))
              ]
            ]
          ];
        }
