-- What a slot is charged with: its openings, and one more while it holds a row, since that row's leaving will open it.
-- It grows by at most A + 2 in an epoch. So the openings of one epoch are at most A + 3, and those of two at most 2A + 5.
-- Assumes nothing.
use Prim.Native.Nat.{ℕ, ◌+◌, ◌<◌, ◌≤◌}
use native.Mathlib.Omega.{arith}
use mathlib.Core.Path.{◌≡◌, sym, ap, ◌∙◌}
use mathlib.Core.Logic.{inl, inr}
use mathlib.Core.Bool.{Bool, not}
use lib.Dec.{eqb}
use borrow.Author.Tests.{ne_eqb, eq-eqb, eqb-false}
use Rattle.geometry.specs.declared.Settings.{Settings}
use Rattle.geometry.specs.Entry.{empty}
use Rattle.basics.proofs.Cases.{split}
use Rattle.basics.specs.Ranges.{some_below}
use Rattle.basics.proofs.Below.{none_below, fails_below}
use Rattle.tracking.proofs.Tracking.{one_if}
use Rattle.engine.specs.State.{State, forward_of, reverse_of}
use Rattle.engine.specs.Steps.{place}
use Rattle.engine.proofs.Pointers.{Sound, marks_none, place_is}
use Rattle.history.specs.Tally.{Tally}

-- slot s is occupied, by the tally: some row's place is there
unfoldable pub occupied : Settings → Tally → ℕ → Bool
occupied S τ s = some_below (λ x. eqb (τ.place x) (S.n + s)) S.n

abbrev pub charge : Settings → Tally → ℕ → ℕ
charge S τ s = τ.openings (S.n + s) + one_if (occupied S τ s)

pub charge_most : (S : Settings) (τ : Tally) (s : ℕ) → charge S τ s ≤ τ.openings (S.n + s) + 1
charge_most S τ s = elim (split (occupied S τ s)) [ inl k ↦ rw k (omega arith) | inr k ↦ rw k (omega arith) ]

-- where the tally has the places that the tables have, a slot is occupied exactly where its reverse entry names a row
pub occupied_is : (S : Settings) (σ : State) → Sound S σ → (τ : Tally) → ((x : ℕ) → x < S.n → τ.place x ≡ place S σ x)
    → (s : ℕ) → s < S.q → occupied S τ s ≡ not (eqb (reverse_of σ s) empty)
unfolding occupied
occupied_is S σ sound τ places s b =
    let there : ℕ → Bool = λ x. eqb (τ.place x) (S.n + s) in
    elim (sound.inverse.reverse s b) [
      | inl e ↦
          rw (eq-eqb (reverse_of σ s) empty e)
          (none_below there S.n (λ x l. ne_eqb (τ.place x) (S.n + s) (λ at.
          elim (place_is S σ sound x l) [
            | inl c ↦ omega (arith, places x l, c.1)
            | inr c ↦
                let in-slot : forward_of σ x ≡ s = omega (arith, places x l, c.1) in
                elim (sound.inverse.forward x l) [
                  | inl z ↦ marks_none S sound.ranges (forward_of σ x) (omega (arith, c.0)) z
                  | inr k ↦ marks_none S sound.ranges x (omega arith) (sym k.1 ∙ ap (reverse_of σ) in-slot ∙ e)
                ]
          ])))
      | inr c ↦
          let x : ℕ = reverse_of σ s in
          let at : τ.place x ≡ S.n + s =
          elim (place_is S σ sound x c.0) [
            | inl k ↦ absurd (marks_none S sound.ranges s (omega arith) (sym c.1 ∙ k.0))
            | inr k ↦ omega (arith, places x c.0, k.1, c.1)
          ] in
          rw (ne_eqb x empty (marks_none S sound.ranges x (omega (arith, c.0))))
          (elim (split (some_below there S.n)) [
            | inl t ↦ t
            | inr f ↦ absurd (eqb-false (τ.place x) (S.n + s) (fails_below there S.n x f c.0) at)
          ])
    ]
