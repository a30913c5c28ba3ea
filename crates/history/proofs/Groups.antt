-- One call by its group: its number, what a refusal leaves, and what an accepted call leaves. Assumes nothing.
use Prim.Native.Nat.{ℕ, ◌+◌, ◌≤◌}
use mathlib.Core.Path.{◌≡◌, refl, sym, ap, ◌∙◌, subst}
use mathlib.Core.Logic.{inl, inr, ◌≢◌}
use mathlib.Core.Bool.{false}
use mathlib.Core.List.{List, []}
use lib.Dec.{eqb}
use lib.ListN.{length}
use Rattle.std.specs.Prelude.{Ok}
use borrow.Author.Tests.{eq-eqb, ne_eqb, eqb-true, eqb-false, ltb-false}
use Rattle.geometry.specs.declared.Settings.{Settings}
use Rattle.basics.proofs.Cases.{split}
use Rattle.row_layout.specs.Bytes.{row_bytes, written}
use Rattle.engine.specs.State.{State}
use Rattle.engine.specs.Answer.{number_of}
use Rattle.engine.specs.Steps.{place, state_after}
use Rattle.engine.specs.Ladder.{tick_number, access_number}
use Rattle.engine.specs.Calls as calls
use Rattle.engine.proofs.Facts.{tick_not_9, inspect_not_9}
use Rattle.engine.proofs.Answers.{number_is}
use Rattle.history.specs.Run.{Access, read, write, Look, access, look, Call, rank, tick}
use Rattle.history.specs.Run.{row_of, span_off, asked_of, access_of, row_looked, look_number}
use Rattle.history.specs.Run.{Answer, figureless, Step, of_access, step, Event, event_of, OfAccess, OfAccepted}
use Rattle.history.specs.Demand1.{lent_buffer, buffer_of}

-- ---- by what a read and a write differ

-- the store after step 3
abbrev pub store_by : Settings → State → Access → List ℕ
store_by S σ (read r buffer) = σ.store
store_by S σ (write r column bytes) = written S.w σ.store (place S σ r) column bytes

-- the read buffer after an accepted one
abbrev pub filled_by : Settings → State → Access → List ℕ
filled_by S σ (read r buffer) = row_bytes S.w σ.store (place S σ r)
filled_by S σ (write r column bytes) = []

-- a write whose span is not off ends within its row
pub write_within : (S : Settings) (r column : ℕ) (bytes : List ℕ) → span_off S (write r column bytes) ≡ false
    → column + length bytes ≤ S.w
write_within S r column bytes e = ltb-false S.w (column + length bytes) e

-- ---- what is said of accesses alone

of-access : {P : Access → Type 0} → ((a : Access) → P a) → (c : Call) → OfAccess P c
of-access h (rank (access a)) = h a
of-access h (rank (look x)) = tt
of-access h tick = tt

-- nothing is said of a refused call
pub not_accepted : (P : Access → Answer → Type 0) (e : Event) → e.answer.number ≢ 0 → OfAccepted P e
not_accepted P e n = of-access (λ a z. absurd (n z)) e.call

module _ (S : Settings) (σ : State) where
  -- ---- the number of a call

  -- the number that the ladder gives for a call
  abbrev pub ladder : Call → ℕ
  ladder (rank (access a)) = access_number S σ (asked_of S a)
  ladder (rank (look x)) = look_number S σ x
  ladder tick = tick_number S σ

  -- a read and a write go through the same steps
  access_is : (a : Access)
      → access_of S σ a ≡ calls.accessed S σ (row_of a) (ladder (rank (access a))) (store_by S σ a) (filled_by S σ a) (lent_buffer a)
  unfolding calls.read calls.write
  access_is (read r buffer) = refl
  access_is (write r column bytes) = refl

  -- the number is the ladder's
  pub step-number : (c : Call) → (step S σ c).answer.number ≡ ladder c
  unfolding step calls.tick calls.noted
  step-number (rank (access a)) = ap (λ (x : calls.Accessed). number_of x.answer) (access_is a) ∙ number_is S σ (row_of a) _ _ _ _
  step-number (rank (look x)) = refl
  step-number tick = refl

  -- only an access is refused with 9
  pub at_9 : (P : Call → Type 0) → ((a : Access) → ladder (rank (access a)) ≡ 9 → P (rank (access a)))
      → (c : Call) → (step S σ c).answer.number ≡ 9 → P c
  unfolding step calls.tick calls.noted
  at_9 P h (rank (access a)) e = h a (sym (step-number (rank (access a))) ∙ e)
  at_9 P h (rank (look x)) e = absurd (inspect_not_9 S σ (row_looked x) e)
  at_9 P h tick e = absurd (tick_not_9 S σ e)

  -- ---- what a call leaves and answers

  -- a refused one
  abbrev pub refused_step : Call → Step
  refused_step c = record { state = σ; answer = figureless (ladder c) (buffer_of c) }

  pub refused-step : (c : Call) → ladder c ≢ 0 → step S σ c ≡ refused_step c
  unfolding step calls.tick calls.accessed calls.noted
  refused-step (rank (access a)) n = rw (access_is a, ne_eqb (ladder (rank (access a))) 0 n)
  refused-step (rank (look x)) n = refl
  refused-step tick n = rw (ne_eqb (tick_number S σ) 0 n)

  -- an accepted one
  abbrev pub accepted_step : Call → Step
  accepted_step (rank (access a)) =
      of_access
      (record {
        state = state_after S σ (row_of a) (store_by S σ a);
        answer = Ok (calls.served S σ (row_of a));
        buffer = filled_by S σ a;
      })
  accepted_step (rank (look x)) = record { state = σ; answer = figureless 0 [] }
  accepted_step tick = record { state = calls.ticked S σ; answer = figureless 0 [] }

  pub accepted-step : (c : Call) → ladder c ≡ 0 → step S σ c ≡ accepted_step c
  unfolding step calls.tick calls.accessed calls.noted
  accepted-step (rank (access a)) z = rw (access_is a, eq-eqb (ladder (rank (access a))) 0 z)
  accepted-step (rank (look x)) z = rw z
  accepted-step tick z = rw z

  -- What holds of each call that is refused, and in each group of each call that is accepted, holds of every call.
  pub step_cases : (P : Call → Step → Type 0)
      → ((c : Call) → ladder c ≢ 0 → P c (refused_step c))
      → ((a : Access) → ladder (rank (access a)) ≡ 0 → P (rank (access a)) (accepted_step (rank (access a))))
      → ((x : Look) → ladder (rank (look x)) ≡ 0 → P (rank (look x)) (accepted_step (rank (look x))))
      → (ladder tick ≡ 0 → P tick (accepted_step tick))
      → (c : Call) → P c (step S σ c)
  step_cases P refusals accesses looks ticks c =
      let by-group : (c : Call) → ladder c ≡ 0 → P c (accepted_step c) =
      elim [ rank (access a) ↦ accesses a | rank (look x) ↦ looks x | tick ↦ ticks ] in
      elim (split (eqb (ladder c) 0)) [
        | inl e ↦ let z = eqb-true (ladder c) 0 e in subst (P c) (sym (accepted-step c z)) (by-group c z)
        | inr e ↦ let n = eqb-false (ladder c) 0 e in subst (P c) (sym (refused-step c n)) (refusals c n)
      ]

  -- What holds of each accepted access and its answer is said of every call.
  pub of_accepted : (P : Access → Answer → Type 0)
      → ((a : Access) → ladder (rank (access a)) ≡ 0 → P a (accepted_step (rank (access a))).answer)
      → (c : Call) → OfAccepted P (event_of c (step S σ c))
  of_accepted P h =
      step_cases (λ c s. OfAccepted P (event_of c s))
      (λ c n. not_accepted P (event_of c (refused_step c)) n)
      (λ a z w. h a z)
      (λ x z. tt)
      (λ z. tt)
