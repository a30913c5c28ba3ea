-- A step is a tick or a read. Assumes nothing.
use Prim.Native.Nat.{ℕ}
use mathlib.Core.Path.{◌≡◌, refl, sym, ◌∙◌, ap}
use mathlib.Core.Logic.{◌≢◌, inl, inr}
use mathlib.Core.Bool.{Bool, true, false}
use mathlib.Core.List.{List}
use lib.Dec.{eqb}
use lib.ListN.{replicate}
use borrow.Author.Tests.{eq-eqb, ne_eqb, eqb-true, eqb-false, clash}
use Rattle.std.specs.Prelude.{Result, Ok, Err}
use Rattle.std.specs.Result.{IsOkAnd, MatchResult}
use Rattle.basics.proofs.Cases.{split}
use Rattle.refusals.specs.declared.Refusal.{Refusal}
use Rattle.refusals.specs.Refusals.{numbered}
use Rattle.access.specs.declared.Accepted.{Accepted}
use Rattle.access.specs.Answers.{reply_of}
use Rattle.geometry.specs.declared.Settings.{Settings}
use Rattle.geometry.specs.declared.Control.{Control}
use Rattle.engine.specs.State.{State, state_of}
use Rattle.engine.specs.Calls as calls
use Rattle.engine.specs.declared.Served.{Served}
use Rattle.figures.specs.declared.Outcome.{Outcome}
use Rattle.figures.specs.Outcome.{outcome_of}
use Rattle.figures.specs.Promises.{TickPromise, ReadPromise}
use Rattle.history.specs.Run.{read, access, rank, step}
use Rattle.lines.specs.declared.Line.{Line}
use Rattle.lines.specs.Lines.{bare, line_of_access}
use Rattle.trace_steps.specs.declared.Step.{Step}
use Rattle.trace_steps.specs.declared.Step.TheVariants.{Tick, Read}
use Rattle.trace_steps.specs.Step.{step_of}
use Rattle.trace_steps.specs.Steps.{StepLine, stepped_of, stepped, call_step}

-- ---- the number of a step

abbrev is_tick : Step → Bool
is_tick Tick = true
is_tick (Read row) = false

abbrev row_in : Step → ℕ
row_in Tick = 0
row_in (Read row) = row

tick_is : (x : ℕ) → Tick ≡ step_of x → x ≡ 65535
tick_is x e =
    elim (split (eqb x 65535)) [ inl f ↦ eqb-true x 65535 f | inr f ↦ absurd (clash (sym (ap is_tick (rw f at e)))) ]

read_is : (x row : ℕ) → Read row ≡ step_of x → (row ≢ 65535) × (row ≡ x)
read_is x row e =
    elim (split (eqb x 65535)) [
      | inl f ↦ absurd (clash (ap is_tick (rw f at e)))
      | inr f ↦ let same : row ≡ x = ap row_in (rw f at e) in (λ g. eqb-false x 65535 f (sym same ∙ g), same)
    ]

-- ---- what a step shows

-- what was served, of all that an access gives back
pub served_of : {P : Accepted → Served → Type 0} (answer : Result Accepted Refusal) (served : Result Served Refusal)
    → ((a : Accepted) (x : Served) → P a x → x ≡ a.served)
    → MatchResult answer (λ a. IsOkAnd served (P a)) (λ e. served ≡ Err e) → numbered served ≡ reply_of answer
served_of (Ok a) (Ok x) is p = ap (λ (y : Served). Ok y) (is a x p)
served_of (Ok a) (Err x) is p = absurd p
served_of (Err x) served is p = ap numbered p

-- what an access shows
abbrev shown : calls.Accessed → StepLine
shown a = stepped_of a.state (line_of_access (outcome_of a.answer))

module _ (S : Settings) (σ : State) where
  shown_read : (x : ℕ) (b : List ℕ) → shown (calls.read S σ x b) ≡ call_step S σ (rank (access (read x b)))
  unfolding step
  shown_read x b = refl

  -- the lists and `next`: what the step left
  module _ {store forward reverse rows counts : List ℕ} {next : Control} {line : Line} (x : ℕ) where
    pub tick-step : {number : ℕ} → Tick ≡ step_of x → line ≡ bare number
        → TickPromise S σ (state_of store forward reverse rows counts next) number
        → stepped_of (state_of store forward reverse rows counts next) line ≡ stepped S σ x
    unfolding stepped step
    tick-step e is-line made =
        rw (is-line, eq-eqb x 65535 (tick_is x e)) (ap (λ (n : calls.Noted). stepped_of n.state (bare n.number)) made)

    read_as : (row : ℕ) {outcome : Outcome} {buffer filled : List ℕ} → row ≢ 65535 → line ≡ line_of_access outcome
        → buffer ≡ replicate S.w 0
        → ReadPromise S σ row buffer (state_of store forward reverse rows counts next) outcome filled
        → stepped_of (state_of store forward reverse rows counts next) line ≡ stepped S σ row
    unfolding stepped
    read_as row {buffer = buffer} e is-line blank made =
        rw (ne_eqb row 65535 e)
        (ap (λ (τ : State). stepped_of τ line) made.0
        ∙ (ap (stepped_of (calls.read S σ row buffer).state) (is-line ∙ ap line_of_access made.1)
        ∙ (ap (λ (b : List ℕ). shown (calls.read S σ row b)) blank ∙ shown_read row (replicate S.w 0))))

    pub read_step : {row : ℕ} {outcome : Outcome} {buffer filled : List ℕ} → Read row ≡ step_of x
        → line ≡ line_of_access outcome → buffer ≡ replicate S.w 0
        → ReadPromise S σ row buffer (state_of store forward reverse rows counts next) outcome filled
        → stepped_of (state_of store forward reverse rows counts next) line ≡ stepped S σ x
    read_step {row} e is-line blank made =
        let known = read_is x row e in
        read_as row known.0 is-line blank made ∙ ap (stepped S σ) known.1
