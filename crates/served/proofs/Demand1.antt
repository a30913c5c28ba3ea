-- Demand 1 of the C functions. Assumes nothing.
use Prim.Native.Nat.{ℕ, ◌*◌, zero-le}
use mathlib.Core.Path.{◌≡◌, refl, sym, ap, ◌∙◌, subst}
use mathlib.Core.Logic.{◌≢◌, inl, inr}
use native.Mathlib.Omega.{arith}
use Rattle.basics.specs.Lists.{OneOf}
use Rattle.basics.proofs.Cases.{eq?}
use Rattle.geometry.specs.declared.Settings.{Settings}
use Rattle.geometry.specs.Numbering.{physical}
use Rattle.engine.specs.State.{State}
use Rattle.engine.specs.Steps.{place}
use Rattle.engine.specs.Ladder as ladders
use Rattle.engine.specs.Calls as calls
use Rattle.engine.proofs.Parts.{part_inside, part_is, width_some}
use Rattle.figures.specs.declared.Span.{Span}
use Rattle.figures.specs.Span.{span_of}
use Rattle.figures.specs.Promises.{SetUpPromise}
use Rattle.figures.proofs.Spans.{span_part, span_none, span_row}
use Rattle.history.specs.Run as run
use Rattle.history.specs.Demand1.{allowed, buffer_of}
use Rattle.history.proofs.Refusals.{demand_1}
use Rattle.served.specs.Transcript.{Exchange, Promised, seen}
use Rattle.served.specs.Demand1.{ProperSetUp, Proper, ProperSpan, Demand1Served}
use Rattle.served.proofs.Exchange.{Tells, exchange_cases, step_of, told}

pub proper : (S : Settings) (before after : State) (x : Exchange) → Tells x → Promised S before x after → Proper before x after
proper S before after x t p =
    let c : run.Call = (seen x).call in
    let same = told S before after x t p in
    let number : (seen x).answer.number ≡ (run.step S before c).answer.number = ap (λ (s : run.Step). s.answer.number) same in
    let refusal : (seen x).answer.number ≢ 0
    → step_of after (seen x).answer ≡ step_of before (run.figureless (seen x).answer.number (buffer_of c)) =
    λ n. same ∙ demand_1.refused S before c (λ z. n (number ∙ z))
    ∙ ap (λ (k : ℕ). step_of before (run.figureless k (buffer_of c))) (sym number) in
    record {
      number = subst (OneOf (allowed c)) (sym number) (demand_1.number S before c);
      kept = λ n. ap (λ (s : run.Step). s.state) (refusal n);
      figures = λ n. ap (λ (s : run.Step). s.answer) (refusal n);
    }

proper_set_up : (S : Settings) (before after : State) (number : ℕ) → SetUpPromise S before after number
    → ProperSetUp before number after
proper_set_up S before after number p =
    let same : number ≡ (calls.set_up S before).number = ap (λ (n : calls.Noted). n.number) p in
    record {
      one_of = rw same (demand_1.set_up-number S before);
      kept = λ n. ap (λ (m : calls.Noted). m.state) p ∙ demand_1.set_up_refused S before (λ z. n (same ∙ z));
    }

-- ---- inspect's span

module _ (S : Settings) (lent : State) (row : ℕ) where
  none : ladders.inspect_number S lent row ≢ 0 → record { start = 0; length = 0 } ≡ span_of S lent row
  none n = span_none S lent row _ refl n _ refl

  some : ladders.inspect_number S lent row ≡ 0 → record { start = place S lent row * S.w; length = S.w } ≡ span_of S lent row
  some z = span_row S lent row _ refl z (physical (place S lent row)) refl _ refl

  proper_span : ProperSpan S lent row (ladders.inspect_number S lent row) (span_of S lent row)
  proper_span =
      record {
        none = λ n. rw (← none n);
        some = λ z e. omega (arith, width_some S lent row _ refl z, ap (λ (s : Span). s.length) (some z));
        inside = elim (eq? (ladders.inspect_number S lent row) 0) [
          | inl z ↦ rw (← some z) (part_inside S lent row _ refl z (physical (place S lent row)) refl)
          | inr n ↦ rw (← none n) zero-le
        ];
        bytes = λ z. span_part S lent row ∙ part_is S lent row _ refl z;
      }

pub demand_1_served : Demand1Served
demand_1_served =
    record {
      set-up = proper_set_up;
      calls = λ S before after.
          exchange_cases (λ x. Promised S before x after → Proper before x after) (proper S before after)
          (λ row span p. record { number = inl refl; kept = λ n. p.1; figures = λ n. absurd (n refl) });
      spans = λ S lent row number span is at. rw (is, at) (proper_span S lent row);
    }
