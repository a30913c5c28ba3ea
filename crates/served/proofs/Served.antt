-- A transcript is a chain of `history`, so what is proved of chains holds of it. Assumes nothing.
use Prim.Native.Nat.{ℕ}
use mathlib.Core.Path.{◌≡◌, refl, sym, ap, ◌∙◌, subst}
use mathlib.Core.Logic.{inl}
use mathlib.Core.Bool.{false}
use mathlib.Core.List.{List, [], ◌∷◌, ◌++◌, map}
use native.Mathlib.Nat.{suc-ne-zero}
use native.Mathlib.Omega.{arith}
use Rattle.geometry.specs.declared.Settings.{Settings}
use Rattle.conditions.specs.Conditions.{lengths_hold}
use Rattle.engine.specs.State.{State, lengths_of}
use Rattle.engine.specs.Ladder.{◌▹◌, settings_number, fit_number, set_up_number, control_number, tick_number, access_number}
use Rattle.engine.specs.Ladder as ladders
use Rattle.engine.specs.Calls as calls
use Rattle.engine.proofs.Rungs.{halts, goes_on, applies}
use Rattle.engine.proofs.Facts.{fit, settings_pass}
use Rattle.figures.specs.Promises.{SetUpPromise, TickPromise}
use Rattle.figures.specs.Span.{span_of}
use Rattle.figures.proofs.Spans.{span_part, span_none}
use Rattle.history.specs.Run as run
use Rattle.basics.specs.Lists.{Each}
use Rattle.history.specs.Chain.{Idle, misfit as lent-misfit, looks, Chain, end, call, idle, Claim, OfChains, CallClaim, AnyCall}
use Rattle.history.specs.Demand2.{InverseHolds, BytesHold, Usual}
use Rattle.history.specs.AfterTick.{GoodAccess}
use Rattle.history.specs.Demand3.{Demand3Holds}
use Rattle.history.specs.Window.{WindowHolds}
use Rattle.history.specs.Estimates.{EstimatesHold}
use Rattle.history.specs.Spent.{NotSpentEarlyHolds}
use Rattle.history.proofs.Groups.{ladder, step-number}
use Rattle.history.proofs.Chain.{chain_append}
use Rattle.history.proofs.History.{kept, inverse_kept, next_usual}
use Rattle.history.proofs.Window.{each_window}
use Rattle.history.proofs.Estimates.{concludes}
use Rattle.history.proofs.Spent.{spent_late}
use Rattle.history.proofs.Memory.{returned}
use Rattle.history.proofs.AfterTick.{accepted_after_tick, nine_is_good}
use Rattle.served.specs.Transcript.{Exchange, Promised, Logged, whole, misfit, Meets, Transcript, seen, seen_of}
use Rattle.served.specs.Claims.{OfTranscripts, OfCallsAfter, Demand3Served, WindowServed, Answers3, NumberOccurs, Demand2Served}
use Rattle.served.specs.Claims.{EstimatesServed, NotSpentEarlyServed, AcceptedAfterTickServed, NineIsGoodServed, BeginningsServed}
use Rattle.served.proofs.Exchange.{Tells, tells_read, tells_write, tells_number, tells_tick, exchange_cases, step_of, told, silent, exchanged}
use Rattle.served.proofs.Demand1.{proper}

-- ---- a call that is lent another length

module _ (S : Settings) (settings : settings_number S ≡ 0) (lent : State) (other : lengths_hold S (lengths_of lent) ≡ false) where
  set_up_3 : set_up_number S lent ≡ 3
  unfolding fit_number
  set_up_3 = goes_on _ settings ∙ applies 3 (rw other)

  stops_at_3 : {x : ℕ} (y : ℕ) → x ≡ 3 → x ▹ y ≡ 3
  stops_at_3 y e = halts y (λ z. omega arith) ∙ e

  tick_3 : tick_number S lent ≡ 3
  unfolding control_number
  tick_3 = stops_at_3 _ set_up_3

  inspect_3 : (r : ℕ) → ladders.inspect_number S lent r ≡ 3
  unfolding ladders.inspect_number
  inspect_3 r = stops_at_3 _ tick_3

  ladder_3 : (c : run.Call) → ladder S lent c ≡ 3
  unfolding access_number
  ladder_3 (run.rank (run.access a)) = stops_at_3 _ tick_3
  ladder_3 (run.rank (run.look x)) = inspect_3 (run.row_looked x)
  ladder_3 run.tick = tick_3

  module _ (after : State) (x : Exchange) where
    number_3 : Tells x → Promised S lent x after → (seen x).answer.number ≡ 3
    number_3 t p =
        ap (λ (s : run.Step). s.answer.number) (told S lent after x t p) ∙ step-number S lent (seen x).call ∙ ladder_3 (seen x).call

    after_kept : Tells x → Promised S lent x after → after ≡ lent
    after_kept t p = (proper S lent after x t p).kept (λ z. let e : (seen x).answer.number ≡ 3 = number_3 t p in omega arith)

  -- the event is idle, the memory stays, and the answer is 3
  pub record Misfit (after : State) (x : Exchange) : Type 0 where
    pub idles : Idle (seen x)
    pub keeps : after ≡ lent
    pub answers : Answers3 x

  span_3 : (r : ℕ) → span_of S lent r ≡ record { start = 0; length = 0 }
  span_3 r = sym (span_none S lent r 3 (sym (inspect_3 r)) (λ z. omega arith) _ refl)

  answers_3 : (x : Exchange) → Tells x → (seen x).answer.number ≡ 3 → Answers3 x
  answers_3 x (tells_read row buffer o filled) e = e
  answers_3 x (tells_write row column bytes o) e = e
  answers_3 x (tells_number row number) e = e
  answers_3 x (tells_tick number) e = e

  misfits : (after : State) (x : Exchange) → Promised S lent x after → Misfit after x
  misfits after =
      exchange_cases (λ x. Promised S lent x after → Misfit after x)
      (λ x t p.
      let e = number_3 after x t p in
      record { idles = lent-misfit e; keeps = after_kept after x t p; answers = answers_3 x t e })
      (λ row span p. record { idles = looks (run.inspect row) refl; keeps = p.1; answers = p.0 ∙ span_3 row })

-- ---- the transcript

module _ (S : Settings) (settings : settings_number S ≡ 0) where
  -- an event and a chain after it
  joined : {σ between σ' : State} {es : List run.Event} (x : Exchange) → Tells x → Promised S σ x between → Chain S between es σ'
      → Chain S σ (seen x ∷ es) σ'
  joined {σ} {between} {σ'} {es} x t p rest =
      let same : step_of between (seen x).answer ≡ run.step S σ (seen x).call = told S σ between x t p in
      subst (λ (e : run.Event). Chain S σ (e ∷ es) σ')
      (ap (λ (s : run.Step). record { call = (seen x).call; answer = s.answer }) (sym same))
      (call (seen x).call (subst (λ (s : run.Step). Chain S s.state es σ') same rest))

  linked : {σ between σ' : State} {es : List run.Event} (e : Logged) → Meets S σ e between → Chain S between es σ' → Chain S σ (seen_of e ∷ es) σ'
  linked {σ} {between} {σ'} {es} (whole x) m rest =
      exchange_cases (λ x. Promised S σ x between → Chain S σ (seen x ∷ es) σ')
      (λ x t p. joined x t p rest)
      (λ row span p. idle (looks (run.inspect row) refl) (subst (λ (s : State). Chain S s es σ') p.1 rest))
      x m
  linked {σ' = σ'} {es} (misfit lent after x) m rest =
      let k = misfits S settings lent m.0 after x m.1 in
      idle k.idles (subst (λ (s : State). Chain S s es σ') (m.2 k.keeps) rest)

  chain : (es : List Logged) {σ σ' : State} → Transcript S σ es σ' → Chain S σ (map seen_of es) σ'
  chain [] {σ} {σ'} t = subst (λ (s : State). Chain S s [] σ') t end
  chain (e ∷ es) t = linked e t.1.0 (chain es t.1.1)

-- ---- the theorems

-- an accepted set-up
accepted-set_up : (S : Settings) (blank σ : State) → SetUpPromise S blank σ 0 → ((calls.set_up S blank).number ≡ 0) × (σ ≡ (calls.set_up S blank).state)
accepted-set_up S blank σ p = (sym (ap (λ (x : calls.Noted). x.number) p), ap (λ (x : calls.Noted). x.state) p)

settings_0 : (S : Settings) (blank : State) → (calls.set_up S blank).number ≡ 0 → settings_number S ≡ 0
unfolding calls.set_up calls.noted
settings_0 S blank z = let f = fit S blank z in settings_pass S f.ranges f.limit

module _ (S : Settings) (blank σ : State) (begun : SetUpPromise S blank σ 0) where
  abbrev new : State
  new = (calls.set_up S blank).state

  zero : (calls.set_up S blank).number ≡ 0
  zero = (accepted-set_up S blank σ begun).0

  settings : settings_number S ≡ 0
  settings = settings_0 S blank zero

  -- a transcript after set-up
  from_set_up : {σ' : State} (es : List Logged) → Transcript S σ es σ' → Chain S new (map seen_of es) σ'
  from_set_up {σ'} es t = subst (λ (s : State). Chain S s (map seen_of es) σ') (accepted-set_up S blank σ begun).1 (chain S settings es t)

  -- a call after a chain
  number_occurs : {before : List run.Event} {between : State} → Chain S new before between
      → (e : Logged) (σ' : State) → Meets S between e σ' → NumberOccurs e
  number_occurs {before} {between} past (whole x) σ' m =
      exchanged S (λ e σ. Usual e) between σ' (next_usual S blank between before zero past) (λ x. inl refl) x m
  number_occurs past (misfit lent after x) σ' m = (misfits S settings lent m.0 after x m.1).answers

  -- and a transcript after it
  numbers_occur : {before : List run.Event} {between : State} → Chain S new before between
      → (es : List Logged) (σ' : State) → Transcript S between es σ' → Each NumberOccurs es
  numbers_occur {before} past [] σ' t = tt
  numbers_occur {before} past (e ∷ es) σ' t = (
    number_occurs past e t.0 t.1.0,
    numbers_occur {before = before ++ seen_of e ∷ []} (chain_append past (linked S settings e t.1.0 end)) es σ' t.1.1,
  )

-- what holds of every chain holds of every transcript
transcripts : (P : Claim) → OfChains P → OfTranscripts P
transcripts P h S blank σ σ' es begun t = h S blank σ' (map seen_of es) (zero S blank σ begun) (from_set_up S blank σ begun es t)

-- likewise of a call after it
calls_after : (P : CallClaim) → OfChains (AnyCall P)
    → ((S : Settings) (es : List run.Event) (x : run.Look) (σ : State) → P S es (silent x) σ) → OfCallsAfter P
calls_after P h quiet S blank σ between σ' es x begun t =
    exchanged S (P S (map seen_of es)) between σ' (transcripts (AnyCall P) h S blank σ between es begun t) (λ x. quiet S (map seen_of es) x σ') x

pub demand_3_served : Demand3Served
demand_3_served = transcripts Demand3Holds kept

pub window_served : WindowServed
window_served = transcripts WindowHolds each_window

pub estimates_served : EstimatesServed
estimates_served = calls_after EstimatesHold concludes (λ S es x σ. tt)

pub not_spent_early_served : NotSpentEarlyServed
not_spent_early_served = calls_after NotSpentEarlyHolds spent_late (λ S es x σ e. absurd (suc-ne-zero 8 (sym e)))

pub demand_2_served : Demand2Served
demand_2_served S blank σ σ' es begun t =
    let bytes = transcripts BytesHold returned S blank σ σ' es begun t in
    record {
      inverse = transcripts InverseHolds inverse_kept S blank σ σ' es begun t;
      reads = bytes.0;
      spans = λ r row_in span p. rw (p, span_part S σ' r) (bytes.1 r row_in);
      numbers = numbers_occur S blank σ begun end es σ' (subst (λ (s : State). Transcript S s es σ') (accepted-set_up S blank σ begun).1 t);
    }

pub beginnings_served : BeginningsServed
beginnings_served S σ σ' [] ys t = (σ, (refl, t))
beginnings_served S σ σ' (x ∷ xs) ys t =
    let rest = beginnings_served S t.0 σ' xs ys t.1.1 in
    (rest.0, ((t.0, (t.1.0, rest.1.0)), rest.1.1))

-- ---- after a tick

-- the memory that a tick leaves which answers 0
after-tick : (S : Settings) (σ between : State) → TickPromise S σ between 0 → step_of between (run.figureless 0 []) ≡ run.step S σ run.tick
unfolding run.step
after-tick S σ between p = ap run.of_noted p

pub accepted_after_tick_served : AcceptedAfterTickServed
accepted_after_tick_served S σ between σ' x sound ticked =
    let same = after-tick S σ between ticked in
    let zero : (run.step S σ run.tick).answer.number ≡ 0 = sym (ap (λ (s : run.Step). s.answer.number) same) in
    exchanged S (λ e s. GoodAccess S e.call → e.answer.number ≡ 0) between σ'
    (λ c good.
    subst (λ (s : State). (run.step S s c).answer.number ≡ 0) (sym (ap (λ (s : run.Step). s.state) same))
    (accepted_after_tick S σ c sound zero good))
    (λ y good. absurd good)
    x

pub nine_is_good-served : NineIsGoodServed
nine_is_good-served S σ σ' =
    exchanged S (λ e s. e.answer.number ≡ 9 → GoodAccess S e.call) σ σ' (nine_is_good S σ)
    (λ y e. absurd (suc-ne-zero 8 (sym e)))
