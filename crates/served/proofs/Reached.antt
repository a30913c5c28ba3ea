-- Every list of calls has a transcript, in which the caller sees what the definitions answer. Assumes nothing.
use Prim.Native.Nat.{ℕ}
use mathlib.Core.Path.{◌≡◌, refl, sym, ap, ◌∙◌, subst}
use mathlib.Core.List.{List, [], ◌∷◌, map}
use mathlib.Core.Logic.{inl, inr}
use lib.Dec.{eqb}
use lib.ListN.{length}
use Rattle.basics.proofs.Cases.{split}
use Rattle.geometry.specs.declared.Settings.{Settings}
use Rattle.engine.specs.State.{State}
use Rattle.engine.specs.Ladder as ladders
use Rattle.engine.specs.Calls as calls
use Rattle.figures.specs.Outcome.{outcome_of}
use Rattle.history.specs.Run as run
use Rattle.history.specs.Tight.{Part, calls_of, Witness, AllReached}
use Rattle.history.proofs.Tight.{tight}
use Rattle.served.specs.Transcript.{inspect_number, read, write, look, Exchange, rank, tick, Promised, whole, answer_of, seen, seen_of}
use Rattle.served.specs.Reached.{ListsServed, WitnessServed, TightServed}

-- an exchange on the memory σ
pub record Served (S : Settings) (σ : State) (c : run.Call) : Type 0 where
  pub exchange : Exchange
  pub promised : Promised S σ exchange (run.step S σ c).state
  pub same : seen exchange ≡ run.event_of c (run.step S σ c)

-- a write fills no buffer
fills_none : (S : Settings) (σ : State) (r column : ℕ) (bytes : List ℕ) → [] ≡ (calls.write S σ r column bytes).buffer
unfolding calls.write calls.accessed
fills_none S σ r column bytes =
    let number : ℕ = ladders.access_number S σ (ladders.write_asked S r column (length bytes)) in
    elim (split (eqb number 0)) [ inl e ↦ rw e refl | inr e ↦ rw e refl ]

-- every call has one that answers as the definitions do
served : (S : Settings) (σ : State) (c : run.Call) → Served S σ c
unfolding run.step
served S σ (run.rank (run.access (run.read r buffer))) =
    let a : calls.Accessed = calls.read S σ r buffer in
    record {
      exchange = rank (read r buffer (outcome_of a.answer) a.buffer);
      promised = (refl, refl, refl);
      same = refl;
    }
served S σ (run.rank (run.access (run.write r column bytes))) =
    let a : calls.Accessed = calls.write S σ r column bytes in
    let none : [] ≡ a.buffer = fills_none S σ r column bytes in
    record {
      exchange = rank (write r column bytes (outcome_of a.answer));
      promised = (refl, refl, none);
      same = ap (λ (filled : List ℕ). record { call = run.rank (run.access (run.write r column bytes)); answer = answer_of (outcome_of a.answer) filled }) none;
    }
served S σ (run.rank (run.look (run.inspect r))) =
    record { exchange = rank (look (inspect_number r (ladders.inspect_number S σ r))); promised = (refl, refl); same = refl }
served S σ run.tick = record { exchange = tick (calls.tick S σ).number; promised = refl; same = refl }

pub lists_served : ListsServed
lists_served S σ [] = ([], (refl, refl))
lists_served S σ (c ∷ cs) =
    let x = served S σ c in
    let rest = lists_served S (run.step S σ c).state cs in (
      whole x.exchange ∷ rest.0,
      (
        ((run.step S σ c).state, (x.promised, rest.1.0)),
        ap (λ (e : run.Event). e ∷ map seen_of rest.0) x.same
            ∙ ap (λ (es : List run.Event). run.event_of c (run.step S σ c) ∷ es) rest.1.1,
      ),
    )

-- the calls of the events of a list are the list
calls-of : (S : Settings) (cs : List run.Call) (σ : State) → map (λ (e : run.Event). e.call) (run.events S σ cs) ≡ cs
calls-of S [] σ = refl
calls-of S (c ∷ cs) σ = ap (λ (ds : List run.Call). c ∷ ds) (calls-of S cs (run.step S σ c).state)

-- what the definitions reach is reached through the C functions
witness_served : {S : Settings} {parts : List Part} {P : List run.Event → Type 0} → Witness S parts P → WitnessServed S parts P
witness_served {S} {parts} {P} w =
    record {
      accepts =
          (w.accepts.0, ((calls.set_up S w.accepts.0).state, ap (calls.noted_of (calls.set_up S w.accepts.0).state) (sym w.accepts.1)));
      reached = λ blank σ begun.
          let zero : (calls.set_up S blank).number ≡ 0 = sym (ap (λ (n : calls.Noted). n.number) begun) in
          let new : (calls.set_up S blank).state ≡ σ = sym (ap (λ (n : calls.Noted). n.state) begun) in
          let made = lists_served S σ (calls_of parts) in
          record {
            log = made.0;
            end = run.run S σ (calls_of parts);
            transcript = made.1.0;
            calls = ap (map (λ (e : run.Event). e.call)) made.1.1 ∙ calls-of S (calls_of parts) σ;
            holds = subst P (ap (λ (s : State). run.events S s (calls_of parts)) new ∙ sym made.1.1) (w.reached blank zero);
          };
    }

pub tight_served : TightServed
tight_served b a some few pos most =
    let t : AllReached Witness b a = tight b a some few pos most in
    record {
      home = witness_served t.home;
      slot = witness_served t.slot;
      home_over_tick = witness_served t.home_over_tick;
      slot_over_tick = witness_served t.slot_over_tick;
      quarantines = witness_served t.quarantines;
      nine = witness_served t.nine;
      nine_slots = t.nine_slots;
    }
