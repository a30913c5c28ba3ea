-- From a play to what is claimed of the events. Assumes nothing.
use Prim.Native.Nat.{ℕ, ◌+◌, ◌*◌, ◌<◌}
use mathlib.Core.Path.{◌≡◌, refl, sym, ap, ◌∙◌, subst}
use mathlib.Core.Logic.{inl, inr}
use mathlib.Core.Bool.{true}
use mathlib.Core.List.{List, [], ◌∷◌, ◌++◌, map, append_assoc}
use lib.ListN.{replicate}
use Rattle.geometry.specs.declared.Settings.{Settings}
use Rattle.conditions.specs.Conditions.{ranges_hold}
use Rattle.conditions.proofs.Facts.{limit-holds}
use Rattle.engine.specs.State.{State}
use Rattle.engine.specs.Calls.{set_up}
use Rattle.engine.proofs.Zeros.{zeros, zeros_accepted}
use Rattle.history.specs.Tally.{Report, Tally, start, openings_in, epochs}
use Rattle.basics.specs.Lists.{Some}
use Rattle.history.specs.Run.{Call, tick, Event, run, events, report_of}
use Rattle.history.specs.Window.{fed, ticks_in}
use Rattle.history.specs.Tight.{Part, reads, ticks, read_of, calls_of, Witness, OverOneTick}
use Rattle.history.proofs.Known.{Picture, Known, fresh, known_set_up}
use Rattle.history.proofs.Reading.{events-append}
use Rattle.history.proofs.Play.{Course, reports_of, Play, played, tallied, epochs_of, ticks_of, fed_all, epochs_all, ticks_all}

-- ---- settings in their ranges

module _ (S : Settings) (narrow : S.w ≡ 1) (ranges : ranges_hold S ≡ true) (few : S.l < S.a * (S.k + 1)) where
  pub witness : {parts : List Part} {P : List Event → Type 0} → ((σ : State) → Known S σ fresh → P (events S σ (calls_of parts)))
      → Witness S parts P
  witness h =
      record { accepts = (zeros S, zeros_accepted S ranges (limit-holds S few)); reached = λ σ z. h (set_up S σ).state (known_set_up S σ narrow z) }

-- ---- lists

calls_append : (ps qs : List Part) → calls_of (ps ++ qs) ≡ calls_of ps ++ calls_of qs
calls_append [] qs = refl
calls_append (reads r n ∷ ps) qs =
    ap (λ (cs : List Call). replicate n (read_of r) ++ cs) (calls_append ps qs) ∙ sym (append_assoc (replicate n (read_of r)) (calls_of ps) (calls_of qs))
calls_append (ticks ∷ ps) qs = ap (λ (cs : List Call). tick ∷ cs) (calls_append ps qs)

pub some_left : {A : Type 0} (P : A → Type 0) (xs ys : List A) → Some P xs → Some P (xs ++ ys)
some_left P [] ys k = elim k [ ]
some_left P (x ∷ xs) ys (inl k) = inl k
some_left P (x ∷ xs) ys (inr k) = inr (some_left P xs ys k)

pub some_right : {A : Type 0} (P : A → Type 0) (xs ys : List A) → Some P ys → Some P (xs ++ ys)
some_right P [] ys s = s
some_right P (x ∷ xs) ys s = inr (some_right P xs ys s)

some-told : (P : Report → Type 0) (es : List Event) → Some P (map report_of es) → Some (λ e. P (report_of e)) es
some-told P [] s = s
some-told P (e ∷ es) (inl k) = inl k
some-told P (e ∷ es) (inr k) = inr (some-told P es k)

module _ {S : Settings} {σ : State} {P : Picture} (K : Known S σ P) where
  -- the epochs
  pub epochs_are : {P' : Picture} {ps : List Part} {fs : List Course} → Play S P ps fs P'
      → epochs S start start (map report_of (events S σ (calls_of ps))) ≡ epochs_of S start start ps fs
  epochs_are {ps = ps} {fs = fs} play = ap (epochs S start start) (played play K).told_is ∙ epochs_all S ps fs start start

  -- the events of one list after another
  cut_in : (ps qs : List Part) → events S σ (calls_of (ps ++ qs)) ≡ events S σ (calls_of ps) ++ events S (run S σ (calls_of ps)) (calls_of qs)
  cut_in ps qs = ap (events S σ) (calls_append ps qs) ∙ events-append S (calls_of ps) (calls_of qs) σ

  -- a stretch over one tick
  pub over_tick : {P₁ P₂ : Picture} {ps qs : List Part} {fs gs : List Course} → Play S P ps fs P₁ → Play S P₁ qs gs P₂
      → ticks_of qs gs ≡ 1 → {p figure : ℕ}
      → openings_in (record { first = tallied S start ps fs; last = tallied S (tallied S start ps fs) qs gs }) p ≡ figure
      → OverOneTick S p figure (events S σ (calls_of (ps ++ qs)))
  over_tick {ps = ps} {qs = qs} {fs = fs} {gs = gs} play more one e =
      let R = played play K in
      let R' = played more R.known in
      let σ' : State = run S σ (calls_of ps) in
      let first : Tally = tallied S start ps fs in
      let first-is : fed S start (map report_of (events S σ (calls_of ps))) ≡ tallied S start ps fs =
      ap (fed S start) R.told_is ∙ fed_all S ps fs start in
      let last_is : fed S first (map report_of (events S σ' (calls_of qs))) ≡ tallied S first qs gs =
      ap (fed S first) R'.told_is ∙ fed_all S qs gs first in
      record {
        before = events S σ (calls_of ps);
        during = events S σ' (calls_of qs);
        cut = cut_in ps qs;
        one = ap ticks_in R'.told_is ∙ ticks_all qs gs ∙ one;
        opened = rw (first-is, last_is) e;
      }

  -- an answer in the second of two lists
  pub some_answer : {P₁ P₂ : Picture} {ps qs : List Part} {fs gs : List Course} → Play S P ps fs P₁ → Play S P₁ qs gs P₂
      → (Q : Report → Type 0) → Some Q (reports_of qs gs) → Some (λ e. Q (report_of e)) (events S σ (calls_of (ps ++ qs)))
  some_answer {ps = ps} {qs = qs} play more Q s =
      let R' = played more (played play K).known in
      let σ' : State = run S σ (calls_of ps) in
      rw (cut_in ps qs)
      (some_right (λ e. Q (report_of e)) (events S σ (calls_of ps)) (events S σ' (calls_of qs))
      (some-told Q (events S σ' (calls_of qs)) (subst (Some Q) (sym R'.told_is) s)))
