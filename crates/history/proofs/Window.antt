-- A stretch of calls cut from a history anywhere, with at most one tick in it. Assumes nothing.
use Prim.Native.Nat.{ℕ, zero, suc, ◌+◌, ◌*◌, ◌≤◌, ◌<◌}
use native.Mathlib.Nat.{le_refl}
use native.Mathlib.Omega.{arith}
use mathlib.Core.Path.{refl, subst}
use mathlib.Core.Logic.{inl, inr}
use mathlib.Core.List.{List, [], ◌∷◌, ◌++◌, map}
use lib.Dec.{eqb}
use Rattle.geometry.specs.declared.Settings.{Settings}
use Rattle.geometry.specs.Entry.{empty}
use Rattle.basics.proofs.Cases.{split}
use Rattle.engine.specs.State.{State}
use Rattle.engine.specs.Calls as calls
use Rattle.history.specs.Tally.{Request, access, look, tick, Report, Tally, start, next_epoch, after_request, feed}
use Rattle.history.specs.Run.{Call, Event, step, event_of, report_of}
use Rattle.history.specs.Chain.{Chain, end, call, idle, OfChains}
use Rattle.history.specs.Window.{fed, ticks_in, WindowHolds, Window}
use Rattle.history.proofs.Openings.{home_bound, slot_bound}
use Rattle.history.proofs.Charge.{occupied, charge, charge_most, occupied_is}
use Rattle.history.proofs.Invariant.{Inv}
use Rattle.history.proofs.Calls.{carried}
use Rattle.history.proofs.Chain.{lists, idle_feed, idle_runs}
use Rattle.history.proofs.History.{inv_set_up, followed}

-- ---- the tally only grows

request_grows : (S : Settings) (τ : Tally) (q : Request) (slot row p : ℕ)
    → τ.openings p ≤ (after_request S τ q slot row).openings p
request_grows S τ (access r) slot row p =
    elim (split (eqb slot empty)) [
      | inl k ↦ rw k (omega arith)
      | inr k ↦ rw k (elim (split (eqb row empty)) [ inl m ↦ rw m (omega arith) | inr m ↦ rw m (omega arith) ])
    ]
request_grows S τ (look r) slot row p = le_refl (τ.openings p)
request_grows S τ tick slot row p = le_refl (τ.openings p)

feed_grows : (S : Settings) (τ : Tally) (e : Report) (p : ℕ) → τ.openings p ≤ (feed S τ e).openings p
feed_grows S τ e p =
    elim (split (eqb e.number 0)) [
      | inl k ↦ rw k (request_grows S τ e.request e.slot e.row p)
      | inr k ↦ rw k (le_refl (τ.openings p))
    ]

module _ (S : Settings) where
  -- ---- where the stretch begins

  -- the first event of a chain, and what it leads to
  begins : {σ σ' : State} {e : Event} {es : List Event} → Chain S σ (e ∷ es) σ'
      → (between : State) × (Chain S between es σ' × ((zs : List Event) (ρ : State) → Chain S between zs ρ → Chain S σ (e ∷ zs) ρ))
  begins (call {σ} c rest) = ((step S σ c).state, (rest, λ zs ρ k. call c k))
  begins (idle {σ} z rest) = (σ, (rest, λ zs ρ k. idle z k))

  -- a list of events cut in two
  cut : (xs ys : List Event) {σ σ' : State} → Chain S σ (xs ++ ys) σ'
      → (between : State) × (Chain S σ xs between × Chain S between ys σ')
  cut [] ys {σ} chain = (σ, (end, chain))
  cut (x ∷ xs) ys chain =
      let b = begins chain in
      let k = cut xs ys b.1.0 in
      (k.0, (b.1.1 xs k.0 k.1.0, k.1.1))

  -- the invariant holds, and the epoch that runs began with no more openings than there are now
  abbrev Underway : State → Tally → Type 0
  Underway σ τ = (τ₀ : Tally) × (Inv S σ τ₀ τ × ((p : ℕ) → τ₀.openings p ≤ τ.openings p))

  underway_step : (σ : State) (τ : Tally) → Underway σ τ → (c : Call)
      → Underway (step S σ c).state (feed S τ (report_of (event_of c (step S σ c))))
  underway_step σ τ k c =
      let e : Report = report_of (event_of c (step S σ c)) in
      elim (carried S σ k.0 τ k.1.0 c) [
        | inl v ↦ (feed S τ e, (v.2, λ p. le_refl ((feed S τ e).openings p)))
        | inr v ↦ (k.0, (v.1, λ p. omega (arith, k.1.1 p, feed_grows S τ e p)))
      ]

  -- ---- the openings of the stretch

  -- from one tally to another each home row is opened at most m times, and the charge of each slot grows by at most m
  record Within (m : ℕ) (τ₀ τ : Tally) : Type 0 where
    homes : (r : ℕ) → r < S.n → τ.openings r ≤ τ₀.openings r + m
    slots : (s : ℕ) → s < S.q → charge S τ s ≤ charge S τ₀ s + m

  in_epoch : (σ : State) (τ₀ τ : Tally) → Inv S σ τ₀ τ → Within (S.a + 2) τ₀ τ
  in_epoch σ τ₀ τ I =
      record {
        homes = λ r b. home_bound (I.homes r b);
        slots = λ s b. rw (occupied_is S σ I.sound τ I.places s b) (slot_bound (I.slots s b));
      }

  -- the same with the tick that ends it
  ended : {m : ℕ} {τ₀ τ : Tally} → Within m τ₀ τ → Within m τ₀ (next_epoch τ)
  unfolding occupied
  ended v = record { homes = v.homes; slots = v.slots }

  -- one stretch after another
  joined : {m n : ℕ} {τ₀ τ₁ τ₂ : Tally} → Within m τ₀ τ₁ → Within n τ₁ τ₂ → Within (m + n) τ₀ τ₂
  joined v w =
      record {
        homes = λ r b. omega (arith, v.homes r b, w.homes r b);
        slots = λ s b. omega (arith, v.slots s b, w.slots s b);
      }

  -- what the epochs of a stretch with t ticks add at most
  abbrev most : ℕ → ℕ
  most zero = S.a + 2
  most (suc t) = S.a + 2 + most t

  most_one : (t : ℕ) → t ≤ 1 → most t ≤ 2 * S.a + 4
  most_one zero h = omega arith
  most_one (suc zero) h = omega arith
  most_one (suc (suc t)) h = absurd (omega arith)

  -- calls, told from the beginning of the epoch in which they start
  over : {σ σ' : State} {es : List Event} → Chain S σ es σ' → (τ₀ τ : Tally) → Inv S σ τ₀ τ
      → Within (most (ticks_in (map report_of es))) τ₀ (fed S τ (map report_of es))
  over (end {σ}) τ₀ τ I = in_epoch σ τ₀ τ I
  over (call {σ} c rest) τ₀ τ I =
      elim (carried S σ τ₀ τ I c) [
        | inl v ↦ rw v.0 (joined (rw v.1 (ended (in_epoch σ τ₀ τ I))) (over rest _ _ v.2))
        | inr v ↦ rw v.0 (over rest τ₀ _ v.1)
      ]
  over (idle z rest) τ₀ τ I = rw (fed, idle_runs z, idle_feed S τ z) (over rest τ₀ τ I)

-- ---- the theorem

pub each_window : OfChains WindowHolds
each_window S blank σ' es z chain before during after e few =
    let begun : State = (calls.set_up S blank).state in
    let I = inv_set_up S blank z in
    let told : List Event → List Report = map report_of in
    let first : Tally = fed S start (told before) in
    let history = cut S (before ++ during) after (subst (λ (xs : List Event). Chain S begun xs σ') e chain) in
    let parts = cut S before during history.1.0 in
    let underway : Underway S parts.0 first =
    followed S (λ τ x. feed S τ (report_of x)) (λ τ xs. fed S τ (told xs)) (λ τ. refl) (λ τ x xs. refl) (λ x τ. idle_feed S τ)
    (Underway S) (λ σ₁ τ₀ τ₁ J τ. underway_step S σ₁ τ) parts.1.0 start start I start (start, (I, λ p. le_refl 0)) in
    let τ₀ : Tally = underway.0 in
    let w = over S parts.1.1 τ₀ first underway.1.0 in
    let two : most S (ticks_in (told during)) ≤ 2 * S.a + 4 = most_one S (ticks_in (told during)) (omega arith) in
    record {
      homes = λ r b. omega (arith, w.homes r b, two, underway.1.1 r);
      slots = λ s b. omega (arith, w.slots s b, two, charge_most S τ₀ s, underway.1.1 (S.n + s));
    }

pub window : Window
window = lists WindowHolds each_window
