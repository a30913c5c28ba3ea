-- The invariant of a history. Assumes nothing.
use Prim.Native.Nat.{ℕ, ◌+◌, ◌*◌, ◌<◌, ◌≤◌}
use mathlib.Core.Path.{◌≡◌}
use mathlib.Core.Bool.{Bool, true}
use lib.Dec.{leb, eqb}
use Rattle.geometry.specs.declared.Settings.{Settings}
use Rattle.conditions.specs.Conditions.{ranges_hold, limit_holds}
use Rattle.geometry.specs.Entry.{empty}
use Rattle.tracking.proofs.Sums.{quotients}
use Rattle.engine.specs.State.{State, tracker_at, forward_of, reverse_of}
use Rattle.engine.specs.Steps.{place}
use Rattle.history.specs.Tally.{Tally}
use Rattle.engine.proofs.GoneBy.{gone_by}
use Rattle.engine.proofs.Ahead.{ahead}
use Rattle.history.proofs.Openings.{Home, Slot}
use Rattle.history.proofs.Charge.{charge}
use Rattle.engine.proofs.Pointers.{Sound}
use Rattle.engine.proofs.Trackers.{CountingAt, estimate}

-- slot s is gone by
abbrev pub gone : Settings → State → ℕ → Bool
gone S σ s = gone_by S.q σ.control.head σ.control.passed s

-- slot s is worn, by the tracker's estimate
abbrev pub worn_slot : Settings → State → ℕ → Bool
worn_slot S σ s = leb S.a (estimate S σ (S.n + s))

-- τ₀: the tally when the running epoch began; τ: the tally now
abbrev pub HomeKept : Settings → State → Tally → Tally → ℕ → Type 0
HomeKept S σ τ₀ τ x =
    Home S.a (τ.openings x) (τ₀.openings x) (estimate S σ x)
    (eqb (forward_of σ x) empty) (gone S σ (forward_of σ x))

abbrev pub SlotKept : Settings → State → Tally → Tally → ℕ → Type 0
SlotKept S σ τ₀ τ s =
    Slot S.a (τ.openings (S.n + s)) (charge S τ₀ s) (estimate S σ (S.n + s))
    (gone S σ s) (eqb (reverse_of σ s) empty)

pub record Inv (S : Settings) (σ : State) (τ₀ τ : Tally) : Type 0 where
  pub ranges : ranges_hold S ≡ true
  pub limit : limit_holds S ≡ true
  pub sound : Sound S σ
  pub head_in : σ.control.head < S.q
  pub passed_in : σ.control.passed ≤ S.q
  -- the trackers, by the physical rows that they serve
  pub acts_in : (p : ℕ) → (tracker_at S σ p).acts ≤ S.l
  pub counting : (p : ℕ) → CountingAt S σ p
  -- the quarantines of all banks together
  pub quarantines : τ.quarantines ≡ τ₀.quarantines + quotients S.a σ.counts
  -- for each quarantine, two slots at most are gone by or are worn ahead of the head
  pub passed_few : σ.control.passed + ahead (worn_slot S σ) S.q σ.control.head σ.control.passed
      ≤ 2 * quotients S.a σ.counts
  pub places : (x : ℕ) → x < S.n → τ.place x ≡ place S σ x
  pub homes : (x : ℕ) → x < S.n → HomeKept S σ τ₀ τ x
  pub slots : (s : ℕ) → s < S.q → SlotKept S σ τ₀ τ s
