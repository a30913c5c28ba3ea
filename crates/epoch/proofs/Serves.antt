-- Set-up and tick as the code puts them together are the definitions of `Calls`. Assumes nothing.
use Prim.Native.Nat.{ℕ, ◌≤◌}
use mathlib.Core.Path.{◌≡◌, sym, ap, ◌∙◌}
use mathlib.Core.List.{List}
use lib.ListN.{length, replicate}
use borrow.Author.Tests.{ne_eqb}
use Rattle.refusals.specs.declared.Refusal.{Refusal}
use Rattle.refusals.specs.Refusals.{refusal_number}
use Rattle.refusals.proofs.Numbers.{refusal_not_0}
use Rattle.geometry.specs.declared.Settings.{Settings}
use Rattle.geometry.specs.declared.Control.{Control}
use Rattle.geometry.specs.declared.Lengths.{Lengths}
use Rattle.geometry.specs.Entry.{empty}
use Rattle.conditions.proofs.Facts.{lengths_facts}
use Rattle.engine.specs.State.{State, state_of, lengths_of, new_control}
use Rattle.engine.specs.Ladder.{control_number, set_up_number, tick_number}
use Rattle.banks.specs.Banks.{most_banks}
use Rattle.engine.specs.Calls.{noted_of, noted, cleared, set_up, zero_below, ticked, tick}
use Rattle.engine.proofs.Rungs.{pass}
use Rattle.engine.proofs.Facts.{fit, tick_facts}
use Rattle.ladder.proofs.Stages.{fit_counts}

module _ (σ effect : State) (x : ℕ) where
  noted_refused : (e : Refusal) → refusal_number e ≡ x → noted_of σ (refusal_number e) ≡ noted σ x effect
  unfolding noted
  noted_refused e r = rw (← r, ne_eqb (refusal_number e) 0 (refusal_not_0 e))

  noted_done : 0 ≡ x → noted_of effect 0 ≡ noted σ x effect
  unfolding noted
  noted_done z = rw (sym z)

-- a table that is filled at its length, which is k
filled : (v : ℕ) {table : List ℕ} {was k : ℕ} → table ≡ replicate was v → was ≡ k → table ≡ replicate k v
filled v e l = e ∙ ap (λ (i : ℕ). replicate i v) l

module _ (S : Settings) (σ : State) where
  pub set_up_refused : (e : Refusal) → refusal_number e ≡ set_up_number S σ → noted_of σ (refusal_number e) ≡ set_up S σ
  unfolding set_up
  set_up_refused e r = noted_refused σ (cleared S σ) (set_up_number S σ) e r

  pub set_up_done : 0 ≡ set_up_number S σ → (forward reverse rows counts : List ℕ)
      → forward ≡ replicate (length σ.tables.forward) empty → reverse ≡ replicate (length σ.tables.reverse) empty
      → rows ≡ replicate (length σ.rows) empty → counts ≡ replicate (length σ.counts) 0
      → noted_of (state_of σ.store forward reverse rows counts new_control) 0 ≡ set_up S σ
  unfolding set_up
  set_up_done z forward reverse rows counts ef er eo ec =
      let X = lengths_facts S (lengths_of σ) (fit S σ (sym z)).lengths in
      rw (filled empty ef X.forward, filled empty er X.reverse, filled empty eo X.rows, filled 0 ec X.counts)
      (noted_done σ (cleared S σ) (set_up_number S σ) z)

  pub tick_refused : (e : Refusal) → refusal_number e ≡ tick_number S σ → noted_of σ (refusal_number e) ≡ tick S σ
  unfolding tick
  tick_refused e r = noted_refused σ (ticked S σ) (tick_number S σ) e r

  pub tick_done : 0 ≡ tick_number S σ → (rows counts spill acts : List ℕ)
      → rows ≡ replicate (length σ.rows) empty → counts ≡ replicate (length σ.counts) 0
      → spill ≡ zero_below S.b σ.control.spill → acts ≡ zero_below S.b σ.control.acts
      → noted_of (state_of σ.store σ.tables.forward σ.tables.reverse rows counts
      (record { head = σ.control.head; passed = 0; spill = spill; acts = acts })) 0 ≡ tick S σ
  unfolding tick
  tick_done z rows counts spill acts eo ec es ea =
      let X = lengths_facts S (lengths_of σ) (tick_facts S σ (sym z)).0.lengths in
      rw (filled empty eo X.rows, filled 0 ec X.counts, es, ea) (noted_done σ (ticked S σ) (tick_number S σ) z)

-- past 1 to 4 there are at most as many banks as the record has places for
pub tick_banks : (S : Settings) (lengths : Lengths) (control : Control) (counts : List ℕ)
    → 0 ≡ control_number S lengths control counts → S.b ≤ most_banks
unfolding control_number
tick_banks S lengths control counts z = (fit_counts S lengths (sym (pass _ _ (sym z)).0)).1

-- what `set_up` and `tick` answer
pub ruleset set_ups = (set_up_refused, set_up_done)

pub ruleset ticks = (tick_refused, tick_done, tick_banks)
