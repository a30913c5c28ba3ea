-- What the code decides by 8, 9 and the destination is the rest of the ladder. Assumes nothing.
use Prim.Native.Nat.{ℕ, suc, ◌+◌, ◌-◌, ◌<◌, ◌≤◌}
use native.Mathlib.Numerals.{add-one}
use native.Mathlib.Omega.{arith}
use mathlib.Core.Path.{◌≡◌, sym, ap, ◌∙◌}
use mathlib.Core.Logic.{inl, inr, ◌≢◌}
use mathlib.Core.Bool.{Bool, true, false, ◌&&◌}
use lib.Dec.{eqb, ltb}
use borrow.Author.Tests.{lt-ltb, le-ltb, eq-eqb, eqb-true, ne_eqb}
use Rattle.std.specs.Prelude.{Result, Ok, Err}
use Rattle.refusals.specs.declared.Refusal.{Refusal}
use Rattle.refusals.specs.Refusals.{refusal_number, numbered}
use Rattle.geometry.specs.declared.Settings.{Settings}
use Rattle.geometry.specs.declared.Ring.{Ring}
use Rattle.basics.proofs.Cases.{split, lt?}
use Rattle.engine.specs.declared.Asked.{Asked}
use Rattle.engine.specs.State.{Tables, reverse_in, State, tracker_at, ring_of}
use Rattle.engine.specs.Round.{skipped_of, destination_from}
use Rattle.engine.specs.Steps.{place, moves, skipped, destination, rise}
use Rattle.engine.specs.Ladder.{stops, ◌▹◌, destination_unsound, row_number, tick_number, access_number}
use Rattle.engine.proofs.Rungs.{goes_by, goes_on, joined, applies}
use Rattle.engine.proofs.Skipping.{skip_most, cut_short, cut_full}
use Rattle.ladder.proofs.Stages.{ends, early_number}
use Rattle.verdict.specs.declared.Destination.{Destination}
use Rattle.verdict.specs.Verdicts.{sent, quarantine_number, quarantine_verdict}

-- ---- 9, the destination's 7, and the move

-- over: the slots that are skipped
module _ (S : Settings) (ring : Ring) (tables : Tables) (over : ℕ) where
  pub no_room : S.q ≤ ring.passed + over → Err 9 ≡ quarantine_verdict S ring tables over
  unfolding quarantine_verdict quarantine_number stops ◌▹◌
  no_room full = rw (lt-ltb S.q (ring.passed + suc over) (omega arith))

  -- d: the destination, and b: whether its pointers are unsound, as the code has them
  module _ (room : ring.passed + over < S.q) {d : ℕ} (target : d ≡ destination_from S ring.head over)
      {b : Bool} (told : b ≡ destination_unsound S tables d) where
    fits : ltb S.q (ring.passed + suc over) ≡ false
    fits = le-ltb S.q (ring.passed + suc over) (omega arith)

    pub unsound : b ≡ true → Err 7 ≡ quarantine_verdict S ring tables over
    unfolding quarantine_verdict quarantine_number stops ◌▹◌
    unsound f = rw (← target, fits, sym told ∙ f)

    -- held: the reverse entry of d
    pub sound : b ≡ false → {held : ℕ} → held ≡ reverse_in tables d
        → Ok (sent d held (over + 1)) ≡ quarantine_verdict S ring tables over
    unfolding quarantine_verdict quarantine_number stops ◌▹◌
    sound f was = rw (← target, fits, sym told ∙ f, was, add-one)

  -- what a verdict tells: the number, or where the row goes
  module _ {v : Result Destination Refusal} (is : numbered v ≡ quarantine_verdict S ring tables over) where
    pub verdict_stops : {x : Refusal} → v ≡ Err x → refusal_number x ≡ quarantine_number S ring tables over
    unfolding quarantine_verdict
    verdict_stops stopped =
        let told = rw stopped at is in
        elim (split (eqb (quarantine_number S ring tables over) 0)) [
          | inl z ↦ absurd (let e = rw z at told in cc)
          | inr z ↦ let e = rw z at told in cc
        ]

    pub verdict_sent : {d : Destination} → v ≡ Ok d → (quarantine_number S ring tables over ≡ 0) ×
        let s : ℕ = destination_from S ring.head over in d ≡ sent s (reverse_in tables s) (suc over)
    unfolding quarantine_verdict
    verdict_sent goes =
        let told = rw goes at is in
        elim (split (eqb (quarantine_number S ring tables over) 0)) [
          | inl z ↦ let e = rw z at told in (eqb-true _ 0 z, cc)
          | inr z ↦ absurd (let e = rw z at told in cc)
        ]

-- ---- the search and the judgement: the code looks for skipped slots among those that are not gone by, the ladder among all

-- n: how many the code finds
module _ (S : Settings) (ring : Ring) (tables : Tables) (skip : ℕ → Bool) (most : ring.passed ≤ S.q) {n : ℕ}
    (found : n ≡ skipped_of skip S.q (S.q - ring.passed) ring.head) where
  pub over_in : n ≤ S.q
  over_in = omega (arith, skip_most skip S.q (S.q - ring.passed) ring.head)

  -- where they are all that are left, 9 applies to both; else they are all
  pub verdict_of_all : quarantine_verdict S ring tables n ≡ quarantine_verdict S ring tables (skipped_of skip S.q S.q ring.head)
  verdict_of_all =
      let left : ℕ = S.q - ring.passed in
      let all : ℕ = skipped_of skip S.q S.q ring.head in
      elim (lt? (ring.passed + n) S.q) [
        | inl room ↦
            let same = cut_short skip S.q left S.q ring.head (omega arith) (omega arith) in
            ap (quarantine_verdict S ring tables) (found ∙ sym same)
        | inr full ↦
            let none : left ≤ all = cut_full skip S.q left S.q ring.head (omega arith) (omega arith) in
            sym (no_room S ring tables n full) ∙ no_room S ring tables all (omega arith)
      ]

-- ---- all that is decided of an access

module _ (S : Settings) (σ : State) (a : Asked) where
  abbrev r : ℕ
  r = a.row

  -- the accesses of the bank of its place
  abbrev acts : ℕ
  acts = (tracker_at S σ (place S σ r)).acts

  -- 9 and 7, of a row that is to be quarantined or is not
  abbrev last : Bool → ℕ
  last due =
      stops (due && ltb S.q (σ.control.passed + rise S σ r)) 9
      ▹ stops (due && destination_unsound S σ.tables (destination S σ r)) 7

  -- and 8 before them
  abbrev late : ℕ
  late = stops (eqb acts S.l) 8 ▹ last (moves S σ r)

  access_is : early_number S σ a ▹ late ≡ access_number S σ a
  unfolding access_number
  access_is = joined (tick_number S σ) (row_number S σ.tables a) late

  -- x: the number of 1 to 7, as the code has it
  pub access_early : (x : ℕ) → x ≡ early_number S σ a → x ≢ 0 → x ≡ access_number S σ a
  access_early x e n = ends late e n ∙ access_is

  -- past 1 to 7
  module _ (z : early_number S σ a ≡ 0) where
    access_late : late ≡ access_number S σ a
    access_late = sym (goes_on late z) ∙ access_is

    pub access_8 : acts ≡ S.l → 8 ≡ access_number S σ a
    access_8 e = ends _ (sym (applies 8 (eq-eqb _ _ e))) (λ n. omega arith) ∙ access_late

    -- past 8
    module _ (more : acts ≢ S.l) where
      access_last : {due : Bool} → moves S σ r ≡ due → last due ≡ access_number S σ a
      access_last e = sym (ap last e) ∙ sym (goes_on _ (goes_by 8 (ne_eqb _ _ more))) ∙ access_late

      pub access_stays : moves S σ r ≡ false → access_number S σ a ≡ 0
      unfolding stops ◌▹◌
      access_stays f = sym (access_last f)

      pub access_moves : moves S σ r ≡ true
          → quarantine_number S (ring_of σ.control) σ.tables (skipped S σ r) ≡ access_number S σ a
      unfolding quarantine_number
      access_moves f = access_last f

-- what `judge` answers
pub ruleset judged = (no_room, unsound, sound)
