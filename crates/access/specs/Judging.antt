-- What the code of an access finds and decides before the bytes, and what it gives back after them, by the steps.
-- Assumes nothing.
use Rattle.std.specs.Prelude.{ℕ, suc, cond, Option, None, Some, Result, Ok, Err, eqb}
use Rattle.geometry.specs.declared.Settings.{Settings}
use Rattle.geometry.specs.declared.Ring.{Ring}
use Rattle.geometry.specs.Numbering.{visible, physical}
use Rattle.geometry.specs.Entry.{slot_of}
use Rattle.banks.specs.declared.Bank.{Bank}
use Rattle.banks.specs.Banks.{bank_of, bank_with}
use Rattle.tracking.specs.Entry.{spill_after}
use Rattle.tracker.specs.Finding.{entry_for, update_of, entry_changed, estimate_told}
use Rattle.engine.specs.declared.Asked.{Asked}
use Rattle.engine.specs.declared.Move.{Move}
use Rattle.engine.specs.State.{State, forward_of, reverse_of}
use Rattle.engine.specs.Steps.{place, moves, destination, rise}
use Rattle.engine.specs.Ladder.{access_number}
use Rattle.verdict.specs.declared.Found.{Found}
use Rattle.verdict.specs.declared.Destination.{Destination}
use Rattle.verdict.specs.Verdicts.{sent}
use Rattle.access.specs.declared.Accepted.{Accepted}
use Rattle.access.specs.declared.Judged.{Judged}

-- what is found of row r
abbrev pub found_of : Settings → State → ℕ → Found
found_of S σ r =
    let p : ℕ = place S σ r in
    let bank : Bank = bank_with σ.control (bank_of S p) in
    record {
      row = visible r;
      entry = slot_of (forward_of σ r);
      place = physical p;
      bank = bank;
      update = update_of (entry_for S.k bank p σ.rows σ.counts) σ.counts;
    }

-- where it goes, if it is quarantined
abbrev pub goes_to : Settings → State → ℕ → Option Destination
goes_to S σ r =
    let d : ℕ = destination S σ r in
    cond (moves S σ r) (Some (sent d (reverse_of σ d) (rise S σ r))) None

-- both
abbrev pub judgement : Settings → State → ℕ → Judged
judgement S σ r = record { found = found_of S σ r; goes = goes_to S σ r }

-- of an access that is asked: these, or the number with which it is refused
unfoldable pub judged : Settings → State → Asked → Result Judged ℕ
judged S σ a =
    let number : ℕ = access_number S σ a in
    cond (eqb number 0) (Ok (judgement S σ a.row)) (Err number)

-- what an accepted access gives back, by what was found, where the quarantine stands then, and how the row was moved
abbrev pub done_of : Found → Ring → Move → Accepted
done_of f ring moved =
    record {
      served = record { place = f.place; estimate = estimate_told f.update; moved = moved };
      ring = ring;
      bank = record {
        index = f.bank.index;
        spill = spill_after (entry_changed f.update) f.bank.spill;
        acts = suc f.bank.acts;
      };
    }
