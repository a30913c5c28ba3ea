-- Document 02, Ask 5: 'the record's places for banks from B on'. What is said of them is `Unused` of crate history.
-- Assumes nothing.
use Rattle.std.specs.Prelude.{ℕ, ◌-◌, ◌≡◌, List, ◌++◌, length, take, drop, replicate}
use Rattle.geometry.specs.declared.Settings.{Settings}
use Rattle.geometry.specs.declared.Control.{Control}
use Rattle.banks.specs.Banks.{most_banks}
use Rattle.engine.specs.State.{State}

-- the control record has a place for each of 16 banks, as its type says
pub record HasPlaces (control : Control) : Type 0 where
  pub spill : length control.spill ≡ most_banks
  pub acts : length control.acts ≡ most_banks

-- the memory with other numbers in the places for banks from B on: these in `spill`, these in `acts`
abbrev pub with_unused : Settings → List ℕ → List ℕ → State → State
with_unused S spill acts σ =
    record {
      store = σ.store;
      tables = σ.tables;
      rows = σ.rows;
      counts = σ.counts;
      control = record {
        head = σ.control.head;
        passed = σ.control.passed;
        spill = take S.b σ.control.spill ++ spill;
        acts = take S.b σ.control.acts ++ acts;
      };
    }

-- the same numbers stand there in two records
abbrev pub SameUnused : Settings → Control → Control → Type 0
SameUnused S control other =
    (drop S.b control.spill ≡ drop S.b other.spill) × (drop S.b control.acts ≡ drop S.b other.acts)

-- they are 0
abbrev pub UnusedZero : Settings → Control → Type 0
UnusedZero S control =
    (drop S.b control.spill ≡ replicate (most_banks - S.b) 0) × (drop S.b control.acts ≡ replicate (most_banks - S.b) 0)
