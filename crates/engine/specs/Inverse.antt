-- Demand 2: 'forward and reverse tables are inverse'. Document 01 calls such tables sound.
-- Assumes nothing.
use Rattle.std.specs.Prelude.{ℕ, ◌<◌, ◌≡◌, ◌⊎◌}
use Rattle.geometry.specs.declared.Settings.{Settings}
use Rattle.geometry.specs.Entry.{empty}
use Rattle.engine.specs.State.{State, forward_of, reverse_of}

pub record Inverse (S : Settings) (σ : State) : Type 0 where
  -- a row's forward entry is empty, or a slot whose reverse entry is the row
  pub forward : (r : ℕ) → r < S.n → (forward_of σ r ≡ empty) ⊎ ((forward_of σ r < S.q) × (reverse_of σ (forward_of σ r) ≡ r))
  -- a slot's reverse entry is empty, or a row whose forward entry is the slot
  pub reverse : (s : ℕ) → s < S.q → (reverse_of σ s ≡ empty) ⊎ ((reverse_of σ s < S.n) × (forward_of σ (reverse_of σ s) ≡ s))
