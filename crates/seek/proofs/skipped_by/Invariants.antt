-- Invariant: n slots were skipped, and `at` is next, for any definition of what the test tells.
use Rattle.std.proofs.Common.{◌≡◌, ℕ, ◌<◌, Bool}
use Rattle.geometry.specs.Numbering.{slot}
use Rattle.seek.proofs.Turns.{Turned}
use Rattle.seek.proofs.skipped_by.Given as goal

abbrev pub invariant-loop-n : goal.invariant-loop-n
invariant-loop-n g l =
    (l.at.0 < l.q)
    × ((skip : ℕ → Bool) → ((s : ℕ) → s < l.q → (b : Bool) → goal.F-post g l.skips (slot s) b → b ≡ skip s)
    → Turned skip l.q l.most l.initial.at.0 l.at.0 l.n)
