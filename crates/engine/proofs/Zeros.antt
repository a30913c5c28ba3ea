-- Memory of zeros, as long as the settings ask: set-up accepts it. Assumes nothing.
use Prim.Native.Nat.{ℕ, ◌+◌, ◌*◌}
use mathlib.Core.Path.{◌≡◌}
use mathlib.Core.Bool.{true}
use lib.ListN.{length, replicate, length-replicate}
use Rattle.geometry.specs.declared.Settings.{Settings}
use Rattle.conditions.specs.Conditions.{ranges_hold, limit_holds}
use Rattle.conditions.proofs.Facts.{lengths-hold}
use Rattle.engine.specs.State.{State, state_of, lengths_of, new_control}
use Rattle.engine.specs.Calls.{set_up, noted}
use Rattle.engine.proofs.Facts.{fit_passes}

abbrev pub zeros : Settings → State
zeros S =
    state_of (replicate ((S.n + S.q) * S.w) 0) (replicate S.n 0) (replicate S.q 0)
    (replicate (S.b * S.k) 0) (replicate (S.b * S.k) 0) new_control

pub zeros_accepted : (S : Settings) → ranges_hold S ≡ true → limit_holds S ≡ true → (set_up S (zeros S)).number ≡ 0
unfolding set_up noted
zeros_accepted S ranges limit =
    let long : (n : ℕ) → length (replicate {A = ℕ} n 0) ≡ n = λ n. length-replicate n 0 in
    fit_passes S (zeros S)
    (record {
      ranges = ranges;
      limit = limit;
      lengths = lengths-hold S (lengths_of (zeros S))
          (record {
            store = long ((S.n + S.q) * S.w);
            forward = long S.n;
            reverse = long S.q;
            rows = long (S.b * S.k);
            counts = long (S.b * S.k);
          });
    })
