-- Any call with any settings, arguments and memory: its number, and what a refusal leaves. Assumes nothing.
use Prim.Native.Nat.{ℕ}
use native.Mathlib.Omega.{arith}
use mathlib.Core.Path.{◌≡◌, refl, sym, ap, ◌∙◌}
use mathlib.Core.Logic.{inl, inr, ◌≢◌}
use mathlib.Core.List.{[], ◌∷◌}
use lib.ListN.{length}
use borrow.Author.Tests.{ne_eqb}
use Rattle.geometry.specs.declared.Settings.{Settings}
use Rattle.engine.specs.State.{State}
use Rattle.engine.specs.Ladder.{set_up_number, inspect_number}
use Rattle.engine.specs.Calls as calls
use Rattle.engine.proofs.Facts.{fit_all, tick_all, access_all, inspect_all}
use Rattle.engine.proofs.Parts.{part_long, width_some}
use Rattle.basics.specs.Lists.{OneOf}
use Rattle.history.specs.Run.{access, look, Call, rank, tick, asked_of, row_looked, figureless}
use Rattle.history.specs.Demand1.{allowed, buffer_of, Demand1}
use Rattle.history.proofs.Groups.{ladder, step-number, refused-step}

-- ---- the numbers

ladder_allowed : (S : Settings) (σ : State) (c : Call) → OneOf (allowed c) (ladder S σ c)
ladder_allowed S σ (rank (access a)) =
    access_all (OneOf (0 ∷ 1 ∷ 2 ∷ 3 ∷ 4 ∷ 5 ∷ 6 ∷ 7 ∷ 8 ∷ 9 ∷ []))
    (inl refl)
    (inr (inl refl))
    (inr (inr (inl refl)))
    (inr (inr (inr (inl refl))))
    (inr (inr (inr (inr (inl refl)))))
    (inr (inr (inr (inr (inr (inl refl))))))
    (inr (inr (inr (inr (inr (inr (inl refl)))))))
    (inr (inr (inr (inr (inr (inr (inr (inl refl))))))))
    (inr (inr (inr (inr (inr (inr (inr (inr (inl refl)))))))))
    (inr (inr (inr (inr (inr (inr (inr (inr (inr (inl refl))))))))))
    S σ (asked_of S a)
ladder_allowed S σ (rank (look x)) =
    inspect_all (OneOf (0 ∷ 1 ∷ 2 ∷ 3 ∷ 4 ∷ 5 ∷ 7 ∷ []))
    (inl refl) (inr (inl refl)) (inr (inr (inl refl))) (inr (inr (inr (inl refl)))) (inr (inr (inr (inr (inl refl)))))
    (inr (inr (inr (inr (inr (inl refl)))))) (inr (inr (inr (inr (inr (inr (inl refl))))))) S σ (row_looked x)
ladder_allowed S σ tick =
    tick_all (OneOf (0 ∷ 1 ∷ 2 ∷ 3 ∷ 4 ∷ []))
    (inl refl) (inr (inl refl)) (inr (inr (inl refl))) (inr (inr (inr (inl refl)))) (inr (inr (inr (inr (inl refl))))) S σ

-- ---- set-up

set_up-kept : (S : Settings) (σ : State) → (calls.set_up S σ).number ≢ 0 → (calls.set_up S σ).state ≡ σ
unfolding calls.set_up calls.noted
set_up-kept S σ n = rw (ne_eqb (set_up_number S σ) 0 n)

set_up-allowed : (S : Settings) (σ : State) → OneOf (0 ∷ 1 ∷ 2 ∷ 3 ∷ []) (calls.set_up S σ).number
unfolding calls.set_up calls.noted
set_up-allowed S σ = fit_all (OneOf (0 ∷ 1 ∷ 2 ∷ 3 ∷ [])) (inl refl) (inr (inl refl)) (inr (inr (inl refl))) (inr (inr (inr (inl refl)))) S σ

-- ---- inspect's part

part_empty : (S : Settings) (σ : State) (r : ℕ) → inspect_number S σ r ≢ 0 → length (calls.inspect_part S σ r) ≡ 0
unfolding calls.inspect_part
part_empty S σ r n = rw (ne_eqb (inspect_number S σ r) 0 n)

part_some : (S : Settings) (σ : State) (r : ℕ) → inspect_number S σ r ≡ 0 → length (calls.inspect_part S σ r) ≢ 0
part_some S σ r z e = omega (arith, part_long S σ r _ refl z, width_some S σ r _ refl z)

pub demand_1 : Demand1
demand_1 =
    record {
      set_up-number = set_up-allowed;
      set_up_refused = set_up-kept;
      number = λ S σ c. rw (step-number S σ c) (ladder_allowed S σ c);
      refused = λ S σ c n. refused-step S σ c (λ z. n (step-number S σ c ∙ z))
          ∙ ap (λ (x : ℕ). record { state = σ; answer = figureless x (buffer_of c) }) (sym (step-number S σ c));
      part_none = part_empty;
      part_some = part_some;
    }
