-- A memory that is known: what the tables hold, where the head is, and the estimate of every place. How that changes with reads,
-- a quarantine and a tick, and what set-up leaves.
-- Assumes nothing.
use Prim.Native.Nat.{ℕ, ◌+◌, ◌%◌, ◌<◌, ◌≤◌, zero-le}
use native.Mathlib.Omega.{arith}
use mathlib.Core.Path.{◌≡◌, refl, ◌∙◌, subst}
use mathlib.Core.Bool.{cond}
use lib.Dec.{eqb}
use lib.ListN.{get_or-replicate}
use Rattle.geometry.specs.declared.Settings.{Settings}
use Rattle.geometry.specs.Entry.{empty}
use Rattle.banks.specs.Banks.{bank_of}
use Rattle.tracking.proofs.Spare.{busy, busy_new}
use Rattle.tracking.proofs.View.{estimate-new}
use Rattle.engine.specs.State.{State, tracker_at, forward_of, reverse_of}
use Rattle.geometry.specs.Place.{place_by}
use Rattle.engine.specs.Calls.{set_up, cleared, ticked}
use Rattle.engine.proofs.Trackers.{estimate_for, estimate, all_new}
use Rattle.history.specs.Tally.{Tally, start}
use Rattle.history.proofs.Invariant.{Inv}
use Rattle.history.proofs.History.{set_up-new, inv_set_up}

-- what is known of it: forward and reverse entries; `head` and `passed`; the estimate of every place; for each bank a bound on the
-- entries that have counted, and one on the accesses
pub record Picture : Type 0 where
  pub forward : ℕ → ℕ
  pub reverse : ℕ → ℕ
  pub head : ℕ
  pub passed : ℕ
  pub estimates : ℕ → ℕ
  pub used : ℕ → ℕ
  pub acts : ℕ → ℕ

-- the trackers are as the picture says, and have nothing in `spill`
pub record Counts (S : Settings) (σ : State) (estimates used acts : ℕ → ℕ) : Type 0 where
  pub estimate_is : (x : ℕ) → x < S.n + S.q → estimate S σ x ≡ estimates x
  pub spill_0 : (x : ℕ) → (tracker_at S σ x).spill ≡ 0
  pub busy_most : (x : ℕ) → busy (tracker_at S σ x).counts ≤ used (bank_of S x)
  pub acts_most : (x : ℕ) → (tracker_at S σ x).acts ≤ acts (bank_of S x)

-- all that is lent is as the picture has it
pub record Shown (S : Settings) (σ : State) (P : Picture) : Type 0 where
  pub forward_is : (x : ℕ) → x < S.n → forward_of σ x ≡ P.forward x
  pub reverse_is : (s : ℕ) → s < S.q → reverse_of σ s ≡ P.reverse s
  pub head_is : σ.control.head ≡ P.head
  pub passed_is : σ.control.passed ≡ P.passed
  pub counts : Counts S σ P.estimates P.used P.acts

-- .. in a history, of rows of one byte
pub record Known (S : Settings) (σ : State) (P : Picture) : Type 0 where
  pub narrow : S.w ≡ 1
  pub τ₀ : Tally
  pub τ : Tally
  pub inv : Inv S σ τ₀ τ
  pub shown : Shown S σ P

-- ---- how a picture changes

-- f with n more at p
abbrev pub plus_at : ℕ → ℕ → (ℕ → ℕ) → ℕ → ℕ
plus_at p n f = λ x. cond (eqb x p) (f x + n) (f x)

abbrev pub place_in : Settings → Picture → ℕ → ℕ
place_in S P r = place_by S (P.forward r) r

abbrev pub recounted : Picture → (ℕ → ℕ) → (ℕ → ℕ) → (ℕ → ℕ) → Picture
recounted P estimates used acts =
    record {
      forward = P.forward;
      reverse = P.reverse;
      head = P.head;
      passed = P.passed;
      estimates = estimates;
      used = used;
      acts = acts;
    }

-- row r is read n times and stays; used, acts: at most the entries that have counted then, and the accesses
abbrev pub after_reads : Settings → Picture → ℕ → ℕ → (ℕ → ℕ) → (ℕ → ℕ) → Picture
after_reads S P r n used acts = recounted P (plus_at (place_in S P r) n P.estimates) used acts

-- the bank of its place has an entry for it, and accesses left
pub record Fits (S : Settings) (P : Picture) (r n : ℕ) (used acts : ℕ → ℕ) : Type 0 where
  pub row_in : r < S.n
  pub used_kept : (c : ℕ) → P.used c ≤ used c
  pub used_more : 0 < n → P.estimates (place_in S P r) ≡ 0 → P.used (bank_of S (place_in S P r)) < used (bank_of S (place_in S P r))
  pub used_in : used (bank_of S (place_in S P r)) ≤ S.k
  pub acts_kept : (c : ℕ) → P.acts c ≤ acts c
  pub acts_more : P.acts (bank_of S (place_in S P r)) + n ≤ acts (bank_of S (place_in S P r))
  pub acts_in : acts (bank_of S (place_in S P r)) ≤ S.l

-- row r goes to slot `head`
abbrev pub after_quarantine : Settings → Picture → ℕ → Picture
after_quarantine S P r =
    record {
      forward = λ x. cond (eqb x r) P.head (cond (eqb (P.forward x) P.head) empty (P.forward x));
      reverse = λ s. cond (eqb s P.head) r (cond (eqb s (P.forward r)) empty (P.reverse s));
      head = (P.head + 1) % S.q;
      passed = P.passed + 1;
      estimates = P.estimates;
      used = P.used;
      acts = P.acts;
    }

-- a new epoch
abbrev pub after_tick : Picture → Picture
after_tick P =
    record {
      forward = P.forward;
      reverse = P.reverse;
      head = P.head;
      passed = 0;
      estimates = λ x. 0;
      used = λ c. 0;
      acts = λ c. 0;
    }

-- the trackers of a new epoch
counts_new : (S : Settings) (σ : State) → 1 ≤ S.b → Counts S (ticked S σ) (λ x. 0) (λ c. 0) (λ c. 0)
counts_new S σ some =
    record {
      estimate_is = λ x b. all_new S σ some (λ t. estimate_for t x ≡ 0) (estimate-new S.k x) x;
      spill_0 = all_new S σ some (λ t. t.spill ≡ 0) refl;
      busy_most = all_new S σ some (λ t. busy t.counts ≤ 0) (omega (arith, busy_new S.k));
      acts_most = all_new S σ some (λ t. t.acts ≤ 0) zero-le;
    }

pub shown-tick : (S : Settings) (σ : State) (P : Picture) → Known S σ P → Shown S (ticked S σ) (after_tick P)
shown-tick S σ P K =
    record {
      forward_is = K.shown.forward_is;
      reverse_is = K.shown.reverse_is;
      head_is = K.shown.head_is;
      passed_is = refl;
      counts = counts_new S σ K.inv.sound.ranges.b_low;
    }

-- ---- set-up: nothing is moved, and nothing counted

abbrev pub fresh : Picture
fresh =
    record {
      forward = λ x. empty;
      reverse = λ s. empty;
      head = 0;
      passed = 0;
      estimates = λ x. 0;
      used = λ c. 0;
      acts = λ c. 0;
    }

pub known_set_up : (S : Settings) (σ : State) → S.w ≡ 1 → (set_up S σ).number ≡ 0 → Known S (set_up S σ).state fresh
known_set_up S σ narrow z =
    let I = inv_set_up S σ z in
    record {
      narrow = narrow;
      τ₀ = start;
      τ = start;
      inv = I;
      shown = subst (λ (σ' : State). Shown S σ' fresh) (set_up-new S σ z)
          (record {
            forward_is = λ x b. get_or-replicate S.n x empty empty b;
            reverse_is = λ s b. get_or-replicate S.q s empty empty b;
            head_is = refl;
            passed_is = refl;
            counts = counts_new S (cleared S σ) I.sound.ranges.b_low;
          });
    }

-- ---- the same memory told by the same estimates, and by bounds that are no lower

pub known_again : {S : Settings} {σ : State} {P : Picture} {estimates used acts : ℕ → ℕ} → Known S σ P
    → ((x : ℕ) → x < S.n + S.q → P.estimates x ≡ estimates x) → ((c : ℕ) → P.used c ≤ used c) → ((c : ℕ) → P.acts c ≤ acts c)
    → Known S σ (recounted P estimates used acts)
known_again {S} K same more-used more-acts =
    let C = K.shown.counts in
    record {
      narrow = K.narrow;
      τ₀ = K.τ₀;
      τ = K.τ;
      inv = K.inv;
      shown = record {
        forward_is = K.shown.forward_is;
        reverse_is = K.shown.reverse_is;
        head_is = K.shown.head_is;
        passed_is = K.shown.passed_is;
        counts = record {
          estimate_is = λ x b. C.estimate_is x b ∙ same x b;
          spill_0 = C.spill_0;
          busy_most = λ x. omega (arith, C.busy_most x, more-used (bank_of S x));
          acts_most = λ x. omega (arith, C.acts_most x, more-acts (bank_of S x));
        };
      };
    }
