-- The stages of the code are the ladder. Assumes nothing.
use Prim.Native.Nat.{ℕ, zero, suc, ◌+◌, ◌-◌, ◌*◌, ◌<◌, ◌≤◌}
use native.Mathlib.Nat.{mul-le-mul_right}
use native.Mathlib.Omega.{arith}
use mathlib.Core.Path.{◌≡◌, refl, sym, ap, ◌∙◌}
use mathlib.Core.Logic.{inl, inr, ◌≢◌}
use mathlib.Core.Bool.{Bool, true, false, ◌||◌, or_assoc}
use mathlib.Core.List.{List}
use lib.Dec.{ltb}
use lib.ListN.{get_or, take, drop}
use borrow.Author.Tests.{lt-ltb, le-ltb, lt-leb, not-false}
use Rattle.std.specs.List.{range_with_len, list_any}
use Rattle.geometry.specs.declared.Settings.{Settings}
use Rattle.geometry.specs.declared.Control.{Control}
use Rattle.geometry.specs.declared.Lengths.{Lengths}
use Rattle.basics.specs.Ranges.{some_below}
use Rattle.basics.proofs.Below.{below_first, same_below}
use Rattle.basics.proofs.Cases.{lt?}
use Rattle.basics.specs.Portions.{portion}
use Rattle.basics.proofs.Portions.{portion-lent}
use Rattle.conditions.specs.Conditions.{lengths_hold}
use Rattle.conditions.proofs.Facts.{Ranges, Exact, ranges_facts, lengths_facts}
use Rattle.scan.specs.Scan.{some}
use Rattle.scan.proofs.Scans.{some_none, counts_below}
use Rattle.banks.specs.Banks.{most_banks}
use Rattle.engine.specs.declared.Asked.{Asked}
use Rattle.engine.specs.State.{Tables, State, lengths_of, tracker_of, ring_of}
use Rattle.engine.specs.Ladder.{stops, ◌▹◌, ring_unsound, tracker_unsound, bank_unsound, trackers_unsound, control_unsound}
use Rattle.engine.specs.Ladder.{fit_number, control_number, row_unsound, row_number, tick_number}
use Rattle.engine.proofs.Rungs.{pass, unmet, goes_by, halts, goes_on}
use Rattle.engine.proofs.Facts.{settings_facts, Steady, steady, tick_facts}
use Rattle.ladder.specs.Stages.{first_unsound, others_unsound}

-- ---- a stage gives the number x: the ladder ends there, or goes on to the next stage, which gives y

pub ends : {x first : ℕ} (next : ℕ) → x ≡ first → x ≢ 0 → x ≡ first ▹ next
ends next e n = e ∙ sym (halts next (λ z. n (e ∙ z)))

pub continues : {x first y next : ℕ} → x ≡ first → x ≡ 0 → y ≡ next → y ≡ first ▹ next
continues {next = next} e z f = f ∙ sym (goes_on next (sym e ∙ z))

-- ---- the condition of 6, for a write

pub past_end : (w column count : ℕ) → w < column → true ≡ ltb w (column + count)
past_end w column count h = sym (lt-ltb w (column + count) (omega arith))

pub within_rest : (w column count : ℕ) → column ≤ w → ltb (w - column) count ≡ ltb w (column + count)
within_rest w column count h =
    elim (lt? (w - column) count) [
      | inl k ↦ lt-ltb (w - column) count k ∙ sym (lt-ltb w (column + count) (omega arith))
      | inr k ↦ le-ltb (w - column) count k ∙ sym (le-ltb w (column + count) (omega arith))
    ]

-- ---- past 5 and 6; b: whether 7 applies, as the code has it

pub row_goes : (S : Settings) (tables : Tables) (a : Asked) → a.row < S.n → a.off ≡ false
    → {b : Bool} → b ≡ row_unsound S tables a.row → stops b 7 ≡ row_number S tables a
unfolding row_number
row_goes S tables a row_in span_in told =
    continues (sym (goes_by 5 (lt-leb S.n a.row row_in))) refl
    (continues (sym (goes_by 6 span_in)) refl (ap (λ (b : Bool). stops b 7) told))

-- ---- 1 to 4: past 1 to 3, 4 in two parts

-- what 4 takes of 1 to 3
pub fit_counts : (S : Settings) (lengths : Lengths) → 0 ≡ fit_number S lengths
    → (1 ≤ S.b) × (S.b ≤ most_banks) × (lengths.counts ≡ S.b * S.k)
unfolding fit_number
fit_counts S lengths z =
    let p = pass _ _ (sym z) in
    let R = ranges_facts S (settings_facts S p.0).0 in
    let X = lengths_facts S lengths (not-false (lengths_hold S lengths) (unmet _ _ p.1)) in
    (R.b_low, R.b_high, X.counts)

-- one bank's counts are among those of all
pub one_bank : (S : Settings) → 1 ≤ S.b → S.k ≤ S.b * S.k
one_bank S some = omega (arith, mul-le-mul_right {m = 1} S.k some)

-- the others as the code goes over them: a test of the numbers from `from` on
any_below : (test : ℕ → Bool) (from n : ℕ) → list_any test (range_with_len from n) ≡ some_below (λ c. test (from + c)) n
unfolding some_below
any_below test from zero = refl
any_below test from (suc n) =
    ap (λ (b : Bool). test from || b) (any_below test (from + 1) n
    ∙ same_below (λ c. test (from + 1 + c)) (λ c. test (from + suc c)) n
    (λ c b. ap test (let e : from + 1 + c ≡ from + suc c = omega arith in e)))
    ∙ ap (λ (b : Bool). b || some_below (λ c. test (from + suc c)) n) (ap test (let e : from ≡ from + 0 = omega arith in e))
    ∙ sym (below_first (λ c. test (from + c)) n)

module _ (S : Settings) (spill acts counts : List ℕ) where
  -- of one bank, its counts as the code lends them
  abbrev pub bank_lent : ℕ → Bool
  bank_lent bank =
      tracker_unsound S (get_or spill bank 0) (get_or acts bank 0) (take (bank * S.k + S.k - bank * S.k) (drop (bank * S.k) counts))

  pub others_are : list_any bank_lent (range_with_len 1 (S.b - 1)) ≡ others_unsound S spill acts counts
  unfolding others_unsound
  others_are =
      let lent : (c : ℕ) → bank_lent c ≡ bank_unsound S spill acts counts c =
      λ (c : ℕ). ap (tracker_unsound S (get_or spill c 0) (get_or acts c 0)) (portion-lent S.k c counts) in
      any_below bank_lent 1 (S.b - 1)
      ∙ same_below (λ c. bank_lent (1 + c)) (λ c. bank_unsound S spill acts counts (suc c)) (S.b - 1)
      (λ c b. lent (1 + c) ∙ ap (bank_unsound S spill acts counts) (let e : 1 + c ≡ suc c = omega arith in e))

-- what 4 asks of all banks it asks of the first and of the others
pub control_parts : (S : Settings) (control : Control) (counts : List ℕ) → 1 ≤ S.b
    → control_unsound S control counts
    ≡ (first_unsound S (ring_of control) (get_or control.spill 0 0) (get_or control.acts 0 0) counts
    || others_unsound S control.spill control.acts counts)
unfolding control_unsound first_unsound trackers_unsound others_unsound portion
control_parts S control counts some =
    let more : S.b ≡ suc (S.b - 1) = omega arith in
    let none : 0 * S.k ≡ 0 = omega arith in
    let test : ℕ → Bool = bank_unsound S control.spill control.acts counts in
    let ring : Bool = ring_unsound S (ring_of control) in
    let spill : ℕ = get_or control.spill 0 0 in
    let acts : ℕ = get_or control.acts 0 0 in
    let others : Bool = others_unsound S control.spill control.acts counts in
    let banks : some_below test S.b ≡ (tracker_unsound S spill acts (take S.k counts) || others) =
    ap (some_below test) more ∙ below_first test (S.b - 1)
    ∙ ap (λ (n : ℕ). tracker_unsound S spill acts (take S.k (drop n counts)) || others) none in
    ap (λ (x : Bool). ring || x) banks ∙ sym (or_assoc ring (tracker_unsound S spill acts (take S.k counts)) others)

-- x: the number of 1 to 3, as the code has it
module _ (S : Settings) (lengths : Lengths) (control : Control) (counts : List ℕ) {x : ℕ} (e : x ≡ fit_number S lengths) where
  pub tick-stops : x ≢ 0 → x ≡ control_number S lengths control counts
  unfolding control_number
  tick-stops n = ends _ e n

  -- f, o: what the two tests of 4 answer
  pub tick_goes : x ≡ 0 → {f o : Bool} → f ≡ first_unsound S (ring_of control) (get_or control.spill 0 0) (get_or control.acts 0 0) counts
      → o ≡ others_unsound S control.spill control.acts counts → stops (f || o) 4 ≡ control_number S lengths control counts
  unfolding control_number
  tick_goes z {f} {o} ef eo =
      let some : 1 ≤ S.b = (fit_counts S lengths (sym z ∙ e)).0 in
      let first : Bool = first_unsound S (ring_of control) (get_or control.spill 0 0) (get_or control.acts 0 0) counts in
      continues e z
      (ap (λ (b : Bool). stops b 4)
      (ap (λ (b : Bool). b || o) ef ∙ ap (λ (b : Bool). first || b) eo ∙ sym (control_parts S control counts some)))

-- ---- past 1 to 4, as the code needs it

pub record Checked (S : Settings) (σ : State) : Type 0 where
  pub ranges : Ranges S
  pub lengths : Exact S (lengths_of σ)
  pub steady : Steady S σ
  -- a count of a bank can rise by 1
  pub counts : (c : ℕ) → c < S.b → some (λ count. ltb 4294967294 count) (portion S.k c σ.counts) ≡ false

counts_fit : (acts : ℕ) (counts : List ℕ) → acts ≤ 1360000 → some (λ count. ltb acts count) counts ≡ false
    → some (λ count. ltb 4294967294 count) counts ≡ false
counts_fit acts counts few none =
    some_none (λ count. ltb 4294967294 count) counts (λ i b.
    le-ltb 4294967294 (get_or counts i 0) (omega (arith, counts_below counts acts i none b)))

pub checked : (S : Settings) (σ : State) → tick_number S σ ≡ 0 → Checked S σ
checked S σ z =
    let f = tick_facts S σ z in
    let R = ranges_facts S f.0.ranges in
    let s = steady S σ f.1 in
    record {
      ranges = R;
      lengths = lengths_facts S (lengths_of σ) f.0.lengths;
      steady = s;
      counts = λ c b.
          let t = s.banks c b in
          counts_fit (tracker_of S σ c).acts (portion S.k c σ.counts) (omega (arith, t.acts_in, R.l_high)) t.none_above;
    }

-- ---- 1 to 7 of a call

-- the first of 1 to 7
abbrev pub early_number : Settings → State → Asked → ℕ
early_number S σ a = tick_number S σ ▹ row_number S σ.tables a
