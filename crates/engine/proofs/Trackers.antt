-- The trackers of the banks: an access changes the one that serves its place and no other, and a new epoch makes each as new.
-- Assumes nothing.
use Prim.Native.Nat.{ℕ, ◌+◌, ◌-◌, ◌*◌, ◌/◌, ◌<◌, ◌≤◌}
use native.Mathlib.Nat.{add-sub_of_le}
use native.Mathlib.Omega.{arith}
use mathlib.Core.Path.{◌≡◌, sym, ap, ◌∙◌, subst}
use mathlib.Core.Logic.{◌≢◌}
use mathlib.Core.List.{List, ◌++◌}
use lib.ListN.{length, get_or, set, drop, replicate, replicate-append-replicate, length-append, length-set, length-replicate, get_or-replicate, get_or-append}
use lib.Seq.{drop_at, get_or-set_same, get_or-set_other}
use Rattle.geometry.specs.declared.Settings.{Settings}
use Rattle.geometry.specs.Entry.{empty}
use Rattle.conditions.proofs.Facts.{Ranges}
use Rattle.basics.specs.Portions.{portion, with_portion}
use Rattle.banks.specs.Banks.{most_banks, bank_of}
use Rattle.basics.proofs.Portions.{portion_fits, length-portion, length-with_portion, portion-same, portion_other, portion-replicate}
use Rattle.banks.proofs.Banks.{bank_in, bank_itself}
use Rattle.tracking.proofs.Entries.{track_long}
use Rattle.tracking.proofs.Sums.{quotients, sum_portions}
use Rattle.tracking.proofs.Tracking.{estimate_of}
use Rattle.tracking.proofs.View.{Counting, Tracks, quotients_few}
use Rattle.engine.specs.State.{State, Tracker, tracker_at}
use Rattle.engine.specs.Steps.{place, tracked, tracker_after, counted}
use Rattle.engine.specs.Calls.{cleared, zero_below, ticked}
use Rattle.engine.proofs.Pointers.{Sound}

-- what a tracker has counted
abbrev pub CountingBy : ℕ → Tracker → Type 0
CountingBy k t = Counting k t.rows t.counts t.spill t.acts

-- its estimate of a physical row
abbrev pub estimate_for : Tracker → ℕ → ℕ
estimate_for t p = estimate_of t.rows t.counts t.spill p

-- of the tracker that serves the row
abbrev pub CountingAt : Settings → State → ℕ → Type 0
CountingAt S σ p = CountingBy S.k (tracker_at S σ p)

abbrev pub estimate : Settings → State → ℕ → ℕ
estimate S σ p = estimate_for (tracker_at S σ p) p

-- what an access of row r does to the estimates of the bank of its place
abbrev pub TracksAt : Settings → State → ℕ → Type 0
TracksAt S σ r =
    let p : ℕ = place S σ r in
    let t : Tracker = tracker_at S σ p in
    Tracks S.a S.k p t.rows t.counts t.spill t.acts (tracked S σ r)

-- ---- a table of B × K entries with other entries of one bank, and a number for each bank with another of one

module _ (S : Settings) (some : 1 ≤ S.b) (p x : ℕ) where
  p_in : bank_of S p < S.b
  p_in = bank_in S p some

  x_in : bank_of S x < S.b
  x_in = bank_in S x some

  module _ (table new : List ℕ) (long : length table ≡ S.b * S.k) (same : length new ≡ S.k) where
    entries_same : bank_of S x ≡ bank_of S p → portion S.k (bank_of S x) (with_portion S.k (bank_of S p) table new) ≡ new
    entries_same e =
        rw e (portion-same S.k (bank_of S p) table (portion_fits S.k S.b (bank_of S p) (length table) long p_in) new same)

    entries_other : bank_of S x ≢ bank_of S p
        → portion S.k (bank_of S x) (with_portion S.k (bank_of S p) table new) ≡ portion S.k (bank_of S x) table
    entries_other n =
        portion_other S.k (bank_of S p) table (portion_fits S.k S.b (bank_of S p) (length table) long p_in) new same
        (bank_of S x) (portion_fits S.k S.b (bank_of S x) (length table) long x_in) n

  module _ (numbers : List ℕ) (v : ℕ) (long : S.b ≤ length numbers) where
    number_same : bank_of S x ≡ bank_of S p → get_or (set numbers (bank_of S p) v) (bank_of S x) 0 ≡ v
    number_same e = rw e (get_or-set_same numbers (bank_of S p) v 0 (omega (arith, p_in)))

    number_other : bank_of S x ≢ bank_of S p → get_or (set numbers (bank_of S p) v) (bank_of S x) 0 ≡ get_or numbers (bank_of S x) 0
    number_other n = get_or-set_other numbers (bank_of S p) (bank_of S x) v 0 n

-- ---- an access of row r

module _ (S : Settings) (σ : State) (r : ℕ) (some : 1 ≤ S.b) (rows_long : length σ.rows ≡ S.b * S.k)
    (counts_long : length σ.counts ≡ S.b * S.k) where
  abbrev p : ℕ
  p = place S σ r

  long_of : (table : List ℕ) → length table ≡ S.b * S.k → length (portion S.k (bank_of S p) table) ≡ S.k
  long_of table long =
      length-portion S.k (bank_of S p) table (portion_fits S.k S.b (bank_of S p) (length table) long (bank_in S p some))

  pub entries_alike : length (tracker_at S σ p).rows ≡ length (tracker_at S σ p).counts
  entries_alike = long_of σ.rows rows_long ∙ sym (long_of σ.counts counts_long)

  pub tracked_rows_long : length (tracked S σ r).rows ≡ S.k
  tracked_rows_long =
      let t : Tracker = tracker_at S σ p in
      (track_long p t.rows t.counts t.spill).0 ∙ long_of σ.rows rows_long

  pub tracked_counts_long : length (tracked S σ r).counts ≡ S.k
  tracked_counts_long =
      let t : Tracker = tracker_at S σ p in
      (track_long p t.rows t.counts t.spill).1 ∙ long_of σ.counts counts_long

  -- the entries of a row's bank
  module _ (x : ℕ) where
    pub rows_same : bank_of S x ≡ bank_of S p → (tracker_at S (counted S σ r) x).rows ≡ (tracked S σ r).rows
    rows_same = entries_same S some p x σ.rows (tracked S σ r).rows rows_long tracked_rows_long

    pub counts_same : bank_of S x ≡ bank_of S p → (tracker_at S (counted S σ r) x).counts ≡ (tracked S σ r).counts
    counts_same = entries_same S some p x σ.counts (tracked S σ r).counts counts_long tracked_counts_long

    pub rows_other : bank_of S x ≢ bank_of S p → (tracker_at S (counted S σ r) x).rows ≡ (tracker_at S σ x).rows
    rows_other = entries_other S some p x σ.rows (tracked S σ r).rows rows_long tracked_rows_long

    pub counts_other : bank_of S x ≢ bank_of S p → (tracker_at S (counted S σ r) x).counts ≡ (tracker_at S σ x).counts
    counts_other = entries_other S some p x σ.counts (tracked S σ r).counts counts_long tracked_counts_long

-- the tables keep their lengths, and there is a number for every bank
module _ (S : Settings) (σ : State) (sound : Sound S σ) (r : ℕ) where
  pub room_of : (table : List ℕ) → length table ≡ S.b * S.k → bank_of S (place S σ r) * S.k + S.k ≤ length table
  room_of table long =
      portion_fits S.k S.b (bank_of S (place S σ r)) (length table) long (bank_in S (place S σ r) sound.ranges.b_low)

  pub counted_rows_long : length (counted S σ r).rows ≡ S.b * S.k
  counted_rows_long =
      length-with_portion S.k (bank_of S (place S σ r)) σ.rows (room_of σ.rows sound.lengths.rows) (tracked S σ r).rows
      (tracked_rows_long S σ r sound.ranges.b_low sound.lengths.rows sound.lengths.counts) ∙ sound.lengths.rows

  pub counted_counts_long : length (counted S σ r).counts ≡ S.b * S.k
  counted_counts_long =
      length-with_portion S.k (bank_of S (place S σ r)) σ.counts (room_of σ.counts sound.lengths.counts) (tracked S σ r).counts
      (tracked_counts_long S σ r sound.ranges.b_low sound.lengths.rows sound.lengths.counts) ∙ sound.lengths.counts

  pub counted_spill_long : S.b ≤ length (counted S σ r).control.spill
  counted_spill_long = omega (arith, sound.spill_long, length-set σ.control.spill (bank_of S (place S σ r)) (tracker_after S σ r).spill)

  pub counted_acts_long : S.b ≤ length (counted S σ r).control.acts
  counted_acts_long = omega (arith, sound.acts_long, length-set σ.control.acts (bank_of S (place S σ r)) (tracker_after S σ r).acts)

module _ (S : Settings) (σ : State) (sound : Sound S σ) (r x : ℕ) where
  some : 1 ≤ S.b
  some = sound.ranges.b_low

  -- the tracker that serves the place, and another
  pub tracker_same : bank_of S x ≡ bank_of S (place S σ r) → tracker_at S (counted S σ r) x ≡ tracker_after S σ r
  tracker_same e =
      rw (
        rows_same S σ r some sound.lengths.rows sound.lengths.counts x e,
        counts_same S σ r some sound.lengths.rows sound.lengths.counts x e,
        number_same S some (place S σ r) x σ.control.spill (tracked S σ r).spill sound.spill_long e,
        number_same S some (place S σ r) x σ.control.acts (tracker_after S σ r).acts sound.acts_long e,
      )

  pub tracker_other : bank_of S x ≢ bank_of S (place S σ r) → tracker_at S (counted S σ r) x ≡ tracker_at S σ x
  tracker_other n =
      rw (
        rows_other S σ r some sound.lengths.rows sound.lengths.counts x n,
        counts_other S σ r some sound.lengths.rows sound.lengths.counts x n,
        number_other S some (place S σ r) x σ.control.spill (tracked S σ r).spill sound.spill_long n,
        number_other S some (place S σ r) x σ.control.acts (tracker_after S σ r).acts sound.acts_long n,
      )

-- ---- a new epoch

abbrev pub new_tracker : ℕ → Tracker
new_tracker k = record { rows = replicate k empty; counts = replicate k 0; spill = 0; acts = 0 }

zero_there : (b c : ℕ) → c < b → (numbers : List ℕ) → get_or (zero_below b numbers) c 0 ≡ 0
unfolding zero_below
zero_there b c inside numbers =
    get_or-append (replicate b 0) (drop b numbers) 0 c (omega (arith, length-replicate {A = ℕ} b 0)) ∙ get_or-replicate b c 0 0 inside

pub zero_long : (b : ℕ) (numbers : List ℕ) → b ≤ length (zero_below b numbers)
unfolding zero_below
zero_long b numbers = omega (arith, length-append (replicate b 0) (drop b numbers), length-replicate {A = ℕ} b 0)

pub tracker_new : (S : Settings) (σ : State) (p : ℕ) → 1 ≤ S.b → tracker_at S (ticked S σ) p ≡ new_tracker S.k
tracker_new S σ p some =
    let c : ℕ = bank_of S p in
    let inside : c < S.b = bank_in S p some in
    simp (portion-replicate S.k S.b c empty inside, portion-replicate S.k S.b c 0 inside, zero_there S.b c inside)

-- what holds of a new tracker holds of each
pub all_new : (S : Settings) (σ : State) → 1 ≤ S.b → (P : Tracker → Type 0) → P (new_tracker S.k) → (p : ℕ) → P (tracker_at S (ticked S σ) p)
all_new S σ some P h p = subst P (sym (tracker_new S σ p some)) h

-- a list of one number in two parts
fill_whole : (b n x : ℕ) → b ≤ n → replicate b x ++ replicate (n - b) x ≡ replicate n x
fill_whole b n x few = replicate-append-replicate b (n - b) x ∙ ap (λ (m : ℕ). replicate m x) (add-sub_of_le few)

pub fill_behind : (b n x : ℕ) → b ≤ n → drop b (replicate n x) ≡ replicate (n - b) x
fill_behind b n x few =
    ap (λ (l : List ℕ). drop b l) (sym (fill_whole b n x few))
    ∙ drop_at (replicate b x) (replicate (n - b) x) b (length-replicate b x)

-- set-up leaves what a tick would leave
zero_again : (b n : ℕ) → b ≤ n → zero_below b (replicate n 0) ≡ replicate n 0
unfolding zero_below
zero_again b n few = ap (λ (l : List ℕ). replicate b 0 ++ l) (fill_behind b n 0 few) ∙ fill_whole b n 0 few

pub cleared-new : (S : Settings) (σ : State) → S.b ≤ most_banks → ticked S (cleared S σ) ≡ cleared S σ
cleared-new S σ few = rw (zero_again S.b most_banks few)

-- ---- all banks together

-- at most floor(L / A) quarantines in each
pub quotients_most : (S : Settings) (σ : State) → Ranges S → length σ.counts ≡ S.b * S.k → ((p : ℕ) → CountingAt S σ p)
    → ((p : ℕ) → (tracker_at S σ p).acts ≤ S.l) → quotients S.a σ.counts ≤ S.b * (S.l / S.a)
quotients_most S σ R long counting few =
    sum_portions (λ x. x / S.a) S.k σ.counts (S.l / S.a) S.b long (λ c b.
    subst (λ (d : ℕ). quotients S.a (portion S.k d σ.counts) ≤ S.l / S.a) (bank_itself S c b)
    (quotients_few (counting c) S.a S.l R.a_low (few c)))
