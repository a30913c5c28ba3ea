-- What an accepted access leaves in all that is lent, stated without its steps. Assumes nothing.
use Prim.Native.Nat.{ℕ, suc, ◌+◌, ◌-◌, ◌*◌, ◌%◌, ◌<◌, ◌≤◌}
use native.Mathlib.Nat.{mod-lt}
use native.Mathlib.Omega.{arith}
use mathlib.Core.Path.{◌≡◌, refl, sym, ap, ◌∙◌}
use mathlib.Core.Logic.{◌⊎◌, inl, inr, ◌≢◌}
use mathlib.Core.Bool.{true, false}
use mathlib.Core.List.{List}
use lib.Dec.{eqb}
use lib.ListN.{length, set, length-set}
use borrow.Author.Tests.{eqb-true, eqb-false}
use Rattle.geometry.specs.declared.Settings.{Settings}
use Rattle.geometry.specs.Numbering.{visible, slot}
use Rattle.geometry.specs.Entry.{empty}
use Rattle.basics.proofs.Cases.{split}
use Rattle.basics.proofs.Tests.{or_left}
use Rattle.conditions.proofs.Facts.{Ranges, Exact}
use Rattle.tracking.proofs.View.{tracks}
use Rattle.row_layout.specs.Bytes.{copied}
use Rattle.row_layout.proofs.Laws.{byte_at, length-copied, copied_to, copied_other}
use Rattle.engine.specs.declared.Move.{Move}
use Rattle.engine.specs.declared.Move.TheVariants.{Stayed, ToSlot, OverSlot}
use Rattle.engine.specs.Answer.{slot_moved_to, row_sent_home}
use Rattle.engine.specs.State.{State, Tracker, lengths_of, tracker_at, forward_of, reverse_of}
use Rattle.engine.specs.Steps.{place, moves, skips, skipped, destination, rise, move_into, move, left, settled}
use Rattle.engine.specs.Round.{destination_from, rise_to}
use Rattle.engine.proofs.GoneBy.{Slide, next_in}
use Rattle.engine.proofs.Ahead.{distance, ahead, goes_past}
use Rattle.engine.proofs.Trackers.{CountingAt, TracksAt, counted_rows_long, counted_counts_long}
use Rattle.engine.proofs.Pointers.{Sound, Relinked, marks_none, place_is, place-in, left_long, holder, relinked_to, relinked_over}

-- ---- where an access leaves its row, with what decides it

pub data Plan (S : Settings) (σ : State) (r : ℕ) : Move → Type 0 where
  rests : moves S σ r ≡ false → Plan S σ r Stayed
  fills : moves S σ r ≡ true → reverse_of σ (destination S σ r) ≡ empty → Plan S σ r (ToSlot (slot (destination S σ r)))
  evicts : moves S σ r ≡ true → reverse_of σ (destination S σ r) ≢ empty
      → Plan S σ r (OverSlot (slot (destination S σ r)) (visible (reverse_of σ (destination S σ r))))

pub plan : (S : Settings) (σ : State) (r : ℕ) → Plan S σ r (move S σ r)
unfolding move
plan S σ r =
    elim (split (moves S σ r)) [
      | inl e ↦ elim (split (eqb (reverse_of σ (destination S σ r)) empty)) [
        | inl k ↦ rw (e, k) (fills e (eqb-true (reverse_of σ (destination S σ r)) empty k))
        | inr k ↦ rw (e, k) (evicts e (eqb-false (reverse_of σ (destination S σ r)) empty k))
      ]
      | inr e ↦ rw e (rests e)
    ]

-- what is answered of a move into slot d, whose reverse entry is `held`
pub into_slot : (d held : ℕ) → slot_moved_to (move_into d held) ≡ d
into_slot d held = elim (split (eqb held empty)) [ inl e ↦ rw e | inr e ↦ rw e ]

pub into_row : (d held : ℕ) → row_sent_home (move_into d held) ≡ held
into_row d held = elim (split (eqb held empty)) [ inl e ↦ rw e (sym (eqb-true held empty e)) | inr e ↦ rw e ]

-- ---- the head

-- where there is a destination, it is as many slots from `head` as are skipped, and one
pub rise_is : (S : Settings) (head over : ℕ) → head < S.q → over < S.q → rise_to S head (destination_from S head over) ≡ suc over
unfolding destination_from rise_to
rise_is S head over b few = let far : ((head + over) % S.q + S.q - head) % S.q ≡ over = distance S.q head over b few in omega arith

pub destination_from_in : (S : Settings) (head over : ℕ) → head < S.q → destination_from S head over < S.q
unfolding destination_from
destination_from_in S head over b = mod-lt (head + over) (omega arith)

pub destination_in : (S : Settings) (σ : State) (r : ℕ) → σ.control.head < S.q → destination S σ r < S.q
destination_in S σ r b = destination_from_in S σ.control.head (skipped S σ r) b

-- ---- a slot is answered exactly where the row is moved

module _ (S : Settings) (σ : State) (r : ℕ) (ranges : Ranges S) (head_in : σ.control.head < S.q) where
  real : destination S σ r ≢ empty
  real = marks_none S ranges (destination S σ r) (let b = destination_in S σ r head_in in omega arith)

  by_plan_told : (m : Move) → Plan S σ r m
      → ((slot_moved_to m ≡ empty) × (moves S σ r ≡ false)) ⊎ ((slot_moved_to m ≢ empty) × (moves S σ r ≡ true))
  by_plan_told m (rests e) = inl (refl, e)
  by_plan_told m (fills e vacant) = inr (real, e)
  by_plan_told m (evicts e held) = inr (real, e)

  pub slot-told : ((slot_moved_to (move S σ r) ≡ empty) × (moves S σ r ≡ false))
      ⊎ ((slot_moved_to (move S σ r) ≢ empty) × (moves S σ r ≡ true))
  slot-told = by_plan_told (move S σ r) (plan S σ r)

module _ (S : Settings) (σ : State) (r : ℕ) (head_in : σ.control.head < S.q) (room : σ.control.passed + rise S σ r ≤ S.q) where
  few : skipped S σ r < S.q
  few = omega arith

  -- the head skips slots and goes by the destination
  pub slide : Slide (skips S σ r) S.q σ.control.head σ.control.passed (destination S σ r) ((destination S σ r + 1) % S.q) (σ.control.passed + rise S σ r)
  unfolding destination_from
  slide = (goes_past (skips S σ r) S.q S.q σ.control.head σ.control.passed head_in few room).0

  -- the marked slots ahead of it that it skips are gone by then
  pub ahead_then : ahead (skips S σ r) S.q σ.control.head σ.control.passed
      ≡ skipped S σ r + ahead (skips S σ r) S.q ((destination S σ r + 1) % S.q) (σ.control.passed + rise S σ r)
  unfolding destination_from
  ahead_then = (goes_past (skips S σ r) S.q S.q σ.control.head σ.control.passed head_in few room).1

  -- 'by the slots passed plus one', computed from the destination
  pub rise-to : rise_to S σ.control.head (destination S σ r) ≡ rise S σ r
  rise-to = rise_is S σ.control.head (skipped S σ r) head_in few

-- a slot that is not skipped is not the row's own
pub not_own : (S : Settings) (σ : State) (r d : ℕ) → skips S σ r d ≡ false → d ≢ forward_of σ r
not_own S σ r d free e = eqb-false (forward_of σ r) d (or_left (eqb (forward_of σ r) d) _ free) (sym e)

-- ---- the bytes

-- row r goes to slot d: the bytes that the copies leave (store: before them, after: after them)
pub record Carried (S : Settings) (σ : State) (r d : ℕ) (store after : List ℕ) : Type 0 where
  pub target : (c : ℕ) → c < S.w → byte_at S.w after (S.n + d) c ≡ byte_at S.w store (place S σ r) c
  -- the row that slot d held is sent home
  pub home : (x c : ℕ) → x < S.n → forward_of σ x ≡ d → c < S.w → byte_at S.w after x c ≡ byte_at S.w store (S.n + d) c
  pub rest : (p c : ℕ) → p ≢ S.n + d → ((x : ℕ) → x < S.n → forward_of σ x ≡ d → p ≢ x) → c < S.w
      → byte_at S.w after p c ≡ byte_at S.w store p c

-- ---- the whole

-- row r was moved to slot d; σ': what the access left; store: the store after step 3
pub record Moved (S : Settings) (σ : State) (r : ℕ) (store : List ℕ) (d : ℕ) (σ' : State) : Type 0 where
  pub slide : Slide (skips S σ r) S.q σ.control.head σ.control.passed d σ'.control.head σ'.control.passed
  pub head_in : σ'.control.head < S.q
  pub passed : σ'.control.passed ≡ σ.control.passed + rise S σ r
  -- the slots ahead that the head would skip: the skipped ones are gone by now
  pub ahead : ahead (skips S σ r) S.q σ.control.head σ.control.passed
      ≡ skipped S σ r + ahead (skips S σ r) S.q σ'.control.head σ'.control.passed
  pub links : Relinked S σ r d σ'.tables.forward σ'.tables.reverse
  pub bytes : Carried S σ r d store σ'.store
  pub lengths : Exact S (lengths_of σ')

module _ (S : Settings) (σ : State) (sound : Sound S σ) (r : ℕ) (row_in : r < S.n) where
  -- the trackers, wherever the row is left
  pub tracks_access : S.l < S.a * (S.k + 1) → (tracker_at S σ (place S σ r)).acts < S.l → CountingAt S σ (place S σ r) → TracksAt S σ r
  tracks_access few more C =
      let t : Tracker = tracker_at S σ (place S σ r) in
      tracks S.a S.k S.l (place S σ r) t.rows t.counts t.spill t.acts sound.ranges.a_low few more C

  p_in : place S σ r < S.n + S.q
  p_in = place-in S σ sound r row_in

  -- a row in another slot than d, or in none, is not at the home of the row that slot d holds
  pub not_home : (d : ℕ) → forward_of σ r ≢ d → (y : ℕ) → y < S.n → forward_of σ y ≡ d → place S σ r ≢ y
  not_home d n y y-in at e =
      elim (place_is S σ sound r row_in) [ inl a ↦ n (ap (forward_of σ) (sym a.1 ∙ e) ∙ at) | inr a ↦ omega (arith, a.1) ]

  module _ (store : List ℕ) (long : length store ≡ (S.n + S.q) * S.w) (d : ℕ) (rises : rise_to S σ.control.head d ≡ rise S σ r)
      (went : Slide (skips S σ r) S.q σ.control.head σ.control.passed d ((d + 1) % S.q) (σ.control.passed + rise S σ r))
      (fewer : ahead (skips S σ r) S.q σ.control.head σ.control.passed
      ≡ skipped S σ r + ahead (skips S σ r) S.q ((d + 1) % S.q) (σ.control.passed + rise S σ r)) where
    passed_is : σ.control.passed + rise_to S σ.control.head d ≡ σ.control.passed + rise S σ r
    passed_is = ap (λ (x : ℕ). σ.control.passed + x) rises

    sl : Slide (skips S σ r) S.q σ.control.head σ.control.passed d ((d + 1) % S.q) (σ.control.passed + rise_to S σ.control.head d)
    sl = rw rises went

    free : d ≢ forward_of σ r
    free = not_own S σ r d went.free

    target_in : S.n + d < S.n + S.q
    target_in = omega (arith, sl.inside)

    reverse_long : length (set (left σ.tables.reverse (forward_of σ r)) d r) ≡ S.q
    reverse_long = length-set (left σ.tables.reverse (forward_of σ r)) d r ∙ left_long S σ sound r row_in d sl.inside free

    -- to an empty slot
    moved_to : reverse_of σ d ≡ empty → Moved S σ r store d (settled S σ r store (ToSlot (slot d)))
    moved_to vacant =
        record {
          slide = sl;
          head_in = next_in S.q d sl.inside;
          passed = passed_is;
          ahead = rw rises fewer;
          links = relinked_to S σ sound r row_in d sl.inside free vacant;
          bytes = record {
            target = copied_to S.w (S.n + S.q) store (place S σ r) (S.n + d) long p_in target_in;
            home = λ x c x_in at c_in. absurd (marks_none S sound.ranges x (omega arith) (sym (holder S σ sound r row_in d sl.inside free x x_in at) ∙ vacant));
            rest = λ p c n away c_in. copied_other S.w (S.n + S.q) store (place S σ r) (S.n + d) long p_in target_in p c n c_in;
          };
          lengths = record {
            store = length-copied S.w (S.n + S.q) store (place S σ r) (S.n + d) long p_in target_in ∙ long;
            forward = length-set σ.tables.forward r d ∙ sound.lengths.forward;
            reverse = reverse_long;
            rows = counted_rows_long S σ sound r;
            counts = counted_counts_long S σ sound r;
          };
        }

    -- to a slot whose row v is sent home
    module _ (v : ℕ) (held : reverse_of σ d ≡ v) (v-in : v < S.n) (back : forward_of σ v ≡ d) where
      home_in : v < S.n + S.q
      home_in = omega arith

      sent_long : length (copied S.w store (S.n + d) v) ≡ (S.n + S.q) * S.w
      sent_long = length-copied S.w (S.n + S.q) store (S.n + d) v long target_in home_in ∙ long

      -- the first copy, and the second
      beside : (p c : ℕ) → p ≢ v → c < S.w → byte_at S.w (copied S.w store (S.n + d) v) p c ≡ byte_at S.w store p c
      beside = copied_other S.w (S.n + S.q) store (S.n + d) v long target_in home_in

      kept : (p c : ℕ) → p ≢ S.n + d → c < S.w
          → byte_at S.w (copied S.w (copied S.w store (S.n + d) v) (place S σ r) (S.n + d)) p c ≡ byte_at S.w (copied S.w store (S.n + d) v) p c
      kept = copied_other S.w (S.n + S.q) (copied S.w store (S.n + d) v) (place S σ r) (S.n + d) sent_long p_in target_in

      moved_over : Moved S σ r store d (settled S σ r store (OverSlot (slot d) (visible v)))
      moved_over =
          record {
            slide = sl;
            head_in = next_in S.q d sl.inside;
            passed = passed_is;
            ahead = rw rises fewer;
            links = relinked_over S σ sound r row_in d sl.inside free v held v-in back;
            bytes = record {
              target = λ c c_in.
                  copied_to S.w (S.n + S.q) (copied S.w store (S.n + d) v) (place S σ r) (S.n + d) sent_long p_in target_in c c_in
                  ∙ beside (place S σ r) c (not_home d (λ e. free (sym e)) v v-in back) c_in;
              home = λ x c x_in at c_in.
                  let xv : x ≡ v = sym (holder S σ sound r row_in d sl.inside free x x_in at) ∙ held in
                  rw xv (kept v c (omega arith) c_in ∙ copied_to S.w (S.n + S.q) store (S.n + d) v long target_in home_in c c_in);
              rest = λ p c n away c_in. kept p c n c_in ∙ beside p c (away v v-in back) c_in;
            };
            lengths = record {
              store = length-copied S.w (S.n + S.q) (copied S.w store (S.n + d) v) (place S σ r) (S.n + d) sent_long p_in target_in ∙ sent_long;
              forward = length-set (set σ.tables.forward v empty) r d ∙ length-set σ.tables.forward v empty ∙ sound.lengths.forward;
              reverse = reverse_long;
              rows = counted_rows_long S σ sound r;
              counts = counted_counts_long S σ sound r;
            };
          }

  -- what an accepted access that moves its row leaves; m: the move as answered
  pub data Fate (store : List ℕ) : Move → Type 0 where
    stays : moves S σ r ≡ false → Fate store Stayed
    goes : moves S σ r ≡ true → (d : ℕ) → reverse_of σ d ≡ empty → Moved S σ r store d (settled S σ r store (ToSlot (slot d))) → Fate store (ToSlot (slot d))
    ousts : moves S σ r ≡ true → (d v : ℕ) → reverse_of σ d ≡ v → v < S.n → forward_of σ v ≡ d
        → Moved S σ r store d (settled S σ r store (OverSlot (slot d) (visible v))) → Fate store (OverSlot (slot d) (visible v))

  module _ (head_in : σ.control.head < S.q) (room : moves S σ r ≡ true → σ.control.passed + rise S σ r ≤ S.q)
      (store : List ℕ) (long : length store ≡ (S.n + S.q) * S.w) where
    by_plan : (m : Move) → Plan S σ r m → Fate store m
    by_plan m (rests e) = stays e
    by_plan m (fills e vacant) =
        goes e (destination S σ r) vacant (moved_to store long (destination S σ r) (rise-to S σ r head_in (room e)) (slide S σ r head_in (room e)) (ahead_then S σ r head_in (room e)) vacant)
    by_plan m (evicts e full) =
        elim (sound.inverse.reverse (destination S σ r) (slide S σ r head_in (room e)).inside) [
          | inl z ↦ absurd (full z)
          | inr c ↦
              ousts e (destination S σ r) (reverse_of σ (destination S σ r)) refl c.0 c.1
              (moved_over store long (destination S σ r) (rise-to S σ r head_in (room e)) (slide S σ r head_in (room e)) (ahead_then S σ r head_in (room e))
              (reverse_of σ (destination S σ r)) refl c.0 c.1)
        ]

    pub fate : Fate store (move S σ r)
    fate = by_plan (move S σ r) (plan S σ r)
