-- One read of a row from a memory that is known. Assumes nothing.
use Prim.Native.Nat.{ℕ, suc, ◌+◌, ◌%◌, ◌<◌, ◌≤◌}
use native.Mathlib.Nat.{mod-eq_of_lt, add-zero, zero-lt-suc}
use native.Mathlib.Omega.{arith}
use mathlib.Core.Path.{◌≡◌, refl, sym, ap, ◌∙◌, subst}
use mathlib.Core.Logic.{inl, inr, ◌≢◌}
use mathlib.Core.Bool.{true, false, true≢false}
use mathlib.Core.List.{[], ◌∷◌}
use lib.Dec.{leb}
use borrow.Author.Tests.{eq-eqb, ne_eqb, lt-leb}
use Rattle.geometry.specs.declared.Settings.{Settings}
use Rattle.geometry.specs.Entry.{empty}
use Rattle.basics.proofs.Cases.{eq?}
use Rattle.banks.specs.Banks.{bank_of}
use Rattle.tracking.specs.Track.{is_due}
use Rattle.tracking.proofs.Spare.{busy, Spared, spared}
use Rattle.tracking.proofs.Due.{due_below, due_at}
use Rattle.engine.specs.declared.Move.{Move}
use Rattle.engine.specs.declared.Move.TheVariants.{Stayed}
use Rattle.engine.specs.State.{State, Tracker, tracker_at, forward_of, reverse_of}
use Rattle.engine.specs.Answer.{slot_moved_to, row_sent_home}
use Rattle.geometry.specs.Place.{place_by}
use Rattle.engine.specs.declared.Asked.{Asked}
use Rattle.engine.specs.Round.{skipped_of, destination_from}
use Rattle.engine.specs.Steps.{place, tracked, counted, moves, skips, skipped, destination, rise, move, settled}
use Rattle.engine.proofs.Facts.{fails_not, refuses}
use Rattle.engine.proofs.Skipping.{skip_none, skip_same}
use Rattle.engine.proofs.Pointers.{marks_none, place-in}
use Rattle.engine.proofs.Trackers.{estimate, TracksAt}
use Rattle.engine.proofs.Counting.{Estimated, by-bank, estimated}
use Rattle.engine.proofs.Moves.{into_slot, into_row, Moved, Fate, stays, goes, ousts}
use Rattle.history.specs.Run.{read, asked_of}
use Rattle.history.specs.Tight.{read_of}
use Rattle.history.proofs.Groups.{ladder}
use Rattle.history.proofs.Invariant.{Inv}
use Rattle.history.proofs.Access as access
use Rattle.history.proofs.Calls.{is_reached, access_0}
use Rattle.history.proofs.Known.{Picture, Counts, Shown, Known, place_in, after_reads, Fits, after_quarantine}

-- an accepted read of row r: the slot moved to, the row sent home, and what it leaves
pub record ReadOnce (S : Settings) (σ : State) (r slot row : ℕ) (P : Picture) : Type 0 where
  pub number_is : ladder S σ (read_of r) ≡ 0
  pub slot_is : slot_moved_to (move S σ r) ≡ slot
  pub row_is : row_sent_home (move S σ r) ≡ row
  pub shown : Shown S (settled S σ r σ.store (move S σ r)) P

module _ {S : Settings} {σ : State} {P : Picture} {r : ℕ} {used acts : ℕ → ℕ} (K : Known S σ P) (F : Fits S P r 1 used acts) where
  I : Inv S σ K.τ₀ K.τ
  I = K.inv

  sh : Shown S σ P
  sh = K.shown

  C : Counts S σ P.estimates P.used P.acts
  C = K.shown.counts

  p_is : place S σ r ≡ place_in S P r
  p_is = ap (λ (e : ℕ). place_by S e r) (sh.forward_is r F.row_in)

  p_in : place S σ r < S.n + S.q
  p_in = place-in S σ I.sound r F.row_in

  head_in : P.head < S.q
  head_in = subst (λ (h : ℕ). h < S.q) sh.head_is I.head_in

  -- the accesses of its place's bank, before and after it
  acts_here : suc (tracker_at S σ (place S σ r)).acts ≤ acts (bank_of S (place S σ r))
  acts_here =
      let more : P.acts (bank_of S (place S σ r)) + 1 ≤ acts (bank_of S (place S σ r)) =
      subst (λ (x : ℕ). P.acts (bank_of S x) + 1 ≤ acts (bank_of S x)) (sym p_is) F.acts_more in
      omega (arith, C.acts_most (place S σ r))

  acts_more : (tracker_at S σ (place S σ r)).acts < S.l
  acts_more =
      let within : acts (bank_of S (place S σ r)) ≤ S.l = subst (λ (x : ℕ). acts (bank_of S x) ≤ S.l) (sym p_is) F.acts_in in
      omega (arith, acts_here)

  -- ---- the trackers after it

  T : TracksAt S σ r
  T = access.T S σ K.τ₀ K.τ I r F.row_in acts_more

  -- `spill` stays 0
  spare : Spared (used (bank_of S (place S σ r))) (tracked S σ r)
  spare =
      let x : ℕ = place S σ r in
      let t : Tracker = tracker_at S σ x in
      let long = I.counting x in
      let within : used (bank_of S x) ≤ S.k = subst (λ (y : ℕ). used (bank_of S y) ≤ S.k) (sym p_is) F.used_in in
      let more : P.estimates x ≡ 0 → P.used (bank_of S x) < used (bank_of S x) =
      subst (λ (y : ℕ). P.estimates y ≡ 0 → P.used (bank_of S y) < used (bank_of S y)) (sym p_is) (F.used_more (zero-lt-suc 0)) in
      spared x t.rows t.counts (P.used (bank_of S x)) (used (bank_of S x)) (long.rows_long ∙ sym long.counts_long)
      (C.busy_most x) (F.used_kept (bank_of S x)) (omega (arith, long.counts_long)) t.spill (C.spill_0 x)
      (λ z. more (sym (C.estimate_is x p_in) ∙ z))

  E : Estimated S σ (counted S σ r) (place S σ r)
  E = estimated S σ I.sound r T

  spill_then : (x : ℕ) → (tracker_at S (counted S σ r) x).spill ≡ 0
  spill_then x = by-bank S σ I.sound r (λ t u. u.spill ≡ 0) x (λ e. spare.spill) (λ m. C.spill_0 x)

  abbrev pub after : Picture
  after = after_reads S P r 1 used acts

  estimate_then : (x : ℕ) → x < S.n + S.q → estimate S (counted S σ r) x ≡ after.estimates x
  estimate_then x b =
      elim (eq? x (place S σ r)) [
        | inl e ↦
            let here : estimate S (counted S σ r) x ≡ suc (estimate S σ x) =
            subst (λ (y : ℕ). estimate S (counted S σ r) y ≡ suc (estimate S σ y)) (sym e) E.same in
            rw (eq-eqb x (place_in S P r) (e ∙ p_is)) (omega (arith, C.estimate_is x b))
        | inr n ↦
            let real : x ≢ empty = marks_none S I.sound.ranges x b in
            rw (ne_eqb x (place_in S P r) (λ e. n (e ∙ sym p_is))) (elim (E.drifts x n real) [
              | inl s ↦ s ∙ C.estimate_is x b
              | inr s ↦ omega (arith, s, spill_then x, (E.other x n real).0, C.estimate_is x b)
            ])
      ]

  -- wherever the row is left
  counts_then : (m : Move) → Counts S (settled S σ r σ.store m) after.estimates used acts
  counts_then m =
      record {
        estimate_is = estimate_then;
        spill_0 = spill_then;
        busy_most = λ x. by-bank S σ I.sound r (λ t u. busy u.counts ≤ used (bank_of S x)) x
            (λ e. subst (λ (c : ℕ). busy (tracked S σ r).counts ≤ used c) (sym e) spare.few)
            (λ n. omega (arith, C.busy_most x, F.used_kept (bank_of S x)));
        acts_most = λ x. by-bank S σ I.sound r (λ t u. u.acts ≤ acts (bank_of S x)) x
            (λ e. subst (λ (c : ℕ). suc (tracker_at S σ (place S σ r)).acts ≤ acts c) (sym e) acts_here)
            (λ n. omega (arith, C.acts_most x, F.acts_kept (bank_of S x)));
      }

  -- the estimate that the tracker gives
  given : (tracked S σ r).estimate ≡ suc (P.estimates (place_in S P r))
  given =
      elim T.given [
        | inl g ↦ g ∙ T.same ∙ ap suc (C.estimate_is (place S σ r) p_in ∙ ap P.estimates p_is)
        | inr g ↦ absurd (omega (arith, g.1, spare.spill, T.same))
      ]

  -- ---- its number

  abbrev asked : Asked
  asked = asked_of S (read r (0 ∷ []))

  span : asked.off ≡ false
  span = fails_not (eq-eqb 1 S.w (sym K.narrow))

  number_0 : (moves S σ r ≡ true → σ.control.passed + rise S σ r ≤ S.q) → ladder S σ (read_of r) ≡ 0
  number_0 = access_0 S σ K.τ₀ K.τ I asked F.row_in span acts_more

  -- ---- the row stays

  module _ (low : P.estimates (place_in S P r) + 1 < S.a) where
    rests : moves S σ r ≡ false
    rests = due_below S.a (tracked S σ r).estimate (omega (arith, given))

    move_none : move S σ r ≡ Stayed
    unfolding move
    move_none = rw rests

    shown_here : Shown S (settled S σ r σ.store Stayed) after
    shown_here =
        record {
          forward_is = sh.forward_is;
          reverse_is = sh.reverse_is;
          head_is = sh.head_is;
          passed_is = sh.passed_is;
          counts = counts_then Stayed;
        }

    pub stays_once : ReadOnce S σ r empty empty after
    stays_once =
        record {
          number_is = number_0 (λ m. absurd (true≢false (sym m ∙ rests)));
          slot_is = ap slot_moved_to move_none;
          row_is = ap row_sent_home move_none;
          shown = subst (λ (m : Move). Shown S (settled S σ r σ.store m) after) (sym move_none) shown_here;
        }

  -- ---- the row is to be moved

  module _ (due : P.estimates (place_in S P r) + 1 ≡ S.a) where
    moving : moves S σ r ≡ true
    moving =
        let at : (tracked S σ r).estimate ≡ S.a = omega (arith, given) in
        subst (λ (e : ℕ). is_due S.a e ≡ true) (sym at) (due_at S.a I.sound.ranges.a_low)

    -- the slots that the head skips, told by the picture
    skips_is : (s : ℕ) → s < S.q → skips S σ r s ≡ leb S.a (after.estimates (S.n + s))
    skips_is s b =
        access.skip_is S σ K.τ₀ K.τ I r F.row_in acts_more moving σ.store Stayed s b
        ∙ ap (leb S.a) (estimate_then (S.n + s) (omega arith))

    -- .. and finds no slot
    pub wants_once : S.q < P.passed + suc (skipped_of (λ s. leb S.a (after.estimates (S.n + s))) S.q S.q P.head)
        → ladder S σ (read_of r) ≡ 9
    wants_once full =
        let over : skipped S σ r ≡ skipped_of (λ s. leb S.a (after.estimates (S.n + s))) S.q S.q P.head =
        ap (skipped_of (skips S σ r) S.q S.q) sh.head_is ∙ skip_same _ _ S.q S.q P.head head_in skips_is in
        refuses S σ asked
        (record { reached = is_reached S σ K.τ₀ K.τ I asked F.row_in span acts_more; moving = moving; full = omega (arith, over, sh.passed_is) })

    -- .. and goes to the slot at the head, which is not worn
    module _ (free : after.estimates (S.n + P.head) < S.a) (room : P.passed + 1 ≤ S.q) where
      none : skipped S σ r ≡ 0
      none =
          skip_none (skips S σ r) S.q S.q σ.control.head
          (skips_is σ.control.head I.head_in
          ∙ lt-leb S.a _ (subst (λ (h : ℕ). after.estimates (S.n + h) < S.a) (sym sh.head_is) free))

      to_head : destination S σ r ≡ P.head
      unfolding destination_from
      to_head =
          let here : (σ.control.head + 0) % S.q ≡ σ.control.head = rw (add-zero σ.control.head) (mod-eq_of_lt I.head_in) in
          ap (λ (n : ℕ). (σ.control.head + n) % S.q) none ∙ here ∙ sh.head_is

      room_is : σ.control.passed + rise S σ r ≤ S.q
      room_is = omega (arith, none, sh.passed_is)

      slot-told : slot_moved_to (move S σ r) ≡ P.head
      unfolding move
      slot-told = rw moving (into_slot (destination S σ r) (reverse_of σ (destination S σ r)) ∙ to_head)

      row_told : row_sent_home (move S σ r) ≡ P.reverse P.head
      unfolding move
      row_told =
          rw moving
          (into_row (destination S σ r) (reverse_of σ (destination S σ r)) ∙ ap (reverse_of σ) to_head ∙ sh.reverse_is P.head head_in)

      shown_at : (d : ℕ) (m : Move) → Moved S σ r σ.store d (settled S σ r σ.store m) → d ≡ P.head
          → (settled S σ r σ.store m).control.head ≡ (d + 1) % S.q → Shown S (settled S σ r σ.store m) (after_quarantine S after r)
      shown_at d m M at next =
          let L = M.links in
          let σ' : State = settled S σ r σ.store m in
          record {
            forward_is = λ x b. elim (eq? x r) [
              | inl e ↦ rw (eq-eqb x r e) (ap (forward_of σ') e ∙ L.mover ∙ at)
              | inr n ↦ rw (ne_eqb x r n) (elim (eq? (forward_of σ x) d) [
                | inl e ↦ rw (eq-eqb (P.forward x) P.head (sym (sh.forward_is x b) ∙ e ∙ at)) (L.evicted x b n e)
                | inr k ↦ rw (ne_eqb (P.forward x) P.head (λ w. k (sh.forward_is x b ∙ w ∙ sym at))) (L.rest x b n k ∙ sh.forward_is x b)
              ])
            ];
            reverse_is = λ s b. elim (eq? s d) [
              | inl e ↦ rw (eq-eqb s P.head (e ∙ at)) (ap (reverse_of σ') e ∙ L.filled)
              | inr n ↦ rw (ne_eqb s P.head (λ w. n (w ∙ sym at))) (elim (eq? s (forward_of σ r)) [
                | inl e ↦ rw (eq-eqb s (P.forward r) (e ∙ sh.forward_is r F.row_in)) (ap (reverse_of σ') e ∙ L.freed (subst (λ (y : ℕ). y < S.q) e b))
                | inr k ↦ rw (ne_eqb s (P.forward r) (λ w. k (w ∙ sym (sh.forward_is r F.row_in)))) (L.others s n k ∙ sh.reverse_is s b)
              ])
            ];
            head_is = next ∙ ap (λ (y : ℕ). (y + 1) % S.q) at;
            passed_is = omega (arith, M.passed, none, sh.passed_is);
            counts = counts_then m;
          }

      by_fate : (m : Move) → Fate S σ I.sound r F.row_in σ.store m → slot_moved_to m ≡ P.head
          → Shown S (settled S σ r σ.store m) (after_quarantine S after r)
      by_fate m (stays e) at = absurd (true≢false (sym moving ∙ e))
      by_fate m (goes e d vacant M) at = shown_at d m M at refl
      by_fate m (ousts e d v held v-in back M) at = shown_at d m M at refl

      pub goes_once : ReadOnce S σ r P.head (P.reverse P.head) (after_quarantine S after r)
      goes_once =
          record {
            number_is = number_0 (λ m. room_is);
            slot_is = slot-told;
            row_is = row_told;
            shown = by_fate (move S σ r)
                (access.its_fate S σ K.τ₀ K.τ I r F.row_in acts_more (λ m. room_is) σ.store I.sound.lengths.store) slot-told;
          }
