-- What is known of one row's openings in the running epoch, and how one event carries it on.
-- o: openings so far; z: openings when the epoch began, of a slot its charge then (`Charge`); e: the tracker's estimate of the
-- place.
-- Assumes nothing.
use Prim.Native.Nat.{ℕ, suc, ◌+◌, ◌*◌, ◌<◌, ◌≤◌}
use native.Mathlib.Omega.{arith}
use mathlib.Core.Path.{◌≡◌, refl, sym, ◌∙◌}
use mathlib.Core.Logic.{◌⊎◌, inl, inr, ◌≢◌}
use mathlib.Core.Bool.{Bool, true, false, not, true≢false, false≢true}
use lib.Dec.{leb}
use borrow.Author.Tests.{ne_eqb, eq-eqb, le-leb, lt-leb}
use Rattle.basics.proofs.Cases.{lt?}
use Rattle.tracking.proofs.Tracking.{one_if}
use Rattle.tracking.proofs.View.{Grew}
use Rattle.history.specs.Tally.{hit}

-- the home of a row; first Bool: the row is at home, second: its slot is gone by
pub data Home (a o z e : ℕ) : Bool → Bool → Type 0 where
  here : {gone : Bool} → o ≤ z + e + 1 → e < a → Home a o z e true gone
  away : o ≤ z → e < a → Home a o z e false false
  left : o ≤ z + (a + 2) → Home a o z e false true

-- a slot; first Bool: it is gone by, second: it is empty
pub data Slot (a o z e : ℕ) : Bool → Bool → Type 0 where
  full : o < z + e → e < a → Slot a o z e false false
  free : o ≤ z + e → e ≤ a → Slot a o z e false true
  refilled : o ≤ z + e + 1 → e < a → Slot a o z e true false
  spent : o ≤ z + (a + 2) → Slot a o z e true true

pub hit_same : (p x : ℕ) → x ≡ p → hit p x ≡ 1
unfolding hit
hit_same p x e = rw (eq-eqb x p e)

pub hit_other : (p x : ℕ) → x ≢ p → hit p x ≡ 0
unfolding hit
hit_other p x n = rw (ne_eqb x p n)

below : {a e e' : ℕ} → e < a → Grew a e e' → e' < a
below h g = elim g.1 [ inl k ↦ omega arith | inr k ↦ k ]

within : {a e e' : ℕ} → e ≤ a → Grew a e e' → e' ≤ a
within h g = elim g.1 [ inl k ↦ omega arith | inr k ↦ omega arith ]

-- whether an estimate has reached the threshold does not change: of a place that is not accessed, and of one that is
-- accessed and whose row stays
pub worn_grew : {a e e' : ℕ} → Grew a e e' → leb a e' ≡ leb a e
worn_grew {a} {e} {e'} g =
    elim g.1 [ inl k ↦ rw k | inr k ↦ lt-leb a e' k ∙ sym (lt-leb a e (omega (arith, g.0))) ]

pub worn_next : (a : ℕ) {e e' : ℕ} → e' ≡ suc e → e' ≢ 1 * a → leb a e' ≡ leb a e
worn_next a {e} {e'} s n =
    elim (lt? e a) [
      | inl k ↦ lt-leb a e' (omega arith) ∙ sym (lt-leb a e k)
      | inr k ↦ le-leb a e' (omega arith) ∙ sym (le-leb a e k)
    ]

module _ {a : ℕ} where
  -- ---- the home of a row

  pub home_bound : {h gone : Bool} {o z e : ℕ} → Home a o z e h gone → o ≤ z + (a + 2)
  home_bound (here h k) = omega arith
  home_bound (away h k) = omega arith
  home_bound (left h) = h

  -- while it holds its row, its estimate is below the threshold
  pub home_low : {gone : Bool} {o z e : ℕ} → Home a o z e true gone → e < a
  home_low (here h k) = k

  pub home-new : (h : Bool) (z : ℕ) → 0 < a → Home a z z 0 h false
  home-new true z pos = here (omega arith) pos
  home-new false z pos = away (omega arith) pos

  -- not opened, and the row did not move; the head may have gone by its slot
  pub home_rests : {h gone : Bool} {o z e o' e' : ℕ} (gone' : Bool) → Home a o z e h gone → (h ≡ false → gone ≡ true → gone' ≡ true) → o' ≡ o → Grew a e e' → Home a o' z e' h gone'
  home_rests gone' (here h k) m q g = here (omega arith) (below k g)
  home_rests false (away h k) m q g = away (omega arith) (below k g)
  home_rests true (away h k) m q g = left (omega arith)
  home_rests true (left h) m q g = left (omega arith)
  home_rests false (left h) m q g = absurd (false≢true (m refl refl))

  -- the row is accessed at home and stays
  pub home-opened : {gone : Bool} {o z e o' e' : ℕ} → Home a o z e true gone → o' ≡ o + 1 → e' ≡ suc e → e' ≢ 1 * a → Home a o' z e' true gone
  home-opened (here h k) q s n = here (omega arith) (omega arith)

  -- the row is accessed at home and copied away, to a slot that is gone by
  pub home_leaves : {gone : Bool} {o z e o' e' : ℕ} → Home a o z e true gone → o' ≡ o + 2 → Home a o' z e' false true
  home_leaves (here h k) q = left (omega arith)

  -- the row is sent home from a slot that is not gone by
  pub home_returns : {gone' : Bool} {o z e o' e' : ℕ} → Home a o z e false false → o' ≡ o + 1 → Grew a e e' → Home a o' z e' true gone'
  home_returns (away h k) q g = here (omega arith) (below k g)

  -- the row goes from one slot to another, which is gone by
  pub home_untouched : {gone : Bool} {o z e o' e' : ℕ} → Home a o z e false gone → o' ≡ o → Home a o' z e' false true
  home_untouched (away h k) q = left (omega arith)
  home_untouched (left h) q = left (omega arith)

  -- ---- a slot

  -- a row that it holds still counts as one more
  pub slot_bound : {gone f : Bool} {o z e : ℕ} → Slot a o z e gone f → o + one_if (not f) ≤ z + (a + 2)
  slot_bound (full h k) = omega arith
  slot_bound (free h k) = omega arith
  slot_bound (refilled h k) = omega arith
  slot_bound (spent h) = omega arith

  -- while it holds a row, its estimate is below the threshold
  pub slot_low : {gone : Bool} {o z e : ℕ} → Slot a o z e gone false → e < a
  slot_low (full h k) = k
  slot_low (refilled h k) = k

  pub slot-new : (f : Bool) (o : ℕ) → 0 < a → Slot a o (o + one_if (not f)) 0 false f
  slot-new true o pos = free (omega arith) (omega arith)
  slot-new false o pos = full (omega arith) pos

  -- not opened
  pub slot_rests : {gone f : Bool} {o z e o' e' : ℕ} → Slot a o z e gone f → o' ≡ o → Grew a e e' → Slot a o' z e' gone f
  slot_rests (full h k) q g = full (omega arith) (below k g)
  slot_rests (free h k) q g = free (omega arith) (within k g)
  slot_rests (refilled h k) q g = refilled (omega arith) (below k g)
  slot_rests (spent h) q g = spent (omega arith)

  -- its row is accessed and stays
  pub slot-opened : {gone : Bool} {o z e o' e' : ℕ} → Slot a o z e gone false → o' ≡ o + 1 → e' ≡ suc e → e' ≢ 1 * a → Slot a o' z e' gone false
  slot-opened (full h k) q s n = full (omega arith) (omega arith)
  slot-opened (refilled h k) q s n = refilled (omega arith) (omega arith)

  -- it is skipped: only an empty slot can be
  pub slot-skipped : {gone f : Bool} {o z e o' e' : ℕ} → Slot a o z e gone f → o' ≡ o → Grew a e e' → a ≤ e' → Slot a o' z e' true f
  slot-skipped (full h k) q g w = absurd (let low = below k g in omega arith)
  slot-skipped (free h k) q g w = spent (omega arith)
  slot-skipped (refilled h k) q g w = absurd (let low = below k g in omega arith)
  slot-skipped (spent h) q g w = spent (omega arith)

  -- a row is copied in, where it is not worn: one opening where the slot was empty, two where its row was sent home
  pub slot_filled : {f : Bool} {o z e o' e' : ℕ} → Slot a o z e false f → ((f ≡ true) × (o' ≡ o + 1)) ⊎ ((f ≡ false) × (o' ≡ o + 2)) → e ≤ e' → e' < a → Slot a o' z e' true false
  slot_filled (free h k) (inl c) g low = refilled (omega (arith, c.1)) low
  slot_filled (free h k) (inr c) g low = absurd (true≢false c.0)
  slot_filled (full h k) (inl c) g low = absurd (false≢true c.0)
  slot_filled (full h k) (inr c) g low = refilled (omega (arith, c.1)) low

  -- its row is accessed and copied away; the head may have gone by the slot
  pub slot_leaves : {gone : Bool} {o z e o' e' : ℕ} (gone' : Bool) → (gone ≡ true → gone' ≡ true) → Slot a o z e gone false → o' ≡ o + 2 → e' ≡ suc e → Slot a o' z e' gone' true
  slot_leaves true u (full h k) q s = spent (omega arith)
  slot_leaves false u (full h k) q s = free (omega arith) (omega arith)
  slot_leaves true u (refilled h k) q s = spent (omega arith)
  slot_leaves false u (refilled h k) q s = absurd (false≢true (u refl))
