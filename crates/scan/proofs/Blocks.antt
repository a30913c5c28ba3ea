-- Laws of the search in blocks, for any test of an entry and entries of any type. Assumes nothing.
use Prim.Native.Nat.{ℕ, zero, suc, ◌+◌, ◌*◌, ◌<◌, ◌≤◌, zero-le}
use native.Mathlib.Nat.{le_of_suc-le-suc, not-suc-le-zero, zero-add}
use native.Mathlib.Omega.{arith}
use mathlib.Core.Path.{◌≡◌, refl, sym, ap, ◌∙◌}
use mathlib.Core.Logic.{inl, inr}
use mathlib.Core.Bool.{Bool, false, cond, ◌||◌}
use mathlib.Core.List.{List, [], ◌∷◌, map}
use lib.Dec.{ltb}
use lib.ListN.{length, take, drop, length-drop}
use lib.Seq.{drop-drop}
use borrow.Author.Tests.{ltb-false}
use Rattle.std.specs.Prelude.{Option, Some, None, IfSome}
use Rattle.std.specs.Option.{option_map, unwrap_or}
use Rattle.std.proofs.Math.Bool.{or_assoc, or-false}
use Rattle.std.proofs.lemmas.List.Recursion.{is_position_or_len}
use Rattle.std.specs.List.{fold, position, position_or_len, IsSubsliceAt}
use Rattle.basics.proofs.Cases.{split}
use Rattle.basics.proofs.Tests.{or_left, or_right}
use Rattle.scan.specs.Scan.{lowest, some, Skipped}
use Rattle.scan.proofs.Scans.{lowest_le}

-- ---- the pass with no branch

module _ {A : Type 0} (f : A → Bool) where
  fold_from : (found : Bool) (xs : List A) → fold (λ (b here : Bool). b || here) found (map f xs) ≡ (found || some f xs)
  unfolding some
  fold_from found [] = sym (or-false found)
  fold_from found (x ∷ xs) = fold_from (found || f x) xs ∙ or_assoc found (f x) (some f xs)

  pub some_fold : (xs : List A) → fold (λ (b here : Bool). b || here) false (map f xs) ≡ some f xs
  some_fold xs = fold_from false xs

-- ---- the search

-- a block in which no entry passes
lowest_past : {A : Type 0} (f : A → Bool) (l : List A) (m : ℕ) → m ≤ length l → some f (take m l) ≡ false
    → lowest f l ≡ m + lowest f (drop m l)
unfolding lowest some
lowest_past f l zero h e = omega arith
lowest_past f [] (suc m) h e = absurd (not-suc-le-zero h)
lowest_past f (x ∷ xs) (suc m) h e =
    let ih = lowest_past f xs m (le_of_suc-le-suc h) (or_right (f x) (some f (take m xs)) e) in
    rw (or_left (f x) (some f (take m xs)) e) (omega arith)

-- nothing is skipped
pub skipped_none : {A : Type 0} (f : A → Bool) (xs : List A) → Skipped f xs 0
skipped_none f xs = record { within = zero-le; same = sym (zero-add _) }

pub skipped_block : {A : Type 0} {f : A → Bool} {xs : List A} {at : ℕ} → Skipped f xs at → (m : ℕ) → at + m ≤ length xs
    → some f (take m (drop at xs)) ≡ false → Skipped f xs (at + m)
skipped_block {f = f} {xs} {at} p m inside e =
    let past = lowest_past f (drop at xs) m (omega (arith, length-drop at xs)) e in
    record {
      within = inside;
      same = p.same ∙ rw (← drop-drop m at xs) (omega arith);
    }

-- as many blocks of that size, in none of which an entry passes
pub skipped_blocks : {A : Type 0} (f : A → Bool) (xs : List A) (size : ℕ) (n : ℕ) → n * size ≤ length xs
    → ((k : ℕ) → k < n → some f (take size (drop (k * size) xs)) ≡ false) → Skipped f xs (n * size)
skipped_blocks f xs size zero h e =
    let from : 0 * size ≡ 0 = omega arith in
    rw from (skipped_none f xs)
skipped_blocks f xs size (suc n) h e =
    let before : Skipped f xs (n * size) = skipped_blocks f xs size n (omega arith) (λ k b. e k (omega arith)) in
    let to : n * size + size ≡ suc n * size = omega arith in
    rw (← to) (skipped_block before size (omega arith) (e n (omega arith)))

-- of a block that is there it is known that no entry passes
pub clear_block : {A X : Type 0} (now : X → List A) (f : A → Bool) (xs : List A) (size at : ℕ) {Clear : X → Type 0} (o : Option X) (y : X)
    → option_map (λ (x : X). x) o ≡ Some y → IfSome o Clear → ((x : X) → Clear x → some f (now x) ≡ false)
    → IfSome o (λ x. (length (now x) ≡ size) × (at + size ≤ length xs) × IsSubsliceAt size xs at (now x))
    → some f (take size (drop at xs)) ≡ false
clear_block now f xs size at None y e known clear part = absurd (cc)
clear_block now f xs size at (Some x) y e known clear part = ap (some f) (sym part.2.0) ∙ clear x known

-- one part after the other
pub skipped_on : {A : Type 0} {f : A → Bool} {xs : List A} {mid more : ℕ} → Skipped f xs mid → Skipped f (drop mid xs) more
    → Skipped f xs (mid + more)
skipped_on {f = f} {xs} {mid} {more} p q =
    record {
      within = omega (arith, p.within, q.within, length-drop mid xs);
      same = p.same ∙ rw (← drop-drop more mid xs) (omega (arith, q.same));
    }

module _ {A : Type 0} (f : A → Bool) where
  -- what std's `position` counts
  lowest_counted : (xs : List A) → lowest f xs ≡ position_or_len f xs
  unfolding lowest
  lowest_counted = is_position_or_len (lowest f) f refl (λ x xs. ap (cond (f x) 0) (omega arith))

  pub position_lowest : (xs : List A) → unwrap_or (position f xs) (length xs) ≡ lowest f xs
  position_lowest xs =
      let e = lowest_counted xs in
      elim (split (ltb (position_or_len f xs) (length xs))) [
        | inl t ↦ rw t (sym e)
        | inr t ↦ rw t (omega (arith, lowest_le f xs, e, ltb-false (position_or_len f xs) (length xs) t))
      ]

-- after what was skipped, the search ends where `position` says
module _ {A : Type 0} {f : A → Bool} {xs : List A} {near : ℕ} (p : Skipped f xs near) where
  pub none_after : position f (drop near xs) ≡ None → length xs ≡ lowest f xs
  none_after e =
      let l : length (drop near xs) ≡ lowest f (drop near xs) = rw e at (position_lowest f (drop near xs)) in
      omega (arith, l, p.same, p.within, length-drop near xs)

  pub found_after : (i : ℕ) → position f (drop near xs) ≡ Some i → near + i ≡ lowest f xs
  found_after i e =
      let l : i ≡ lowest f (drop near xs) = rw e at (position_lowest f (drop near xs)) in
      omega (arith, l, p.same)
