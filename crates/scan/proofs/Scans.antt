-- Laws of the scans, for any test of an entry. Assumes nothing.
use Prim.Native.Nat.{ℕ, zero, suc, ◌+◌, ◌<◌, ◌≤◌, zero-le, suc-le-suc}
use native.Mathlib.Nat.{le_of_suc-le-suc, not-suc-le-zero, suc_inj, suc-ne-zero, zero-lt-suc}
use native.Mathlib.Numerals.{add-one}
use native.Mathlib.Omega.{arith}
use mathlib.Core.Path.{◌≡◌, refl, sym, ap, ◌∙◌}
use mathlib.Core.Logic.{inl, inr, ◌≢◌}
use mathlib.Core.Bool.{Bool, true, false, cond}
use mathlib.Core.List.{List, [], ◌∷◌}
use lib.Dec.{eqb, ltb}
use lib.ListN.{length, get_or, set, drop}
use borrow.Author.Tests.{eqb-true, eqb-false, eq-eqb, ne_eqb, ltb-false}
use Rattle.basics.proofs.Cases.{split}
use Rattle.basics.proofs.Tests.{or_left, or_right}
use Rattle.scan.specs.Scan.{lowest, index_of, some}

module _ {A : Type 0} (f : A → Bool) where
  pub lowest_le : (l : List A) → lowest f l ≤ length l
  unfolding lowest
  lowest_le [] = zero-le
  lowest_le (x ∷ xs) =
      let ih = lowest_le xs in
      elim (split (f x)) [ inl e ↦ rw e zero-le | inr e ↦ rw e (suc-le-suc ih) ]

  pub lowest_found : (l : List A) (d : A) → lowest f l < length l → f (get_or l (lowest f l) d) ≡ true
  unfolding lowest
  lowest_found [] d h = absurd (not-suc-le-zero h)
  lowest_found (x ∷ xs) d h =
      elim (split (f x)) [ inl e ↦ rw e e | inr e ↦ rw e (lowest_found xs d (le_of_suc-le-suc (rw e at h))) ]

  pub lowest_none : (l : List A) (d : A) → length l ≤ lowest f l → (i : ℕ) → i < length l → f (get_or l i d) ≡ false
  unfolding lowest
  lowest_none [] d h i b = absurd (not-suc-le-zero b)
  lowest_none (x ∷ xs) d h i b =
      elim (split (f x)) [
        | inl e ↦ absurd (not-suc-le-zero (rw e at h))
        | inr e ↦ at i b e (lowest_none xs d (le_of_suc-le-suc (rw e at h)))
      ]
    where
      at : (i : ℕ) → i < suc (length xs) → f x ≡ false → ((j : ℕ) → j < length xs → f (get_or xs j d) ≡ false) → f (get_or (x ∷ xs) i d) ≡ false
      at zero b e rest = e
      at (suc i) b e rest = rest i (le_of_suc-le-suc b)

  pub lowest_miss : (l : List A) (d : A) → ((i : ℕ) → i < length l → f (get_or l i d) ≡ false) → lowest f l ≡ length l
  unfolding lowest
  lowest_miss [] d h = refl
  lowest_miss (x ∷ xs) d h = rw (h zero (zero-lt-suc _)) (ap suc (lowest_miss xs d (λ i b. h (suc i) (suc-le-suc b))))

  -- another entry is changed, to one that does not pass either
  pub lowest-set_other : (l : List A) (j : ℕ) (y d : A) → f y ≡ false → f (get_or l j d) ≡ false → lowest f (set l j y) ≡ lowest f l
  unfolding lowest
  lowest-set_other [] j y d n g = refl
  lowest-set_other (z ∷ zs) zero y d n g = rw (n, g)
  lowest-set_other (z ∷ zs) (suc j) y d n g = ap (λ (k : ℕ). cond (f z) zero (suc k)) (lowest-set_other zs j y d n g)

  -- an entry is changed, to one or to another that does not pass
  pub lowest-set_either : (l : List A) (j : ℕ) (y z : A) → f y ≡ false → f z ≡ false → lowest f (set l j y) ≡ lowest f (set l j z)
  unfolding lowest
  lowest-set_either [] j y z m n = refl
  lowest-set_either (x ∷ xs) zero y z m n = rw (m, n)
  lowest-set_either (x ∷ xs) (suc j) y z m n = ap (λ (k : ℕ). cond (f x) zero (suc k)) (lowest-set_either xs j y z m n)

  -- none passed, and now entry j does
  pub lowest-set-new : (l : List A) (j : ℕ) (y : A) → j < length l → lowest f l ≡ length l → f y ≡ true → lowest f (set l j y) ≡ j
  unfolding lowest
  lowest-set-new [] j y b h t = absurd (not-suc-le-zero b)
  lowest-set-new (x ∷ xs) zero y b h t = rw t
  lowest-set-new (x ∷ xs) (suc j) y b h t =
      elim (split (f x)) [
        | inl e ↦ absurd (suc-ne-zero (length xs) (sym (rw e at h)))
        | inr e ↦ rw e (ap suc (lowest-set-new xs j y (le_of_suc-le-suc b) (suc_inj (rw e at h)) t))
      ]

  -- an entry is changed to one that does not pass: another than the lowest that passed, or that one
  pub lowest-set_beside : (l : List A) (j : ℕ) (y : A) → f y ≡ false → lowest f l ≢ j → lowest f (set l j y) ≡ lowest f l
  unfolding lowest
  lowest-set_beside [] j y n g = refl
  lowest-set_beside (z ∷ zs) zero y n g =
      elim (split (f z)) [ inl e ↦ absurd (g (rw e)) | inr e ↦ rw (n, e) ]
  lowest-set_beside (z ∷ zs) (suc j) y n g =
      elim (split (f z)) [
        | inl e ↦ rw e
        | inr e ↦ rw e (ap suc (lowest-set_beside zs j y n (λ h. (rw e at g) (ap suc h))))
      ]

  pub lowest-set_next : (l : List A) (j : ℕ) (y : A) → f y ≡ false → lowest f l ≡ j → j < length l
      → lowest f (set l j y) ≡ suc j + lowest f (drop (suc j) l)
  unfolding lowest
  lowest-set_next [] j y n g b = absurd (not-suc-le-zero b)
  lowest-set_next (z ∷ zs) zero y n g b = rw n (omega arith)
  lowest-set_next (z ∷ zs) (suc j) y n g b =
      elim (split (f z)) [
        | inl e ↦ absurd (suc-ne-zero j (sym (rw e at g)))
        | inr e ↦ rw e (omega (arith, lowest-set_next zs j y n (suc_inj (rw e at g)) (le_of_suc-le-suc b)))
      ]

module _ (f : ℕ → Bool) where
  pub some_none : (l : List ℕ) → ((i : ℕ) → i < length l → f (get_or l i 0) ≡ false) → some f l ≡ false
  unfolding some
  some_none [] h = refl
  some_none (x ∷ xs) h = rw (h zero (zero-lt-suc _)) (some_none xs (λ i b. h (suc i) (suc-le-suc b)))

-- ---- where no entry passes, the entry at i does not

some_at : (f : ℕ → Bool) (l : List ℕ) (i : ℕ) → some f l ≡ false → i < length l → f (get_or l i 0) ≡ false
unfolding some
some_at f [] i e h = absurd (not-suc-le-zero h)
some_at f (x ∷ xs) zero e h = or_left (f x) (some f xs) e
some_at f (x ∷ xs) (suc i) e h = some_at f xs i (or_right (f x) (some f xs) e) (le_of_suc-le-suc h)

pub counts_below : (counts : List ℕ) (m i : ℕ) → some (λ count. ltb m count) counts ≡ false → i < length counts
    → get_or counts i 0 ≤ m
counts_below counts m i e h = ltb-false m (get_or counts i 0) (some_at (λ count. ltb m count) counts i e h)

-- ---- the place of a value

pub index_found : (v : ℕ) (l : List ℕ) (d : ℕ) → index_of v l < length l → get_or l (index_of v l) d ≡ v
index_found v l d h = eqb-true (get_or l (index_of v l) d) v (lowest_found (λ x. eqb x v) l d h)

pub index_none : (v : ℕ) (l : List ℕ) (d : ℕ) → length l ≤ index_of v l → (i : ℕ) → i < length l → get_or l i d ≢ v
index_none v l d h i b = eqb-false (get_or l i d) v (lowest_none (λ x. eqb x v) l d h i b)

pub index_miss : (v : ℕ) (l : List ℕ) (d : ℕ) → ((i : ℕ) → i < length l → get_or l i d ≢ v) → index_of v l ≡ length l
index_miss v l d h = lowest_miss (λ x. eqb x v) l d (λ i b. ne_eqb (get_or l i d) v (h i b))

pub index_set_other : (v : ℕ) (l : List ℕ) (j y d : ℕ) → v ≢ y → get_or l j d ≢ v → index_of v (set l j y) ≡ index_of v l
index_set_other v l j y d n g = lowest-set_other (λ x. eqb x v) l j y d (ne_eqb y v (λ e. n (sym e))) (ne_eqb (get_or l j d) v g)

pub index_set_either : (v : ℕ) (l : List ℕ) (j y z : ℕ) → v ≢ y → v ≢ z → index_of v (set l j y) ≡ index_of v (set l j z)
index_set_either v l j y z m n = lowest-set_either (λ x. eqb x v) l j y z (ne_eqb y v (λ e. m (sym e))) (ne_eqb z v (λ e. n (sym e)))

pub index_set-new : (v : ℕ) (l : List ℕ) (j : ℕ) → j < length l → index_of v l ≡ length l → index_of v (set l j v) ≡ j
index_set-new v l j b h = lowest-set-new (λ x. eqb x v) l j v b h (eq-eqb v v refl)

pub index_set_beside : (v : ℕ) (l : List ℕ) (j y : ℕ) → y ≢ v → index_of v l ≢ j → index_of v (set l j y) ≡ index_of v l
index_set_beside v l j y n g = lowest-set_beside (λ x. eqb x v) l j y (ne_eqb y v n) g

pub index_set_next : (v : ℕ) (l : List ℕ) (j y : ℕ) → y ≢ v → index_of v l ≡ j → j < length l
    → index_of v (set l j y) ≡ j + 1 + index_of v (drop (j + 1) l)
index_set_next v l j y n g b = rw add-one (lowest-set_next (λ x. eqb x v) l j y (ne_eqb y v n) g b)

-- two values, one of them in the list, do not stand at one index
pub index_apart : (u v : ℕ) (l : List ℕ) → u ≢ v → index_of v l < length l → index_of u l ≢ index_of v l
index_apart u v l n h e =
    let b : index_of u l < length l = omega arith in
    n (sym (index_found u l 0 b) ∙ ap (λ (i : ℕ). get_or l i 0) e ∙ index_found v l 0 h)
