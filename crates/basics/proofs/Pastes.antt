-- Laws of `paste xs at ys n`, the list xs with the first n elements of ys in place of its own from index `at` on: what
-- stands at each index, one paste after another, and a paste into a part that is lent.
-- Assumes nothing.
use Prim.Native.Nat.{ℕ, ◌+◌, ◌-◌, ◌≤◌, ◌<◌}
use mathlib.Core.Path.{◌≡◌, sym, ap, ◌∙◌}
use mathlib.Core.Logic.{◌⊎◌, inl, inr}
use mathlib.Core.List.{List, ◌++◌, append_assoc, append-nil}
use native.Mathlib.Omega.{arith}
use native.Mathlib.Nat.{add_assoc, zero-add, add-sub_of_le}
use lib.ListN.{length, get_or, take, drop, length-drop, take-append-drop, drop_of_length-le, get_or-append}
use lib.Seq.{paste, length_paste_head, take-paste, drop-paste, length-take-le, get_or-take, get_or-drop, get_or-append-add, take-take, take-length, take-add, drop-drop, drop-append-le}
use borrow.Rule.Slice.PartMut.{mid_of, put_mid}

-- the first n elements of s, pasted into d from index `at` on
module _ (d : List ℕ) (at : ℕ) (s : List ℕ) (n : ℕ) (fits : at + n ≤ length d) (enough : n ≤ length s) where
  length_before : length (take at d) ≡ at
  length_before = length-take-le at d (omega arith)

  length_through : length (take at d ++ take n s) ≡ at + n
  length_through = length_paste_head d at s n (omega arith) enough

  -- in the pasted part stand the elements of s
  pub paste_in : (j : ℕ) → j < n → get_or (paste d at s n) (at + j) 0 ≡ get_or s j 0
  paste_in j h =
      get_or-append (take at d ++ take n s) (drop (at + n) d) 0 (at + j) (omega (arith, length_through))
      ∙ (rw length_before at (get_or-append-add (take at d) (take n s) j 0))
      ∙ get_or-take n s j 0 h

  -- before it and behind it, those of d
  pub paste_out : (i : ℕ) → (i < at) ⊎ (at + n ≤ i) → get_or (paste d at s n) i 0 ≡ get_or d i 0
  paste_out i (inl before) =
      get_or-append (take at d ++ take n s) (drop (at + n) d) 0 i (omega (arith, length_through))
      ∙ get_or-append (take at d) (take n s) 0 i (omega (arith, length_before))
      ∙ get_or-take at d i 0 before
  paste_out i (inr behind) =
      let j = i - (at + n) in
      let e : at + n + j ≡ i = add-sub_of_le behind in
      (rw (length_through, e) at (get_or-append-add (take at d ++ take n s) (drop (at + n) d) j 0))
      ∙ get_or-drop (at + n) d j 0
      ∙ ap (λ (k : ℕ). get_or d k 0) e

-- only the first n elements of s count
pub paste_alike : (d : List ℕ) (at : ℕ) (s t : List ℕ) (n : ℕ) → take n s ≡ take n t → paste d at s n ≡ paste d at t n
paste_alike d at s t n e = ap (λ (m : List ℕ). take at d ++ m ++ drop (at + n) d) e

-- behind the first i elements of s, the next k
pub paste_further : (d : List ℕ) (at : ℕ) (s : List ℕ) (i k : ℕ) → at + i ≤ length d → i ≤ length s → paste (paste d at s i) (at + i) (drop i s) k ≡ paste d at s (i + k)
paste_further d at s i k fits enough =
    let l = paste d at s i in
    let before : take (at + i) l ≡ take at d ++ take i s = take-paste d at s i (omega arith) enough in
    let behind : drop (at + i + k) l ≡ drop (at + (i + k)) d =
    sym (drop-drop k (at + i) l) ∙ ap (drop k) (drop-paste d at s i (omega arith) enough) ∙ drop-drop k (at + i) d
    ∙ ap (λ (m : ℕ). drop m d) (add_assoc at i k)
    in
    rw (before, behind)
    (ap (λ (m : List ℕ). m ++ drop (at + (i + k)) d)
    (append_assoc (take at d) (take i s) (take k (drop i s)) ∙ ap (λ (m : List ℕ). take at d ++ m) (sym (take-add i k s))))

-- all of d is written
pub paste_over : (d s : List ℕ) → length d ≡ length s → paste d 0 s (length s) ≡ s
paste_over d s h = simp (zero-add, drop_of_length-le d {i = length s} (omega arith), append-nil, take-length)

-- the first k elements from the m-th on, and the others
drop_through : (m k : ℕ) (xs : List ℕ) → m ≤ k → k ≤ length xs → drop m (take k xs) ++ drop k xs ≡ drop m xs
drop_through m k xs low high =
    sym (drop-append-le m (take k xs) (drop k xs) (omega (arith, length-take-le k xs high))) ∙ ap (drop m) (take-append-drop k xs)

-- the part from index a up to index e is lent, and comes back with n elements of s pasted into it
pub paste_part : (d : List ℕ) (a e at : ℕ) (s : List ℕ) (n : ℕ) {l : List ℕ} → e ≤ length d → a + at + n ≤ e
    → l ≡ paste (mid_of a (e - a) d) at s n → put_mid a (e - a) d l ≡ paste d (a + at) s n
paste_part d a e at s n inside fits pasted =
    let rest = drop a d in
    let before : take at (take (e - a) rest) ≡ take at rest = take-take at (e - a) rest (omega arith) in
    let behind = drop_through (at + n) (e - a) rest (omega arith) (omega (arith, length-drop a d)) in
    let end : drop (at + n) rest ≡ drop (a + at + n) d = drop-drop (at + n) a d ∙ ap (λ (m : ℕ). drop m d) (sym (add_assoc a at n)) in
    rw pasted (simp (append_assoc, before, behind, end, take-add a at d))
