-- An array, with another value at one place: its machine value, and that it is related to its elements.
--     set_val, set_is      of an array whose elements are a field's values
--     row-set_val, row_set_is      the same of an array of a type whose machine value is a function of what it denotes
-- Assumes nothing.
use mathlib.Core.Path.{◌≡◌, refl, sym, ap, subst, ◌∙◌}
use Prim.Native.Nat.{ℕ, zero, suc}
use mathlib.Core.List.{List, [], ◌∷◌, map}
use lib.ListN.{set, length-set}
use mir.Val.{Val, vcons, of_list}
use mir.Fields.{set_v}
use denote.Array.{each, Array, array_val}
use denote.Laws.{Is, Tells}
use denote.RattleType.{RattleType}
use denote.Shadow.{shadow}
use denote.Struct.Field.{Field}
use denote.Struct.Laws as LL

map-set : {A B : Type 0} (f : A → B) (xs : List A) (i : ℕ) (x : A) → map f (set xs i x) ≡ set (map f xs) i (f x)
map-set f [] i x = refl
map-set f (y ∷ xs) zero x = refl
map-set f (y ∷ xs) (suc i) x = ap (λ ys. f y ∷ ys) (map-set f xs i x)

-- R: the elements' type
module _ (R : RattleType) (val : R.Denot → Val) where
  abbrev vals : List R.Denot → List Val
  vals ys = map val ys

  pub row-set_val : (ys : List R.Denot) (i : ℕ) (y : R.Denot)
      → set_v (of_list (vals ys)) i (val y) ≡ of_list (vals (set ys i y))
  row-set_val [] i y = refl
  row-set_val (x ∷ ys) zero y = refl
  row-set_val (x ∷ ys) (suc i) y = ap (vcons (val x)) (row-set_val ys i y)

  -- each of ys is related to its machine value among us
  abbrev Each : List R.Denot → List Val → Type 0
  Each ys us = shadow (each R.Denot R.own_val ys us)

  module _ (tells : Tells R (Is R) (λ y. val y ∷ [])) where
    spelled : (ys : List R.Denot) (us : List Val) → Each ys us → Each ys (vals ys)
    spelled [] [] s = tt
    spelled [] (u ∷ us) s = absurd s
    spelled (y ∷ ys) [] s = absurd s
    spelled (y ∷ ys) (u ∷ us) s = (subst (Is R y) (tells y (u ∷ []) s.0) s.0, spelled ys us s.1)

    each_set : (ys : List R.Denot) (i : ℕ) (y : R.Denot) → Is R y (val y ∷ []) → Each ys (vals ys)
        → Each (set ys i y) (vals (set ys i y))
    each_set [] i y is s = tt
    each_set (x ∷ ys) zero y is s = (is, s.1)
    each_set (x ∷ ys) (suc i) y is s = (s.0, each_set ys i y is s.1)

    pub row_set_is : (n : ℕ) (ys : List R.Denot) (i : ℕ) (y : R.Denot) {vs : List Val} → Is (Array R n) ys vs
        → Is R y (val y ∷ []) → Is (Array R n) (set ys i y) (array_val (vals (set ys i y)) ∷ [])
    row_set_is n ys i y p is =
        (vals (set ys i y), ((refl, length-set ys i y ∙ p.1.0.1), each_set ys i y is (spelled ys p.0 p.1.1)))

-- F: a field of the elements' type
module _ (F : Field) (L : LL.FLaws F) where
  -- what they denote, and their machine values
  abbrev seen : List F.Value → List F.row.Denot
  seen xs = map F.into xs

  abbrev seen_vals : List F.row.Denot → List Val
  seen_vals ys = map L.val ys

  pub set_val : (xs : List F.Value) (i : ℕ) (x : F.Value)
      → set_v (of_list (seen_vals (seen xs))) i (L.val (F.into x)) ≡ of_list (seen_vals (seen (set xs i x)))
  set_val xs i x =
      row-set_val F.row L.val (seen xs) i (F.into x) ∙ ap (λ ys. of_list (seen_vals ys)) (sym (map-set F.into xs i x))

  pub set_is : (n : ℕ) (xs : List F.Value) (i : ℕ) (x : F.Value) {vs : List Val} → Is (Array F.row n) (seen xs) vs
      → Is F.row (F.into x) (L.val (F.into x) ∷ [])
      → Is (Array F.row n) (seen (set xs i x)) (array_val (seen_vals (seen (set xs i x))) ∷ [])
  set_is n xs i x p is =
      subst (λ ys. Is (Array F.row n) ys (array_val (seen_vals ys) ∷ [])) (sym (map-set F.into xs i x))
      (row_set_is F.row L.val L.tells n (seen xs) i (F.into x) p is)
