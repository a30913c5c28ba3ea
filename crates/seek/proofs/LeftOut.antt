-- Searches of a bank's entries with one entry left out. Assumes nothing.
use Prim.Native.Nat.{ℕ, ◌+◌, ◌-◌, ◌*◌, ◌<◌, ◌≤◌}
use native.Mathlib.Nat.{add-sub_of_le}
use native.Mathlib.Omega.{arith}
use mathlib.Core.Path.{◌≡◌, sym, ap, ◌∙◌}
use mathlib.Core.Logic.{inl, inr, ◌≢◌}
use mathlib.Core.List.{List}
use lib.ListN.{length, set, take, drop, length-drop}
use lib.Seq.{drop-set-lt, drop-set-add, take-set-le, take-set-lt}
use Rattle.std.proofs.lemmas.List.{take_rest}
use Rattle.geometry.specs.Entry.{empty}
use Rattle.basics.proofs.Cases.{lt?}
use Rattle.basics.specs.Portions.{portion}
use Rattle.basics.proofs.Portions.{length-portion, portion-lent}
use Rattle.scan.specs.Scan.{index_of}
use Rattle.scan.proofs.Scans.{index_set_beside, index_set_next}

-- bank c, with k entries; what its entries name, and what they name with the changed entry left out
module _ (k c name : ℕ) (rows : List ℕ) (changed : ℕ) (named : name ≢ empty) (fits : c * k + k ≤ length rows) where
  abbrev ours : List ℕ
  ours = portion k c rows

  abbrev others : List ℕ
  others = portion k c (set rows changed empty)

  -- the changed entry is the bank's entry j, or one of another bank
  left_out : (j : ℕ) → c * k + j ≡ changed → j < k → others ≡ set ours j empty
  unfolding portion
  left_out j e h = rw (← e) (ap (take k) (drop-set-add (c * k) rows j empty) ∙ take-set-lt k (drop (c * k) rows) j empty h)

  left_before : changed < c * k → others ≡ ours
  unfolding portion
  left_before h = ap (take k) (drop-set-lt (c * k) rows changed empty h)

  left_behind : c * k + k ≤ changed → others ≡ ours
  unfolding portion
  left_behind h =
      let j : ℕ = changed - c * k in
      let e : c * k + j ≡ changed = add-sub_of_le (omega arith) in
      rw (← e) (ap (take k) (drop-set-add (c * k) rows j empty) ∙ take-set-le k (drop (c * k) rows) j empty (omega arith))

  beside : (index_of name ours < k → c * k + index_of name ours ≢ changed) → index_of name others ≡ index_of name ours
  beside apart =
      elim (lt? changed (c * k)) [
        | inl h ↦ ap (index_of name) (left_before h)
        | inr h ↦ elim (lt? changed (c * k + k)) [
          | inl l ↦
              let j : ℕ = changed - c * k in
              let e : c * k + j ≡ changed = add-sub_of_le h in
              ap (index_of name) (left_out j e (omega arith))
              ∙ index_set_beside name ours j empty (λ n. named (sym n)) (λ n. apart (omega arith) (omega arith))
          | inr l ↦ ap (index_of name) (left_behind l)
        ]
      ]

  -- the bank's entries as they are lent
  abbrev lent : List ℕ
  lent = take (c * k + k - c * k) (drop (c * k) rows)

  lent_long : length lent ≡ k
  lent_long = ap length (portion-lent k c rows) ∙ length-portion k c rows fits

  -- none names the row
  pub lowest_none : length lent ≡ index_of name lent → c * k + k ≡ c * k + index_of name others
  lowest_none e =
      let told : index_of name ours ≡ k = ap (index_of name) (sym (portion-lent k c rows)) ∙ sym e ∙ lent_long in
      omega (arith, told, beside (λ h. absurd (omega (arith, told))))

  -- i: the lowest that names the row
  module _ (i : ℕ) (found : i ≡ index_of name lent) where
    told : i ≡ index_of name ours
    told = found ∙ ap (index_of name) (portion-lent k c rows)

    -- it is not the changed entry
    pub lowest_beside : c * k + i ≢ changed → c * k + i ≡ c * k + index_of name others
    lowest_beside apart = omega (arith, told, beside (λ h e. apart (omega (arith, told))))

    -- it is: the next counts, where there is one
    module _ (e : c * k + i ≡ changed) (inside : i < length lent) where
      next : index_of name others ≡ i + 1 + index_of name (take (length lent - (i + 1)) (drop (i + 1) lent))
      next =
          ap (index_of name) (left_out i e (omega (arith, lent_long)))
          ∙ index_set_next name ours i empty (λ n. named (sym n)) (sym told) (omega (arith, inside, lent_long, length-portion k c rows fits))
          ∙ rw (take_rest lent (i + 1), portion-lent k c rows)

      pub lowest_next : {m : ℕ} → m ≡ index_of name (take (length lent - (i + 1)) (drop (i + 1) lent))
          → c * k + (i + 1) + m ≡ c * k + index_of name others
      lowest_next same = omega (arith, same, next)

      pub lowest_last : length (take (length lent - (i + 1)) (drop (i + 1) lent))
          ≡ index_of name (take (length lent - (i + 1)) (drop (i + 1) lent))
          → c * k + k ≡ c * k + index_of name others
      lowest_last none =
          let rest = ap length (take_rest lent (i + 1)) ∙ length-drop (i + 1) lent in
          omega (arith, none, next, rest, inside, lent_long)
