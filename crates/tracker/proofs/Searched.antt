-- What a search of a bank's part of a table tells of the entries that the bank has there. Assumes nothing.
use Prim.Native.Nat.{ℕ, ◌<◌}
use native.Mathlib.Omega.{arith}
use mathlib.Core.Path.{◌≡◌, sym, ap, ◌∙◌}
use mathlib.Core.List.{List}
use lib.ListN.{length}
use Rattle.std.specs.Prelude.{Option, Some, None, IfSome, unwrap_or}
use Rattle.scan.specs.Scan.{index_of}

-- o: the answer; part: what is searched, as the code cuts it; mine: the bank's entries
module _ (x : ℕ) {part mine : List ℕ} (same : part ≡ mine) where
  pub searched_none : (o : Option ℕ) → unwrap_or o (length part) ≡ index_of x part → o ≡ None → length mine ≡ index_of x mine
  searched_none None place is = sym (ap length same) ∙ place ∙ ap (index_of x) same
  searched_none (Some j) place is = absurd (cc)

  pub searched_some : (o : Option ℕ) → unwrap_or o (length part) ≡ index_of x part → {i : ℕ} → o ≡ Some i → i ≡ index_of x mine
  searched_some None place is = absurd (cc)
  searched_some (Some j) place {i} is =
      let here : i ≡ j = cc in
      here ∙ place ∙ ap (index_of x) same

  pub searched_within : (o : Option ℕ) → IfSome o (λ i. i < length part) → {i : ℕ} → o ≡ Some i → i < length mine
  searched_within None inside is = absurd (cc)
  searched_within (Some j) inside {i} is =
      let here : i ≡ j = cc in
      omega (arith, here, inside, ap length same)
