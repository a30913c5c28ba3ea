-- Laws of printing into a page. Assumes nothing.
use Prim.Native.Nat.{ℕ, ◌+◌, ◌≤◌}
use native.Mathlib.Nat.{le_refl}
use native.Mathlib.Omega.{arith}
use mathlib.Core.Path.{◌≡◌, refl, ◌∙◌, ap, subst}
use mathlib.Core.List.{List, ◌++◌, append_assoc}
use lib.ListN.{length, take, drop, length-append, length-drop}
use lib.Seq.{paste, take-paste, take-length, take_all}
use Rattle.page.specs.Put.{Put}

pub put_paste : (page : List ℕ) (at : ℕ) (bytes : List ℕ) → at + length bytes ≤ length page
    → Put page at bytes (paste page at bytes (length bytes)) (at + length bytes)
put_paste page at bytes h =
    record {
      counted = refl;
      printed = take-paste page at bytes (length bytes) (omega (arith, h)) (le_refl _) ∙ ap (λ (xs : List ℕ). take at page ++ xs) (take-length bytes);
    }

-- one after the other
pub put-put : {page next last : List ℕ} {at mid end : ℕ} {first second : List ℕ}
    → Put page at first next mid → Put next mid second last end → Put page at (first ++ second) last end
put-put {page} {next} {last} {at} {mid} {end} {first} {second} p q =
    record {
      counted = omega (arith, p.counted, q.counted, length-append first second);
      printed = q.printed ∙ (ap (λ (xs : List ℕ). xs ++ second) p.printed ∙ append_assoc (take at page) first second);
    }

-- the same bytes, written otherwise
pub put_same : {page after : List ℕ} {at next : ℕ} {bytes other : List ℕ} → bytes ≡ other → Put page at bytes after next
    → Put page at other after next
put_same {page} {after} {at} {next} e p = subst (λ (bs : List ℕ). Put page at bs after next) e p

-- a part that reaches to the end
pub part_rest : (xs : List ℕ) (i count : ℕ) → length xs ≤ i + count → take count (drop i xs) ≡ drop i xs
part_rest xs i count h = take_all count (drop i xs) (omega (arith, h, length-drop i xs))
