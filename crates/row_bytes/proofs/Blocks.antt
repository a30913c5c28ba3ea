-- A loop that pastes the blocks into which `as_chunks` cuts a list, 256 elements each, and then the rest. Assumes nothing.
use Prim.Native.Nat.{ℕ, zero, suc, ◌+◌, ◌-◌, ◌*◌, ◌/◌, ◌≤◌, ◌<◌}
use native.Mathlib.Nat.{zero-mul, suc-mul}
use native.Mathlib.Omega.{arith}
use mathlib.Core.Path.{◌≡◌, refl, sym, ap, ◌∙◌}
use mathlib.Core.List.{List, [], ◌++◌}
use lib.ListN.{length, get_or, take, drop, length-drop}
use lib.Seq.{paste, length-take-le, take-take, take-add, drop-drop}
use Rattle.std.specs.Simd.{first_chunks}
use Rattle.std.proofs.lemmas.List.{take_all}
use Rattle.std.proofs.lemmas.List.Edits.{paste-paste}

-- the i-th of the first k blocks of n elements
block_at : (n k i : ℕ) (s : List ℕ) → i < k → get_or (first_chunks n k s) i [] ≡ take n (drop (i * n) s)
block_at n zero i s h = absurd (let no : ⊥ = omega arith in no)
block_at n (suc k) zero s h = rw zero-mul refl
block_at n (suc k) (suc i) s h =
    let e : n + i * n ≡ suc i * n = omega (arith, suc-mul i n) in
    block_at n k i (drop n s) (omega arith) ∙ ap (take n) (drop-drop (i * n) n s ∙ ap (λ (m : ℕ). drop m s) e)

-- s is pasted into d from index `at` on
module _ (d : List ℕ) (at : ℕ) (s : List ℕ) (fits : at + length s ≤ length d) where
  -- only the first n elements of s count
  front : (n : ℕ) → paste d at (take n s) n ≡ paste d at s n
  front n = ap (λ (m : List ℕ). take at d ++ m ++ drop (at + n) d) (take-take n n s (omega arith))

  -- behind the first i, the next k
  further : {l after t : List ℕ} (i k : ℕ) → i + k ≤ length s → t ≡ take k (drop i s) → l ≡ paste d at s i
      → after ≡ paste l (at + i) t (length t) → after ≡ paste d at s (i + k)
  further {l} {after} {t} i k enough next so_far pasted =
      let before : length (take i s) ≡ i = length-take-le i s (omega arith) in
      let long : length t ≡ k = ap length next ∙ length-take-le k (drop i s) (omega (arith, length-drop i s)) in
      let both : take i s ++ t ≡ take (i + k) s = ap (λ (m : List ℕ). take i s ++ m) next ∙ sym (take-add i k s) in
      pasted
      ∙ ap (λ (m : List ℕ). paste m (at + i) t (length t)) (so_far ∙ sym (front i))
      ∙ paste-paste d at (take i s) t i (length t) (sym before) refl (omega arith)
      ∙ (rw (both, long) (front (i + k)))

  -- one block more
  pub block_more : {l after : List ℕ} {blocks : List (List ℕ)} {k : ℕ} → blocks ≡ first_chunks 256 (length s / 256) s → k < length s / 256
      → l ≡ paste d at s (k * 256) → after ≡ paste l (at + k * 256) (get_or blocks k []) (length (get_or blocks k []))
      → after ≡ paste d at s ((k + 1) * 256)
  block_more {l} {after} {blocks} {k} cut more so_far pasted =
      let block = ap (λ (b : List (List ℕ)). get_or b k []) cut ∙ block_at 256 (length s / 256) k s more in
      let e : k * 256 + 256 ≡ (k + 1) * 256 = omega arith in
      rw e at (further (k * 256) 256 (omega arith) block so_far pasted)

  -- the rest behind all n
  pub rest_last : {l after rest : List ℕ} {k n : ℕ} → n ≡ length s / 256 → k ≡ n → rest ≡ drop (length s / 256 * 256) s
      → l ≡ paste d at s (k * 256) → after ≡ paste l (at + n * 256) rest (length rest) → after ≡ paste d at s (length s)
  rest_last {l} {after} {rest} {k} {n} whole last cut so_far pasted =
      let i = n * 256 in
      let e : i + (length s - i) ≡ length s = omega (arith, whole) in
      let next : rest ≡ take (length s - i) (drop i s) =
      cut ∙ ap (λ (m : ℕ). drop (m * 256) s) (sym whole) ∙ sym (take_all (length s - i) (drop i s) (omega (arith, length-drop i s)))
      in
      rw e at (further i (length s - i) (omega arith) next (so_far ∙ ap (λ (m : ℕ). paste d at s (m * 256)) last) pasted)
