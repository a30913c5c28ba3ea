-- Laws of portions: each is its own, whatever is done to another. Assumes nothing.
use Prim.Native.Nat.{ℕ, ◌+◌, ◌-◌, ◌*◌, ◌<◌, ◌≤◌}
use native.Mathlib.Nat.{suc-mul, mul-le-mul_right, add-sub_of_le}
use native.Mathlib.Omega.{arith}
use mathlib.Core.Path.{◌≡◌, refl, sym, ap, ◌∙◌}
use mathlib.Core.Logic.{◌⊎◌, inl, inr, ◌≢◌}
use mathlib.Core.List.{List}
use lib.ListN.{length, get_or, set, take, drop, replicate, length-drop, length-set, length-replicate, get_or-replicate}
use lib.Seq.{take-add, drop_at, length-paste, length-take-le, get_or-take, get_or-drop, ext_get_or, take-set-lt, drop-set-add, get_or-set_same, get_or-set_other}
use Rattle.basics.proofs.Cases.{eq?, lt?}
use Rattle.basics.proofs.Pastes.{paste_in, paste_out}
use Rattle.basics.specs.Portions.{portion, with_portion}

-- portions do not overlap: one before another ends before it starts
pub portion_before : (k c d : ℕ) → c < d → c * k + k ≤ d * k
portion_before k c d h = omega (arith, suc-mul c k, mul-le-mul_right k h)

pub portions_apart : (k c d : ℕ) → d ≢ c → (d * k + k ≤ c * k) ⊎ (c * k + k ≤ d * k)
portions_apart k c d other = elim (lt? d c) [ inl before ↦ inl (portion_before k d c before) | inr behind ↦ inr (portion_before k c d (omega arith)) ]

-- so each element of portion d lies before portion c or behind it
pub portion_apart : (k c d i : ℕ) → d ≢ c → i < k → (d * k + i < c * k) ⊎ (c * k + k ≤ d * k + i)
portion_apart k c d i other h = elim (portions_apart k c d other) [ inl before ↦ inl (omega arith) | inr behind ↦ inr (omega arith) ]

-- portion c of b is in a buffer of b portions
pub portion_fits : (k b c n : ℕ) → n ≡ b * k → c < b → c * k + k ≤ n
portion_fits k b c n long inside = omega (arith, portion_before k c b inside)

-- a portion as it is lent, from its start to its end
pub portion-lent : (k c : ℕ) (xs : List ℕ) → take (c * k + k - c * k) (drop (c * k) xs) ≡ portion k c xs
unfolding portion
portion-lent k c xs = ap (λ (n : ℕ). take n (drop (c * k) xs)) (let e : c * k + k - c * k ≡ k = omega arith in e)

module _ (k c : ℕ) (xs : List ℕ) (fits : c * k + k ≤ length xs) where
  pub length-portion : length (portion k c xs) ≡ k
  unfolding portion
  length-portion = length-take-le k (drop (c * k) xs) (omega (arith, length-drop (c * k) xs))

  pub get_or-portion : (i d : ℕ) → i < k → get_or (portion k c xs) i d ≡ get_or xs (c * k + i) d
  unfolding portion
  get_or-portion i d b = get_or-take k (drop (c * k) xs) i d b ∙ get_or-drop (c * k) xs i d

  -- it is what stands before its end, from its start on
  pub portion-cut : portion k c xs ≡ drop (c * k) (take (c * k + k) xs)
  unfolding portion
  portion-cut =
      sym (ap (drop (c * k)) (take-add (c * k) k xs)
      ∙ drop_at (take (c * k) xs) (take k (drop (c * k) xs)) (c * k) (length-take-le (c * k) xs (omega arith)))

  -- one element is written
  module _ (i v : ℕ) (inside : i < k) where
    pub portion-set : portion k c (set xs (c * k + i) v) ≡ set (portion k c xs) i v
    unfolding portion
    portion-set = ap (take k) (drop-set-add (c * k) xs i v) ∙ take-set-lt k (drop (c * k) xs) i v inside

  -- the portion is replaced
  module _ (new : List ℕ) (same : length new ≡ k) where
    pub length-with_portion : length (with_portion k c xs new) ≡ length xs
    unfolding with_portion
    length-with_portion = length-paste xs (c * k) new k fits (omega arith)

    at_new : (i : ℕ) → i < k → get_or (with_portion k c xs new) (c * k + i) 0 ≡ get_or new i 0
    unfolding with_portion
    at_new = paste_in xs (c * k) new k fits (omega arith)

    pub at_old : (i : ℕ) → (i < c * k) ⊎ (c * k + k ≤ i) → get_or (with_portion k c xs new) i 0 ≡ get_or xs i 0
    unfolding with_portion
    at_old = paste_out xs (c * k) new k fits (omega arith)

-- the portion that was put, and another
module _ (k c : ℕ) (xs : List ℕ) (fits : c * k + k ≤ length xs) (new : List ℕ) (same : length new ≡ k) where
  long_after : length (with_portion k c xs new) ≡ length xs
  long_after = length-with_portion k c xs fits new same

  pub portion-same : portion k c (with_portion k c xs new) ≡ new
  portion-same =
      let long : length (portion k c (with_portion k c xs new)) ≡ k = length-portion k c (with_portion k c xs new) (omega (arith, long_after)) in
      ext_get_or 0 (portion k c (with_portion k c xs new)) new (long ∙ sym same)
      (λ i b. get_or-portion k c (with_portion k c xs new) (omega (arith, long_after)) i 0 (omega (arith, long)) ∙ at_new k c xs fits new same i (omega (arith, long)))

  pub portion_other : (d : ℕ) → d * k + k ≤ length xs → d ≢ c → portion k d (with_portion k c xs new) ≡ portion k d xs
  portion_other d room n =
      let long : length (portion k d (with_portion k c xs new)) ≡ k = length-portion k d (with_portion k c xs new) (omega (arith, long_after)) in
      ext_get_or 0 (portion k d (with_portion k c xs new)) (portion k d xs) (long ∙ sym (length-portion k d xs room))
      (λ i b.
      get_or-portion k d (with_portion k c xs new) (omega (arith, long_after)) i 0 (omega (arith, long))
      ∙ at_old k c xs fits new same (d * k + i) (portion_apart k c d i n (omega (arith, long)))
      ∙ sym (get_or-portion k d xs room i 0 (omega (arith, long))))

module _ (k c : ℕ) (xs : List ℕ) (fits : c * k + k ≤ length xs) where
  -- a buffer given by its elements
  portion-put : (new ys : List ℕ) → length new ≡ k → length ys ≡ length xs → ((i : ℕ) → i < k → get_or new i 0 ≡ get_or ys (c * k + i) 0)
      → ((j : ℕ) → (j < c * k) ⊎ (c * k + k ≤ j) → get_or xs j 0 ≡ get_or ys j 0) → with_portion k c xs new ≡ ys
  portion-put new ys same alike inner outer =
      let long : length (with_portion k c xs new) ≡ length xs = length-with_portion k c xs fits new same in
      ext_get_or 0 (with_portion k c xs new) ys (long ∙ sym alike)
      (λ j b.
      elim (lt? j (c * k)) [
        | inl h ↦ at_old k c xs fits new same j (inl h) ∙ outer j (inl h)
        | inr h ↦ elim (lt? j (c * k + k)) [
          | inl l ↦
              let at : c * k + (j - c * k) ≡ j = add-sub_of_le h in
              rw at at (at_new k c xs fits new same (j - c * k) (omega arith) ∙ inner (j - c * k) (omega arith))
          | inr l ↦ at_old k c xs fits new same j (inr l) ∙ outer j (inr l)
        ]
      ])

  -- it is put back as it was
  pub portion_own : with_portion k c xs (portion k c xs) ≡ xs
  portion_own = portion-put (portion k c xs) xs (length-portion k c xs fits) refl (λ i b. get_or-portion k c xs fits i 0 b) (λ j o. refl)

  -- one element of portion c is written: the portion is replaced, and others stay
  module _ (i v : ℕ) (inside : i < k) where
    same : length (set (portion k c xs) i v) ≡ k
    same = length-set (portion k c xs) i v ∙ length-portion k c xs fits

    pub set-portion : with_portion k c xs (set (portion k c xs) i v) ≡ set xs (c * k + i) v
    set-portion =
        portion-put (set (portion k c xs) i v) (set xs (c * k + i) v) same (length-set xs (c * k + i) v)
        (λ j b.
        elim (eq? j i) [
          | inl e ↦
              rw e
              (get_or-set_same (portion k c xs) i v 0 (omega (arith, length-portion k c xs fits))
              ∙ sym (get_or-set_same xs (c * k + i) v 0 (omega arith)))
          | inr n ↦
              get_or-set_other (portion k c xs) i j v 0 n
              ∙ get_or-portion k c xs fits j 0 b
              ∙ sym (get_or-set_other xs (c * k + i) (c * k + j) v 0 (λ e. n (omega arith)))
        ])
        (λ j o. sym (get_or-set_other xs (c * k + i) j v 0 (λ e. elim o [ inl h ↦ omega arith | inr h ↦ omega arith ])))

    pub portion-set_other : (d : ℕ) → d * k + k ≤ length xs → d ≢ c → portion k d (set xs (c * k + i) v) ≡ portion k d xs
    portion-set_other d room n =
        ap (portion k d) (sym set-portion) ∙ portion_other k c xs fits (set (portion k c xs) i v) same d room n

-- every portion of a buffer that holds one number
pub portion-replicate : (k b c x : ℕ) → c < b → portion k c (replicate (b * k) x) ≡ replicate k x
portion-replicate k b c x inside =
    let room : c * k + k ≤ length (replicate {0} (b * k) x) = omega (arith, length-replicate (b * k) x, portion_before k c b inside) in
    let long : length (portion k c (replicate (b * k) x)) ≡ k = length-portion k c (replicate (b * k) x) room in
    ext_get_or 0 (portion k c (replicate (b * k) x)) (replicate k x) (long ∙ sym (length-replicate k x))
    (λ i h.
    let i-in : i < k = omega (arith, long) in
    get_or-portion k c (replicate (b * k) x) room i 0 i-in
    ∙ get_or-replicate (b * k) (c * k + i) x 0 (omega (arith, portion_before k c b inside))
    ∙ sym (get_or-replicate k i x 0 i-in))
