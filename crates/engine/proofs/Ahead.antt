-- The head skips slots and goes by the first that is not skipped; how many slots ahead of it are marked by a test.
-- Assumes nothing.
use Prim.Native.Nat.{ℕ, zero, suc, ◌+◌, ◌-◌, ◌%◌, ◌<◌, ◌≤◌, zero-le}
use native.Mathlib.Nat.{le_of_suc-le-suc, not-suc-le-zero, le_refl, mod-eq_of_lt, add-mod_right, add-zero}
use native.Mathlib.Omega.{arith}
use mathlib.Core.Path.{◌≡◌, refl, ap, ◌∙◌}
use mathlib.Core.Logic.{inl, inr, ◌≢◌}
use mathlib.Core.Bool.{Bool, true, false, cond}
use Rattle.basics.proofs.Cases.{split, eq?, lt?}
use Rattle.engine.specs.Round.{skipped_of}
use Rattle.engine.proofs.GoneBy.{gone_by, gone_head, gone_new, gone_other, next_in, Slide, slide_one, slide_more}
use Rattle.engine.proofs.Skipping.{next_there}

-- the distance from h to the slot n further on, round q
pub distance : (q h n : ℕ) → h < q → n < q → ((h + n) % q + q - h) % q ≡ n
distance q h n b l =
    elim (lt? (h + n) q) [
      | inl k ↦
          let at : (h + n) % q ≡ h + n = mod-eq_of_lt k in
          let far : (h + n) % q + q - h ≡ n + q = omega arith in
          ap (λ (x : ℕ). x % q) far ∙ add-mod_right n q ∙ mod-eq_of_lt l
      | inr k ↦
          let back : h + n ≡ h + n - q + q = omega arith in
          let at : (h + n) % q ≡ h + n - q = ap (λ (x : ℕ). x % q) back ∙ add-mod_right (h + n - q) q ∙ mod-eq_of_lt (omega arith) in
          let far : (h + n) % q + q - h ≡ n = omega arith in
          ap (λ (x : ℕ). x % q) far ∙ mod-eq_of_lt l
    ]

-- ---- sums over the numbers below k

sum_to : ℕ → (ℕ → ℕ) → ℕ
sum_to zero f = 0
sum_to (suc k) f = f k + sum_to k f

sum_same : (k : ℕ) (f g : ℕ → ℕ) → ((s : ℕ) → s < k → f s ≡ g s) → sum_to k f ≡ sum_to k g
unfolding sum_to
sum_same zero f g h = refl
sum_same (suc k) f g h = omega (arith, h k (le_refl (suc k)), sum_same k f g (λ s b. h s (omega arith)))

sum_but : (k x : ℕ) (f g : ℕ → ℕ) → x < k → ((s : ℕ) → s < k → s ≢ x → f s ≡ g s) → sum_to k f + g x ≡ sum_to k g + f x
unfolding sum_to
sum_but zero x f g b h = absurd (not-suc-le-zero b)
sum_but (suc k) x f g b h =
    elim (eq? k x) [
      | inl e ↦ rw (← e) (omega (arith, sum_same k f g (λ s l. h s (omega arith) (λ w. omega arith))))
      | inr n ↦ omega (arith, h k (le_refl (suc k)) n, sum_but k x f g (omega arith) (λ s l m. h s (omega arith) m))
    ]

sum_zero : (k : ℕ) (f : ℕ → ℕ) → ((s : ℕ) → s < k → f s ≡ 0) → sum_to k f ≡ 0
unfolding sum_to
sum_zero zero f h = refl
sum_zero (suc k) f h = omega (arith, h k (le_refl (suc k)), sum_zero k f (λ s b. h s (omega arith)))

-- ---- the marked slots that are not gone by

abbrev marked_at : (ℕ → Bool) → ℕ → ℕ → ℕ → ℕ → ℕ
marked_at mark q h n s = cond (gone_by q h n s) 0 (cond (mark s) 1 0)

pub ahead : (ℕ → Bool) → ℕ → ℕ → ℕ → ℕ
ahead mark q h n = sum_to q (marked_at mark q h n)

no_mark : (gone : Bool) → cond {A = ℕ} gone 0 0 ≡ 0
no_mark true = refl
no_mark false = refl

module _ (q h n : ℕ) where
  -- none is marked
  pub ahead_none : (mark : ℕ → Bool) → ((s : ℕ) → s < q → mark s ≡ false) → ahead mark q h n ≡ 0
  unfolding ahead
  ahead_none mark none = sum_zero q (marked_at mark q h n) (λ s b. rw (none s b) (no_mark (gone_by q h n s)))

  -- the same are marked
  pub ahead_same : (mark mark' : ℕ → Bool) → ((s : ℕ) → s < q → mark s ≡ mark' s) → ahead mark q h n ≡ ahead mark' q h n
  unfolding ahead
  ahead_same mark mark' same =
      sum_same q (marked_at mark q h n) (marked_at mark' q h n) (λ s b. ap (λ (x : Bool). cond (gone_by q h n s) 0 (cond x 1 0)) (same s b))

  one_more : (gone x y : Bool) → cond gone 0 (cond {A = ℕ} x 1 0) ≤ cond gone 0 (cond {A = ℕ} y 1 0) + 1
  one_more true x y = omega arith
  one_more false true y = omega arith
  one_more false false y = omega arith

  -- the same but for one slot
  pub ahead_but : (x : ℕ) (mark mark' : ℕ → Bool) → x < q → ((s : ℕ) → s < q → s ≢ x → mark s ≡ mark' s) → ahead mark q h n ≤ ahead mark' q h n + 1
  unfolding ahead
  ahead_but x mark mark' b same =
      omega (
        arith,
        sum_but q x (marked_at mark q h n) (marked_at mark' q h n) b (λ s l m. ap (λ (y : Bool). cond (gone_by q h n s) 0 (cond y 1 0)) (same s l m)),
        one_more (gone_by q h n x) (mark x) (mark' x),
      )

-- the head goes by slot h
ahead_step : (mark : ℕ → Bool) (q h n : ℕ) → h < q → n < q → ahead mark q h n ≡ cond (mark h) 1 0 + ahead mark q ((h + 1) % q) (n + 1)
unfolding ahead
ahead_step mark q h n b room =
    let was : marked_at mark q h n h ≡ cond (mark h) 1 0 = rw (gone_head q h n room) in
    let now : marked_at mark q ((h + 1) % q) (n + 1) h ≡ 0 = rw (gone_new q h n b) in
    omega (arith, sum_but q h (marked_at mark q ((h + 1) % q) (n + 1)) (marked_at mark q h n) b (λ s l m. rw (gone_other q h n s b l m)))

-- ---- the head skips slots and goes by the next

module _ (skip : ℕ → Bool) (q : ℕ) where
  -- the slot after those skipped
  abbrev pub target : ℕ → ℕ → ℕ
  target k h = (h + skipped_of skip q k h) % q

  -- the skipped slots, which were marked, and the next are gone by then
  pub goes_past : (k h n : ℕ) → h < q → skipped_of skip q k h < k → n + suc (skipped_of skip q k h) ≤ q
      → Slide skip q h n (target k h) ((target k h + 1) % q) (n + suc (skipped_of skip q k h))
      × (ahead skip q h n ≡ skipped_of skip q k h + ahead skip q ((target k h + 1) % q) (n + suc (skipped_of skip q k h)))
  unfolding skipped_of
  goes_past zero h n b found room = absurd (not-suc-le-zero found)
  goes_past (suc k) h n b found room =
      let first : ahead skip q h n ≡ cond (skip h) 1 0 + ahead skip q ((h + 1) % q) (n + 1) = ahead_step skip q h n b (omega arith) in
      elim (split (skip h)) [
        | inl e ↦
            let w : ℕ = skipped_of skip q k ((h + 1) % q) in
            let found' : w < k = le_of_suc-le-suc (rw e at found) in
            let room' : n + suc (suc w) ≤ q = rw e at room in
            let more : n + suc (suc w) ≡ n + 1 + suc w = omega arith in
            let one : ahead skip q h n ≡ 1 + ahead skip q ((h + 1) % q) (n + 1) = first ∙ rw e refl in
            let rest = goes_past k ((h + 1) % q) (n + 1) (next_in q h b) found' (omega arith) in
            rw (e, more, ← next_there q h w) (slide_more skip q h n _ _ _ b e rest.0, omega (arith, one, rest.1))
        | inr e ↦
            let room' : n + 1 ≤ q = rw e at room in
            let none : ahead skip q h n ≡ 0 + ahead skip q ((h + 1) % q) (n + 1) = first ∙ rw e refl in
            rw (e, add-zero h, mod-eq_of_lt b) (slide_one skip q h n b (omega arith) e, omega (arith, none))
      ]

  -- where as many are skipped as are not gone by, each of those is marked
  pub ahead_all : (k m h n : ℕ) → h < q → n + k ≤ q → k ≤ skipped_of skip q m h → k ≤ ahead skip q h n
  unfolding skipped_of
  ahead_all zero m h n b room full = zero-le
  ahead_all (suc k) zero h n b room full = absurd (not-suc-le-zero full)
  ahead_all (suc k) (suc m) h n b room full =
      elim (split (skip h)) [
        | inl e ↦
            let first : ahead skip q h n ≡ 1 + ahead skip q ((h + 1) % q) (n + 1) = ahead_step skip q h n b (omega arith) ∙ rw e refl in
            omega (arith, first, ahead_all k m ((h + 1) % q) (n + 1) (next_in q h b) (omega arith) (le_of_suc-le-suc (rw e at full)))
        | inr e ↦ absurd (not-suc-le-zero (rw e at full))
      ]
