-- The slots gone by: the `passed` slots before `head`, round Q. Assumes nothing.
use Prim.Native.Nat.{ℕ, ◌+◌, ◌%◌, ◌<◌, ◌≤◌}
use native.Mathlib.Nat.{mod-eq_of_lt, mod_self, mod-lt}
use native.Mathlib.Omega.{arith}
use mathlib.Core.Path.{◌≡◌, sym, ap, ◌∙◌}
use mathlib.Core.Logic.{◌⊎◌, inl, inr, ◌≢◌}
use mathlib.Core.Bool.{Bool, true, false, cond, true≢false}
use lib.Dec.{ltb, leb}
use borrow.Author.Tests.{lt-ltb, le-ltb, le-leb, lt-leb}
use Rattle.basics.proofs.Cases.{eq?, lt?}

-- slot s is one of the `passed` slots before `head`
unfoldable pub gone_by : ℕ → ℕ → ℕ → ℕ → Bool
gone_by q head passed s = cond (ltb s head) (leb head (s + passed)) (leb (head + q) (s + passed))

leb_iff : (a b c d : ℕ) → (a ≤ b → c ≤ d) → (c ≤ d → a ≤ b) → leb a b ≡ leb c d
leb_iff a b c d f g =
    elim (lt? b a) [
      | inl h ↦ lt-leb a b h ∙ sym (lt-leb c d (elim (lt? d c) [ inl k ↦ k | inr k ↦ let z : a ≤ b = g k in omega arith ]))
      | inr h ↦ le-leb a b h ∙ sym (le-leb c d (f h))
    ]

pub gone_none : (q h s : ℕ) → s < q → gone_by q h 0 s ≡ false
unfolding gone_by
gone_none q h s b =
    elim (lt? s h) [
      | inl k ↦ rw (lt-ltb s h k) (lt-leb h (s + 0) (omega arith))
      | inr k ↦ rw (le-ltb s h k) (lt-leb (h + q) (s + 0) (omega arith))
    ]

pub gone_head : (q h n : ℕ) → n < q → gone_by q h n h ≡ false
unfolding gone_by
gone_head q h n b = rw (le-ltb h h (omega arith)) (lt-leb (h + q) (h + n) (omega arith))

-- the slot after h, round q
next_is : (q h : ℕ) → h < q → ((h + 1 < q) × ((h + 1) % q ≡ h + 1)) ⊎ ((h + 1 ≡ q) × ((h + 1) % q ≡ 0))
next_is q h b =
    elim (lt? (h + 1) q) [
      | inl k ↦ inl (k, mod-eq_of_lt k)
      | inr k ↦
          let e : h + 1 ≡ q = omega arith in
          inr (e, ap (λ (x : ℕ). x % q) e ∙ mod_self q)
    ]

pub next_in : (q h : ℕ) → h < q → (h + 1) % q < q
next_in q h b = mod-lt (h + 1) (omega arith)

-- the head goes by slot h: h is gone by, and every other slot is what it was
pub gone_new : (q h n : ℕ) → h < q → gone_by q ((h + 1) % q) (n + 1) h ≡ true
unfolding gone_by
gone_new q h n b =
    elim (next_is q h b) [
      | inl c ↦ rw (c.1, lt-ltb h (h + 1) (omega arith)) (le-leb (h + 1) (h + (n + 1)) (omega arith))
      | inr c ↦ rw (c.1, le-ltb h 0 (omega arith)) (le-leb (0 + q) (h + (n + 1)) (omega arith))
    ]

pub gone_other : (q h n s : ℕ) → h < q → s < q → s ≢ h → gone_by q ((h + 1) % q) (n + 1) s ≡ gone_by q h n s
unfolding gone_by
gone_other q h n s b l ne =
    elim (next_is q h b) [
      | inl c ↦ elim (lt? s h) [
        | inl k ↦ rw (c.1, lt-ltb s h k, lt-ltb s (h + 1) (omega arith)) (leb_iff (h + 1) (s + (n + 1)) h (s + n) (omega arith) (omega arith))
        | inr k ↦ rw (c.1, le-ltb s h k, le-ltb s (h + 1) (omega arith)) (leb_iff (h + 1 + q) (s + (n + 1)) (h + q) (s + n) (omega arith) (omega arith))
      ]
      | inr c ↦ rw (c.1, le-ltb s 0 (omega arith), lt-ltb s h (omega arith)) (leb_iff (0 + q) (s + (n + 1)) h (s + n) (omega arith) (omega arith))
    ]

-- the head goes by slots that `skips` marks, and then by the free slot d: from head h and n passed to h' and n'
pub record Slide (skips : ℕ → Bool) (q h n d h' n' : ℕ) : Type 0 where
  pub inside : d < q
  pub free : skips d ≡ false
  pub ahead : gone_by q h n d ≡ false
  pub filled : gone_by q h' n' d ≡ true
  pub others : (s : ℕ) → s < q → s ≢ d → (gone_by q h' n' s ≡ gone_by q h n s) ⊎ ((gone_by q h' n' s ≡ true) × (skips s ≡ true))

-- the slot at the head is free
pub slide_one : (skips : ℕ → Bool) (q h n : ℕ) → h < q → n < q → skips h ≡ false → Slide skips q h n h ((h + 1) % q) (n + 1)
slide_one skips q h n b room e =
    record {
      inside = b;
      free = e;
      ahead = gone_head q h n room;
      filled = gone_new q h n b;
      others = λ s l sd. inl (gone_other q h n s b l sd);
    }

-- the slot at the head is skipped
pub slide_more : (skips : ℕ → Bool) (q h n d h' n' : ℕ) → h < q → skips h ≡ true → Slide skips q ((h + 1) % q) (n + 1) d h' n' → Slide skips q h n d h' n'
slide_more skips q h n d h' n' b e sl =
    let dh : d ≢ h = λ w. true≢false (sym e ∙ ap skips (sym w) ∙ sl.free) in
    record {
      inside = sl.inside;
      free = sl.free;
      ahead = sym (gone_other q h n d b sl.inside dh) ∙ sl.ahead;
      filled = sl.filled;
      others = λ s l sd. elim (eq? s h) [
        | inl sh ↦
            let then : gone_by q ((h + 1) % q) (n + 1) s ≡ true = rw sh (gone_new q h n b) in
            inr (elim (sl.others s l sd) [ inl k ↦ k ∙ then | inr c ↦ c.0 ], ap skips sh ∙ e)
        | inr nh ↦
            let old : gone_by q ((h + 1) % q) (n + 1) s ≡ gone_by q h n s = gone_other q h n s b l nh in
            elim (sl.others s l sd) [ inl k ↦ inl (k ∙ old) | inr c ↦ inr c ]
      ];
    }

-- no slot that is gone by comes back
pub slide_keeps : (skips : ℕ → Bool) (q h n d h' n' : ℕ) → Slide skips q h n d h' n' → (s : ℕ) → s < q → gone_by q h n s ≡ true → gone_by q h' n' s ≡ true
slide_keeps skips q h n d h' n' sl s b t =
    elim (eq? s d) [
      | inl sd ↦ rw sd sl.filled
      | inr nd ↦ elim (sl.others s b nd) [ inl k ↦ k ∙ t | inr c ↦ c.0 ]
    ]
