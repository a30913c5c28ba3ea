-- Rows that are read A times each and go to empty slots, one after the other, two of each bank. Assumes nothing.
use Prim.Native.Nat.{ℕ, zero, suc, ◌+◌, ◌-◌, ◌*◌, ◌%◌, ◌<◌, ◌≤◌, zero-le}
use native.Mathlib.Nat.{le_refl, suc-mul, mul-le-mul_right, mod-eq_of_lt, add-mod_right, zero-lt-suc}
use native.Mathlib.Omega.{arith}
use mathlib.Core.Path.{◌≡◌, refl, sym, ap, ◌∙◌, subst}
use mathlib.Core.Logic.{◌⊎◌, inl, inr, ◌≢◌}
use mathlib.Core.List.{List, [], ◌∷◌}
use lib.Dec.{ltb, eqb}
use borrow.Author.Tests.{eq-eqb, ne_eqb, lt-ltb, le-ltb}
use Rattle.geometry.specs.declared.Settings.{Settings}
use Rattle.geometry.specs.Entry.{empty}
use Rattle.basics.proofs.Cases.{split, eq?, lt?}
use Rattle.banks.specs.Banks.{bank_of}
use Rattle.tracking.proofs.Tracking.{one_if}
use Rattle.geometry.specs.Place.{place_by}
use Rattle.history.specs.Tight.{one_short, each_read}
use Rattle.history.proofs.Known.{Picture, plus_at, place_in, after_reads, Fits, after_quarantine}
use Rattle.history.proofs.Play.{Course, goes, Play, done, go}

-- row r and those after it go to slot h + r and those after it, which are empty
abbrev pub each_goes : ℕ → ℕ → ℕ → List Course
each_goes h r zero = []
each_goes h r (suc m) = goes (h + r) empty ∷ each_goes h (suc r) m

-- ---- which bank

module _ (b : ℕ) where
  -- of the rows below 2b, two in each bank
  below : (x : ℕ) → x < 2 * b → ((x < b) × (x % b ≡ x)) ⊎ (x % b + b ≡ x)
  below x low =
      elim (lt? x b) [
        | inl k ↦ inl (k, mod-eq_of_lt k)
        | inr k ↦
            let back : x - b + b ≡ x = omega arith in
            let here : x % b ≡ x - b = ap (λ (y : ℕ). y % b) (sym back) ∙ add-mod_right (x - b) b ∙ mod-eq_of_lt (omega arith) in
            inr (omega arith)
      ]

  -- 4b rows further on is the same bank
  pub far : (x : ℕ) → (4 * b + x) % b ≡ x % b
  far x =
      let parts : 4 * b + x ≡ x + b + b + b + b = omega arith in
      ap (λ (y : ℕ). y % b) parts ∙ add-mod_right (x + b + b + b) b ∙ add-mod_right (x + b + b) b ∙ add-mod_right (x + b) b ∙ add-mod_right x b

  -- how many of the rows below i are of bank c
  pub share : ℕ → ℕ → ℕ
  share i c = one_if (ltb c i) + one_if (ltb (c + b) i)

  pub share_none : (c : ℕ) → share 0 c ≡ 0
  unfolding share
  share_none c = rw (le-ltb c 0 zero-le, le-ltb (c + b) 0 zero-le)

  grows : (x i : ℕ) → one_if (ltb x i) ≤ one_if (ltb x (suc i))
  grows x i =
      elim (lt? x i) [
        | inl k ↦ rw (lt-ltb x i k, lt-ltb x (suc i) (omega arith)) (le_refl 1)
        | inr k ↦ rw (le-ltb x i k) zero-le
      ]

  share_grows : (i c : ℕ) → share i c ≤ share (suc i) c
  unfolding share
  share_grows i c = omega (arith, grows c i, grows (c + b) i)

  share_more : (i : ℕ) → i < 2 * b → share (suc i) (i % b) ≡ suc (share i (i % b))
  unfolding share
  share_more i low =
      elim (below i low) [
        | inl k ↦
            rw (
              lt-ltb (i % b) (suc i) (omega (arith, k.1)),
              le-ltb (i % b + b) (suc i) (omega (arith, k.1)),
              le-ltb (i % b) i (omega (arith, k.1)),
              le-ltb (i % b + b) i (omega (arith, k.1)),
            )
        | inr k ↦
            rw (
              lt-ltb (i % b) (suc i) (omega arith),
              lt-ltb (i % b + b) (suc i) (omega arith),
              lt-ltb (i % b) i (omega arith),
              le-ltb (i % b + b) i (omega arith),
            )
      ]

  one_most : (x i : ℕ) → one_if (ltb x i) ≤ 1
  one_most x i = elim (split (ltb x i)) [ inl k ↦ rw k (le_refl 1) | inr k ↦ rw k zero-le ]

  share_most : (i c : ℕ) → share i c ≤ 2
  unfolding share
  share_most i c = omega (arith, one_most c i, one_most (c + b) i)

-- ---- an epoch in which the rows below 2b go to slots, one after the other

-- row x is read at place `from` + x (entry x: its forward entry) and goes to slot `to` + x
pub record Round (b m : ℕ) : Type 0 where
  pub from : ℕ
  pub to : ℕ
  pub entry : ℕ → ℕ
  pub place_is : (x : ℕ) → x < 2 * b → place_by (one_short b (suc m)) (entry x) x ≡ from + x
  pub bank_is : (x : ℕ) → (from + x) % b ≡ x % b
  -- no row is in one of those slots, and the places lie before them
  pub apart : (x s : ℕ) → x < 2 * b → to ≤ s → s < 4 * b → entry x ≢ s
  pub before : from + 2 * b ≤ 4 * b + to

module _ {b m : ℕ} (W : Round b m) where
  abbrev S : Settings
  S = one_short b (suc m)

  -- when the rows below i have gone
  pub record Stage (i : ℕ) (P : Picture) : Type 0 where
    pub head : P.head ≡ (W.to + i) % S.q
    pub passed : P.passed ≡ i
    pub went : (x : ℕ) → x < i → P.forward x ≡ W.to + x
    pub rest : (x : ℕ) → i ≤ x → x < 2 * b → P.forward x ≡ W.entry x
    pub vacant : (s : ℕ) → W.to + i ≤ s → P.reverse s ≡ empty
    pub worn : (x : ℕ) → x < i → P.estimates (W.from + x) ≡ suc m
    pub cold : (x : ℕ) → W.from + i ≤ x → P.estimates x ≡ 0
    pub used : (c : ℕ) → P.used c ≡ share b i c
    pub acts : (c : ℕ) → P.acts c ≡ share b i c * suc m

  module _ (i : ℕ) {P : Picture} (T : Stage i P) (low : i < 2 * b) where
    at : place_in S P i ≡ W.from + i
    at = ap (λ (e : ℕ). place_by S e i) (T.rest i (le_refl i) low) ∙ W.place_is i low

    bank_at : bank_of S (place_in S P i) ≡ i % b
    unfolding bank_of
    bank_at = ap (λ (x : ℕ). x % b) at ∙ W.bank_is i

    more : share b (suc i) (bank_of S (place_in S P i)) ≡ suc (share b i (bank_of S (place_in S P i)))
    more = subst (λ (c : ℕ). share b (suc i) c ≡ suc (share b i c)) (sym bank_at) (share_more b i low)

    pub fits : Fits S P i (suc m) (share b (suc i)) (λ c. share b (suc i) c * suc m)
    fits =
        let c : ℕ = bank_of S (place_in S P i) in
        record {
          row_in = omega arith;
          used_kept = λ c. omega (arith, T.used c, share_grows b i c);
          used_more = λ pos e. omega (arith, T.used c, more);
          used_in = share_most b (suc i) c;
          acts_kept = λ c. omega (arith, T.acts c, mul-le-mul_right (suc m) (share_grows b i c));
          acts_more =
              let next : share b (suc i) c * suc m ≡ share b i c * suc m + suc m =
              ap (λ (u : ℕ). u * suc m) more ∙ suc-mul (share b i c) (suc m) in
              omega (arith, T.acts c);
          acts_in = mul-le-mul_right (suc m) (share_most b (suc i) c);
        }

    pub due : P.estimates (place_in S P i) + suc m ≡ suc m
    due = omega (arith, ap P.estimates at, T.cold (W.from + i) (le_refl (W.from + i)))

    module _ (room : W.to + i < S.q) where
      head_is : P.head ≡ W.to + i
      head_is = T.head ∙ mod-eq_of_lt room

      abbrev next : Picture
      next = after_quarantine S (after_reads S P i (suc m) (share b (suc i)) (λ c. share b (suc i) c * suc m)) i

      free : plus_at (place_in S P i) (suc m) P.estimates (S.n + P.head) < suc m
      free =
          rw (ne_eqb (S.n + P.head) (place_in S P i) (λ e. omega (arith, head_is, at)))
          (omega (arith, T.cold (S.n + P.head) (omega (arith, head_is))))

      goes_on : Stage (suc i) next
      goes_on =
          record {
            head = ap (λ (x : ℕ). (x + 1) % S.q) head_is ∙ ap (λ (x : ℕ). x % S.q) (let one : W.to + i + 1 ≡ W.to + suc i = omega arith in one);
            passed = omega (arith, T.passed);
            went = λ x b. elim (eq? x i) [
              | inl e ↦ rw (eq-eqb x i e) (omega (arith, head_is))
              | inr k ↦ rw (ne_eqb x i k, ne_eqb (P.forward x) P.head (λ e. omega (arith, head_is, T.went x (omega arith)))) (T.went x (omega arith))
            ];
            rest = λ x low b.
                rw (
                  ne_eqb x i (λ e. omega arith),
                  ne_eqb (P.forward x) P.head (λ e. W.apart x (W.to + i) b (omega arith) (omega arith) (sym (T.rest x (omega arith) b) ∙ e ∙ head_is)),
                )
                (T.rest x (omega arith) b);
            vacant = λ s b.
                rw (ne_eqb s P.head (λ e. omega (arith, head_is)))
                (elim (split (eqb s (P.forward i))) [ inl k ↦ rw k | inr k ↦ rw k (T.vacant s (omega arith)) ]);
            worn = λ x b. elim (eq? x i) [
              | inl e ↦ rw (eq-eqb (W.from + x) (place_in S P i) (omega (arith, at))) (omega (arith, T.cold (W.from + x) (omega arith)))
              | inr k ↦ rw (ne_eqb (W.from + x) (place_in S P i) (λ e. omega (arith, at))) (T.worn x (omega arith))
            ];
            cold = λ x b. rw (ne_eqb x (place_in S P i) (λ e. omega (arith, at))) (T.cold x (omega arith));
            used = λ c. refl;
            acts = λ c. refl;
          }

  -- j rows from row i on go, up to row k
  pub march : (k : ℕ) → k ≤ 2 * b → W.to + k ≤ S.q → (j i : ℕ) → i + j ≡ k → {P : Picture} → Stage i P
      → (P' : Picture) × (Stage k P' × Play S P (each_read (suc m) i j) (each_goes W.to i j) P')
  march k within room zero i e {P} T = (P, (subst (λ (x : ℕ). Stage x P) (let all : i ≡ k = omega arith in all) T, done))
  march k within room (suc j) i e {P} T =
      let low : i < 2 * b = omega arith in
      let here : W.to + i < S.q = omega arith in
      let on = march k within room j (suc i) (omega arith) (goes_on i T low here) in (
        on.0,
        (
          on.1.0,
          go (fits i T low) (due i T low) (zero-lt-suc m) (free i T low here) (omega (arith, T.passed)) (head_is i T low here)
              (T.vacant P.head (omega (arith, head_is i T low here))) on.1.1,
        ),
      )
