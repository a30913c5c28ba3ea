-- B × floor(L / A) quarantines, and a 9 with one slot less than twice as many. Assumes nothing.
use Prim.Native.Nat.{ℕ, zero, suc, ◌+◌, ◌-◌, ◌*◌, ◌/◌, ◌%◌, ◌<◌, ◌≤◌}
use native.Mathlib.Nat.{le_refl, mod-eq_of_lt, mod_self, add-zero, div-eq_of_lt-le}
use native.Mathlib.Omega.{arith}
use mathlib.Core.Path.{◌≡◌, refl, sym, ap, ◌∙◌, subst}
use mathlib.Core.Logic.{inl, inr}
use mathlib.Core.Bool.{true, false}
use mathlib.Core.List.{List, [], ◌∷◌, ◌++◌}
use lib.Dec.{leb, eqb}
use lib.ListN.{replicate}
use borrow.Author.Tests.{eq-eqb, ne_eqb, le-leb}
use Rattle.geometry.specs.declared.Settings.{Settings}
use Rattle.geometry.specs.Entry.{empty}
use Rattle.basics.proofs.Cases.{lt?}
use Rattle.geometry.specs.Place.{place_by}
use Rattle.engine.specs.Round.{skipped_of}
use Rattle.engine.proofs.Skipping.{skip_all}
use Rattle.history.specs.Tally.{Report, Tally, start, next_epoch}
use Rattle.basics.specs.Lists.{Some}
use Rattle.history.specs.Tight.{Part, reads, ticks, one_short, each_read, short_filled, nine_parts}
use Rattle.history.proofs.Known.{Picture, plus_at, place_in, after_tick, fresh}
use Rattle.history.proofs.Reading.{on_stay, on_want}
use Rattle.history.proofs.Play.{Course, goes, wants, answers_of, Play, done, want, tick, then, reports_of, tally_of, tallied, epochs_of}
use Rattle.history.proofs.Witness.{some_left, some_right}
use Rattle.history.proofs.March.{each_goes, share_none, far, Round, Stage, fits, due, march}

-- the last row of a list
each_last : (n j i : ℕ) → each_read n i (suc j) ≡ each_read n i j ++ reads (i + j) n ∷ []
each_last n zero i = rw (add-zero i)
each_last n (suc j) i = ap (λ (ps : List Part). reads i n ∷ ps) (each_last n j (suc i) ∙ rw (let same : suc i + j ≡ i + suc j = omega arith in same))

-- an answer after those of some rows
some_each : (Q : Report → Type 0) (n h j i : ℕ) (ps : List Part) (fs : List Course) → Some Q (reports_of ps fs)
    → Some Q (reports_of (each_read n i j ++ ps) (each_goes h i j ++ fs))
some_each Q n h zero i ps fs s = s
some_each Q n h (suc j) i ps fs s = some_right Q (answers_of i n (goes (h + i) empty)) _ (some_each Q n h j (suc i) ps fs s)

module _ (b m : ℕ) (some : 1 ≤ b) (few : b ≤ 16) where
  abbrev pub S : Settings
  S = one_short b (suc m)

  -- the last row; so many come before it
  abbrev pub last : ℕ
  last = 2 * b - 1

  -- ---- the first epoch: from their homes to slots 0 to 2b − 1

  abbrev from_home : Round b m
  from_home =
      record {
        from = 0;
        to = 0;
        entry = λ x. empty;
        place_is = λ x low. omega arith;
        bank_is = λ x. ap (λ (y : ℕ). y % b) (let same : 0 + x ≡ x = omega arith in same);
        apart = λ x s low least high e. omega arith;
        before = omega arith;
      }

  at_home : Stage from_home 0 fresh
  at_home =
      record {
        head = sym (mod-eq_of_lt (omega arith));
        passed = refl;
        went = λ x low. omega arith;
        rest = λ x low high. refl;
        vacant = λ s low. refl;
        worn = λ x low. omega arith;
        cold = λ x low. refl;
        used = λ c. sym (share_none b c);
        acts = λ c. omega (arith, ap (λ (u : ℕ). u * suc m) (share_none b c));
      }

  -- ---- the second: from there to slots 2b to 4b − 2, but for the last

  slot_is : (x : ℕ) → x < 2 * b → place_by S x x ≡ 4 * b + x
  slot_is x low = rw (ne_eqb x empty (λ e. omega arith))

  abbrev from_slots : Round b m
  from_slots =
      record {
        from = 4 * b;
        to = 2 * b;
        entry = λ x. x;
        place_is = slot_is;
        bank_is = far b;
        apart = λ x s low least high e. omega arith;
        before = omega arith;
      }

  in_slots : (P : Picture) → Stage from_home (2 * b) P → Stage from_slots 0 (after_tick P)
  in_slots P T =
      record {
        head = T.head ∙ ap (λ (x : ℕ). x % S.q) (let same : 0 + 2 * b ≡ 2 * b + 0 = omega arith in same);
        passed = refl;
        went = λ x low. omega arith;
        rest = λ x low high. omega (arith, T.went x high);
        vacant = λ s low. T.vacant s (omega arith);
        worn = λ x low. omega arith;
        cold = λ x low. refl;
        used = λ c. sym (share_none b c);
        acts = λ c. omega (arith, ap (λ (u : ℕ). u * suc m) (share_none b c));
      }

  -- the last finds no slot: the head would skip the 2b − 1 worn slots and its own
  module _ (P : Picture) (T : Stage from_slots last P) where
    low : last < 2 * b
    low = omega arith

    at : place_in S P last ≡ 4 * b + last
    at = ap (λ (e : ℕ). place_by S e last) (T.rest last (le_refl last) low) ∙ slot_is last low

    worn : (s : ℕ) → 0 ≤ s → s < 0 + 2 * b → leb (suc m) (plus_at (place_in S P last) (suc m) P.estimates (4 * b + s)) ≡ true
    worn s _ high =
        le-leb (suc m) _
        (elim (lt? s last) [
          | inl k ↦ rw (ne_eqb (4 * b + s) (place_in S P last) (λ e. omega (arith, at))) (omega (arith, T.worn s k))
          | inr k ↦ rw (eq-eqb (4 * b + s) (place_in S P last) (omega (arith, at))) (omega arith)
        ])

    full : S.q < P.passed + suc (skipped_of (λ s. leb (suc m) (plus_at (place_in S P last) (suc m) P.estimates (4 * b + s))) S.q S.q P.head)
    full =
        let head-0 : P.head ≡ 0 = T.head ∙ ap (λ (x : ℕ). x % S.q) (let same : 2 * b + last ≡ S.q = omega arith in same) ∙ mod_self S.q in
        rw head-0 (omega (arith, T.passed, skip_all _ S.q (2 * b) S.q 0 (omega arith) (omega arith) worn))

    refused : (P' : Picture) × Play S P (reads last (suc m) ∷ []) (wants ∷ []) P'
    refused = (_, want (fits from_slots last T low) (due from_slots last T low) full done)

  -- ---- the lists

  abbrev pub fill_courses : List Course
  fill_courses = each_goes 0 0 (2 * b) ++ []

  gone : (P : Picture) × (Stage from_home (2 * b) P × Play S fresh (each_read (suc m) 0 (2 * b)) (each_goes 0 0 (2 * b)) P)
  gone = march from_home (2 * b) (le_refl (2 * b)) (omega arith) (2 * b) 0 (omega arith) at_home

  pub Between : Picture
  Between = after_tick gone.0

  pub fill : Play S fresh (short_filled b (suc m)) fill_courses Between
  unfolding Between
  fill = then gone.1.1 (tick done)

  abbrev pub nine_courses : List Course
  nine_courses = each_goes (2 * b) 0 last ++ wants ∷ []

  nine_are : nine_parts b (suc m) ≡ each_read (suc m) 0 last ++ reads last (suc m) ∷ []
  nine_are =
      let rows : 2 * b ≡ suc last = omega arith in
      let same : 0 + last ≡ last = omega arith in
      ap (each_read (suc m) 0) rows ∙ each_last (suc m) last 0 ∙ ap (λ (r : ℕ). each_read (suc m) 0 last ++ reads r (suc m) ∷ []) same

  gone_again : (P : Picture) × (Stage from_slots last P × Play S Between (each_read (suc m) 0 last) (each_goes (2 * b) 0 last) P)
  unfolding Between
  gone_again = march from_slots last (omega arith) (omega arith) last 0 (omega arith) (in_slots gone.0 gone.1.0)

  end : (P : Picture) × Play S gone_again.0 (reads last (suc m) ∷ []) (wants ∷ []) P
  end = refused gone_again.0 gone_again.1.0

  pub nine_play : (P : Picture) × Play S Between (nine_parts b (suc m)) nine_courses P
  nine_play =
      (end.0, subst (λ (ps : List Part). Play S Between ps nine_courses end.0) (sym nine_are) (then gone_again.1.1 end.1))

  -- ---- their figures

  -- the epoch that is on_tick by the tick after j rows
  first_epoch : (j i : ℕ) (τ₀ τ : Tally)
      → epochs_of S τ₀ τ (each_read (suc m) i j ++ ticks ∷ []) (each_goes 0 i j ++ [])
      ≡ (let τ' : Tally = next_epoch (tallied S τ (each_read (suc m) i j) (each_goes 0 i j)) in
      record { first = τ₀; last = τ' } ∷ record { first = τ'; last = τ' } ∷ [])
  first_epoch zero i τ₀ τ = refl
  first_epoch (suc j) i τ₀ τ = first_epoch j (suc i) τ₀ _

  pub fill_epochs : (let τ : Tally = next_epoch (tallied S start (each_read (suc m) 0 (2 * b)) (each_goes 0 0 (2 * b))) in
      epochs_of S start start (short_filled b (suc m)) fill_courses ≡ record { first = start; last = τ } ∷ record { first = τ; last = τ } ∷ [])
  fill_epochs = first_epoch (2 * b) 0 start start

  quarantined : (j i : ℕ) (τ : Tally) → i + j ≤ 2 * b → (tallied S τ (each_read (suc m) i j) (each_goes 0 i j)).quarantines ≡ τ.quarantines + j
  quarantined zero i τ inside = sym (add-zero τ.quarantines)
  quarantined (suc j) i τ inside =
      let real : eqb (0 + i) empty ≡ false = ne_eqb (0 + i) empty (λ e. omega arith) in
      let one : (tally_of S τ i (suc m) (goes (0 + i) empty)).quarantines ≡ suc τ.quarantines = rw real in
      omega (arith, quarantined j (suc i) (tally_of S τ i (suc m) (goes (0 + i) empty)) (omega arith))

  pub fill_quarantines : (tallied S start (each_read (suc m) 0 (2 * b)) (each_goes 0 0 (2 * b))).quarantines ≡ 2 * b
  fill_quarantines = omega (arith, quarantined (2 * b) 0 start (omega arith))

  -- floor(2A / A) is 2
  pub two_each : b * (S.l / suc m) ≡ b * 2
  two_each = ap (λ (x : ℕ). b * x) (div-eq_of_lt-le {k = 2} (suc m) (omega arith) (omega arith))

  pub nine_told : Some (λ e. e.number ≡ 9) (reports_of (nine_parts b (suc m)) nine_courses)
  nine_told =
      let Nine : Report → Type 0 = λ e. e.number ≡ 9 in
      subst (λ (ps : List Part). Some Nine (reports_of ps nine_courses)) (sym nine_are)
      (some_each Nine (suc m) (2 * b) last 0 (reads last (suc m) ∷ []) (wants ∷ [])
      (some_left Nine (answers_of last (suc m) wants) [] (some_right Nine (replicate m (on_stay last)) (on_want last ∷ []) (inl refl))))
