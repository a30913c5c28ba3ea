-- The lists that reach the figures of openings. Assumes nothing.
use Prim.Native.Nat.{ℕ, suc, ◌+◌, ◌-◌, ◌<◌, ◌≤◌}
use native.Mathlib.Omega.{arith}
use mathlib.Core.Path.{◌≡◌, refl}
use mathlib.Core.Bool.{true, ◌&&◌}
use mathlib.Core.List.{List, [], ◌∷◌, ◌++◌}
use lib.Dec.{ltb, leb}
use borrow.Author.Tests.{ltb-true, le-leb, leb-true}
use Rattle.geometry.specs.declared.Settings.{Settings}
use Rattle.geometry.specs.Entry.{empty}
use Rattle.basics.proofs.Tests.{and_left, and_right}
use Rattle.banks.specs.Banks.{bank_of}
use Rattle.history.specs.Tight.{Part, reads, two_slots, three_slots, two_filled, three_filled, home_parts, home_parts_over, slot_parts, slot_parts_over}
use Rattle.history.proofs.Known.{Picture, plus_at, place_in, after_reads, Fits, after_quarantine, fresh}
use Rattle.history.proofs.Play.{Course, stays, goes, Play, done, stay, go, tick, then}

-- ---- Parts of a list in which it does not matter how the places are spread over banks: each bank has at most u entries that have
-- counted. What is known of numbers alone is a test, for `refl`.

module _ {S : Settings} {P : Picture} {r n : ℕ} (u : ℕ) (fit : (ltb r S.n && leb u S.k) ≡ true)
    (kept : (c : ℕ) → P.used c ≤ u) (more : 0 < n → P.estimates (place_in S P r) ≡ 0 → P.used (bank_of S (place_in S P r)) < u)
    (left : P.acts (bank_of S (place_in S P r)) + n ≤ S.l) where
  fits : Fits S P r n (λ c. u) (λ c. P.acts c + n)
  fits =
      record {
        row_in = ltb-true r S.n (and_left (ltb r S.n) (leb u S.k) fit);
        used_kept = kept;
        used_more = more;
        used_in = leb-true u S.k (and_right (ltb r S.n) (leb u S.k) fit);
        acts_kept = λ c. omega arith;
        acts_more = omega arith;
        acts_in = left;
      }

  pub stay_at : {P' : Picture} {ps : List Part} {fs : List Course} → P.estimates (place_in S P r) + n < S.a
      → Play S (after_reads S P r n (λ c. u) (λ c. P.acts c + n)) ps fs P' → Play S P (reads r n ∷ ps) (stays ∷ fs) P'
  stay_at low rest = stay fits low rest

  pub go_at : {P' : Picture} {ps : List Part} {fs : List Course} {d v : ℕ} → P.estimates (place_in S P r) + n ≡ S.a → 0 < n
      → plus_at (place_in S P r) n P.estimates (S.n + P.head) < S.a → ltb P.passed S.q ≡ true
      → P.head ≡ d → P.reverse P.head ≡ v
      → Play S (after_quarantine S (after_reads S P r n (λ c. u) (λ c. P.acts c + n)) r) ps fs P' → Play S P (reads r n ∷ ps) (goes d v ∷ fs) P'
  go_at due some free room at held rest = go fits due some free (omega (arith, ltb-true P.passed S.q room)) at held rest

-- ---- the courses of the lists

-- rows 0 and 1 go to slots 0 and 1
abbrev pub filling : List Course
filling = goes 0 empty ∷ goes 1 empty ∷ []

-- row 2 goes to slot 0, and row 0, which is sent home, to slot 1
abbrev pub home_courses : List Course
home_courses = goes 0 0 ∷ goes 1 1 ∷ []

-- row 0 is read in slot 0, row 2 goes to slot 0, and then to slot 1
abbrev pub slot_courses : List Course
slot_courses = stays ∷ goes 0 0 ∷ goes 1 1 ∷ []

-- after the tick row 0 goes to slot 0, and then to slot 1, from which row 2 is sent home
abbrev pub slot_courses_over : List Course
slot_courses_over = slot_courses ++ goes 0 empty ∷ goes 1 2 ∷ []

-- rows 0, 1 and 2 go to slots 0, 1 and 2
abbrev pub filling_all : List Course
filling_all = goes 0 empty ∷ goes 1 empty ∷ goes 2 empty ∷ []

-- each of rows 3, 0 and 1 sends home the next, and so does each of rows 2, 3 and 0 after the tick
abbrev pub home_courses_over : List Course
home_courses_over = goes 0 0 ∷ goes 1 1 ∷ goes 2 2 ∷ goes 0 3 ∷ goes 1 0 ∷ goes 2 1 ∷ []

-- ---- two slots

module _ (b m : ℕ) where
  abbrev pub Two : Settings
  Two = two_slots b (suc m)

  abbrev pub fill : (P : Picture) × Play Two fresh (two_filled (suc m)) filling P
  fill = (
    _,
    go_at 1 refl (λ c. omega arith) (λ some e. omega arith) (omega arith) (omega arith) (omega arith) (omega arith) refl refl refl
        (go_at 2 refl (λ c. omega arith) (λ some e. omega arith) (omega arith) (omega arith) (omega arith) (omega arith) refl refl refl
        (tick done)),
  )

  pub home-play : (P : Picture) × Play Two fill.0 (home_parts (suc m)) home_courses P
  home-play = (
    _,
    go_at 1 refl (λ c. omega arith) (λ some e. omega arith) (omega arith) (omega arith) (omega arith) (omega arith) refl refl refl
        (go_at 2 refl (λ c. omega arith) (λ some e. omega arith) (omega arith) (omega arith) (omega arith) (omega arith) refl refl refl
        done),
  )

  -- the entries that row 0's reads take: with A = 1 it is not read, and slot 0 is a new place for row 2
  abbrev pub entries : ℕ
  entries = 1 - (1 - m)

  abbrev pub slot-play : (P : Picture) × Play Two fill.0 (slot_parts (suc m)) slot_courses P
  slot-play = (
    _,
    stay_at entries (rw (le-leb entries 2 (omega arith))) (λ c. omega arith) (λ some e. omega arith) (omega arith) (omega arith)
        (go_at (suc entries) (rw (le-leb (suc entries) 2 (omega arith))) (λ c. omega arith) (λ some e. omega arith)
        (omega arith) (omega arith) (omega arith) (omega arith) refl refl refl
        (go_at 2 refl (λ c. omega arith) (λ some e. omega arith) (omega arith) (omega arith) (omega arith) (omega arith) refl refl refl
        done)),
  )

  pub slot-play_over : (P : Picture) × Play Two fill.0 (slot_parts_over (suc m)) slot_courses_over P
  slot-play_over = (
    _,
    then slot-play.1
        (tick
        (go_at 1 refl (λ c. omega arith) (λ some e. omega arith) (omega arith) (omega arith) (omega arith) (omega arith) refl refl refl
        (go_at 2 refl (λ c. omega arith) (λ some e. omega arith) (omega arith) (omega arith) (omega arith) (omega arith) refl refl refl
        done))),
  )

-- ---- three slots

module _ (b m : ℕ) where
  abbrev pub Three : Settings
  Three = three_slots b (suc m)

  abbrev pub fill_all : (P : Picture) × Play Three fresh (three_filled (suc m)) filling_all P
  fill_all = (
    _,
    go_at 1 refl (λ c. omega arith) (λ some e. omega arith) (omega arith) (omega arith) (omega arith) (omega arith) refl refl refl
        (go_at 2 refl (λ c. omega arith) (λ some e. omega arith) (omega arith) (omega arith) (omega arith) (omega arith) refl refl refl
        (go_at 3 refl (λ c. omega arith) (λ some e. omega arith) (omega arith) (omega arith) (omega arith) (omega arith) refl refl refl
        (tick done))),
  )

  pub home-play_over : (P : Picture) × Play Three fill_all.0 (home_parts_over (suc m)) home_courses_over P
  home-play_over = (
    _,
    go_at 1 refl (λ c. omega arith) (λ some e. omega arith) (omega arith) (omega arith) (omega arith) (omega arith) refl refl refl
        (go_at 2 refl (λ c. omega arith) (λ some e. omega arith) (omega arith) (omega arith) (omega arith) (omega arith) refl refl refl
        (go_at 3 refl (λ c. omega arith) (λ some e. omega arith) (omega arith) (omega arith) (omega arith) (omega arith) refl refl refl
        (tick
        (go_at 1 refl (λ c. omega arith) (λ some e. omega arith) (omega arith) (omega arith) (omega arith) (omega arith) refl refl refl
        (go_at 2 refl (λ c. omega arith) (λ some e. omega arith) (omega arith) (omega arith) (omega arith) (omega arith) refl refl refl
        (go_at 3 refl (λ c. omega arith) (λ some e. omega arith) (omega arith) (omega arith) (omega arith) (omega arith) refl refl refl
        done)))))),
  )
