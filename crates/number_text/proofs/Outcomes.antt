-- What a scan comes to: at the start of the text, past a byte, and at the end. Assumes nothing.
use Prim.Native.Nat.{ℕ, suc, ◌+◌, ◌<◌, ◌≤◌}
use native.Mathlib.Nat.{zero-add}
use native.Mathlib.Numerals.{add-one}
use native.Mathlib.Omega.{arith}
use mathlib.Core.Path.{◌≡◌, refl, sym, ◌∙◌, ap}
use mathlib.Core.Logic.{inl, inr}
use mathlib.Core.Bool.{true, false, ◌||◌, and-false}
use mathlib.Core.List.{List, [], ◌∷◌, append-nil}
use lib.Dec.{leb}
use lib.ListN.{length, get_or, take, drop, set, length-set, drop_of_length-le}
use lib.Seq.{drop-cons, take-suc-set, append_snoc}
use borrow.Author.Tests.{le-leb, lt-leb, leb-false}
use Rattle.std.specs.Prelude.{Option, None, Some}
use Rattle.std.specs.Option.{unwrap_or}
use Rattle.std.proofs.lemmas.Option.{none-some}
use Rattle.basics.proofs.Cases.{split}
use Rattle.number_text.specs.declared.scanner.Scan.{Scan}
use Rattle.basics.specs.Lists.{every}
use Rattle.number_text.specs.Numbers.{is_digit, is_gap, appended, small, ended, numbers_from, readable_from, numbers_within}
use Rattle.number_text.specs.Scanner.{outcome, outcome_after, Past}

-- once a value is above the limit, some number of the text is, whatever follows
stays_large : (v : ℕ) (rest : List ℕ) → 4294967295 < v → every (λ x. leb x 4294967295) (numbers_from (Some v) rest) ≡ false
unfolding every numbers_from
stays_large v [] h = rw (lt-leb v 4294967295 h)
stays_large v (b ∷ bs) h =
    elim (split (is_digit b)) [
      | inl e ↦ rw e (stays_large (appended (Some v) b) bs (omega arith))
      | inr e ↦ rw e (rw (lt-leb v 4294967295 h))
    ]

-- the scan at the start
abbrev pub start : Scan
start = record { count = 0; pending = None }

-- the scan s after a digit, with which the number is v; after its number was listed
abbrev pub grown : Scan → ℕ → Scan
grown s v = record { count = s.count; pending = Some v }

abbrev pub closed : Scan → Scan
closed s = record { count = s.count + 1; pending = None }

pub starts : (list text : List ℕ) → numbers_within (length list) text ≡ outcome list start text
unfolding numbers_within outcome
starts list text = rw zero-add

module _ (list : List ℕ) (s : Scan) where
  -- ---- two ways to come to nothing

  not_readable : (rest : List ℕ) → readable_from s.pending rest ≡ false → outcome list s rest ≡ None
  unfolding outcome
  not_readable rest e = rw e

  no_room : (rest : List ℕ) → length list < s.count + length (numbers_from s.pending rest) → outcome list s rest ≡ None
  unfolding outcome
  no_room rest h =
      rw (lt-leb (s.count + length (numbers_from s.pending rest)) (length list) h, and-false (readable_from s.pending rest))

  module _ (rest : List ℕ) where
    -- ---- past a blank

    pub blank-skipped : s.pending ≡ None → outcome list s rest ≡ outcome list s (32 ∷ rest)
    unfolding outcome readable_from every numbers_from
    blank-skipped e = rw e

    pub number-listed : {v : ℕ} → s.pending ≡ Some v → v ≤ 4294967295 → s.count < length list
        → outcome (set list s.count v) (closed s) rest ≡ outcome list s (32 ∷ rest)
    unfolding outcome readable_from every numbers_from
    number-listed {v} e small h =
        let n : s.count + 1 + length (numbers_from None rest) ≡ s.count + suc (length (numbers_from None rest)) = omega arith in
        rw (e, le-leb v 4294967295 small) (rw (
          n,
          length-set list s.count v,
          add-one s.count,
          take-suc-set list s.count v h,
          append_snoc (take s.count list) v (numbers_from None rest),
        ))

    pub list_full : {v : ℕ} → s.pending ≡ Some v → length list ≤ s.count → outcome list s (32 ∷ rest) ≡ None
    unfolding numbers_from
    list_full e h = no_room (32 ∷ rest) (rw e (omega arith))

    -- ---- past any byte b

    module _ (b : ℕ) where
      pub digit-read : (v : ℕ) → v ≡ appended s.pending b → is_digit b ≡ true → outcome list (grown s v) rest ≡ outcome list s (b ∷ rest)
      unfolding outcome readable_from every numbers_from
      digit-read v e d = rw (d, e)

      pub too_large : is_digit b ≡ true → 4294967295 < appended s.pending b → outcome list s (b ∷ rest) ≡ None
      unfolding readable_from every numbers_from
      too_large d h =
          not_readable (b ∷ rest) (rw (d, stays_large (appended s.pending b) rest h) (and-false (every (λ x. is_digit x || is_gap x) rest)))

      pub gap_read : is_digit b ≡ false → is_gap b ≡ true → outcome list s (32 ∷ rest) ≡ outcome list s (b ∷ rest)
      unfolding outcome readable_from every numbers_from
      gap_read d g = rw (d, g)

      pub byte-refused : is_digit b ≡ false → is_gap b ≡ false → outcome list s (b ∷ rest) ≡ None
      unfolding readable_from every
      byte-refused d g = not_readable (b ∷ rest) (rw (d, g))

  -- the byte of the text at index i is the next
  pub next_byte : (text : List ℕ) (i : ℕ) → i < length text → outcome list s (drop i text) ≡ outcome list s (get_or text i 0 ∷ drop (i + 1) text)
  next_byte text i h = rw (add-one, drop-cons text i 0) refl

  -- ---- the end of the text

  -- it ends a number as a blank does
  pub last_blank : outcome list s (32 ∷ []) ≡ outcome list s []
  unfolding outcome readable_from every numbers_from
  last_blank = rw (append-nil (ended s.pending))

  pub all_listed : s.pending ≡ None → s.count ≤ length list → outcome list s [] ≡ Some (take s.count list)
  unfolding outcome readable_from every numbers_from
  all_listed e h = rw (e, le-leb (s.count + 0) (length list) (omega arith), append-nil (take s.count list))

-- ---- what one byte does

module _ (was : List ℕ) (s : Scan) where
  -- a byte after which nothing can come
  pub past_refused : (b : ℕ) (list : List ℕ) → ((rest : List ℕ) → outcome was s (b ∷ rest) ≡ None) → Past b was s list None
  past_refused b list h = record { within = tt; same = λ rest. sym (h rest) }

  -- a blank: no number ends
  pub past_blank : s.pending ≡ None → s.count ≤ length was → Past 32 was s was (Some s)
  past_blank e h = record { within = h; same = λ rest. blank-skipped was s rest e }

  -- a blank: the number v ends
  pub past_number : {v : ℕ} → s.pending ≡ Some v → v ≤ 4294967295 → s.count < length was
      → Past 32 was s (set was s.count v) (Some (closed s))
  past_number {v} e small h =
      record {
        within = omega (arith, length-set was s.count v);
        same = λ rest. number-listed was s rest e small h;
      }

  pub past_full : {v : ℕ} (list : List ℕ) → s.pending ≡ Some v → length was ≤ s.count → Past 32 was s list None
  past_full list e h = past_refused 32 list (λ rest. list_full was s rest e h)

-- a digit, with which the number is small or not
small_is : (x v : ℕ) → small x ≡ Some v → v ≡ x
small_is x v e =
    elim (split (leb x 4294967295)) [
      | inl f ↦ sym (ap (λ (o : Option ℕ). unwrap_or o 0) (rw f at e))
      | inr f ↦ absurd (none-some v (rw f at e))
    ]

too_large_for : (x : ℕ) → small x ≡ None → 4294967295 < x
too_large_for x e =
    elim (split (leb x 4294967295)) [
      | inl f ↦ absurd (none-some x (sym (rw f at e)))
      | inr f ↦ leb-false x 4294967295 f
    ]

module _ (was : List ℕ) (s : Scan) (b : ℕ) where
  pub past_digit : (v : ℕ) → is_digit b ≡ true → small (appended s.pending b) ≡ Some v → s.count ≤ length was
      → Past b was s was (Some (grown s v))
  past_digit v d e h =
      record { within = h; same = λ rest. digit-read was s rest b v (small_is (appended s.pending b) v e) d }

  pub past_large : (list : List ℕ) → is_digit b ≡ true → small (appended s.pending b) ≡ None → Past b was s list None
  past_large list d e = past_refused was s b list (λ rest. too_large was s rest b d (too_large_for (appended s.pending b) e))

  pub past_gap : {list : List ℕ} {r : Option Scan} → is_digit b ≡ false → is_gap b ≡ true → Past 32 was s list r → Past b was s list r
  past_gap d g p = record { within = p.within; same = λ rest. p.same rest ∙ gap_read was s rest b d g }

  pub past_other : (list : List ℕ) → is_digit b ≡ false → is_gap b ≡ false → Past b was s list None
  past_other list d g = past_refused was s b list (λ rest. byte-refused was s rest b d g)

-- ---- the whole text

-- the text is read, and a blank after it: i is its length or more
pub past_text : (was : List ℕ) (s : Scan) (text : List ℕ) (i : ℕ) (list : List ℕ) (r : Option Scan) → length text ≤ i → Past 32 was s list r
    → outcome was s (drop i text) ≡ outcome_after list r []
past_text was s text i list r h p = rw (drop_of_length-le text h) (sym (p.same [] ∙ last_blank was s))
