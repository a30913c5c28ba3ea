-- The form of a trace, from the list of its numbers, and from what was read of a text. Assumes nothing.
use Prim.Native.Nat.{ℕ, ◌+◌, ◌-◌, ◌<◌, ◌≤◌}
use native.Mathlib.Nat.{le_refl}
use native.Mathlib.Omega.{arith}
use mathlib.Core.Path.{◌≡◌, refl, sym, ap, ◌∙◌, subst}
use mathlib.Core.Logic.{◌⊎◌, inl, inr}
use mathlib.Core.Bool.{Bool, true, false, cond, ◌&&◌}
use mathlib.Core.List.{List}
use lib.Dec.{eqb, leb}
use lib.ListN.{length, get_or, take, drop}
use lib.Seq.{length-take-le, take-take, take-add, drop_at, take_all}
use borrow.Author.Tests.{eq-eqb, ne_eqb, le-leb, lt-leb, leb-true, leb-false, eqb-true}
use Rattle.std.specs.Prelude.{Option, None, Some}
use Rattle.std.specs.declared.ops.Range.{Range}
use Rattle.std.proofs.lemmas.Option.{none-some, same_Some}
use Rattle.basics.proofs.Cases.{split, eq?}
use Rattle.basics.proofs.Tests.{and_left, and_right}
use Rattle.number_text.specs.Numbers.{numbers, readable, numbers_within}
use Rattle.geometry.specs.declared.Settings.{Settings}
use Rattle.trace_file.specs.Form.{first_count, second_count, steps_at, is_first_count, has_sections, banks_in, settings_of}
use Rattle.trace_file.specs.Form.{Recorded, form_of, recorded, sections, file_fits, form_in, trace_in}
use Rattle.trace_file.specs.Form.{most_numbers, form_within, trace_within, StepsWithin}
use Rattle.trace_file.specs.declared.Trace.{Trace}
use Rattle.trace_file.specs.Trace.{counted}

-- a first count that is taken
first_known : (x : ℕ) → is_first_count x ≡ true → (x ≡ 6) ⊎ (x ≡ 7)
first_known x e = elim (split (eqb x 6)) [ inl f ↦ inl (eqb-true x 6 f) | inr f ↦ inr (eqb-true x 7 (rw f at e)) ]

pub first-least : (x : ℕ) → is_first_count x ≡ true → 6 ≤ x
first-least x e = elim (first_known x e) [ inl f ↦ omega arith | inr f ↦ omega arith ]

pub first_most : (x : ℕ) → is_first_count x ≡ true → x ≤ 7
first_most x e = elim (first_known x e) [ inl f ↦ omega arith | inr f ↦ omega arith ]

-- ---- a list of numbers

-- what 'in two sections' says of it
record Sectioned (xs : List ℕ) : Type 0 where
  taken : is_first_count (first_count xs) ≡ true
  few : second_count xs ≤ 4096
  whole : length xs ≡ steps_at xs + second_count xs

module _ (xs : List ℕ) where
  sectioned : has_sections xs ≡ true → Sectioned xs
  unfolding has_sections
  sectioned e =
      let first : Bool = is_first_count (first_count xs) in
      let second : Bool = leb (second_count xs) 4096 in
      let all : Bool = eqb (length xs) (steps_at xs + second_count xs) in
      record {
        taken = and_left first second (and_left (first && second) all e);
        few = leb-true (second_count xs) 4096 (and_right first second (and_left (first && second) all e));
        whole = eqb-true (length xs) (steps_at xs + second_count xs) (and_right (first && second) all e);
      }

  -- else it is refused
  not_sectioned : (Sectioned xs → ⊥) → has_sections xs ≡ false
  not_sectioned n = elim (split (has_sections xs)) [ inl e ↦ absurd (n (sectioned e)) | inr e ↦ e ]

  refused : (Sectioned xs → ⊥) → (form_of xs ≡ None) × (sections xs ≡ None)
  refused n = rw (not_sectioned n) (refl, refl)

  -- neither six settings and a second count, nor seven
  pub other_form : (first_count xs ≡ 6 → 8 ≤ length xs → ⊥) → (first_count xs ≡ 7 → 9 ≤ length xs → ⊥) → form_of xs ≡ None
  other_form six seven =
      (refused
      (λ s. elim (first_known (first_count xs) s.taken) [
        | inl e ↦ six e (omega (arith, s.whole))
        | inr e ↦ seven e (omega (arith, s.whole))
      ])).0

  -- no second section: fewer numbers than the first count requires, or than any first count requires
  pub one_section : length xs < steps_at xs → (form_of xs ≡ None) × (sections xs ≡ None)
  one_section h = refused (λ s. omega (arith, s.whole))

  pub fewer_than_eight : length xs < 8 → (form_of xs ≡ None) × (sections xs ≡ None)
  fewer_than_eight h = refused (λ s. omega (arith, s.whole, first-least (first_count xs) s.taken))

  -- more numbers than the longest trace has
  too_many : most_numbers < length xs → form_of xs ≡ None
  too_many h = (refused (λ s. omega (arith, s.whole, s.few, first_most (first_count xs) s.taken))).0

-- the same test, of the numbers after the first k
eqb_behind : (n k c : ℕ) → k ≤ n → eqb n (k + c) ≡ eqb (n - k) c
eqb_behind n k c h =
    elim (eq? (n - k) c) [
      | inl e ↦ rw (eq-eqb (n - k) c e) (eq-eqb n (k + c) (omega (arith, e)))
      | inr e ↦ rw (ne_eqb (n - k) c e) (ne_eqb n (k + c) (λ f. e (omega (arith, f))))
    ]

-- a first count that is taken, and a second one
module _ (xs : List ℕ) (first : ℕ) (is : first_count xs ≡ first) (known : is_first_count first ≡ true) (enough : first + 2 ≤ length xs) where
  abbrev count : ℕ
  count = get_or xs (first + 1) 0

  -- the places of all that follows
  abbrev places : Range ℕ
  places = record { start = first + 2; end = length xs }

  tested : has_sections xs ≡ (leb count 4096 && eqb (length xs - (first + 2)) count)
  unfolding has_sections
  tested = rw (is, known, eqb_behind (length xs) (first + 2) count enough) refl

  pub with_settings : counted (settings_of xs) count places ≡ form_of xs
  with_settings =
      sym (elim (split (leb count 4096 && eqb (length xs - (first + 2)) count)) [
        | inl e ↦
            let same = eqb-true (length xs - (first + 2)) count (and_right (leb count 4096) _ e) in
            let whole : length xs ≡ first + 2 + count = omega (arith, same, enough) in
            rw (tested, e, is, whole) refl
        | inr e ↦ rw (tested, e) refl
      ])

-- six settings, or seven, as the match has them
abbrev with_banks : List ℕ → ℕ → Settings
with_banks xs b = record (settings_of xs) { b = b }

module _ (xs : List ℕ) where
  one_bank : first_count xs ≡ 6 → banks_in xs ≡ 1
  unfolding banks_in
  one_bank e = rw e refl

  seventh : first_count xs ≡ 7 → banks_in xs ≡ get_or xs 7 0
  unfolding banks_in
  seventh e = rw e refl

  pub six_form : first_count xs ≡ 6 → 8 ≤ length xs
      → counted (with_banks xs 1) (get_or xs 7 0) (record { start = 8; end = length xs }) ≡ form_of xs
  six_form e h =
      ap (λ (b : ℕ). counted (with_banks xs b) (get_or xs 7 0) (record { start = 8; end = length xs })) (sym (one_bank e))
      ∙ with_settings xs 6 e refl h

  pub seven_form : first_count xs ≡ 7 → 9 ≤ length xs
      → counted (with_banks xs (get_or xs 7 0)) (get_or xs 8 0) (record { start = 9; end = length xs }) ≡ form_of xs
  seven_form e h =
      ap (λ (b : ℕ). counted (with_banks xs b) (get_or xs 8 0) (record { start = 9; end = length xs })) (sym (seventh e))
      ∙ with_settings xs 7 e refl h

-- ---- the steps stand in the list

module _ (list : List ℕ) (count : ℕ) (room : count ≤ length list) where
  -- they end where the numbers end, and are the same in the whole list
  steps_same : (first steps : ℕ) → count ≡ first + steps
      → take steps (drop first list) ≡ take steps (drop first (take count list))
  steps_same first steps e =
      let part = take steps (drop first list) in
      let cut : drop first (take count list) ≡ part =
      ap (λ (n : ℕ). drop first (take n list)) e
      ∙ ap (drop first) (take-add first steps list)
      ∙ drop_at (take first list) part first (length-take-le first list (omega arith)) in
      sym (ap (take steps) cut ∙ take-take steps steps (drop first list) (le_refl steps))

  pub said_in_list : recorded (form_of (take count list)) list ≡ sections (take count list)
  said_in_list =
      let xs = take count list in
      let trace : List ℕ → Option Recorded = λ steps. Some (record { settings = settings_of xs; steps = steps }) in
      let many : steps_at xs + second_count xs - steps_at xs ≡ second_count xs = omega arith in
      elim (split (has_sections xs)) [
        | inl e ↦
            let whole = sym (length-take-le count list room) ∙ (sectioned xs e).whole in
            rw (e, many) (ap trace (steps_same (steps_at xs) (second_count xs) whole))
        | inr e ↦ rw e refl
      ]

-- within the numbers of the longest trace
within_if : (test : Bool) (form : Option Trace) → (test ≡ true → StepsWithin form) → StepsWithin (cond test form None)
within_if true form h = h refl
within_if false form h = tt

pub form-within : (room : ℕ) (text : List ℕ) → StepsWithin (form_within room text)
unfolding form_within form_in
form-within room text =
    let xs = numbers text in
    let trace : Trace = record { settings = settings_of xs; start = steps_at xs; end = steps_at xs + second_count xs } in
    within_if (leb most_numbers room) (form_in text)
    (λ wide. within_if (file_fits text && readable text) (form_of xs)
    (λ read. within_if (has_sections xs) (Some trace)
    (λ e. let s = sectioned xs e in (omega (arith, first_most (first_count xs) s.taken), omega arith, omega (arith, s.few)))))

pub steps_within : (room : ℕ) (text : List ℕ) {form : Option Trace} → form ≡ form_within room text → StepsWithin form
steps_within room text e = subst StepsWithin (sym e) (form-within room text)

-- ---- a text, read into a list of `room` places

-- two forms that are one say the same
pub said_same : (list : List ℕ) {form other : Option Trace} → form ≡ other → recorded form list ≡ recorded other list
said_same list e = ap (λ (f : Option Trace). recorded f list) e

-- what a text's form says is what the text says
module _ (text : List ℕ) where
  numbers_say : recorded (form_of (numbers text)) (numbers text) ≡ sections (numbers text)
  numbers_say =
      let xs = numbers text in
      let all = take_all (length xs) xs (le_refl (length xs)) in
      subst (λ (ys : List ℕ). recorded (form_of ys) xs ≡ sections ys) all (said_in_list xs (length xs) (le_refl (length xs)))

  pub text_says : recorded (form_in text) (numbers text) ≡ trace_in text
  unfolding form_in trace_in
  text_says = elim (split (file_fits text && readable text)) [ inl f ↦ rw f numbers_say | inr f ↦ rw f refl ]

  pub form_says : (room : ℕ) → recorded (form_within room text) (numbers text) ≡ trace_within room text
  unfolding form_within trace_within
  form_says room = elim (split (leb most_numbers room)) [ inl wide ↦ rw wide text_says | inr small ↦ rw small refl ]

-- the text is refused, as `parse` promises it
abbrev Refuses : ℕ → List ℕ → Type 0
Refuses room text = (None ≡ form_within room text) × (None ≡ trace_within room text)

module _ (text : List ℕ) (room : ℕ) where
  refuses : form_within room text ≡ None → Refuses room text
  refuses e = (sym e, said_same (numbers text) (sym e) ∙ form_says text room)

  pub no_room : room < most_numbers → Refuses room text
  unfolding form_within
  no_room h = refuses (rw (lt-leb most_numbers room h) refl)

  module _ (wide : most_numbers ≤ room) where
    wide_form : form_within room text ≡ form_in text
    unfolding form_within
    wide_form = rw (le-leb most_numbers room wide) refl

    pub enough_room : trace_within room text ≡ trace_in text
    unfolding trace_within
    enough_room = rw (le-leb most_numbers room wide) refl

    pub too_long : 65536 < length text → Refuses room text
    unfolding form_in
    too_long h = refuses (rw (wide_form, lt-leb (length text) 65536 h) refl)

    module _ (short : length text ≤ 65536) where
      -- no trace is lost for want of room
      pub none_read : None ≡ numbers_within room text → Refuses room text
      unfolding form_in numbers_within
      none_read e =
          refuses
          (rw (wide_form, le-leb (length text) 65536 short)
          (elim (split (readable text)) [
            | inl r ↦ rw r (elim (split (leb (length (numbers text)) room)) [
              | inl f ↦ absurd (none-some (numbers text) (rw (r, f) at e))
              | inr f ↦ too_many (numbers text) (omega (arith, leb-false (length (numbers text)) room f))
            ])
            | inr r ↦ rw r refl
          ]))

      -- xs was read: these are all numbers, and they tell the form
      all_read : (xs : List ℕ) → Some xs ≡ numbers_within room text
          → (xs ≡ numbers text) × (form_of (numbers text) ≡ form_within room text)
      unfolding form_in numbers_within
      all_read xs e =
          elim (split (readable text && leb (length (numbers text)) room)) [
            | inl f ↦
                let read = and_left (readable text) (leb (length (numbers text)) room) f in
                (same_Some xs (numbers text) (rw f at e), rw (wide_form, le-leb (length text) 65536 short, read) refl)
            | inr f ↦ absurd (none-some xs (sym (rw f at e)))
          ]

      -- the first `count` numbers of the list were read
      pub some_read : {form : Option Trace} (list : List ℕ) (count : ℕ) → count ≤ length list
          → Some (take count list) ≡ numbers_within room text → form ≡ form_of (take count list)
          → (form ≡ form_within room text) × (recorded form list ≡ trace_within room text)
      some_read list count fits e f =
          let read = all_read (take count list) e in (
            f ∙ ap form_of read.0 ∙ read.1,
            said_same list f
                ∙ said_in_list list count fits
                ∙ ap sections read.0
                ∙ sym (numbers_say text)
                ∙ said_same (numbers text) read.1
                ∙ form_says text room,
          )
