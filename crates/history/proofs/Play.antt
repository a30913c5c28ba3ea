-- Lists of reads described by what becomes of the rows: what the calls answer, and what 01's tally makes of it. Assumes
-- nothing.
use Prim.Native.Nat.{ℕ, zero, suc, ◌+◌, ◌*◌, ◌<◌, ◌≤◌}
use native.Mathlib.Nat.{suc-mul}
use native.Mathlib.Omega.{arith}
use mathlib.Core.Path.{◌≡◌, refl, ap, ◌∙◌, fun_ext}
use mathlib.Core.Bool.{false}
use mathlib.Core.List.{List, [], ◌∷◌, ◌++◌}
use lib.Dec.{leb}
use lib.ListN.{replicate}
use Rattle.geometry.specs.declared.Settings.{Settings}
use Rattle.engine.specs.State.{State}
use Rattle.engine.specs.Round.{skipped_of}
use Rattle.history.specs.Tally.{Report, Tally, hit, with_openings, after_access, next_epoch, feed, ends_epoch, Stretch, epochs}
use Rattle.basics.specs.Lists.{Each}
use Rattle.history.specs.Window.{fed, ticks_in}
use Rattle.history.specs.Tight.{Part, reads, ticks, read_of, calls_of}
use Rattle.history.proofs.Known.{Picture, Known, plus_at, place_in, after_reads, Fits, after_quarantine, after_tick}
use Rattle.history.proofs.Reading.{on_access, on_stay, on_want, on_tick, Leads, joined, one_tick}
use Rattle.history.proofs.Reading.{read_stays, read_goes, read_wants}

-- ---- courses

-- the course of a part: what becomes of a row that is read n times
pub data Course : Type 0 where
  -- it stays
  stays : Course
  -- with the last read it goes to slot d; v: the row sent home, 65535 for none
  goes : (d v : ℕ) → Course
  -- the last read finds no slot
  wants : Course

-- what its reads answer
abbrev pub answers_of : ℕ → ℕ → Course → List Report
answers_of r n stays = replicate n (on_stay r)
answers_of r zero (goes d v) = []
answers_of r (suc n) (goes d v) = replicate n (on_stay r) ++ on_access r d v ∷ []
answers_of r zero wants = []
answers_of r (suc n) wants = replicate n (on_stay r) ++ on_want r ∷ []

-- what a list answers, with a course for each of its parts that is no tick
abbrev pub reports_of : List Part → List Course → List Report
reports_of [] fs = []
reports_of (ticks ∷ ps) fs = on_tick ∷ reports_of ps fs
reports_of (reads r n ∷ ps) [] = []
reports_of (reads r n ∷ ps) (f ∷ fs) = answers_of r n f ++ reports_of ps fs

-- From a memory that is known as the first picture the parts take these courses, and lead to one that is known as the second. (`go`
-- takes any number of reads that makes the row due, so that a list with another number fails there.)
pub data Play (S : Settings) : Picture → List Part → List Course → Picture → Type 0 where
  done : {P : Picture} → Play S P [] [] P
  tick : {P P' : Picture} {ps : List Part} {fs : List Course} → Play S (after_tick P) ps fs P' → Play S P (ticks ∷ ps) fs P'
  stay : {P P' : Picture} {ps : List Part} {fs : List Course} {r n : ℕ} {used acts : ℕ → ℕ} → Fits S P r n used acts
      → P.estimates (place_in S P r) + n < S.a
      → Play S (after_reads S P r n used acts) ps fs P' → Play S P (reads r n ∷ ps) (stays ∷ fs) P'
  go : {P P' : Picture} {ps : List Part} {fs : List Course} {r n d v : ℕ} {used acts : ℕ → ℕ} → Fits S P r n used acts
      → P.estimates (place_in S P r) + n ≡ S.a → 0 < n
      → plus_at (place_in S P r) n P.estimates (S.n + P.head) < S.a → P.passed + 1 ≤ S.q
      → P.head ≡ d → P.reverse P.head ≡ v
      → Play S (after_quarantine S (after_reads S P r n used acts) r) ps fs P' → Play S P (reads r n ∷ ps) (goes d v ∷ fs) P'
  want : {P P' : Picture} {ps : List Part} {fs : List Course} {r n : ℕ} {used acts : ℕ → ℕ} → Fits S P r (suc n) used acts
      → P.estimates (place_in S P r) + suc n ≡ S.a
      → S.q < P.passed + suc (skipped_of (λ s. leb S.a (plus_at (place_in S P r) (suc n) P.estimates (S.n + s))) S.q S.q P.head)
      → Play S (after_reads S P r n used acts) ps fs P' → Play S P (reads r (suc n) ∷ ps) (wants ∷ fs) P'

module _ {S : Settings} where
  pub played : {P P' : Picture} {ps : List Part} {fs : List Course} → Play S P ps fs P' → {σ : State} → Known S σ P
      → Leads S σ (calls_of ps) (reports_of ps fs) P'
  played done K = record { told_is = refl; known = K }
  played (tick rest) K = let R = one_tick K in joined R (played rest R.known)
  played (stay {r = r} {n = n} F low rest) K = let R = read_stays S r n K F low in joined R (played rest R.known)
  played (go {n = zero} F due some free room at held rest) K = absurd (omega arith)
  played (go {P = P} {r = r} {n = suc n} {d = d} {v = v} {used = used} {acts = acts} F due some free room at held rest) {σ} K =
      let R = read_goes S r n K F due free room in
      let P'' : Picture = after_quarantine S (after_reads S P r (suc n) used acts) r in
      let R' : Leads S σ (replicate (suc n) (read_of r)) (replicate n (on_stay r) ++ on_access r d v ∷ []) P'' =
      record {
        told_is = R.told_is
            ∙ ap (λ (x : ℕ). replicate n (on_stay r) ++ on_access r x (P.reverse P.head) ∷ []) at
            ∙ ap (λ (x : ℕ). replicate n (on_stay r) ++ on_access r d x ∷ []) held;
        known = R.known;
      } in
      joined R' (played rest R'.known)
  played (want {r = r} {n = n} F due full rest) K = let R = read_wants S r n K F due full in joined R (played rest R.known)

  -- one list after another
  pub then : {P P₁ P' : Picture} {ps qs : List Part} {fs gs : List Course} → Play S P ps fs P₁ → Play S P₁ qs gs P'
      → Play S P (ps ++ qs) (fs ++ gs) P'
  then done next = next
  then (tick rest) next = tick (then rest next)
  then (stay F low rest) next = stay F low (then rest next)
  then (go F due some free room at held rest) next = go F due some free room at held (then rest next)
  then (want F due full rest) next = want F due full (then rest next)

-- ---- the tally

-- row r is read n times where it is
abbrev pub read_at : Tally → ℕ → ℕ → Tally
read_at τ r n = with_openings τ (λ x. τ.openings x + n * hit (τ.place r) x)

-- after n reads of row r with that course
abbrev pub tally_of : Settings → Tally → ℕ → ℕ → Course → Tally
tally_of S τ r n stays = read_at τ r n
tally_of S τ r zero (goes d v) = τ
tally_of S τ r (suc n) (goes d v) = after_access S (read_at τ r n) r d v
tally_of S τ r zero wants = τ
tally_of S τ r (suc n) wants = read_at τ r n

abbrev pub tallied : Settings → Tally → List Part → List Course → Tally
tallied S τ [] fs = τ
tallied S τ (ticks ∷ ps) fs = tallied S (next_epoch τ) ps fs
tallied S τ (reads r n ∷ ps) [] = τ
tallied S τ (reads r n ∷ ps) (f ∷ fs) = tallied S (tally_of S τ r n f) ps fs

-- the epochs; τ₀: the tally at the start of the one that runs
abbrev pub epochs_of : Settings → Tally → Tally → List Part → List Course → List Stretch
epochs_of S τ₀ τ [] fs = record { first = τ₀; last = τ } ∷ []
epochs_of S τ₀ τ (ticks ∷ ps) fs = record { first = τ₀; last = next_epoch τ } ∷ epochs_of S (next_epoch τ) (next_epoch τ) ps fs
epochs_of S τ₀ τ (reads r n ∷ ps) [] = record { first = τ₀; last = τ } ∷ []
epochs_of S τ₀ τ (reads r n ∷ ps) (f ∷ fs) = epochs_of S τ₀ (tally_of S τ r n f) ps fs

abbrev pub ticks_of : List Part → List Course → ℕ
ticks_of [] fs = 0
ticks_of (ticks ∷ ps) fs = suc (ticks_of ps fs)
ticks_of (reads r n ∷ ps) [] = 0
ticks_of (reads r n ∷ ps) (f ∷ fs) = ticks_of ps fs

-- reports among which there is no accepted tick
abbrev Calm : List Report → Type 0
Calm es = Each (λ e. ends_epoch e ≡ false) es

calm_reads : (r n : ℕ) → Calm (replicate n (on_stay r))
calm_reads r zero = tt
calm_reads r (suc n) = (refl, calm_reads r n)

calm_then : (r n : ℕ) (e : Report) → ends_epoch e ≡ false → Calm (replicate n (on_stay r) ++ e ∷ [])
calm_then r zero e k = (k, tt)
calm_then r (suc n) e k = (refl, calm_then r n e k)

calm : (r n : ℕ) (f : Course) → Calm (answers_of r n f)
calm r n stays = calm_reads r n
calm r zero (goes d v) = tt
calm r (suc n) (goes d v) = calm_then r n (on_access r d v) refl
calm r zero wants = tt
calm r (suc n) wants = calm_then r n (on_want r) refl

ticks_calm : (xs es : List Report) → Calm xs → ticks_in (xs ++ es) ≡ ticks_in es
ticks_calm [] es k = refl
ticks_calm (x ∷ xs) es k = rw k.0 (ticks_calm xs es k.1)

module _ (S : Settings) where
  fed-append : (xs es : List Report) (τ : Tally) → fed S τ (xs ++ es) ≡ fed S (fed S τ xs) es
  fed-append [] es τ = refl
  fed-append (x ∷ xs) es τ = fed-append xs es (feed S τ x)

  epochs_calm : (xs es : List Report) (τ₀ τ : Tally) → Calm xs → epochs S τ₀ τ (xs ++ es) ≡ epochs S τ₀ (fed S τ xs) es
  epochs_calm [] es τ₀ τ k = refl
  epochs_calm (x ∷ xs) es τ₀ τ k = rw k.0 (epochs_calm xs es τ₀ (feed S τ x) k.1)

  fed_stays : (r n : ℕ) (τ : Tally) → fed S τ (replicate n (on_stay r)) ≡ read_at τ r n
  fed_stays r zero τ = ap (with_openings τ) (fun_ext (λ x. let none : τ.openings x ≡ τ.openings x + 0 * hit (τ.place r) x = omega arith in none))
  fed_stays r (suc n) τ =
      fed_stays r n (feed S τ (on_stay r))
      ∙ ap (with_openings τ) (fun_ext (λ x.
      let h : ℕ = hit (τ.place r) x in
      let more : τ.openings x + (h + 0) + n * h ≡ τ.openings x + suc n * h = omega (arith, suc-mul n h) in
      more))

  fed_one : (r n : ℕ) (f : Course) (τ : Tally) → fed S τ (answers_of r n f) ≡ tally_of S τ r n f
  fed_one r n stays τ = fed_stays r n τ
  fed_one r zero (goes d v) τ = refl
  fed_one r (suc n) (goes d v) τ =
      fed-append (replicate n (on_stay r)) (on_access r d v ∷ []) τ ∙ ap (λ (τ : Tally). feed S τ (on_access r d v)) (fed_stays r n τ)
  fed_one r zero wants τ = refl
  fed_one r (suc n) wants τ = fed-append (replicate n (on_stay r)) (on_want r ∷ []) τ ∙ fed_stays r n τ

  pub fed_all : (ps : List Part) (fs : List Course) (τ : Tally) → fed S τ (reports_of ps fs) ≡ tallied S τ ps fs
  fed_all [] fs τ = refl
  fed_all (ticks ∷ ps) fs τ = fed_all ps fs (next_epoch τ)
  fed_all (reads r n ∷ ps) [] τ = refl
  fed_all (reads r n ∷ ps) (f ∷ fs) τ =
      fed-append (answers_of r n f) (reports_of ps fs) τ ∙ ap (λ (τ : Tally). fed S τ (reports_of ps fs)) (fed_one r n f τ)
      ∙ fed_all ps fs (tally_of S τ r n f)

  pub epochs_all : (ps : List Part) (fs : List Course) (τ₀ τ : Tally) → epochs S τ₀ τ (reports_of ps fs) ≡ epochs_of S τ₀ τ ps fs
  epochs_all [] fs τ₀ τ = refl
  epochs_all (ticks ∷ ps) fs τ₀ τ = ap (λ (es : List Stretch). record { first = τ₀; last = next_epoch τ } ∷ es) (epochs_all ps fs (next_epoch τ) (next_epoch τ))
  epochs_all (reads r n ∷ ps) [] τ₀ τ = refl
  epochs_all (reads r n ∷ ps) (f ∷ fs) τ₀ τ =
      epochs_calm (answers_of r n f) (reports_of ps fs) τ₀ τ (calm r n f) ∙ ap (λ (τ : Tally). epochs S τ₀ τ (reports_of ps fs)) (fed_one r n f τ)
      ∙ epochs_all ps fs τ₀ (tally_of S τ r n f)

pub ticks_all : (ps : List Part) (fs : List Course) → ticks_in (reports_of ps fs) ≡ ticks_of ps fs
ticks_all [] fs = refl
ticks_all (ticks ∷ ps) fs = ap suc (ticks_all ps fs)
ticks_all (reads r n ∷ ps) [] = refl
ticks_all (reads r n ∷ ps) (f ∷ fs) = ticks_calm (answers_of r n f) (reports_of ps fs) (calm r n f) ∙ ticks_all ps fs
