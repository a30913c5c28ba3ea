-- One row read n times from a memory that is known. Assumes nothing.
use Prim.Native.Nat.{ℕ, zero, suc, ◌+◌, ◌<◌, ◌≤◌}
use native.Mathlib.Nat.{le_refl, zero-lt-suc}
use native.Mathlib.Numerals.{add-one}
use native.Mathlib.Omega.{arith}
use mathlib.Core.Path.{◌≡◌, refl, sym, ap, ◌∙◌, subst, fun_ext}
use mathlib.Core.Logic.{inl, inr}
use mathlib.Core.Bool.{cond}
use mathlib.Core.List.{List, [], ◌∷◌, ◌++◌, map, map-append}
use lib.Dec.{leb, eqb}
use lib.ListN.{replicate, replicate-append-replicate}
use borrow.Author.Tests.{eq-eqb, ne_eqb}
use Rattle.geometry.specs.declared.Settings.{Settings}
use Rattle.geometry.specs.Entry.{empty}
use Rattle.basics.proofs.Cases.{split, eq?}
use Rattle.banks.specs.Banks.{bank_of}
use Rattle.engine.specs.State.{State}
use Rattle.engine.specs.Round.{skipped_of}
use Rattle.history.specs.Tally as tally
use Rattle.history.specs.Run.{Call, tick, Step, step, run, event_of, events, report_of}
use Rattle.history.specs.Tight.{read_of}
use Rattle.history.proofs.Groups.{ladder, accepted_step, accepted-step, refused_step, refused-step}
use Rattle.history.proofs.Calls.{carried_on, tick_passed}
use Rattle.history.proofs.Known.{Picture, Shown, Known, plus_at, place_in, after_reads, Fits, after_quarantine, after_tick, shown-tick, recounted, known_again}
use Rattle.history.proofs.OneRead.{ReadOnce, stays_once, wants_once, goes_once}

-- what the tally is fed of a list of calls
abbrev pub told : Settings → State → List Call → List tally.Report
told S σ cs = map report_of (events S σ cs)

-- the report on an access of row r that is accepted, with what it answers; on one that leaves the row where it is; on one that
-- finds no slot; on a tick
abbrev pub on_access : ℕ → ℕ → ℕ → tally.Report
on_access r slot row = record { request = tally.access r; number = 0; slot = slot; row = row }

abbrev pub on_stay : ℕ → tally.Report
on_stay r = on_access r empty empty

abbrev pub on_want : ℕ → tally.Report
on_want r = record { request = tally.access r; number = 9; slot = empty; row = empty }

abbrev pub on_tick : tally.Report
on_tick = record { request = tally.tick; number = 0; slot = empty; row = empty }

-- ---- one list after another

module _ (S : Settings) where
  run-append : (cs ds : List Call) (σ : State) → run S σ (cs ++ ds) ≡ run S (run S σ cs) ds
  run-append [] ds σ = refl
  run-append (c ∷ cs) ds σ = run-append cs ds (step S σ c).state

  pub events-append : (cs ds : List Call) (σ : State) → events S σ (cs ++ ds) ≡ events S σ cs ++ events S (run S σ cs) ds
  events-append [] ds σ = refl
  events-append (c ∷ cs) ds σ = ap (λ es. event_of c (step S σ c) ∷ es) (events-append cs ds (step S σ c).state)

  told-append : (cs ds : List Call) (σ : State) → told S σ (cs ++ ds) ≡ told S σ cs ++ told S (run S σ cs) ds
  told-append cs ds σ = ap (map report_of) (events-append cs ds σ) ∙ map-append report_of (events S σ cs) (events S (run S σ cs) ds)

-- the calls are answered so, and lead to a memory that is known
pub record Leads (S : Settings) (σ : State) (cs : List Call) (es : List tally.Report) (P : Picture) : Type 0 where
  pub told_is : told S σ cs ≡ es
  pub known : Known S (run S σ cs) P

module _ {S : Settings} where
  pub joined : {σ : State} {cs ds : List Call} {es fs : List tally.Report} {P P' : Picture}
      → Leads S σ cs es P → Leads S (run S σ cs) ds fs P' → Leads S σ (cs ++ ds) (es ++ fs) P'
  joined {σ} {cs} {ds} {P' = P'} R R' =
      record {
        told_is = told-append S cs ds σ ∙ rw (R.told_is, R'.told_is);
        known = subst (λ (σ' : State). Known S σ' P') (sym (run-append S cs ds σ)) R'.known;
      }

  leads_again : {σ : State} {cs : List Call} {es : List tally.Report} {P : Picture} {estimates used acts : ℕ → ℕ} → Leads S σ cs es P
      → ((x : ℕ) → x < S.n + S.q → P.estimates x ≡ estimates x) → ((c : ℕ) → P.used c ≤ used c) → ((c : ℕ) → P.acts c ≤ acts c)
      → Leads S σ cs es (recounted P estimates used acts)
  leads_again R same more-used more-acts = record { told_is = R.told_is; known = known_again R.known same more-used more-acts }

-- ---- one call

module _ {S : Settings} {σ : State} {P : Picture} (K : Known S σ P) where
  by_step : (c : Call) (s : Step) {P' : Picture} → step S σ c ≡ s → Shown S s.state P' → Leads S σ (c ∷ []) (report_of (event_of c s) ∷ []) P'
  by_step c s {P'} e sh =
      record {
        told_is = ap (λ (x : Step). report_of (event_of c x) ∷ []) e;
        known = record {
          narrow = K.narrow;
          τ₀ = _;
          τ = _;
          inv = (carried_on S σ K.τ₀ K.τ K.inv c).1;
          shown = subst (λ (x : Step). Shown S x.state P') (sym e) sh;
        };
      }

  pub one_tick : Leads S σ (tick ∷ []) (on_tick ∷ []) (after_tick P)
  one_tick = by_step tick (accepted_step S σ tick) (accepted-step S σ tick (tick_passed S σ K.τ₀ K.τ K.inv)) (shown-tick S σ P K)

  -- an accepted read of row r
  one_read : {r slot row : ℕ} {P' : Picture} → ReadOnce S σ r slot row P' → Leads S σ (read_of r ∷ []) (on_access r slot row ∷ []) P'
  one_read {r} O =
      let R = by_step (read_of r) (accepted_step S σ (read_of r)) (accepted-step S σ (read_of r) O.number_is) O.shown in
      record { told_is = R.told_is ∙ rw (O.slot_is, O.row_is); known = R.known }

  -- one that finds no slot
  one_refused : (r : ℕ) → ladder S σ (read_of r) ≡ 9 → Leads S σ (read_of r ∷ []) (on_want r ∷ []) P
  one_refused r z =
      let R = by_step (read_of r) (refused_step S σ (read_of r)) (refused-step S σ (read_of r) (λ e. omega arith)) K.shown in
      record { told_is = R.told_is ∙ rw z; known = R.known }

-- ---- n reads of row r

plus_here : (p n : ℕ) (f : ℕ → ℕ) → plus_at p n f p ≡ f p + n
plus_here p n f = rw (eq-eqb p p refl)

plus_twice : (p m n : ℕ) (f : ℕ → ℕ) (x : ℕ) → plus_at p n (plus_at p m f) x ≡ plus_at p (m + n) f x
plus_twice p m n f x = elim (eq? x p) [ inl e ↦ rw (eq-eqb x p e) (omega arith) | inr k ↦ rw (ne_eqb x p k) ]

-- f with n more at p is at most g
plus_most : (p n : ℕ) (f g : ℕ → ℕ) → ((c : ℕ) → f c ≤ g c) → f p + n ≤ g p → (c : ℕ) → plus_at p n f c ≤ g c
plus_most p n f g kept more c =
    elim (eq? c p) [
      | inl e ↦ rw (eq-eqb c p e) (subst (λ (x : ℕ). f x + n ≤ g x) (sym e) more)
      | inr k ↦ rw (ne_eqb c p k) (kept c)
    ]

module _ (S : Settings) (r : ℕ) where
  -- After n of n + 1 reads: the entries that have counted, which are those of before where n is 0; the accesses; the picture
  abbrev used_by : Picture → ℕ → (ℕ → ℕ) → ℕ → ℕ
  used_by P n used = λ c. cond (eqb n 0) (P.used c) (used c)

  abbrev acts_by : Picture → ℕ → ℕ → ℕ
  acts_by P n = plus_at (bank_of S (place_in S P r)) n P.acts

  abbrev mid : Picture → ℕ → (ℕ → ℕ) → Picture
  mid P n used = after_reads S P r n (used_by P n used) (acts_by P n)

  module _ (n : ℕ) {P : Picture} {used acts : ℕ → ℕ} (F : Fits S P r (suc n) used acts) where
    acts_at : acts_by P n (bank_of S (place_in S P r)) ≡ P.acts (bank_of S (place_in S P r)) + n
    acts_at = plus_here (bank_of S (place_in S P r)) n P.acts

    estimate-at : (mid P n used).estimates (place_in S P r) ≡ P.estimates (place_in S P r) + n
    estimate-at = plus_here (place_in S P r) n P.estimates

    used_mid : (c : ℕ) → used_by P n used c ≤ used c
    used_mid c = elim (split (eqb n 0)) [ inl k ↦ rw k (F.used_kept c) | inr k ↦ rw k (le_refl (used c)) ]

    acts_mid : (c : ℕ) → acts_by P n c ≤ acts c
    acts_mid = plus_most (bank_of S (place_in S P r)) n P.acts acts F.acts_kept (omega (arith, F.acts_more))

    -- the n reads fit,
    first_fits : Fits S P r n (used_by P n used) (acts_by P n)
    first_fits =
        record {
          row_in = F.row_in;
          used_kept = λ c. elim (split (eqb n 0)) [ inl k ↦ rw k (le_refl (P.used c)) | inr k ↦ rw k (F.used_kept c) ];
          used_more = λ some e. rw (ne_eqb n 0 (λ z. omega arith)) (F.used_more (zero-lt-suc n) e);
          used_in = omega (arith, used_mid (bank_of S (place_in S P r)), F.used_in);
          acts_kept = λ c.
              elim (split (eqb c (bank_of S (place_in S P r)))) [ inl k ↦ rw k (omega arith) | inr k ↦ rw k (le_refl (P.acts c)) ];
          acts_more = omega (arith, acts_at);
          acts_in = omega (arith, acts_at, F.acts_more, F.acts_in);
        }

    -- and so does the last
    last_fits : Fits S (mid P n used) r 1 used acts
    last_fits =
        record {
          row_in = F.row_in;
          used_kept = used_mid;
          used_more = λ some e.
              rw (eq-eqb n 0 (omega (arith, estimate-at))) (F.used_more (zero-lt-suc n) (omega (arith, estimate-at)));
          used_in = F.used_in;
          acts_kept = acts_mid;
          acts_more = omega (arith, acts_at, F.acts_more);
          acts_in = F.acts_in;
        }

    twice : (x : ℕ) → plus_at (place_in S P r) 1 (mid P n used).estimates x ≡ plus_at (place_in S P r) (suc n) P.estimates x
    twice x = plus_twice (place_in S P r) n 1 P.estimates x ∙ rw add-one

  -- the first and the last are n + 1 reads
  together : (n : ℕ) {σ : State} {es fs : List tally.Report} {P P' : Picture} → Leads S σ (replicate n (read_of r)) es P
      → Leads S (run S σ (replicate n (read_of r))) (read_of r ∷ []) fs P' → Leads S σ (replicate (suc n) (read_of r)) (es ++ fs) P'
  together n {σ} {es} {fs} {P' = P'} first last =
      subst (λ (cs : List Call). Leads S σ cs (es ++ fs) P') (replicate-append-replicate n 1 (read_of r) ∙ rw add-one) (joined first last)

  -- they leave it where it is
  pub read_stays : (n : ℕ) {σ : State} {P : Picture} {used acts : ℕ → ℕ} → Known S σ P → Fits S P r n used acts
      → P.estimates (place_in S P r) + n < S.a
      → Leads S σ (replicate n (read_of r)) (replicate n (on_stay r)) (after_reads S P r n used acts)
  read_stays zero {P = P} K F low =
      record {
        told_is = refl;
        known = known_again K
            (λ x b. elim (split (eqb x (place_in S P r))) [ inl k ↦ rw k (omega arith) | inr k ↦ rw k ])
            F.used_kept F.acts_kept;
      }
  read_stays (suc n) {σ} {P} {used} {acts} K F low =
      let first = read_stays n K (first_fits n F) (omega arith) in
      let last = one_read first.known (stays_once first.known (last_fits n F) (omega (arith, estimate-at n F))) in
      subst (λ (es : List tally.Report). Leads S σ (replicate (suc n) (read_of r)) es (after_reads S P r (suc n) used acts))
      (replicate-append-replicate n 1 (on_stay r) ∙ rw add-one)
      (together n first (leads_again last (λ x b. twice n F x) (λ c. le_refl (used c)) (λ c. le_refl (acts c))))

  -- with the last it is to be moved,
  module _ (n : ℕ) {σ : State} {P : Picture} {used acts : ℕ → ℕ} (K : Known S σ P) (F : Fits S P r (suc n) used acts)
      (due : P.estimates (place_in S P r) + suc n ≡ S.a) where
    first : Leads S σ (replicate n (read_of r)) (replicate n (on_stay r)) (mid P n used)
    first = read_stays n K (first_fits n F) (omega arith)

    last_due : (mid P n used).estimates (place_in S P r) + 1 ≡ S.a
    last_due = omega (arith, estimate-at n F)

    -- and finds no slot
    pub read_wants : S.q < P.passed + suc (skipped_of (λ s. leb S.a (plus_at (place_in S P r) (suc n) P.estimates (S.n + s))) S.q S.q P.head)
        → Leads S σ (replicate (suc n) (read_of r)) (replicate n (on_stay r) ++ on_want r ∷ []) (after_reads S P r n used acts)
    read_wants full =
        let still =
        subst (λ (f : ℕ → ℕ). S.q < P.passed + suc (skipped_of (λ s. leb S.a (f (S.n + s))) S.q S.q P.head))
        (sym (fun_ext (twice n F))) full in
        together n first
        (leads_again (one_refused first.known r (wants_once first.known (last_fits n F) last_due still))
        (λ x b. refl) (used_mid n F) (acts_mid n F))

    -- and goes to the slot at the head, which is not worn
    pub read_goes : plus_at (place_in S P r) (suc n) P.estimates (S.n + P.head) < S.a → P.passed + 1 ≤ S.q
        → Leads S σ (replicate (suc n) (read_of r)) (replicate n (on_stay r) ++ on_access r P.head (P.reverse P.head) ∷ [])
        (after_quarantine S (after_reads S P r (suc n) used acts) r)
    read_goes free room =
        together n first
        (leads_again
        (one_read first.known (goes_once first.known (last_fits n F) last_due (omega (arith, twice n F (S.n + P.head))) room))
        (λ x b. twice n F x) (λ c. le_refl (used c)) (λ c. le_refl (acts c)))
