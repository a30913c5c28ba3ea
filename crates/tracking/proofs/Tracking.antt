-- Step 2 in its three ways, told by the estimate of each place. Assumes nothing.
use Prim.Native.Nat.{ℕ, zero, suc, ◌+◌, ◌/◌, ◌%◌, ◌<◌, ◌≤◌}
use native.Mathlib.Nat.{le_antisymm}
use native.Mathlib.Omega.{arith}
use mathlib.Core.Path.{◌≡◌, refl, sym, ap, ◌∙◌, subst}
use mathlib.Core.Logic.{◌⊎◌, inl, inr, ◌≢◌}
use mathlib.Core.Bool.{Bool, cond}
use mathlib.Core.List.{List}
use lib.Dec.{eqb, eqb-suc-zero}
use lib.ListN.{length, get_or, set, length-set, get_or-eq_default}
use lib.Seq.{get_or-set_same, get_or-set_other}
use borrow.Author.Tests.{lt-ltb, le-ltb}
use Rattle.geometry.specs.Entry.{empty}
use Rattle.basics.proofs.Cases.{eq?, lt?}
use Rattle.scan.specs.Scan.{index_of}
use Rattle.tracking.specs.Track.{Tracked, raised, taken, spilled, track, is_due}
use Rattle.scan.proofs.Scans.{lowest_le, index_found, index_none, index_miss, index_set_other, index_set-new, index_apart}
use Rattle.tracking.proofs.Sums.{total, quotients, sum-set, suc_div, get_d_any}

-- the estimate of place q: the count of the entry that names it, or spill
unfoldable pub estimate_of : List ℕ → List ℕ → ℕ → ℕ → ℕ
estimate_of rows counts spill q = get_or counts (index_of q rows) spill

-- no two entries name one place; the mark for empty names none
unfoldable pub Distinct : List ℕ → Type 0
Distinct rows = (i j : ℕ) → i < length rows → j < length rows → get_or rows i 0 ≢ empty → get_or rows i 0 ≡ get_or rows j 0 → i ≡ j

abbrev pub one_if : Bool → ℕ
one_if b = cond b 1 0

-- what step 2 does at place p; t: what it leaves
pub record Tracking (a p : ℕ) (rows counts : List ℕ) (spill : ℕ) (t : Tracked) : Type 0 where
  pub rows_long : length t.rows ≡ length rows
  pub counts_long : length t.counts ≡ length counts
  pub summed : total t.counts + t.spill ≡ suc (total counts + spill)
  pub low : (i : ℕ) → i < length counts → t.spill ≤ get_or t.counts i 0
  pub spill_grows : spill ≤ t.spill
  pub distinct : Distinct t.rows
  pub same : estimate_of t.rows t.counts t.spill p ≡ suc (estimate_of rows counts spill p)
  pub other : (q : ℕ) → q ≢ p → q ≢ empty → (estimate_of t.rows t.counts t.spill q ≡ estimate_of rows counts spill q)
      ⊎ ((estimate_of t.rows t.counts t.spill q ≡ t.spill) × (estimate_of rows counts spill q ≤ t.spill))
  pub got : (t.estimate ≡ estimate_of t.rows t.counts t.spill p)
      ⊎ ((t.estimate ≡ 0) × (estimate_of t.rows t.counts t.spill p ≡ t.spill))
  pub quotients : quotients a t.counts ≡ quotients a counts + one_if (is_due a t.estimate)

module _ (a p : ℕ) (rows counts : List ℕ) (spill : ℕ) (pos : zero < a)
    (long : length rows ≡ length counts) (dis : Distinct rows) (low : (i : ℕ) → i < length counts → spill ≤ get_or counts i 0) where
  spilled_ok : length rows ≤ index_of p rows → length counts ≤ index_of spill counts → Tracking a p rows counts spill (spilled rows counts spill)
  unfolding estimate_of
  spilled_ok gone none =
      let here : (d : ℕ) → get_or counts (index_of p rows) d ≡ d = λ d. get_or-eq_default counts d (omega arith) in
      record {
        rows_long = refl;
        counts_long = refl;
        summed = omega arith;
        low = λ i b. let n : get_or counts i 0 ≢ spill = index_none spill counts 0 none i b in omega (arith, low i b);
        spill_grows = omega arith;
        distinct = dis;
        same = here (suc spill) ∙ ap suc (sym (here spill));
        other = λ q n r. elim (lt? (index_of q rows) (length counts)) [
          | inl k ↦ inl (get_d_any counts (index_of q rows) (suc spill) spill k)
          | inr k ↦ inr (get_or-eq_default counts (suc spill) k, omega (arith, get_or-eq_default counts spill k))
        ];
        got = inr (refl, here (suc spill));
        quotients = omega arith;
      }

  due_suc : (c : ℕ) → is_due a (suc c) ≡ eqb (suc c % a) 0
  due_suc c = rw (eqb-suc-zero c)

  -- one step of a count: the sum of the quotients
  quot-set : (i c : ℕ) → i < length counts → get_or counts i 0 ≡ c → quotients a (set counts i (suc c)) ≡ quotients a counts + one_if (is_due a (suc c))
  quot-set i c b e =
      let s : quotients a (set counts i (suc c)) + get_or counts i 0 / a ≡ quotients a counts + suc c / a = sum-set (λ x. x / a) counts i (suc c) b in
      let d : suc c / a ≡ c / a + one_if (eqb (suc c % a) 0) = suc_div a c pos in
      let s' : quotients a (set counts i (suc c)) + c / a ≡ quotients a counts + suc c / a = rw e at s in
      rw (due_suc c) (omega arith)

  raised_ok : index_of p rows < length rows → Tracking a p rows counts spill (raised rows counts spill (index_of p rows))
  unfolding estimate_of
  raised_ok h =
      let i : ℕ = index_of p rows in
      let c : ℕ = get_or counts (index_of p rows) 0 in
      let hc : index_of p rows < length counts = omega arith in
      let was : get_or counts (index_of p rows) spill ≡ get_or counts (index_of p rows) 0 = get_d_any counts (index_of p rows) spill 0 hc in
      let now : get_or (set counts (index_of p rows) (suc (get_or counts (index_of p rows) 0))) (index_of p rows) spill ≡ suc (get_or counts (index_of p rows) 0) = get_or-set_same counts (index_of p rows) (suc c) spill hc in
      let now0 : get_or (set counts (index_of p rows) (suc (get_or counts (index_of p rows) 0))) (index_of p rows) 0 ≡ suc (get_or counts (index_of p rows) 0) = get_or-set_same counts (index_of p rows) (suc c) 0 hc in
      record {
        rows_long = refl;
        counts_long = length-set counts i (suc c);
        summed = omega (arith, sum-set (λ x. x) counts i (suc c) hc);
        low = λ j b. elim (eq? j (index_of p rows)) [
          | inl e ↦ rw (e, now0) (omega (arith, low (index_of p rows) hc))
          | inr n ↦ rw (get_or-set_other counts i j (suc c) 0 n) (low j b)
        ];
        spill_grows = omega arith;
        distinct = dis;
        same = now ∙ ap suc (sym was);
        other = λ q n r. inl (get_or-set_other counts i (index_of q rows) (suc c) spill (index_apart q p rows n h));
        got = inl (sym now);
        quotients = quot-set i c hc refl;
      }

  module _ (gone : length rows ≤ index_of p rows) (j : ℕ) (hj : j < length counts) (spilt : get_or counts j 0 ≡ spill) where
    fresh : Distinct (set rows j p)
    unfolding Distinct
    fresh x y hx hy n e =
        let lx : x < length rows = subst (λ (m : ℕ). x < m) (length-set rows j p) hx in
        let ly : y < length rows = subst (λ (m : ℕ). y < m) (length-set rows j p) hy in
        let hr : j < length rows = omega arith in
        let at : get_or (set rows j p) j 0 ≡ p = get_or-set_same rows j p 0 hr in
        elim (eq? x j) [
          | inl ex ↦ elim (eq? y j) [
            | inl ey ↦ ex ∙ sym ey
            | inr ny ↦ absurd (index_none p rows 0 gone y ly (sym (get_or-set_other rows j y p 0 ny) ∙ sym e ∙ ap (λ (m : ℕ). get_or (set rows j p) m 0) ex ∙ at))
          ]
          | inr nx ↦ elim (eq? y j) [
            | inl ey ↦ absurd (index_none p rows 0 gone x lx (sym (get_or-set_other rows j x p 0 nx) ∙ e ∙ ap (λ (m : ℕ). get_or (set rows j p) m 0) ey ∙ at))
            | inr ny ↦ dis x y lx ly (λ z. n (get_or-set_other rows j x p 0 nx ∙ z)) (sym (get_or-set_other rows j x p 0 nx) ∙ e ∙ get_or-set_other rows j y p 0 ny)
          ]
        ]

    -- the place that lost its entry: no other entry names it
    lost : (q : ℕ) → q ≢ p → q ≢ empty → get_or rows j 0 ≡ q → index_of q (set rows j p) ≡ length (set rows j p)
    unfolding Distinct
    lost q n r e = index_miss q (set rows j p) 0 (λ i b z.
        let li : i < length rows = subst (λ (m : ℕ). i < m) (length-set rows j p) b in
        let hr : j < length rows = omega arith in
        elim (eq? i j) [
          | inl ei ↦ n (sym z ∙ ap (λ (m : ℕ). get_or (set rows j p) m 0) ei ∙ get_or-set_same rows j p 0 hr)
          | inr ni ↦
              let was : get_or rows i 0 ≡ q = sym (get_or-set_other rows j i p 0 ni) ∙ z in
              ni (dis i j li hr (λ w. r (sym was ∙ w)) (was ∙ sym e))
        ])

    -- it stood at j
    stood : (q : ℕ) → q ≢ empty → get_or rows j 0 ≡ q → index_of q rows ≡ j
    unfolding Distinct
    stood q r e =
        let hr : j < length rows = omega arith in
        elim (lt? (index_of q rows) (length rows)) [
          | inl k ↦
              let f : get_or rows (index_of q rows) 0 ≡ q = index_found q rows 0 k in
              dis (index_of q rows) j k hr (λ w. r (sym f ∙ w)) (f ∙ sym e)
          | inr k ↦ absurd (index_none q rows 0 k j hr e)
        ]

    taken_ok : Tracking a p rows counts spill (taken p rows counts spill j)
    unfolding estimate_of
    taken_ok =
        let hr : j < length rows = omega arith in
        let gone' : index_of p rows ≡ length rows = le_antisymm (lowest_le (λ x. eqb x p) rows) gone in
        let idx : index_of p (set rows j p) ≡ j = index_set-new p rows j hr gone' in
        let now : (d : ℕ) → get_or (set counts j (suc spill)) j d ≡ suc spill = λ d. get_or-set_same counts j (suc spill) d hj in
        let was : get_or counts j spill ≡ spill = get_d_any counts j spill 0 hj ∙ spilt in
        let here : get_or (set counts j (suc spill)) (index_of p (set rows j p)) spill ≡ suc spill = rw idx (now spill) in
        record {
          rows_long = length-set rows j p;
          counts_long = length-set counts j (suc spill);
          summed = omega (arith, sum-set (λ x. x) counts j (suc spill) hj);
          low = λ i b. elim (eq? i j) [
            | inl e ↦ rw (e, now 0) (omega arith)
            | inr n ↦ rw (get_or-set_other counts j i (suc spill) 0 n) (low i b)
          ];
          spill_grows = omega arith;
          distinct = fresh;
          same = here ∙ ap suc (sym (get_or-eq_default counts spill (omega arith)));
          other = λ q n r. inl (elim (eq? (get_or rows j 0) q) [
            | inl e ↦ get_or-eq_default (set counts j (suc spill)) spill (omega (arith, lost q n r e, length-set counts j (suc spill), length-set rows j p)) ∙ sym (rw (stood q r e) was)
            | inr m ↦
                rw (index_set_other q rows j p 0 n m)
                (get_or-set_other counts j (index_of q rows) (suc spill) spill (λ z. m (ap (λ (i : ℕ). get_or rows i 0) (sym z) ∙ index_found q rows 0 (omega arith))))
          ]);
          got = inl (sym here);
          quotients = quot-set j spill hj spilt;
        }

  pub track_ok : Tracking a p rows counts spill (track p rows counts spill)
  unfolding track
  track_ok =
      elim (lt? (index_of p rows) (length rows)) [
        | inl h ↦ rw (lt-ltb (index_of p rows) (length rows) h) (raised_ok h)
        | inr h ↦ rw (le-ltb (index_of p rows) (length rows) h) (elim (lt? (index_of spill counts) (length counts)) [
          | inl k ↦ rw (lt-ltb (index_of spill counts) (length counts) k) (taken_ok h (index_of spill counts) k (index_found spill counts 0 k))
          | inr k ↦ rw (le-ltb (index_of spill counts) (length counts) k) (spilled_ok h k)
        ])
      ]
