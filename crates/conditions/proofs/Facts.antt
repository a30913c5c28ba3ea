-- Conditions 1 to 3 as facts about numbers. Assumes nothing.
use Prim.Native.Nat.{◌+◌, ◌*◌, ◌<◌, ◌≤◌}
use mathlib.Core.Path.{◌≡◌}
use mathlib.Core.Bool.{true}
use borrow.Author.Tests.{ltb-true, lt-ltb, eqb-true, eq-eqb}
use Rattle.geometry.specs.declared.Settings.{Settings}
use Rattle.geometry.specs.declared.Lengths.{Lengths}
use Rattle.basics.specs.Ranges.{in_range}
use Rattle.conditions.specs.Conditions.{ranges_hold, limit_holds, store_holds, lengths_hold}
use Rattle.basics.proofs.Tests.{and_left, and_right, low, high}

pub record Ranges (S : Settings) : Type 0 where
  pub n_low : 1 ≤ S.n
  pub n_high : S.n ≤ 60000
  pub q_low : 2 ≤ S.q
  pub q_high : S.q ≤ 5500
  pub w_low : 1 ≤ S.w
  pub w_high : S.w ≤ 8192
  pub k_low : 1 ≤ S.k
  pub k_high : S.k ≤ 4096
  pub a_low : 1 ≤ S.a
  pub a_high : S.a ≤ 65535
  pub l_low : 1 ≤ S.l
  pub l_high : S.l ≤ 1360000
  pub b_low : 1 ≤ S.b
  pub b_high : S.b ≤ 16

pub ranges_facts : (S : Settings) → ranges_hold S ≡ true → Ranges S
unfolding ranges_hold
ranges_facts S h =
    let n : in_range 1 60000 S.n ≡ true = search (and_left, and_right) depth 8 in
    let q : in_range 2 5500 S.q ≡ true = search (and_left, and_right) depth 8 in
    let w : in_range 1 8192 S.w ≡ true = search (and_left, and_right) depth 8 in
    let k : in_range 1 4096 S.k ≡ true = search (and_left, and_right) depth 8 in
    let a : in_range 1 65535 S.a ≡ true = search (and_left, and_right) depth 8 in
    let l : in_range 1 1360000 S.l ≡ true = search (and_left, and_right) depth 8 in
    let b : in_range 1 16 S.b ≡ true = search (and_left, and_right) depth 8 in
    record {
      n_low = low 1 60000 S.n n;
      n_high = high 1 60000 S.n n;
      q_low = low 2 5500 S.q q;
      q_high = high 2 5500 S.q q;
      w_low = low 1 8192 S.w w;
      w_high = high 1 8192 S.w w;
      k_low = low 1 4096 S.k k;
      k_high = high 1 4096 S.k k;
      a_low = low 1 65535 S.a a;
      a_high = high 1 65535 S.a a;
      l_low = low 1 1360000 S.l l;
      l_high = high 1 1360000 S.l l;
      b_low = low 1 16 S.b b;
      b_high = high 1 16 S.b b;
    }

pub limit_fact : (S : Settings) → limit_holds S ≡ true → S.l < S.a * (S.k + 1)
unfolding limit_holds
limit_fact S h = ltb-true S.l (S.a * (S.k + 1)) h

pub limit-holds : (S : Settings) → S.l < S.a * (S.k + 1) → limit_holds S ≡ true
unfolding limit_holds
limit-holds S h = lt-ltb S.l (S.a * (S.k + 1)) h

pub record Exact (S : Settings) (lent : Lengths) : Type 0 where
  pub store : lent.store ≡ (S.n + S.q) * S.w
  pub forward : lent.forward ≡ S.n
  pub reverse : lent.reverse ≡ S.q
  pub rows : lent.rows ≡ S.b * S.k
  pub counts : lent.counts ≡ S.b * S.k

pub lengths_facts : (S : Settings) (lent : Lengths) → lengths_hold S lent ≡ true → Exact S lent
unfolding lengths_hold store_holds
lengths_facts S lent h =
    record {
      store = eqb-true lent.store ((S.n + S.q) * S.w) (search (and_left, and_right) depth 8);
      forward = eqb-true lent.forward S.n (search (and_left, and_right) depth 8);
      reverse = eqb-true lent.reverse S.q (search (and_left, and_right) depth 8);
      rows = eqb-true lent.rows (S.b * S.k) (search (and_left, and_right) depth 8);
      counts = eqb-true lent.counts (S.b * S.k) (search (and_left, and_right) depth 8);
    }

pub lengths-hold : (S : Settings) (lent : Lengths) → Exact S lent → lengths_hold S lent ≡ true
unfolding lengths_hold store_holds
lengths-hold S lent e =
    rw (
      eq-eqb lent.store ((S.n + S.q) * S.w) e.store,
      eq-eqb lent.forward S.n e.forward,
      eq-eqb lent.reverse S.q e.reverse,
      eq-eqb lent.rows (S.b * S.k) e.rows,
      eq-eqb lent.counts (S.b * S.k) e.counts,
    )
