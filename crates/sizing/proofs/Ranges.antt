-- Within the ranges: how large each product of the sums can be, and that no divisor is 0. Assumes nothing.
use Prim.Native.Nat.{ℕ, ◌+◌, ◌-◌, ◌*◌, ◌/◌, ◌%◌, ◌≤◌, ◌<◌, min}
use mathlib.Core.Path.{◌≡◌, sym, ap, ◌∙◌}
use mathlib.Core.Bool.{true}
use native.Mathlib.Nat.{mul-le-mul}
use native.Mathlib.Omega.{arith}
use borrow.Author.Tests.{ltb-true}
use Rattle.basics.specs.Ranges.{in_range}
use Rattle.basics.proofs.Tests.{and_left, and_right, low, high}
use Rattle.sizing.specs.declared.SizeTimes.{SizeTimes}
use Rattle.sizing.specs.declared.RefreshTimes.{RefreshTimes}
use Rattle.sizing.specs.Sums.{size_ranges_hold, activation_ranges_hold, divided_up}
use Rattle.std.proofs.lemmas.Grind.{div_ceil_times}
use Rattle.std.proofs.lemmas.Nat.{div-mul-add}

-- the library's quotient that is rounded up is that of the sums
pub rounded_up : (x y : ℕ) → 0 < y → x / y + min 1 (x % y) ≡ divided_up x y
rounded_up x y h =
    let m = x / y + min 1 (x % y) in
    let t = div_ceil_times x y h in
    let e : m * y + (x + (y - 1) - m * y) ≡ x + (y - 1) = omega (arith, t) in
    sym (ap (λ (n : ℕ). n / y) (sym e) ∙ div-mul-add m y (x + (y - 1) - m * y) (omega (arith, t)))

pub record SizeBounds (t : SizeTimes) : Type 0 where
  pub window : t.trefw * t.banks ≤ 1024000000000
  pub opening_low : 1 ≤ t.threshold * t.trc
  pub opening_high : t.threshold * t.trc ≤ 655350000
  pub moving : t.banks * t.tmov ≤ 1024000000

pub size_bounds : {t : SizeTimes} → size_ranges_hold t ≡ true → SizeBounds t
unfolding size_ranges_hold
size_bounds {t} h =
    let trc : in_range 1 10000 t.trc ≡ true = search (and_left, and_right) depth 8 in
    let threshold : in_range 1 65535 t.threshold ≡ true = search (and_left, and_right) depth 8 in
    let trefw-high = high 1 1000000000 t.trefw (search (and_left, and_right) depth 8) in
    let tmov-high = high 1 1000000 t.tmov (search (and_left, and_right) depth 8) in
    let banks-high = high 1 1024 t.banks (search (and_left, and_right) depth 8) in
    record {
      window = mul-le-mul trefw-high banks-high;
      opening_low = mul-le-mul (low 1 65535 t.threshold threshold) (low 1 10000 t.trc trc);
      opening_high = mul-le-mul (high 1 65535 t.threshold threshold) (high 1 10000 t.trc trc);
      moving = mul-le-mul banks-high tmov-high;
    }

pub record RefreshBounds (t : RefreshTimes) : Type 0 where
  pub refresh : t.trfc < t.trefi
  pub window : t.trefw * (t.trefi - t.trfc) ≤ 1000000000000000
  pub cycles_low : 1 ≤ t.trefi * t.trc
  pub cycles_high : t.trefi * t.trc ≤ 10000000000

pub refresh_bounds : {t : RefreshTimes} → activation_ranges_hold t ≡ true → RefreshBounds t
unfolding activation_ranges_hold
refresh_bounds {t} h =
    let trc : in_range 1 10000 t.trc ≡ true = search (and_left, and_right) depth 8 in
    let trefw-high = high 1 1000000000 t.trefw (search (and_left, and_right) depth 8) in
    let trefi-high = high 1 1000000 t.trefi (search (and_left, and_right) depth 8) in
    let trfc-below = ltb-true t.trfc t.trefi (search (and_left, and_right) depth 8) in
    let trefi-low : 1 ≤ t.trefi = omega arith in
    let rest-high : t.trefi - t.trfc ≤ 1000000 = omega arith in
    record {
      refresh = trfc-below;
      window = mul-le-mul trefw-high rest-high;
      cycles_low = mul-le-mul trefi-low (low 1 10000 t.trc trc);
      cycles_high = mul-le-mul trefi-high (high 1 10000 t.trc trc);
    }
