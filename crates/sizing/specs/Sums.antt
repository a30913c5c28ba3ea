-- Document 01, 'Sizing': the two sums, for any argument.
-- Assumes nothing.
use Rattle.std.specs.Prelude.{ℕ, ◌+◌, ◌-◌, ◌*◌, ◌/◌, Bool, cond, ◌&&◌, ltb, Result, Ok, Err}
use Rattle.basics.specs.Ranges.{in_range}
use Rattle.conditions.specs.Conditions.{threshold_in_range}
use Rattle.sizing.specs.declared.SizeTimes.{SizeTimes}
use Rattle.sizing.specs.declared.RefreshTimes.{RefreshTimes}
use Rattle.refusals.specs.declared.Refusal.{Refusal}
use Rattle.refusals.specs.declared.Refusal.TheVariants.{Settings}
use Rattle.refusals.specs.Refusals.{number_in}

-- 01's number for an answer: 'settings | 1 | one is outside its range'
abbrev pub sum_number : Result ℕ Refusal → ℕ
sum_number answer = number_in answer

-- 01's figure in an answer: 'Beside the number a refusal holds nothing: each figure in it is 0'
abbrev pub sum_value : Result ℕ Refusal → ℕ
sum_value (Ok v) = v
sum_value (Err e) = 0

-- 'tREFW 1 to 1,000,000,000; tRC 1 to 10,000', which both sums take
abbrev pub window_in_range : ℕ → Bool
window_in_range trefw = in_range 1 1000000000 trefw

abbrev pub cycle_in_range : ℕ → Bool
cycle_in_range trc = in_range 1 10000 trc

-- 'tmov and tREFI 1 to 1,000,000; .. B (banks) 1 to 1,024; A as above'
unfoldable pub size_ranges_hold : SizeTimes → Bool
size_ranges_hold t =
    window_in_range t.trefw
    && cycle_in_range t.trc
    && in_range 1 1000000 t.tmov
    && in_range 1 1024 t.banks
    && threshold_in_range t.threshold

-- x divided by y, rounded up
abbrev pub divided_up : ℕ → ℕ → ℕ
divided_up x y = (x + (y - 1)) / y

-- 'Least quarantine size: tREFW × B divided by (A × tRC + B × tmov), rounded up'
unfoldable pub least_size : SizeTimes → Result ℕ Refusal
least_size t =
    cond (size_ranges_hold t)
    (Ok (divided_up (t.trefw * t.banks) (t.threshold * t.trc + t.banks * t.tmov)))
    (Err Settings)

-- 'tmov and tREFI 1 to 1,000,000; tRFC 0 to tREFI − 1'
unfoldable pub activation_ranges_hold : RefreshTimes → Bool
activation_ranges_hold t =
    window_in_range t.trefw
    && cycle_in_range t.trc
    && in_range 1 1000000 t.trefi
    && ltb t.trfc t.trefi

-- 'Most activations: tREFW × (tREFI − tRFC) divided by (tREFI × tRC), rounded down'
unfoldable pub most_activations : RefreshTimes → Result ℕ Refusal
most_activations t =
    cond (activation_ranges_hold t)
    (Ok (t.trefw * (t.trefi - t.trfc) / (t.trefi * t.trc)))
    (Err Settings)
