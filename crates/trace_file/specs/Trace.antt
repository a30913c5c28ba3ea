-- The trace that `parse` gives, after its second count.
-- Assumes nothing.
use Rattle.std.specs.Prelude.{ℕ, ◌-◌, ◌&&◌, cond, eqb, leb, Option, None, Some}
use Rattle.std.specs.declared.ops.Range.{Range}
use Rattle.geometry.specs.declared.Settings.{Settings}
use Rattle.trace_file.specs.declared.Trace.{Trace}

-- settings and the places of the steps, if the count is theirs
abbrev pub counted : Settings → ℕ → Range ℕ → Option Trace
counted settings count places =
    cond (leb count 4096 && eqb (places.end - places.start) count)
    (Some (record { settings = settings; start = places.start; end = places.end }))
    None
