-- Every case: document 01's, marked [p], and those of document 02's requests. In one table over the definitions; the proof is
-- `all_hold` of proofs/Cases.antt.
-- Assumes nothing.
use Rattle.std.specs.Prelude.{◌≡◌, true, ◌++◌}
use Rattle.basics.specs.Lists.{every}
use Rattle.computed.specs.Case.{holds}
use Rattle.computed.specs.Marked.{table}
use Rattle.computed.specs.Requests.{empty_traces, answered_estimates, tallied_session, worn_slots}
use Rattle.computed.specs.Banks.{bank_traces, in_banks}

-- all of them hold
abbrev pub AllHold : Type 0
AllHold = every holds (table ++ empty_traces ++ answered_estimates ++ tallied_session ++ worn_slots ++ bank_traces ++ in_banks) ≡ true
