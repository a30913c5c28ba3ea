-- What the searches take where a function answers a ladder: its first number, or the rest.
use Rattle.refusals.proofs.Numbers.{refusal_is, refusal_not_0}
use Rattle.engine.proofs.Rungs.{halts, goes_on, applies, goes_by}

pub ruleset rungs = (halts, goes_on, applies, goes_by, refusal_is, refusal_not_0)
