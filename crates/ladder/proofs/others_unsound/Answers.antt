-- The banks from the second on are gone over.
use Rattle.std.proofs.Common.{rules, tests, refl, ◌∙◌}
use Rattle.std.proofs.lemmas.Iterator.{YieldsList-from_range}
use Rattle.std.proofs.lemmas.Iterator.Search.{any_from_yields_List}
use Rattle.ladder.proofs.Stages.{bank_lent, others_are}
use Rattle.ladder.proofs.others_unsound.Goals as goal

pub returns : goal.returns
returns c =
    let a = c.args in
    any_from_yields_List (bank_lent a.s a.control.spill a.control.acts a.counts.now) _ _ c.any.result c.any.ensures.ran
    (YieldsList-from_range 1 a.s.b _ refl refl) (λ x b q k. search (rules, tests))
    ∙ others_are a.s a.control.spill a.control.acts a.counts.now
