-- The chain gives the answers of the test, and their fold says whether one is true.
use Rattle.std.proofs.Common.{rules, ◌∙◌, ◌||◌, false, Bool}
use Rattle.std.proofs.lemmas.Iterator.{YieldsList-from_slice, YieldsList-from_map}
use Rattle.std.proofs.lemmas.Iterator.Consumers.{fold_from_yields_List}
use Rattle.scan.proofs.Blocks.{some_fold}
use Rattle.scan.proofs.any.Goals as goal

pub returns : goal.returns
returns g c f same =
    fold_from_yields_List _ (λ (b here : Bool). b || here) false c.fold.result c.fold.ensures.ran
    (YieldsList-from_map _ f (YieldsList-from_slice c.args.xs.now (cc)) c.map.ensures.closure (λ x r q k. search rules))
    (λ a x b q k. search rules)
    ∙ some_fold f c.args.xs.now
