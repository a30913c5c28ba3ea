-- The bytes of a text are gaps, one and all.
use Rattle.std.proofs.Common.{rules, sym, ◌∙◌}
use Rattle.std.proofs.lemmas.Iterator.{YieldsList-from_slice}
use Rattle.std.proofs.lemmas.Iterator.Search.{all_from_yields_List}
use Rattle.number_text.specs.Numbers.{is_gap}
use Rattle.number_text.proofs.Blank.{all_gaps}
use Rattle.number_text.proofs.is_blank.Goals as goal

pub returns : goal.returns
returns c =
    all_from_yields_List is_gap _ _ _ c.all.ensures.ran (YieldsList-from_slice c.args.text.now c.iter.ensures.rest) (λ x b q k. search rules)
    ∙ sym (all_gaps c.args.text.now)
