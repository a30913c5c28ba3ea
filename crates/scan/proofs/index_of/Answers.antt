-- The search ends where `position` says, after the blocks that were skipped.
use Rattle.std.proofs.Common.{rules, ◌≡◌, length, unwrap_or, ap, sym, ◌∙◌}
use Rattle.std.proofs.lemmas.List.{take_rest}
use Rattle.std.specs.Prelude.{Option, Some, None}
use Rattle.scan.proofs.Blocks.{skipped_on, none_after, found_after}
use Rattle.scan.proofs.index_of.Goals as goal

pub returns-in_err-i-clause-place : goal.returns-in_err-i-clause-place
returns-in_err-i-clause-place g c =
    let none : c.search.result ≡ None = search rules in
    let same : c.from_residual.result ≡ None = search rules in
    ap (λ (r : Option _). unwrap_or r (length c.args.xs.now)) same
    ∙ none_after (skipped_on c.skip-far.ensures (rw take_rest at c.skip.ensures)) (rw take_rest at (sym c.search.ensures ∙ none))

pub returns-clause-place : goal.returns-clause-place
returns-clause-place g c =
    let found : c.search.result ≡ Some c.in_ok-i.i = search rules in
    found_after (skipped_on c.skip-far.ensures (rw take_rest at c.skip.ensures)) c.in_ok-i.i (rw take_rest at (sym c.search.ensures ∙ found))
