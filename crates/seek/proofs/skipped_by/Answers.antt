use Rattle.std.proofs.Common.{sym, ◌∙◌}
use Rattle.engine.proofs.GoneBy.{next_in}
use Rattle.seek.proofs.Turns.{turned_more, turned_free, turned_all}
use Rattle.seek.proofs.skipped_by.Goals as goal

pub returns-then-not-skips : goal.returns-then-not-skips
returns-then-not-skips g c = λ skip tells.
    let (inside, turned) = c.loop-n.invariant in
    turned_free (turned skip tells) (sym (tells _ inside _ c.skips.ensures) ∙ c.if-not-skips.true)

pub loop-n-preserved : goal.loop-n-preserved
loop-n-preserved g c =
    let (inside, turned) = c.loop-n.invariant in
    rw c.after-at.ensures (
      next_in _ _ inside,
      λ skip tells.
          turned_more (turned skip tells) c.loop-n-test.true (sym (tells _ inside _ c.skips.ensures) ∙ c.if-not-skips.false),
    )

pub returns : goal.returns
returns g c = λ skip tells. turned_all (c.loop-n.invariant.1 skip tells) c.loop-n.auto.n-end c.loop-n-test.false
