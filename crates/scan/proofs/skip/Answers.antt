-- Each block that is counted has no hit.
use Rattle.std.proofs.Common.{rules, ◌≡◌, ◌<◌, ◌*◌, ◌∙◌, ap, arith}
use Rattle.std.specs.Slice.Iter.{chunks_exact_size, chunks_exact_rest}
use Rattle.scan.proofs.Blocks.{skipped_blocks, clear_block}
use Rattle.scan.proofs.skip.Goals as goal

pub returns : goal.returns
returns g c =
    let test = λ (y : g.row.T.Denot). g.T.PartialEq.eq y c.args.x in
    let run = c.count.ensures.runs in
    let p = run.0 in
    let taken = c.take_while.ensures.runs p p.seen run.1 in
    let q = taken.0 in
    let size : chunks_exact_size q.from ≡ c.args.size = ap chunks_exact_size taken.1 ∙ c.chunks_exact.ensures.size in
    let rest : chunks_exact_rest q.from ≡ c.args.xs.now = ap chunks_exact_rest taken.1 ∙ c.chunks_exact.ensures.rest in
    let clear = taken.2.2 (λ a r f' called. search rules) in
    skipped_blocks test c.args.xs.now c.args.size c.count.result (search rules) (λ k b.
    let here : k < p.len = omega arith in
    let same = taken.2.1 k here in
    let parts = c.chunks_exact.ensures.runs q q.seen (omega arith) in
    let fact = clear_block (λ x. x.now) test (chunks_exact_rest q.from) (chunks_exact_size q.from) (k * chunks_exact_size q.from) (p.at k) _
    (p.reads k c.args.xs here) (clear.0 k) (λ x called. search rules) (rw (← same) (parts.2 k)) in
    rw (size, rest) at fact)
