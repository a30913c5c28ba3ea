-- One digit, or the digits before the last, and the last.
use Rattle.std.proofs.Common.{arith, sym}
use Rattle.page.proofs.Puts.{put-put, put_same}
use Rattle.page.proofs.Digits.{one_digit, more_digits, place_left}
use Rattle.page.proofs.+put_decimal.Goals as goal

pub returns-then-n-lt10-clause-put : goal.returns-then-n-lt10-clause-put
returns-then-n-lt10-clause-put t c = put_same (sym (one_digit c.args.n c.if-n-lt10.true)) c.put_bytes.ensures

pub put_bytes-requires-2 : goal.put_bytes-requires-2
put_bytes-requires-2 t c =
    let higher = c.put_decimal-higher.ensures.put in
    let left = place_left c.args.n c.if-n-lt10.false c.ranges.n.fits in
    omega (arith, higher.counted, left)

pub returns-clause-short : goal.returns-clause-short
returns-clause-short t c =
    let higher = c.put_decimal-higher.ensures.put in
    let left = place_left c.args.n c.if-n-lt10.false c.ranges.n.fits in
    omega (arith, higher.counted, left, c.put_bytes-2.ensures.counted)

pub returns-clause-put : goal.returns-clause-put
returns-clause-put t c =
    let all = put-put c.put_decimal-higher.ensures.put c.put_bytes-2.ensures in
    put_same (more_digits c.args.n c.if-n-lt10.false c.ranges.n.fits) all
