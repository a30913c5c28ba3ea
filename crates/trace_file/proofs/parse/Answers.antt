-- The form follows from what was read, and the list is long enough for every trace.
use Rattle.std.proofs.Common.{arith, length, ◌≤◌}
use Rattle.trace_file.proofs.Sections.{no_room, too_long, none_read, some_read}
use Rattle.trace_file.proofs.parse.Goals as goal

pub returns-then-numbers-lt-MOST_NUMBERS : goal.returns-then-numbers-lt-MOST_NUMBERS
returns-then-numbers-lt-MOST_NUMBERS c =
    let p = no_room c.args.text.now (length c.args.numbers.now) c.if-numbers-lt-MOST_NUMBERS.true in
    record { form = p.0; said = p.1 }

pub returns-then-text-gt-MOST_BYTES : goal.returns-then-text-gt-MOST_BYTES
returns-then-text-gt-MOST_BYTES c =
    let a = c.args in
    let wide = c.if-numbers-lt-MOST_NUMBERS.false in
    let p = too_long a.text.now (length a.numbers.now) wide c.if-text-gt-MOST_BYTES.true in
    record { form = p.0; said = p.1 }

pub returns-in_err-count : goal.returns-in_err-count
returns-in_err-count c =
    let a = c.args in
    let wide = c.if-numbers-lt-MOST_NUMBERS.false in
    let short = c.if-text-gt-MOST_BYTES.false in
    let p = none_read a.text.now (length a.numbers.now) wide short c.in_err-count.ensures.numbers in
    rw c.from_residual.ensures (record { form = p.0; said = p.1 })

pub returns : goal.returns
returns c =
    let a = c.args in
    let list = c.read_numbers.new.list in
    let read = c.in_ok-count in
    let wide = c.if-numbers-lt-MOST_NUMBERS.false in
    let short = c.if-text-gt-MOST_BYTES.false in
    let fits : read.count ≤ length list = omega (arith, read.ensures.within) in
    let p = some_read a.text.now (length a.numbers.now) wide short list read.count fits read.ensures.numbers c.sections_of.ensures in
    record { form = p.0; said = p.1 }
