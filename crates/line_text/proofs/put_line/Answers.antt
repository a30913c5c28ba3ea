-- One field after the other.
use Rattle.page.proofs.Puts.{put-put}
use Rattle.line_text.specs.LineText.{line_bytes}
use Rattle.line_text.proofs.put_line.Goals as goal

pub returns-clause-put : goal.returns-clause-put
unfolding line_bytes
returns-clause-put c =
    let numbered = c.put_decimal-numbered.ensures.put in
    let judged = put-put numbered c.put_field-judged.ensures.put in
    let placed = put-put judged c.put_field-placed.ensures.put in
    let moved = put-put placed c.put_field-moved.ensures.put in
    put-put (put-put moved c.put_field-sent.ensures.put) c.put_bytes.ensures
