-- What the scan comes to with the bytes that are left is the numbers of the text.
use Rattle.std.proofs.Common.{length, drop, ◌≡◌, ◌≤◌}
use Rattle.number_text.specs.Numbers.{numbers_within}
use Rattle.number_text.specs.Scanner.{outcome}
use Rattle.number_text.proofs.read_numbers.Given as goal

abbrev pub invariant-loop-b : goal.invariant-loop-b
invariant-loop-b l =
    record {
      counted : l.s.count ≤ length l.list;
      same : numbers_within (length l.initial.list) l.text ≡ outcome l.list l.s (drop l.b-index l.text);
    }
