-- With the digits that are left, the buffer is the first one with all digits.
use Rattle.std.proofs.Common.{◌≡◌, ◌≤◌}
use Rattle.print_text.proofs.TextLaws.{with_digits}
use Rattle.print_text.proofs.put_decimal.Given as goal

abbrev pub invariant-loop-place : goal.invariant-loop-place
invariant-loop-place l =
    (l.at ≤ l.place) × (with_digits l.buf l.at l.place l.rest ≡ with_digits l.fn.buf l.at l.end l.n)
