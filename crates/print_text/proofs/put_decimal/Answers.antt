-- No digit is left.
use Rattle.std.proofs.Common.{arith}
use Rattle.print_text.proofs.TextLaws.{digits_put}
use Rattle.print_text.proofs.put_decimal.Goals as goal

pub returns : goal.returns
returns c = digits_put c.loop-place.rest c.loop-place.place c.places.ensures (omega arith) c.loop-place.invariant.1
