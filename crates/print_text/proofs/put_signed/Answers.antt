-- A minus and how far below zero it is, or the number itself.
use Rattle.print_text.proofs.TextLaws.{put_below, put_not_below}
use Rattle.print_text.proofs.put_signed.Goals as goal
use Rattle.print_text.proofs.put_signed.Goals.{then-z-lt0, else-z-lt0}

pub returns : goal.returns
returns c =
    let a = c.args.z in
    elim c.if-z-lt0.branch [
      | then-z-lt0 w ↦ put_below a c.ranges.z c.unsigned_abs.ensures.value w.if-z-lt0.true w.put-start.ensures (rw (w.buf-is, w.start-is) at c.put_decimal.ensures)
      | else-z-lt0 w ↦ put_not_below a c.ranges.z c.unsigned_abs.ensures.value w.if-z-lt0.false (rw (w.buf-is, w.start-is) at c.put_decimal.ensures)
    ]
