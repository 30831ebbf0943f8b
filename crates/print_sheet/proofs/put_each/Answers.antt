-- A turn puts one text more; what it asks and does is what the closure is asked.
use Rattle.std.proofs.Common.{arith}
use Rattle.print_text.proofs.Turns.{turns_none, turns_more}
use Rattle.print_sheet.proofs.put_each.Goals as goal

pub loop-k-init : goal.loop-k-init
loop-k-init g c = turns_none c.requires.1.1.1.0 c.requires.1.1.1.1

pub loop-k-preserved : goal.loop-k-preserved
loop-k-preserved g c =
    let put = c.requires.1.1.0 _ _ _ _ _ (omega arith) c.put-end.ensures in
    turns_more c.loop-k.invariant (omega arith) put c.put-end.auto.arg2
