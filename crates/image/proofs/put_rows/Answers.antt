-- The row that the call put.
use Rattle.image.proofs.Ground.{rows_none}
use Rattle.image.proofs.Putting.{rows_put}
use Rattle.image.proofs.put_rows.Goals as goal

pub loop-i-init : goal.loop-i-init
loop-i-init g c f k = rows_none

pub loop-i-preserved : goal.loop-i-preserved
loop-i-preserved g c f k =
    rows_put k.wide c.requires.room (c.loop-i.invariant f k) c.loop-i-test.true (k.puts _ _ _ c.loop-i-test.true c.put.ensures)
