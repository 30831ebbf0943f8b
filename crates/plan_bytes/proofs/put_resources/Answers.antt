-- A turn puts the next row behind the others.
use Rattle.std.proofs.Common.{refl, arith}
use Rattle.folds.specs.Below.{sum_below}
use Rattle.folds.proofs.Figures.{sum_step}
use Rattle.folds.proofs.Fronts.{rows_none, rows_more}
use Rattle.plan_bytes.specs.Encode.{resource_bytes}
use Rattle.plan_bytes.proofs.Put.{resource_length}
use Rattle.plan_bytes.proofs.put_resources.Goals as goal

pub loop-i-init : goal.loop-i-init
unfolding sum_below
loop-i-init c = (rows_none, refl, omega arith)

pub loop-i-preserved : goal.loop-i-preserved
unfolding resource_bytes
loop-i-preserved c =
    let l = c.loop-i.invariant in (
      rows_more (resource_length c.args.lengths) l.0 (rw l.1 at c.put_resource.ensures) c.loop-i-test.true (omega arith),
      sum_step _ _ l.1 c.from-start.ensures,
      omega arith,
    )
