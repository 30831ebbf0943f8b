-- A turn at whose task a period ends at t, and one at whose task none does.
use Rattle.analysis_tolerance.proofs.Demand.{turn_begun, turn_left}
use Rattle.analysis_tolerance.proofs.pass.Goals as goal
use Rattle.analysis_tolerance.proofs.pass.Goals.{then-ends-k, else-ends-k}

pub loop-k-preserved : goal.loop-k-preserved
loop-k-preserved c =
    let l = c.loop-k in
    elim c.if-ends-k.branch [
      | then-ends-k w ↦ rw (w.ends-is, w.added-is, w.from.ensures, w.from-added.ensures)
          (turn_begun l.k c.requires l.invariant.0 l.invariant.1 w.if-ends-k.true)
      | else-ends-k w ↦ rw (w.ends-is, w.added-is) (turn_left l.k c.requires l.invariant.0 l.invariant.1 w.if-ends-k.false)
    ]
