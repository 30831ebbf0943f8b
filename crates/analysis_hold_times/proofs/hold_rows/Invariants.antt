-- The tasks passed have their hold times in the rows, and the sums and maxima are over them.
use Rattle.plan_reading.specs.Plan.{plan_of}
use Rattle.analysis_hold_times.proofs.Holding.{HeldBelow}
use Rattle.analysis_hold_times.proofs.hold_rows.Given as goal

abbrev pub invariant-loop-x : goal.invariant-loop-x
invariant-loop-x l = HeldBelow (plan_of l.file) l.k l.fn.rows l.x l.rows l.above l.most
