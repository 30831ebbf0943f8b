-- The processors passed have their hold times and budgets in the table.
use Rattle.plan_reading.specs.Plan.{plan_of}
use Rattle.analysis_hold_times.proofs.Tables.{TableBelow}
use Rattle.analysis_hold_times.proofs.hold_all.Given as goal

abbrev pub invariant-loop-k : goal.invariant-loop-k
invariant-loop-k l = TableBelow (plan_of l.file) l.k l.figures
