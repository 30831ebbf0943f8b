-- The tasks below `j` are added.
use Rattle.plan_reading.specs.Plan.{plan_of}
use Rattle.analysis_totals.specs.Totals.{SumsBelow}
use Rattle.analysis_totals.proofs.put_sums.Given as goal

abbrev pub invariant-loop-j : goal.invariant-loop-j
invariant-loop-j l = SumsBelow (plan_of l.file) l.j l.totals
