-- The wait times of the processors below `k` are in place.
use Rattle.plan_reading.specs.Plan.{plan_of}
use Rattle.analysis_totals.specs.Inner.{WaitsBelow}
use Rattle.analysis_totals.proofs.fill_totals.Given as goal

abbrev pub invariant-loop-k : goal.invariant-loop-k
invariant-loop-k l = WaitsBelow (plan_of l.file) l.k 0 l.totals
