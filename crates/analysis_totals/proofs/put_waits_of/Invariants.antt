-- The wait times of the resources below `q` are in place.
use Rattle.plan_reading.specs.Plan.{plan_of}
use Rattle.analysis_totals.specs.Inner.{WaitsBelow}
use Rattle.analysis_totals.proofs.put_waits_of.Given as goal

abbrev pub invariant-loop-q : goal.invariant-loop-q
invariant-loop-q l = WaitsBelow (plan_of l.file) l.k l.q l.totals
