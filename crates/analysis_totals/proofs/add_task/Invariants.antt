-- The task is added at the resources below `q`.
use Rattle.analysis_totals.specs.Inner.{TaskAdded}
use Rattle.analysis_totals.proofs.add_task.Given as goal

abbrev pub invariant-loop-q : goal.invariant-loop-q
invariant-loop-q l = TaskAdded l.figures l.j l.k l.q l.initial.totals l.totals
