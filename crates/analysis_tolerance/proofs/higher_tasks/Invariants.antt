-- The tasks below j that are above task i are counted and packed.
use Rattle.analysis_tolerance.proofs.Ground.{plan_of, HigherTasks}
use Rattle.analysis_tolerance.proofs.higher_tasks.Given as goal

abbrev pub invariant-loop-j : goal.invariant-loop-j
invariant-loop-j l = HigherTasks (plan_of l.file) l.i l.j l.count l.periods l.times
