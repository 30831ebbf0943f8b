-- The tasks below `i` are raised.
use Rattle.analysis_terms.specs.Inner.{TasksRaised}
use Rattle.analysis_terms.proofs.raise_blocked.Given as goal

abbrev pub invariant-loop-i : goal.invariant-loop-i
invariant-loop-i l = TasksRaised l.above l.top l.ticks l.i l.fn.terms l.terms
