-- `sums` holds the sums of the lengths of the sections below `i`, by task.
use Rattle.plan_layout.proofs.Sums.{Summed}
use Rattle.plan_layout.proofs.check_sections.Given as goal

abbrev pub invariant-loop-i : goal.invariant-loop-i
invariant-loop-i l = Summed l.part l.s l.sums l.i
