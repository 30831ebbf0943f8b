-- Nothing is added at first, and each task then adds its figures.
use Rattle.std.proofs.Common.{arith, rules}
use Rattle.analysis_totals.proofs.Sums.{sums_none, addable, sums_step}
use Rattle.analysis_totals.proofs.put_sums.Goals as goal

pub loop-j-init : goal.loop-j-init
loop-j-init c = search (rules, sums_none)

pub add_task-requires : goal.add_task-requires
add_task-requires c = search (rules, addable)

pub loop-j-preserved : goal.loop-j-preserved
loop-j-preserved c = sums_step c.requires.0 c.loop-j.invariant (omega arith) (search rules) c.add_task.ensures
