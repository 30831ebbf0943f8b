-- The first task with the tag is the one found.
use Rattle.std.proofs.Common.{sym, arith, rules}
use Rattle.folds.proofs.Tests.{find_at}
use Rattle.analysis_equations.specs.Questions.{task_number}
use Rattle.analysis_figures.proofs.task_number.Goals as goal

pub returns-then-task-tag : goal.returns-then-task-tag
unfolding task_number
returns-then-task-tag c = sym (find_at _ c.loop-j.j _ (omega arith) c.loop-j.invariant (search rules))
