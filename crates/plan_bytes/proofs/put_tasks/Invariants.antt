-- The rows below `i` stand at the front of the buffer, and what lies behind is as it was.
use Rattle.folds.proofs.Fronts.{Rowed}
use Rattle.plan_layout.specs.Editions.{edition1}
use Rattle.plan_layout.specs.Inner.{task_width}
use Rattle.plan_bytes.specs.Encode.{task_bytes}
use Rattle.plan_bytes.proofs.put_tasks.Given as goal

abbrev pub invariant-loop-i : goal.invariant-loop-i
invariant-loop-i l = Rowed l.fn.n task_width (task_bytes edition1 l.tasks) l.fn.buf l.buf l.i
