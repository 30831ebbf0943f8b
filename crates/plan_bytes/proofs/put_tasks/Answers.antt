-- A turn puts the next row behind the others; its tag has room in it.
use Rattle.std.proofs.Common.{length-take, length-drop, arith}
use Rattle.folds.proofs.Fronts.{rows_none, rows_more}
use Rattle.plan_bytes.specs.Encode.{task_bytes}
use Rattle.plan_bytes.proofs.Put.{task_length, tag_at}
use Rattle.plan_bytes.proofs.put_tasks.Goals as goal

pub loop-i-init : goal.loop-i-init
loop-i-init c = rows_none

pub put_task-requires : goal.put_task-requires
put_task-requires c = (simp (length-take, length-drop) (omega arith), tag_at _ _ _ _ c.requires.tags c.loop-i-test.true)

pub loop-i-preserved : goal.loop-i-preserved
unfolding task_bytes
loop-i-preserved c = rows_more (task_length c.args.tasks) c.loop-i.invariant c.put_task.ensures c.loop-i-test.true (omega arith)
