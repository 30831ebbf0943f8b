use Rattle.machine_replies.proofs.Ground.{refl, arith}
use Rattle.machine_replies.proofs.Quit.{quit_task, quit_ready, quit_done}
use Rattle.machine_replies.proofs.give_up_on.Goals as goal

pub task-k-requires : goal.task-k-requires
task-k-requires c = (c.requires.on.known.plan, rw c.task_number-i.ensures (quit_task _ _ _ _ _ _ c.requires))

pub withdraw-requires : goal.withdraw-requires
withdraw-requires c = rw (c.from.ensures, c.task-k.ensures, c.task_number-i.ensures) (quit_ready _ _ _ _ _ _ c.requires (omega arith) (omega arith))

pub returns : goal.returns
returns c = quit_done _ _ _ _ _ _ c.requires (omega arith) (omega arith) _ refl (cc)
