use Rattle.machine_replies.proofs.Ground.{refl, arith}
use Rattle.machine_replies.proofs.Asked.{ask_task, ask_queue, ask_resource, ask_joins, ask_granted, ask_waits}
use Rattle.machine_replies.proofs.request_on.Goals as goal

pub task-k-requires : goal.task-k-requires
task-k-requires c = (c.requires.on.known.plan, rw c.task_number-i.ensures (ask_task _ _ _ _ _ _ c.requires))

pub ahead_of-ahead-requires : goal.ahead_of-ahead-requires
ahead_of-ahead-requires c = rw (c.from-r.ensures, c.task-k.ensures, c.task_number-i.ensures) (ask_queue _ _ _ _ _ _ c.requires)

pub bounds-state-r : goal.bounds-state-r
bounds-state-r c = omega (arith, c.from-r.ensures, ask_resource _ _ _ _ _ _ c.requires)

pub join-next-requires : goal.join-next-requires
join-next-requires c =
    rw (c.ahead_of-ahead.ensures.counted, c.from-r.ensures, c.task-k.ensures, c.task_number-i.ensures)
    (ask_joins _ _ _ _ _ _ c.requires (omega arith) (omega arith))

pub returns-then-queued-eq0 : goal.returns-then-queued-eq0
returns-then-queued-eq0 c =
    ask_granted _ _ _ _ _ _ c.requires (omega arith) (omega arith) _ (rw c.from-r.ensures at c.if-queued-eq0.true) refl (cc)

pub returns : goal.returns
returns c =
    ask_waits _ _ _ _ _ _ c.requires (omega arith) (omega arith) _ (rw c.from-r.ensures at c.if-queued-eq0.false) (cc) (cc)
