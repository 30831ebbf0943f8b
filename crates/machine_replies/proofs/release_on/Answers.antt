use Rattle.machine_replies.proofs.Ground.{arith}
use Rattle.machine_replies.proofs.Freed.{free_done}
use Rattle.machine_replies.proofs.release_on.Goals as goal

pub returns : goal.returns
returns c =
    let q = c.from-r.ensures in
    free_done _ _ _ _ _ _ c.requires (omega arith) (omega arith) _ (rw q at c.granted-answer.ensures) (rw q at c.leave-next.ensures)
