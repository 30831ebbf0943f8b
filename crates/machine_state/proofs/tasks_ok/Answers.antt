use Rattle.machine_state.proofs.Ground.{arith, all_done}
use Rattle.machine_state.proofs.tasks_ok.Goals as goal

pub returns : goal.returns
returns c = all_done _ c.loop-u.u _ (omega arith) c.loop-u.invariant
