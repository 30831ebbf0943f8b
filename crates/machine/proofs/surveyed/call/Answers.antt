-- A plan that is refused.
use Rattle.machine.proofs.Ground.{ap, sym, ◌∙◌}
use Rattle.refusals.specs.Refusals.{code_of}
use Rattle.refusals.proofs.Laws.{number_no0}
use Rattle.machine.proofs.Answered.{plan_reply}
use Rattle.machine.proofs.surveyed.call.Goals as goal

pub returns-in-Err : goal.returns-in-Err
returns-in-Err c =
    rw c.refuse.ensures (plan_reply _ _ _ (rw c.in-Err.is at c.requires.refusal) (number_no0 c.in-Err.refusal))
