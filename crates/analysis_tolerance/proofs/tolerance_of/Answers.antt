-- The tasks above are all there; the greatest is read back from its bits.
use Rattle.analysis_tolerance.proofs.Ground.{◌∙◌, valid_plan, back}
use Rattle.analysis_tolerance.proofs.Demand.{higher_tolerance}
use Rattle.analysis_tolerance.proofs.tolerance_of.Goals as goal

pub returns : goal.returns
returns c =
    let v = valid_plan _ c.requires.plan in
    higher_tolerance _ v _ c.higher_tasks-count.ensures c.task-task.ensures (back _ c.scan.type_inv ∙ c.scan.ensures)
