use Rattle.std.proofs.Common.{arith}
use Rattle.std.proofs.lemmas.Grind.{common_steps}
use Rattle.plan_reading.proofs.Laws.{valid_plan}
use Rattle.analysis_terms.proofs.put_precedences.Goals as goal

pub loop-j-preserved : goal.loop-j-preserved
loop-j-preserved c = let read = rw c.task-row.ensures at c.from_le_bytes.ensures in grind (arith, common_steps, valid_plan)
