-- What is written is a wait time, and no other cell.
use Rattle.std.proofs.Common.{arith}
use Rattle.std.proofs.lemmas.Grind.{common_steps}
use Rattle.analysis_figures.proofs.Cells.{told}
use Rattle.analysis_totals.proofs.put_waits_of.Goals as goal

pub loop-q-preserved : goal.loop-q-preserved
loop-q-preserved c =
    record {
      sums = grind (arith, common_steps, told);
      before = grind (arith, common_steps, told);
      row = grind (arith, common_steps, told);
    }
