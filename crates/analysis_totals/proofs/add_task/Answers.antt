-- The two cells that a turn writes, and no other.
use Rattle.std.proofs.Common.{arith}
use Rattle.std.proofs.lemmas.Bool.Decides.{nat_tests}
use Rattle.std.proofs.lemmas.List.{length-set, get_or-set_other}
use Rattle.std.proofs.lemmas.Grind.{get_or-set_at}
use Rattle.analysis_totals.proofs.add_task.Goals as goal

pub loop-q-preserved : goal.loop-q-preserved
loop-q-preserved c =
    record {
      long = grind (arith, length-set);
      users = grind (arith, nat_tests, length-set, get_or-set_at, get_or-set_other);
      holds = grind (arith, nat_tests, length-set, get_or-set_at, get_or-set_other);
    }
