-- A task that does not pass is enough.
use Rattle.std.proofs.Common.{arith, rules}
use Rattle.folds.proofs.Tests.{all_left}
use Rattle.analysis_equations.specs.Requirement.{admitted}
use Rattle.analysis.proofs.all_pass.Goals as goal

pub returns-then-not-passes : goal.returns-then-not-passes
unfolding admitted
returns-then-not-passes c = all_left _ c.loop-i.i _ (omega arith) (search rules)
