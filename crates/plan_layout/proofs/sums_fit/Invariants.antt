-- `ok` says whether the sums below `i` fit.
use Rattle.std.proofs.Common.{◌≡◌}
use Rattle.plan_layout.specs.Editions.{edition1}
use Rattle.plan_layout.specs.Inner.{sums_fit}
use Rattle.plan_layout.proofs.sums_fit.Given as goal

abbrev pub invariant-loop-i : goal.invariant-loop-i
invariant-loop-i l = l.ok ≡ sums_fit edition1 l.i l.sums l.tasks
