use Rattle.std.proofs.Common.{◌≡◌}
use Rattle.plan_rules.specs.Rules.{lengths_ok}
use Rattle.plan_rules.proofs.names.lengths_ok.Given as goal

abbrev pub invariant-loop-i : goal.invariant-loop-i
invariant-loop-i l = l.ok ≡ lengths_ok l.i l.lengths
