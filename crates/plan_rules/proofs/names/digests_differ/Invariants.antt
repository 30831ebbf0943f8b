use Rattle.std.proofs.Common.{◌≡◌}
use Rattle.plan_rules.specs.Inner.{numbers_differ}
use Rattle.plan_rules.proofs.names.digests_differ.Given as goal

abbrev pub invariant-loop-i : goal.invariant-loop-i
invariant-loop-i l = l.ok ≡ numbers_differ l.i l.found
