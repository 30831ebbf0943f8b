use Rattle.std.proofs.Common.{◌≡◌}
use Rattle.plan_rules.specs.Rules.{start_of, names_differ}
use Rattle.plan_rules.proofs.names.bytes_differ.Given as goal

abbrev pub invariant-loop-i : goal.invariant-loop-i
invariant-loop-i l = (l.at ≡ start_of l.lengths l.i) × (l.ok ≡ names_differ l.i l.lengths l.names)
