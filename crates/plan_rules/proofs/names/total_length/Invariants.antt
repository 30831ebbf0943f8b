-- The sum is that of the lengths below `i`, each of which is a byte.
use Rattle.std.proofs.Common.{◌≡◌, ◌≤◌, ◌*◌}
use Rattle.folds.specs.Below.{sum_below}
use Rattle.plan_rules.specs.Rules.{length_of}
use Rattle.plan_rules.proofs.names.total_length.Given as goal

abbrev pub invariant-loop-i : goal.invariant-loop-i
invariant-loop-i l = (l.sum ≡ sum_below l.i (length_of l.lengths)) × (l.sum ≤ l.i * 255)
