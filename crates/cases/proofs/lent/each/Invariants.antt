-- No count is above the number of bytes that were changed.
use Rattle.std.proofs.Common.{◌≤◌}
use Rattle.cases.proofs.lent.each.Given as goal

abbrev pub invariant-loop-at : goal.invariant-loop-at
invariant-loop-at g l = (l.unsound ≤ l.at) × (l.otherwise ≤ l.at) × (l.accepted ≤ l.at)
