-- `end` is where the names of the rows below `i` end, and `ok` says whether those rows keep their rule.
use Rattle.std.proofs.Common.{◌≡◌, ◌≤◌, ◌*◌}
use Rattle.folds.specs.Below.{sum_below}
use Rattle.plan_layout.specs.Editions.{edition1}
use Rattle.plan_layout.specs.Layout.{length_at, length_rows_ok}
use Rattle.plan_layout.proofs.lengths_ok.Given as goal

abbrev pub invariant-loop-i : goal.invariant-loop-i
invariant-loop-i l = (l.ok ≡ length_rows_ok edition1 l.i l.part) × (l.end ≡ sum_below l.i (length_at edition1 l.part)) × (l.end ≤ l.i * 255)
