-- The rows below `i` stand at the front of the buffer, what lies behind is as it was, and `start` is the sum of their lengths.
use Rattle.std.proofs.Common.{◌≡◌, ◌≤◌, ◌*◌}
use Rattle.folds.specs.Below.{sum_below}
use Rattle.folds.proofs.Fronts.{Rowed}
use Rattle.plan_rules.specs.Rules.{length_of}
use Rattle.plan_layout.specs.Editions.{edition1}
use Rattle.plan_layout.specs.Inner.{resource_width}
use Rattle.plan_bytes.specs.Encode.{resource_bytes}
use Rattle.plan_bytes.proofs.put_resources.Given as goal

abbrev pub invariant-loop-i : goal.invariant-loop-i
invariant-loop-i l =
    Rowed l.fn.r resource_width (resource_bytes edition1 l.lengths) l.fn.buf l.buf l.i
    × (l.start ≡ sum_below l.i (length_of l.lengths))
    × (l.start ≤ 255 * l.i)
