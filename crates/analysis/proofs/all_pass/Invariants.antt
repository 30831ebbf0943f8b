-- Each task below `i` passes.
use Rattle.std.proofs.Common.{◌≡◌, ◌||◌, not, true}
use Rattle.folds.specs.Below.{all_below}
use Rattle.plan_reading.specs.Plan.{plan_of}
use Rattle.analysis_equations.specs.Requirement.{asks, met}
use Rattle.analysis.proofs.all_pass.Given as goal

abbrev pub invariant-loop-i : goal.invariant-loop-i
invariant-loop-i l = all_below l.i (λ k. not (asks (plan_of l.file) k) || met (plan_of l.file) k) ≡ true
