-- `sum` is that of the processors passed, each of at most 16 bits.
use Rattle.std.proofs.Common.{◌≡◌, ◌≤◌, ◌*◌, cond, eqb}
use Rattle.folds.specs.Below.{sum_below}
use Rattle.plan_reading.specs.Plan.{plan_of}
use Rattle.analysis_equations.specs.HoldTimes.{budget}
use Rattle.analysis_equations.specs.Bounds.{most_budget}
use Rattle.analysis_figures.proofs.wait_in.Given as goal

abbrev pub invariant-loop-l : goal.invariant-loop-l
invariant-loop-l l =
    (l.sum ≡ sum_below l.l (λ j. cond (eqb j l.k) 0 (budget (plan_of l.file) j l.q)))
    × (l.sum ≤ l.l * most_budget)
