-- No task passed has a hold time of the resource.
use Rattle.std.proofs.Common.{◌≡◌, ℕ, ◌<◌}
use Rattle.plan_reading.specs.Plan.{plan_of}
use Rattle.analysis_equations.specs.HoldTimes.{hold_at}
use Rattle.analysis_figures.proofs.is_global.Given as goal

abbrev pub invariant-loop-i : goal.invariant-loop-i
invariant-loop-i l = (k : ℕ) → k < l.i → hold_at (plan_of l.file) k l.q ≡ 0
