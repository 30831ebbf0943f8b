-- What the private functions rely on. None of this is a rule of document 01.
use Rattle.std.specs.Prelude.{ℕ, ◌<◌, List, ◌≡◌}
use Rattle.plan_reading.specs.Plan.{plan_of, Checked}
use Rattle.analysis_equations.specs.HoldTimes.{hold_at}

-- task i of the plan has no hold time of q
pub record Unheld (f : List ℕ) (i q : ℕ) : Type 0 where
  pub plan : Checked f
  pub task : i < (plan_of f).tasks
  pub zero : hold_at (plan_of f) i q ≡ 0
