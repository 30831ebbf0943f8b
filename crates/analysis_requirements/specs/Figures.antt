-- The figures of a requirement together: document 01, "The analysis".
use Rattle.std.specs.Prelude.{ℕ}
use Rattle.plan_reading.specs.Plan.{Plan}
use Rattle.analysis_equations.specs.Blocking.{blocking1, blocking2, waiting_side}
use Rattle.analysis_equations.specs.Requirement.{tolerance, slack, met}
use Rattle.analysis_requirements.specs.declared.Requirement.{Requirement}

-- "The requirement's answer is B1, B2, tolerance, slack, waiting side and whether it is met."
unfoldable pub requirement_of : Plan → ℕ → Requirement
requirement_of p i =
    record {
      blocking1 = blocking1 p i;
      blocking2 = blocking2 p i;
      tolerance = tolerance p i;
      slack = slack p i;
      side = waiting_side p i;
      met = met p i;
    }
