-- What questions about a plan give, as one number: the refusal in the low byte, a figure above it.
use Rattle.std.specs.Prelude.{ℕ, ◌*◌, ◌%◌, cond, List, eqb, get_or}
use Rattle.sizes.specs.Sizes.{most_tasks, most_resources}
use Rattle.plan.specs.Acceptance.{refusal}
use Rattle.plan_reading.specs.Plan.{plan_of}
use Rattle.analysis_equations.specs.Requirement.{admitted}
use Rattle.analysis.specs.Answers.{hold_times}

-- one entry of the table of all hold times; of a refused plan the refusal alone
unfoldable pub hold_number : List ℕ → ℕ → ℕ
hold_number f x =
    cond (eqb (refusal f) 0) (256 * get_or (hold_times (plan_of f)) (x % (most_tasks * most_resources)) 0) (refusal f)

-- 256 for a plan that is admitted, 0 for one that is not
unfoldable pub admission_number : List ℕ → ℕ
admission_number f = cond (eqb (refusal f) 0) (256 * cond (admitted (plan_of f)) 1 0) (refusal f)
