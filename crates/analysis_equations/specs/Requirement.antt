-- The requirement of a task and the admission of a plan: Equations 12 and 14, document 01, "The analysis".
use Rattle.std.specs.Prelude.{ℕ, ◌+◌, ◌*◌, ◌-◌, Bool, cond, ◌||◌, not, ltb, ℤ, pos, ◌-ℤ◌}
use Rattle.std.specs.Int.Signed.{le_z}
use Rattle.folds.specs.Below.{sum_below, all_below}
use Rattle.folds.specs.Signed.{greatest_to}
use Rattle.plan_reading.specs.Plan.{Plan}
use Rattle.analysis_equations.specs.Sharing.{higher}
use Rattle.analysis_equations.specs.Blocking.{ceil_div, global_count, blocking1, blocking2, waiting_side}

module _ (p : Plan) where
  -- within Equation 12: "the sum over higher-priority j of k of ceil(t / T of j) × C of j"
  unfoldable pub demand : ℕ → ℕ → ℕ
  demand i t = sum_below p.tasks (λ j. cond (higher p i j) (ceil_div t (p.task j).period * (p.task j).execution) 0)

  -- "t − C −" that sum
  unfoldable pub left : ℕ → ℕ → ℤ
  left i t = pos t -ℤ pos ((p.task i).execution + demand i t)

  -- Equation 12: the tolerance, "the greatest, over whole t from 1 to T"
  unfoldable pub tolerance : ℕ → ℤ
  tolerance i = greatest_to ((p.task i).period - 1) (λ t. left i (t + 1))

  -- "The slack is the tolerance less B1 and B2; it may be negative."
  unfoldable pub slack : ℕ → ℤ
  slack i = tolerance i -ℤ pos (blocking1 p i + blocking2 p i)

  -- Equation 14: "The requirement is met when the waiting side is at most the slack"
  unfoldable pub met : ℕ → Bool
  met i = le_z (pos (waiting_side p i)) (slack i)

  -- task i has a global section, and so a requirement (the paper's Definition 3)
  unfoldable pub asks : ℕ → Bool
  asks i = ltb 0 (global_count p i)

  -- "The plan is admitted when every task with a global section has its requirement met."
  unfoldable pub admitted : Bool
  admitted = all_below p.tasks (λ i. not (asks i) || met i)
