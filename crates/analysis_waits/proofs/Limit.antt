-- What the limit with all fellows ahead is made of, and how great that is.
use Rattle.std.proofs.Common.{ℕ, ◌*◌, ◌≤◌, arith}
use Rattle.folds.proofs.Ground.{mul-le-mul}
use Rattle.folds.specs.Below.{count_below}
use Rattle.folds.proofs.Figures.{count_bound}
use Rattle.plan_reading.specs.Plan.{Plan, Valid}
use Rattle.plan_reading.proofs.Laws.{valid_plan}
use Rattle.analysis_equations.specs.HoldTimes.{fellow}
use Rattle.analysis_equations.specs.Bounds.{most_wait}
use Rattle.analysis_equations.proofs.Laws.{fellow_high, wait_high}
use Rattle.machine_rules.proofs.Longest.{fellows_count, longest_figures}
use Rattle.analysis_totals.proofs.Laws.{users}

-- a task has at most 64 fellows
pub fellows_few : (p : Plan) (v : Valid p) (i q : ℕ) → count_below p.tasks (fellow p i q) ≤ 64
fellows_few p v i q = omega (arith, count_bound p.tasks (fellow p i q), v.tasks)

-- so many wait times, one more than there are fellows at most, fit 32 bits
pub turns_fit : (n w : ℕ) → n ≤ 65 → w ≤ most_wait → n * w ≤ 65 * most_wait
turns_fit n w a b = mul-le-mul a b

-- what the limit rests on
pub ruleset limit = (users, valid_plan, fellows_few, turns_fit, fellow_high, wait_high, fellows_count, longest_figures)
