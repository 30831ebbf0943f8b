-- All hold times and budgets of a plan, in one table: the hold times first, the budgets behind. None of this is a rule of document 01:
-- it says where a figure stands.
use Rattle.std.specs.Prelude.{ℕ, ◌+◌, ◌*◌, ◌<◌, List, ◌≡◌, length, get_or}
use Rattle.sizes.specs.Sizes.{most_processors, most_tasks, most_resources}
use Rattle.plan_reading.specs.Plan.{Plan, plan_of, Checked}
use Rattle.analysis_equations.specs.HoldTimes.{hold_at, budget}

-- how many figures there are
abbrev pub figure_count : ℕ
figure_count = most_tasks * most_resources + most_processors * most_resources

-- where the hold time of resource q by task j stands: those of one task stand side by side
abbrev pub hold_cell : ℕ → ℕ → ℕ
hold_cell j q = j * most_resources + q

-- where the budget of processor k on q stands
abbrev pub budget_cell : ℕ → ℕ → ℕ
budget_cell k q = most_tasks * most_resources + k * most_resources + q

-- the table
pub record Figures (p : Plan) (t : List ℕ) : Type 0 where
  pub long : length t ≡ figure_count
  pub hold : (j q : ℕ) → j < most_tasks → q < most_resources → get_or t (hold_cell j q) 0 ≡ hold_at p j q
  pub budget : (k q : ℕ) → k < most_processors → q < most_resources → get_or t (budget_cell k q) 0 ≡ budget p k q

-- a file that passed every check, and the table of its plan
pub record Known (f t : List ℕ) : Type 0 where
  pub plan : Checked f
  pub figures : Figures (plan_of f) t

-- a place that is there, in a table as long as that: the row of one of n tasks or processors, and a resource
pub record Place (t : List ℕ) (n i q : ℕ) : Type 0 where
  pub long : length t ≡ figure_count
  pub row : i < n
  pub resource : q < most_resources
