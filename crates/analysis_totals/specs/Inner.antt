-- What the private functions of this crate rely on and give. None of this is a rule of document 01.
use Rattle.std.specs.Prelude.{ℕ, ◌+◌, ◌<◌, ◌≤◌, cond, not, ◌&&◌, List, ◌≡◌, eqb, ltb, length, get_or}
use Rattle.sizes.specs.Sizes.{most_processors, most_tasks, most_resources}
use Rattle.plan_reading.specs.Plan.{Plan, plan_of}
use Rattle.analysis_equations.specs.HoldTimes.{wait_time}
use Rattle.analysis_equations.specs.Bounds.{most_fellow_holds}
use Rattle.analysis_figures.specs.Figures.{figure_count, hold_cell, Known}
use Rattle.analysis_totals.specs.Totals.{users_cell, sum_cell, wait_cell, total_count, SumsBelow}

-- task j of processor k can be added at each resource
pub record TaskAddable (figures t : List ℕ) (j k : ℕ) : Type 0 where
  pub figures_long : length figures ≡ figure_count
  pub long : length t ≡ total_count
  pub task : j < most_tasks
  pub processor : k < most_processors
  pub few : (q : ℕ) → q < most_resources → get_or t (users_cell k q) 0 ≤ most_tasks
  pub low : (q : ℕ) → q < most_resources → get_or t (sum_cell k q) 0 ≤ most_fellow_holds

-- what is made of a table, old, once task j is added to processor k at the resources below n: its row of figures, and 1 where that is not 0
pub record TaskAdded (figures : List ℕ) (j k n : ℕ) (old t : List ℕ) : Type 0 where
  pub long : length t ≡ length old
  pub users : (l q : ℕ) → l < most_processors → q < most_resources
      → get_or t (users_cell l q) 0 ≡ get_or old (users_cell l q) 0 + cond (eqb l k && ltb q n) (cond (not (eqb (get_or figures (hold_cell j q) 0) 0)) 1 0) 0
  pub holds : (l q : ℕ) → l < most_processors → q < most_resources
      → get_or t (sum_cell l q) 0 ≡ get_or old (sum_cell l q) 0 + cond (eqb l k && ltb q n) (get_or figures (hold_cell j q) 0) 0

-- users and sums of all tasks are in place, and the wait times of the processors below k; of processor k those of the resources below r
pub record WaitsBelow (p : Plan) (k r : ℕ) (t : List ℕ) : Type 0 where
  pub sums : SumsBelow p p.tasks t
  pub before : (l q : ℕ) → l < k → q < p.resources → get_or t (wait_cell l q) 0 ≡ wait_time p l q
  pub row : (q : ℕ) → q < r → get_or t (wait_cell k q) 0 ≡ wait_time p k q

-- the same of a checked file with its figures, for a processor of the plan
pub record Waiting (f figures : List ℕ) (k r : ℕ) (t : List ℕ) : Type 0 where
  pub known : Known f figures
  pub processor : k < (plan_of f).processors
  pub waits : WaitsBelow (plan_of f) k r t
