-- What the figures of a plan add up to for each processor and resource, in one table: how many of its tasks use the resource, their hold
-- times added up, and its wait time. None of this is a rule of document 01: it says where a figure stands.
use Rattle.std.specs.Prelude.{ℕ, ◌+◌, ◌*◌, ◌<◌, true, cond, ◌&&◌, not, List, ◌≡◌, eqb, length, get_or}
use Rattle.sizes.specs.Sizes.{most_processors, most_resources}
use Rattle.folds.specs.Below.{sum_below, count_below}
use Rattle.plan_reading.specs.Plan.{Plan, plan_of}
use Rattle.analysis_equations.specs.Sharing.{processor_of, uses, global}
use Rattle.analysis_equations.specs.HoldTimes.{hold_at, wait_time}
use Rattle.analysis_figures.specs.Figures.{Known}

-- how many of the first n tasks are of processor k and have a hold time of q
unfoldable pub users_below : Plan → ℕ → ℕ → ℕ → ℕ
users_below p n k q = count_below n (λ j. eqb (processor_of p j) k && not (eqb (hold_at p j q) 0))

-- and their hold times added up
unfoldable pub holds_below : Plan → ℕ → ℕ → ℕ → ℕ
holds_below p n k q = sum_below n (λ j. cond (eqb (processor_of p j) k) (hold_at p j q) 0)

-- one cell for each processor and resource
abbrev pub share_count : ℕ
share_count = most_processors * most_resources

-- where the number of users stands
abbrev pub users_cell : ℕ → ℕ → ℕ
users_cell k q = k * most_resources + q

-- the sum of their hold times
abbrev pub sum_cell : ℕ → ℕ → ℕ
sum_cell k q = share_count + k * most_resources + q

-- the wait time
abbrev pub wait_cell : ℕ → ℕ → ℕ
wait_cell k q = 2 * share_count + k * most_resources + q

-- how many cells there are
abbrev pub total_count : ℕ
total_count = 3 * share_count

-- users and sums, of the first n tasks
pub record SumsBelow (p : Plan) (n : ℕ) (t : List ℕ) : Type 0 where
  pub long : length t ≡ total_count
  pub users : (k q : ℕ) → k < most_processors → q < most_resources → get_or t (users_cell k q) 0 ≡ users_below p n k q
  pub holds : (k q : ℕ) → k < most_processors → q < most_resources → get_or t (sum_cell k q) 0 ≡ holds_below p n k q

-- the table: those of all tasks, and the wait times
pub record Totals (p : Plan) (t : List ℕ) : Type 0 where
  pub sums : SumsBelow p p.tasks t
  pub wait : (k q : ℕ) → k < p.processors → q < p.resources → get_or t (wait_cell k q) 0 ≡ wait_time p k q

-- a file that passed every check, the table of its figures, and this one
pub record Added (f figures t : List ℕ) : Type 0 where
  pub known : Known f figures
  pub totals : Totals (plan_of f) t

-- and a task of the plan that uses the global resource q
pub record SharingTask (f figures t : List ℕ) (i q : ℕ) : Type 0 where
  pub added : Added f figures t
  pub task : i < (plan_of f).tasks
  pub used : uses (plan_of f) i q ≡ true
  pub shared : global (plan_of f) q ≡ true

-- a processor and a resource that a table as long as that has a place for
pub record TotalPlace (t : List ℕ) (k q : ℕ) : Type 0 where
  pub long : length t ≡ total_count
  pub processor : k < most_processors
  pub resource : q < most_resources
