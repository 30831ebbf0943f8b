-- What the private functions of this crate rely on and give. None of this is a rule of document 01; contracts equate it with the equations.
use Rattle.std.specs.Prelude.{ℕ, ◌*◌, ◌≤◌, ◌<◌, Bool, ◌&&◌, List, ◌≡◌, ltb, length, get_or, replicate}
use Rattle.sizes.specs.Sizes.{most_tasks}
use Rattle.folds.specs.Below.{sum_below, count_below}
use Rattle.folds.specs.Packed.{packed_below}
use Rattle.plan_reading.specs.Plan.{Plan}
use Rattle.analysis_equations.specs.Sharing.{higher}
use Rattle.analysis_equations.specs.Blocking.{ceil_div}
use Rattle.analysis_equations.specs.Bounds.{most_period}

-- precedence b is higher than a, and below what the next processor's begin with
abbrev pub above : ℕ → ℕ → ℕ → Bool
above a top b = ltb a b && ltb b top

-- of the tasks below n, those above task i: how many, their periods and their execution times, from the front
pub record HigherTasks (p : Plan) (i n m : ℕ) (periods times : List ℕ) : Type 0 where
  pub count : m ≡ count_below n (higher p i)
  pub few : m ≤ n
  pub period : periods ≡ packed_below n (higher p i) (λ j. (p.task j).period) (replicate most_tasks 0)
  pub time : times ≡ packed_below n (higher p i) (λ j. (p.task j).execution) (replicate most_tasks 0)

-- the first m of these periods and execution times are a plan's
pub record Timed (periods times : List ℕ) (m : ℕ) : Type 0 where
  pub periods_long : length periods ≡ most_tasks
  pub times_long : length times ≡ most_tasks
  pub few : m ≤ most_tasks
  pub low : (k : ℕ) → k < m → 1 ≤ get_or periods k 0
  pub period : (k : ℕ) → k < m → get_or periods k 0 ≤ most_period
  pub time : (k : ℕ) → k < m → get_or times k 0 ≤ most_period

-- the task's own, beside them
pub record Scanned (periods times : List ℕ) (m execution period : ℕ) : Type 0 where
  pub above : Timed periods times m
  pub own : execution ≤ most_period
  pub low : 1 ≤ period
  pub high : period ≤ most_period

-- the demand of m tasks up to t: ceil(t / period) × time of each
unfoldable pub demand_of : List ℕ → List ℕ → ℕ → ℕ → ℕ
demand_of periods times m t = sum_below m (λ k. ceil_div t (get_or periods k 0) * get_or times k 0)
