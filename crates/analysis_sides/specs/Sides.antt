-- The waiting sides of all tasks in one table. No rule of document 01 stands here, only where a side stands; crates above lend the table.
use Rattle.std.specs.Prelude.{ℕ, ◌<◌, List, ◌≡◌, length, get_or}
use Rattle.sizes.specs.Sizes.{most_tasks}
use Rattle.plan_reading.specs.Plan.{Plan}
use Rattle.analysis_equations.specs.Blocking.{waiting_side}

-- the table of waiting sides
pub record SideTable (p : Plan) (t : List ℕ) : Type 0 where
  pub long : length t ≡ most_tasks
  pub side : (i : ℕ) → i < most_tasks → get_or t i 0 ≡ waiting_side p i
