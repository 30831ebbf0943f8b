-- Periods that are counted as t rises, in the place of a division for each t. No rule of document 01 stands here.
use Rattle.std.specs.Prelude.{ℕ, ◌+◌, ◌*◌, ◌≤◌, ◌<◌, cond, List, ◌≡◌, eqb, length, get_or}
use Rattle.sizes.specs.Sizes.{most_tasks}
use Rattle.folds.specs.Below.{sum_below}
use Rattle.folds.specs.Each.{each_below}
use Rattle.analysis_equations.specs.Blocking.{ceil_div}
use Rattle.analysis_equations.specs.Bounds.{most_period}
use Rattle.analysis_tolerance.specs.Inner.{Timed}

-- what is counted at t of a task with period v: where the last of its ceil(t / v) periods ends, the first multiple of v that is not below t
abbrev pub end_of : ℕ → ℕ → ℕ
end_of v t = ceil_div t v * v

-- the ends of m tasks, counted at t
pub record Counted (periods times : List ℕ) (m t : ℕ) (ends : List ℕ) : Type 0 where
  pub tasks : Timed periods times m
  pub time : t ≤ most_period
  pub long : length ends ≡ most_tasks
  pub end : (k : ℕ) → k < m → get_or ends k 0 ≡ end_of (get_or periods k 0) t

-- what the periods that begin at t add to the demand: the time of each task whose last period ends there
unfoldable pub added_at : List ℕ → List ℕ → ℕ → ℕ → ℕ
added_at times ends m t = sum_below m (λ k. cond (eqb (get_or ends k 0) t) (get_or times k 0) 0)

-- where the periods of these tasks end then: one period later
unfoldable pub ends_after : List ℕ → List ℕ → ℕ → ℕ → List ℕ
ends_after periods ends m t = each_below 0 (λ k end. end + cond (eqb end t) (get_or periods k 0) 0) m ends

-- the ends before and after, and what was added
pub record Passed (periods times : List ℕ) (m t : ℕ) (ends later : List ℕ) (added : ℕ) : Type 0 where
  pub moved : later ≡ ends_after periods ends m t
  pub told : added ≡ added_at times ends m t
  pub high : added ≤ most_tasks * most_period
