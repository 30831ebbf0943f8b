-- What the private function of this crate relies on and gives. None of this is a rule of document 01.
use Rattle.std.specs.Prelude.{ℕ, ◌≤◌, ◌<◌, true, cond, List, ◌≡◌}
use Rattle.plan_reading.specs.Plan.{Plan, plan_of}
use Rattle.analysis_equations.specs.Sharing.{uses, global}
use Rattle.analysis_equations.specs.Blocking.{section_wait}
use Rattle.analysis_equations.specs.Bounds.{most_section_wait}
use Rattle.analysis_totals.specs.Totals.{Added}

-- a section of task i on q, with the tables of figures and totals
pub record SectionOf (f figures totals : List ℕ) (i q : ℕ) : Type 0 where
  pub added : Added f figures totals
  pub task : i < (plan_of f).tasks
  pub resource : q < (plan_of f).resources
  pub used : uses (plan_of f) i q ≡ true

-- what a section of task i on q waits, 0 where q is local
abbrev pub wait_at : Plan → ℕ → ℕ → ℕ
wait_at p i q = cond (global p q) (section_wait p i q) 0

-- x is that, and in its range
pub record WaitTold (p : Plan) (i q x : ℕ) : Type 0 where
  pub told : x ≡ wait_at p i q
  pub high : x ≤ most_section_wait
