-- Document 01, "What each operation refuses, in order": the questions about a plan that was read. 0 where none is refused.
use Rattle.std.specs.Prelude.{ℕ, cond, eqb, ltb}
use Rattle.refusals.specs.Numbers.{unknown_tag, unknown_resource, undeclared, local, nothing_global, unknown_processor}
use Rattle.folds.specs.Below.{find_below}
use Rattle.plan_reading.specs.Plan.{Plan}
use Rattle.analysis_equations.specs.Sharing.{uses, global}
use Rattle.analysis_equations.specs.Requirement.{asks}

module _ (p : Plan) where
  -- the task with this tag, N where there is none
  unfoldable pub task_number : ℕ → ℕ
  task_number tag = find_below p.tasks (λ i. eqb (p.task i).tag tag)

  -- 13, no section of the task on it; 14, local
  unfoldable pub sharing_code : ℕ → ℕ → ℕ
  sharing_code i q = cond (uses p i q) (cond (global p q) 0 local) undeclared

  -- "Hold time: 11 to 14, as for a request." 11, unknown tag; 12, resource ≥ R; then those
  unfoldable pub use_code : ℕ → ℕ → ℕ
  use_code tag q =
      cond (ltb (task_number tag) p.tasks) (cond (ltb q p.resources) (sharing_code (task_number tag) q) unknown_resource) unknown_tag

  -- "Budget and wait time: 18, processor ≥ P; then 12."
  unfoldable pub processor_code : ℕ → ℕ → ℕ
  processor_code k q = cond (ltb k p.processors) (cond (ltb q p.resources) 0 unknown_resource) unknown_processor

  -- "Requirement of a task: 11; 17, no global section."
  unfoldable pub requirement_code : ℕ → ℕ
  requirement_code tag = cond (ltb (task_number tag) p.tasks) (cond (asks p (task_number tag)) 0 nothing_global) unknown_tag
