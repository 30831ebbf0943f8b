-- Each task has the waits of its sections below `s`.
use Rattle.std.proofs.Common.{ℕ, ◌<◌, ◌≡◌, ◌≤◌, ◌*◌, cond, get_or}
use Rattle.folds.specs.Below.{sum_below}
use Rattle.sizes.specs.Sizes.{most_tasks}
use Rattle.plan_reading.specs.Plan.{plan_of}
use Rattle.analysis_equations.specs.Sharing.{global_by}
use Rattle.analysis_equations.specs.Blocking.{section_wait}
use Rattle.analysis_equations.specs.Bounds.{most_section_wait}
use Rattle.analysis_sides.proofs.fill_sides.Given as goal

abbrev pub invariant-loop-s : goal.invariant-loop-s
invariant-loop-s l =
    (i : ℕ) → i < most_tasks
    → (get_or l.sides i 0
    ≡ sum_below l.s (λ s. cond (global_by (plan_of l.file) i s) (section_wait (plan_of l.file) i ((plan_of l.file).section s).resource) 0))
    × (get_or l.sides i 0 ≤ l.s * most_section_wait)
