-- The names that the proofs of this crate share, by one module: a definition that moves is named anew here alone.
pub use Rattle.folds.proofs.Ground.{Bool, List, ◌&&◌, ◌*◌, ◌+◌, ◌<◌, ◌∙◌, ◌≡◌, ◌≤◌, ap, arith, cond, eqb}
pub use Rattle.folds.proofs.Ground.{false, get_or}
pub use Rattle.folds.proofs.Ground.{ltb, min, mul-le-mul}
pub use Rattle.folds.proofs.Ground.{true, ℕ}
unfoldable pub use Rattle.folds.specs.Below.{sum_below}
pub use Rattle.folds.proofs.Figures.{sum_step}
pub use Rattle.sizes.specs.Sizes.{most_section_ticks, most_sections, most_tasks}
pub use Rattle.plan_reading.specs.Plan.{Plan, Valid}
unfoldable pub use Rattle.plan_reading.specs.Plan.{plan_of}
pub use Rattle.plan_reading.proofs.Laws.{valid_plan}
pub use Rattle.analysis_equations.specs.Sharing.{lower, priority_of, processor_of}
pub use Rattle.analysis_equations.specs.Blocking.{ceil_div}
unfoldable pub use Rattle.analysis_equations.specs.Blocking.{blocking1, global_count, longest_global, waiting_side}
unfoldable pub use Rattle.analysis_equations.specs.Requirement.{met, slack}
pub use Rattle.analysis_equations.specs.Bounds.{most_blocking1}
pub use lib.IntN.{pos, ℤ}
pub use Rattle.analysis_terms.specs.Terms.{TaskTerms, TermTable, count_cell, longest_cell, precedence_cell}
pub use Rattle.analysis_requirements.specs.Inner.{under}
