-- The names that the proofs of this crate share, by one module: a definition that moves is named anew here alone.
pub use Rattle.folds.proofs.Ground.{Bool, List, ◌%◌, ◌&&◌, ◌*◌, ◌+◌, ◌/◌, ◌<◌, ◌≡◌, ◌≤◌, arith, cond, eqb, get_or, get_or-replicate}
pub use Rattle.folds.proofs.Ground.{length, length-replicate, max, replicate, set, ℕ}
unfoldable pub use Rattle.folds.specs.Below.{count_below, max_below}
pub use Rattle.folds.proofs.Figures.{count_bound}
pub use Rattle.sizes.specs.Sizes.{most_resources, most_sections, most_tasks}
pub use Rattle.plan_rules.specs.declared.SectionRow.{SectionRow}
pub use Rattle.plan_reading.specs.Plan.{Plan, Valid}
unfoldable pub use Rattle.plan_reading.specs.Plan.{plan_of}
pub use Rattle.plan_reading.proofs.Laws.{valid_plan}
pub use Rattle.analysis_equations.specs.Sharing.{global_by, lower, priority_of, processor_of}
unfoldable pub use Rattle.analysis_equations.specs.Blocking.{ceiling}
pub use Rattle.analysis_terms.specs.Terms.{ceiling_cell, count_cell, longest_cell, precedence_cell, precedence_of, shared_cell}
pub use Rattle.analysis_terms.specs.Terms.{term_count}
pub use Rattle.analysis_terms.specs.Inner.{TasksRaised, TermsBelow, between}
