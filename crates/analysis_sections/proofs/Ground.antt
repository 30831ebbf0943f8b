-- The names that the proofs of this crate share, by one module: a definition that moves is named anew here alone.
pub use Rattle.folds.proofs.Ground.{Bool, List, ◌&&◌, ◌+◌, ◌-◌, ◌<◌, ◌∙◌, ◌≡◌, ◌≤◌, ap, ap₂, arith, cond, eq-eqb, eqb, false, get_or, get_or-replicate}
pub use Rattle.folds.proofs.Ground.{get_or-set_other, get_or-set_same, le-ltb, length, length-replicate, length-set, lt-ltb, ltb, ltb-false, ltb-true}
pub use Rattle.folds.proofs.Ground.{max, ne_eqb, refl, replicate, set, sym, true, ℕ}
pub use Rattle.folds.proofs.Figures.{count_bound, count_step, max_same}
pub use Rattle.folds.proofs.Arrays.{by_eq, maxed_length, stamped_length}
unfoldable pub use Rattle.folds.proofs.Arrays.{maxed_below, stamped_below}
unfoldable pub use Rattle.folds.specs.Below.{any_below, count_below, max_below, sum_below}
pub use Rattle.folds.proofs.Tests.{same_test}
pub use Rattle.plan_reading.specs.Plan.{Checked, Plan, Valid}
unfoldable pub use Rattle.plan_reading.specs.Plan.{plan_of}
pub use Rattle.plan_reading.proofs.Laws.{valid_plan}
pub use Rattle.analysis_equations.specs.Sharing.{higher, priority_of, processor_of}
unfoldable pub use Rattle.analysis_equations.specs.HoldTimes.{longest_on}
pub use Rattle.plan_rules.specs.declared.TaskRow.{TaskRow}
pub use Rattle.analysis_sections.specs.Inner.{AllAbove, Orders, Raised, ResourceRow, Sits, cell, column, part}
unfoldable pub use Rattle.analysis_sections.specs.Inner.{rank_of}
