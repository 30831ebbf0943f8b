-- The names that the proofs of this crate share, by one module: a definition that moves is named anew here alone.
unfoldable pub use Rattle.folds.specs.Signed.{greatest_to}
pub use Rattle.folds.proofs.SignedLaws.{back}
pub use Rattle.folds.proofs.Ground.{List, ◌&&◌, ◌*◌, ◌+◌, ◌-◌, ◌/◌, ◌%◌, ◌<◌, ◌∙◌, ◌≡◌, ◌≤◌, ap, arith, cond, eqb}
pub use Rattle.folds.proofs.Ground.{false, get_or, get_or-replicate, length-replicate, ltb}
pub use Rattle.folds.proofs.Ground.{refl, replicate, set, suc, suc-mul, sym, true, zero, ℕ}
unfoldable pub use Rattle.folds.specs.Below.{sum_below}
pub use Rattle.folds.proofs.Figures.{sum_bound, sum_step}
pub use Rattle.analysis_equations.proofs.Laws.{ceil_bound}
pub use Rattle.sizes.specs.Sizes.{most_tasks}
pub use Rattle.plan_rules.specs.declared.TaskRow.{TaskRow}
pub use Rattle.plan_reading.specs.Plan.{Plan, Valid}
unfoldable pub use Rattle.plan_reading.specs.Plan.{plan_of}
pub use Rattle.plan_reading.proofs.Laws.{valid_plan}
pub use Rattle.analysis_equations.specs.Sharing.{higher, priority_of, processor_of}
pub use Rattle.analysis_equations.specs.Blocking.{ceil_div}
unfoldable pub use Rattle.analysis_equations.specs.Requirement.{demand, left, tolerance}
pub use Rattle.analysis_equations.specs.Bounds.{most_period}
pub use lib.IntN.{◌-ℤ◌, pos, ℤ}
pub use Rattle.analysis_terms.specs.Terms.{TermTable, precedence_cell}
pub use Rattle.analysis_tolerance.specs.Inner.{HigherTasks, Scanned, Timed, above}
unfoldable pub use Rattle.analysis_tolerance.specs.Inner.{demand_of}
pub use Rattle.analysis_tolerance.specs.Periods.{Counted, Passed, end_of}
unfoldable pub use Rattle.analysis_tolerance.specs.Periods.{added_at, ends_after}
