-- The names that the proofs of this crate share, by one module: a definition that moves is named anew here alone.
pub use Rattle.folds.proofs.Ground.{Bool, List, ◌&&◌, ◌<◌, ◌∙◌, ◌≡◌, arith, eqb, false, not, refl, sym, true, ℕ}
pub use Rattle.plan_reading.specs.Plan.{Valid}
unfoldable pub use Rattle.plan_reading.specs.Plan.{plan_of}
unfoldable pub use Rattle.analysis_equations.specs.Sharing.{global, used_on}
unfoldable pub use Rattle.analysis_equations.specs.HoldTimes.{hold_at}
unfoldable pub use Rattle.analysis_equations.specs.Blocking.{global_count}
pub use Rattle.sizes.specs.Sizes.{most_processors, most_resources, most_tasks}
pub use Rattle.plan_reading.proofs.Laws.{valid_plan}
pub use Rattle.print_sheet.specs.Sheet.{requirement_at, requirement_line}
pub use Rattle.print_sheet.specs.Inner.{passes, requirement_room}
