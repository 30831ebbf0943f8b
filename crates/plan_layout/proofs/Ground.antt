-- The names that the proofs of this crate share, by one module: a definition that moves is named anew here alone.
pub use Rattle.folds.proofs.Ground.{Bool, List, ◌%◌, ◌&&◌, ◌*◌, ◌+◌, ◌<◌, ◌∙◌, ◌≡◌, ◌≤◌, ap, ap₂, arith, cond, eqb, false, get_or}
pub use Rattle.folds.proofs.Ground.{length, refl, replicate, sym, true, ℕ}
unfoldable pub use Rattle.folds.specs.Bytes.{fields, number, row_at}
pub use Rattle.folds.proofs.RowLaws.{Bytes}
unfoldable pub use Rattle.folds.specs.Below.{all_below, sum_below}
pub use Rattle.folds.proofs.Tests.{all_at, all_same}
pub use Rattle.folds.proofs.Figures.{sum_same}
unfoldable pub use Rattle.folds.proofs.Arrays.{gathered_below, marked_below}
pub use Rattle.plan_rules.specs.declared.TaskRow.{TaskRow}
pub use Rattle.sizes.specs.Sizes.{most_sections, most_tasks}
pub use Rattle.plan_rules.specs.Rules.{no_section, no_task, section_ok, task_of}
pub use Rattle.refusals.specs.Numbers.{repeated, sections_above, wrong_task}
pub use Rattle.plan_layout.specs.Editions.{Edition, edition1, format_of}
unfoldable pub use Rattle.plan_layout.specs.Layout.{length_at, length_rows, length_rows_ok, section_at, section_rows, section_rows_ok, task_at}
unfoldable pub use Rattle.plan_layout.specs.Layout.{task_rows, task_rows_ok}
unfoldable pub use Rattle.plan_layout.specs.Inner.{section_code, sums_fit, task_code}
