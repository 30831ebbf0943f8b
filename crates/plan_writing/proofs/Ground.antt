-- The names that the proofs of this crate share, by one module: a definition that moves is named anew here alone.
pub use Rattle.folds.proofs.Ground.{List, ◌&&◌, ◌++◌, ◌+◌, ◌-◌, ◌<◌, ◌∙◌, ◌≡◌, ◌≤◌, ap, append_assoc, ap₂, arith, drop, drop_at, eq-eqb}
pub use Rattle.folds.proofs.Ground.{get_or, le-leb, leb, length, length-append, length-drop, rules, refl, sym, take, true, ℕ}
pub use Rattle.folds.proofs.Tests.{all_same, code_zero}
unfoldable pub use Rattle.folds.specs.Bytes.{bytes_below, row_at, row_bytes}
pub use Rattle.folds.proofs.Figures.{sum_same}
pub use Rattle.folds.proofs.RowLaws.{Bytes}
unfoldable pub use Rattle.folds.proofs.RowLaws.{solid}
pub use Rattle.plan_rules.specs.declared.Counts.{Counts}
pub use Rattle.plan_rules.specs.declared.Rows.{Rows}
pub use Rattle.plan_layout.specs.Layout.{laid, names_at, names_of, resource_numbers, resources_at, rows_of, section_numbers, sections_at, tasks_at}
pub use Rattle.plan_layout.specs.Layout.{values_tests}
unfoldable pub use Rattle.plan_layout.specs.Layout.{counts_of, length_at, length_rows, parts_code, resource_spare, section_at, section_rows}
unfoldable pub use Rattle.plan_layout.specs.Layout.{start_at, task_at, task_rows, task_spare, values_code}
pub use Rattle.plan.specs.declared.Reading.{Reading}
unfoldable pub use Rattle.plan.specs.Acceptance.{refusal}
pub use Rattle.plan.proofs.Laws.{none_failed}
pub use Rattle.sizes.specs.Sizes.{most_resources}
pub use Rattle.plan_rules.specs.Rules.{counts_ok, length_of, section_of, start_of, task_of}
unfoldable pub use Rattle.plan_rules.specs.Rules.{names_ok, sums_ok, tags_ok, unique_ok}
pub use Rattle.plan_rules.specs.declared.TaskRow.{TaskRow}
pub use Rattle.plan_rules.proofs.Laws.{InRange, counts_facts, tags_kept}
pub use Rattle.plan_layout.specs.Editions.{Edition, edition1, format_of, known}
pub use Rattle.plan_layout.proofs.Editions.{faithful}
pub use Rattle.plan_layout.proofs.Laws.{length_read, section_read, task_read}
pub use Rattle.plan_reading.proofs.Laws.{whole_facts}
pub use Rattle.plan_bytes.specs.Encode.{file_length}
unfoldable pub use Rattle.plan_bytes.specs.Encode.{file_of, header_bytes, resource_bytes, section_bytes, task_bytes}
pub use Rattle.plan_bytes.proofs.Put.{header_length_lem}
unfoldable pub use Rattle.plan_writing.specs.RoundTrip.{trimmed}
