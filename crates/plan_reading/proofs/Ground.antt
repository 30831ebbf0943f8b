-- The names that the proofs of this crate share, by one module: a definition that moves is named anew here alone.
pub use Rattle.folds.proofs.Ground.{◌+◌, ◌≡◌, ◌≤◌, ap, arith, length, length-drop, sym, ℕ}
pub use Rattle.plan_rules.specs.Rules.{counts_ok}
pub use Rattle.plan_rules.specs.declared.Counts.{Counts}
pub use Rattle.plan_layout.specs.Editions.{header_length, known}
pub use Rattle.plan_layout.specs.Layout.{lengths_of, names_at, resources_at, sections_at, sections_of, task_rows_of}
unfoldable pub use Rattle.plan_layout.specs.Layout.{counts_of, offsets_ok}
unfoldable pub use Rattle.plan_reading.specs.Plan.{plan_of}
unfoldable pub use Rattle.plan_reading.specs.Checks.{counts_code, header_code}
