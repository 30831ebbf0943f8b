-- The names that the proofs of this crate share, by one module: a definition that moves is named anew here alone.
pub use Rattle.folds.proofs.Ground.{List, ◌*◌, ◌++◌, ◌+◌, ◌-◌, ◌<◌, ◌∙◌, ◌≡◌, ◌≤◌, ap, arith, drop, length, length-drop, length-take, rules}
pub use Rattle.folds.proofs.Ground.{refl, take, ℕ}
unfoldable pub use Rattle.folds.specs.Bytes.{digits, row_bytes}
pub use Rattle.folds.proofs.Fronts.{Front, Rowed, part_more, put_front, rows_all, rows_more, rows_none, rows_part}
pub use Rattle.plan_rules.specs.Rules.{length_of}
pub use Rattle.plan_rules.proofs.Laws.{counts_facts}
pub use Rattle.plan_layout.specs.Editions.{edition1}
pub use Rattle.plan_layout.specs.Layout.{tasks_at}
pub use Rattle.plan_layout.specs.Inner.{resource_width, section_width, task_width}
unfoldable pub use Rattle.plan_bytes.specs.Encode.{header_bytes, resource_bytes, section_bytes, task_bytes}
