-- The names that the proofs of this crate share, by one module: a definition that moves is named anew here alone.
pub use Rattle.folds.proofs.Ground.{Bool, List, ◌&&◌, ◌*◌, ◌+◌, ◌-◌, ◌<◌, ◌∙◌, ◌≡◌, ◌≤◌, ap, arith, cond, eqb, false, get_or}
pub use Rattle.folds.proofs.Ground.{length, ltb, max, ne_eqb, not-suc-le-zero, refl, replicate, suc, sym, true, zero, ℕ}
pub use Rattle.plan_reading.specs.Plan.{Plan, Valid}
unfoldable pub use Rattle.plan_reading.specs.Plan.{plan_of}
pub use Rattle.plan_reading.proofs.Laws.{valid_plan}
pub use Rattle.analysis_equations.specs.Sharing.{section_on}
unfoldable pub use Rattle.analysis_equations.specs.Sharing.{global, uses}
unfoldable pub use Rattle.analysis_equations.specs.HoldTimes.{budget, hold_at, longest_off, longest_on}
pub use Rattle.analysis_figures.specs.Figures.{figure_count}
pub use Rattle.analysis_sections.specs.Inner.{ResourceRow, Tops, cell, shared_on}
pub use Rattle.analysis_hold_times.specs.Inner.{Held, RowSet, Walk}
